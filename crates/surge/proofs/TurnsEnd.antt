-- The turns come to their end: each reads a byte or the text's end, or moves the cursor on, or empties the output. So their number is bounded by
-- the bytes that were read. Assumes nothing.
use mathlib.Core.Path.{◌≡◌, refl, sym, ap, subst, ◌∙◌}
use mathlib.Core.Bool.{Bool, true, false, cond}
use mathlib.Core.List.{List, [], ◌∷◌}
use native.Mathlib.Omega.{arith}
use Prim.Native.Nat.{ℕ, suc, ◌+◌, ◌-◌, ◌*◌, ◌<◌, ◌≤◌}
use lib.Dec.{eqb, leb, ltb}
use lib.ListN.{length, take, length-append, length-drop}
use lib.Seq.{length-take-le}
use lib.IntN.{ℤ}
use borrow.Author.Tests.{eqb-true, eqb-false, eq-eqb, lt-ltb}
use Rattle.records.specs.Shapes.{Traverse, count}
use Rattle.reader.specs.Storm.{record_size, longest_record}
use Rattle.files.specs.Chain.{Chain}
use Rattle.files.specs.Filled.{read_behind}
use Rattle.files.proofs.Asks.{holds_not}
use Rattle.files.proofs.Walked.{never}
use Rattle.hydrograph.specs.declared.Run.{Run}
use Rattle.hydrograph.specs.declared.Turn.TheVariants as turn
use Rattle.hydrograph.specs.Turns.{Said, more, reads, says, ends, quiet, Heard, turn_heard, line_room, LeftTurn, printed, turn_left}
use Rattle.hydrograph.proofs.RecordRead.{turn-seen}
use Rattle.hydrograph.proofs.Tells.{Advances, turn-advances}
use Rattle.surge.specs.declared.Standing.{Standing}
use Rattle.surge.specs.Standing.{Memory, memory, turn_on, standing_with, Waits, ReadBy, Moves, Moved}
use Rattle.surge.specs.Printed.{Reached, read_by, text_read, begun_at}
use Rattle.surge.specs.Listing.{Fresh, TurnsEnd, MarchEnds}
use Rattle.surge.proofs.Turns.{told_at}

-- ---- what turns may be spent

flag : Bool → ℕ
flag true = 1
flag false = 0

flag-most : (b : Bool) → flag b ≤ 1
unfolding flag
flag-most true = omega arith
flag-most false = omega arith

-- four for each byte that was read, two for the text's end, two for the names line, and one where nothing waits
abbrev allowed : ℕ → Standing → ℕ
allowed n x = 4 * n + 2 * flag x.window.last + 2 * flag (ltb 0 x.run.cursor.line) + flag (eqb x.used 0)

-- how many bytes of the window are still to be looked at
abbrev ahead : Standing → ℕ
ahead x = x.window.have - x.run.cursor.at

-- e turns are within what is allowed, two less for each byte ahead
abbrev Within : ℕ → ℕ → Standing → Type 0
Within e n x = e + 2 * ahead x ≤ allowed n x

-- a turn from x to y that reads g bytes
abbrev Spends : Standing → ℕ → Standing → Type 0
Spends x g y = (e n : ℕ) → Within e n x → Within (suc e) (n + g) y

-- ---- one turn that is not the last

module _ (x : Standing) (place : x.run.cursor.at ≤ x.window.have) (start : x.run.cursor.line ≡ 0 → x.run.cursor.at ≡ 0) where
  -- a line was put, or the names line was read
  spends-line : (y : Standing) → y.window.have ≡ x.window.have → y.window.last ≡ x.window.last → (0 < x.run.cursor.line) × (x.run.cursor.at < y.run.cursor.at) → 0 < y.run.cursor.line → y.run.cursor.at ≤ x.window.have → Spends x 0 y
  unfolding flag
  spends-line y h l m g k e n w =
      let a : flag (ltb 0 x.run.cursor.line) ≡ 1 = ap flag (lt-ltb 0 x.run.cursor.line m.0) in
      let b : flag (ltb 0 y.run.cursor.line) ≡ 1 = ap flag (lt-ltb 0 y.run.cursor.line g) in
      let d : flag y.window.last ≡ flag x.window.last = ap flag l in
      omega (arith, flag-most (eqb x.used 0))

  spends-names : (y : Standing) → y.window.have ≡ x.window.have → y.window.last ≡ x.window.last → y.used ≡ x.used → x.run.cursor.line ≡ 0 → 0 < y.run.cursor.line → Spends x 0 y
  unfolding flag
  spends-names y h l u z g e n w =
      let a : flag (ltb 0 x.run.cursor.line) ≡ 0 = ap (λ (k : ℕ). flag (ltb 0 k)) z in
      let b : flag (ltb 0 y.run.cursor.line) ≡ 1 = ap flag (lt-ltb 0 y.run.cursor.line g) in
      let d : flag y.window.last ≡ flag x.window.last = ap flag l in
      let f : flag (eqb y.used 0) ≡ flag (eqb x.used 0) = ap (λ (k : ℕ). flag (eqb k 0)) u in
      omega (arith, start z)

  -- what waited was written
  spends-full : 0 < x.used → Spends x 0 (standing_with x x.run 0)
  unfolding flag
  spends-full u e n w =
      let a : flag (eqb x.used 0) ≡ 0 = by (eqb x.used 0) refl in
      let b : flag (eqb 0 0) ≡ 1 = ap flag (eq-eqb 0 0 refl) in
      omega arith
    where
      by : (b : Bool) → eqb x.used 0 ≡ b → flag b ≡ 0
      by true q = absurd (omega (arith, eqb-true x.used 0 q))
      by false q = refl

  -- more was read: a byte, or the text's end
  spends-more : (y : Standing) → x.window.last ≡ false → y.run.cursor.at ≡ 0 → y.run.cursor.line ≡ x.run.cursor.line → y.used ≡ x.used → ahead x ≤ y.window.have → y.window.last ≡ eqb y.window.have (ahead x)
      → Spends x (y.window.have - ahead x) y
  unfolding flag
  spends-more y un p l u least ended e n w =
      let a : flag x.window.last ≡ 0 = ap flag un in
      let b : flag (ltb 0 y.run.cursor.line) ≡ flag (ltb 0 x.run.cursor.line) = ap (λ (k : ℕ). flag (ltb 0 k)) l in
      let d : flag (eqb y.used 0) ≡ flag (eqb x.used 0) = ap (λ (k : ℕ). flag (eqb k 0)) u in
      let f : flag y.window.last ≡ flag (eqb y.window.have (ahead x)) = ap flag ended in
      omega (arith, some (eqb y.window.have (ahead x)) refl)
    where
      some : (b : Bool) → eqb y.window.have (ahead x) ≡ b → 1 ≤ (y.window.have - ahead x) + flag (eqb y.window.have (ahead x))
      some true q = rw q (omega arith)
      some false q = let g = eqb-false y.window.have (ahead x) q in omega arith

-- ---- by the turn's answer

module _ (t : Traverse) (w b : Memory) (place : w.standing.run.cursor.at ≤ w.standing.window.have) (held : w.standing.window.have ≤ length w.window) (start : w.standing.run.cursor.line ≡ 0 → w.standing.run.cursor.at ≡ 0)
    (room : record_size (count t) ≤ length w.numbers) (on : b.on ≡ true) where
  abbrev Spent : LeftTurn → Type 0
  Spent l = Spends w.standing (length (read_by l.turn l w b)) b.standing

  not_last : (k : ℕ) (l : LeftTurn) → Waits k false l w b → ⊥
  not_last k l m = never (sym on ∙ m.goes)

  -- what is said, printed
  abbrev answer : Said → List ℤ → LeftTurn
  answer z numbers = printed z w.standing.run numbers w.rows w.out w.standing.used

  by_said : (z : Said) (numbers : List ℤ) → Advances w.standing.window.have w.standing.window.last w.standing.run.cursor.at w.standing.run.cursor.line z → Moves (answer z numbers).turn (answer z numbers) w b
      → Spent (answer z numbers)
  by_said more numbers m g =
      let r = subst (λ (y : Bool). ReadBy y w.standing.run w.standing b.standing w.window b.window w.out b.out) on g in
      let h = r.0.window in
      let got = read_behind (ahead w.standing) b.standing.window.have b.window in
      let long : length got ≡ b.standing.window.have - ahead w.standing = length-drop (ahead w.standing) (take b.standing.window.have b.window) ∙ ap (λ (k : ℕ). k - ahead w.standing) (length-take-le b.standing.window.have b.window h.within) in
      subst (λ (y : Bool). Spends w.standing (length (cond y got [])) b.standing) (sym on)
      (subst (λ (k : ℕ). Spends w.standing k b.standing) (sym long)
      (spends-more w.standing place start b.standing (holds_not w.standing.window.have w.standing.window.last w.standing.run.cursor.at longest_record m).1
      (ap (λ (z : Run). z.cursor.at) r.0.same) (ap (λ (z : Run). z.cursor.line) r.0.same) r.0.waits h.least h.ended))
  by_said (reads at line) numbers m g = subst (Spends w.standing 0) (sym g.same) (spends-names w.standing place start (standing_with w.standing (answer (reads at line) numbers).run w.standing.used) refl refl refl m.0 m.1.0)
  by_said (says bytes at line st rows) numbers m g = subst (Spends w.standing 0) (sym g.same) (spends-line w.standing place start (standing_with w.standing (answer (says bytes at line st rows) numbers).run (w.standing.used + length bytes)) refl refl (m.0, m.1.1.0) m.1.0 m.1.1.1)
  by_said (ends bytes) numbers m g = absurd (not_last _ _ g)
  by_said quiet numbers m g = absurd (not_last _ _ g)

  abbrev full : LeftTurn
  full = record { turn = turn.Full; run = w.standing.run; numbers = w.numbers; rows = w.rows; out = w.out }

  spent : Moved t w b → Spent (turn_on t w)
  unfolding turn_on turn_left
  spent m = go (leb (w.standing.used + line_room) (length w.out)) m.moves
    where
      text : List ℕ
      text = take w.standing.window.have w.window

      heard : Heard
      heard = turn_heard t (take w.standing.window.have w.window) w.standing.window.last w.standing.run.cursor.at w.standing.run.cursor.line w.standing.run.state w.rows w.numbers

      moves : Advances w.standing.window.have w.standing.window.last w.standing.run.cursor.at w.standing.run.cursor.line heard.said
      moves =
          subst (λ (k : ℕ). Advances k w.standing.window.last w.standing.run.cursor.at w.standing.run.cursor.line heard.said) (length-take-le w.standing.window.have w.window held)
          (subst (Advances (length text) w.standing.window.last w.standing.run.cursor.at w.standing.run.cursor.line)
          (sym (turn-seen t text w.standing.window.last w.standing.run.cursor.at w.standing.run.cursor.line w.standing.run.state w.rows w.numbers room))
          (turn-advances text w.standing.window.last t w.standing.run.cursor.at w.standing.run.cursor.line w.standing.run.state w.rows))

      go : (r : Bool) → Moves (cond r (answer heard.said heard.numbers) full).turn (cond r (answer heard.said heard.numbers) full) w b → Spent (cond r (answer heard.said heard.numbers) full)
      go true g = by_said heard.said heard.numbers moves g
      go false g = subst (Spends w.standing 0) (sym g.1.same) (spends-full w.standing place start g.0)

-- ---- turn after turn

module _ (t : Traverse) (a : Memory) (fresh : Fresh t a) where
  within : (earlier : List Memory) (b : Memory) → Reached t a earlier b → b.on ≡ true → Within (length earlier) (length (text_read t earlier b)) b.standing
  unfolding Chain text_read
  within [] b q on = subst (λ (v : Memory). Within 0 0 v.standing) (sym q) (omega (arith, fresh.none))
  within (w ∷ earlier) b q on =
      let h = told_at t a fresh earlier w q.1 q.0.0 in
      let s = text_read t earlier w in
      let got = read_by (turn_on t w).turn (turn_on t w) w b in
      subst (λ (k : ℕ). Within (suc (length earlier)) k b.standing) (sym (length-append s got))
      (spent t w b h.place h.ending.held (λ z. omega (arith, h.start z)) h.room on q.0.1 (length earlier) (length s) (within earlier w q.1 q.0.0))

pub turns-end : TurnsEnd
turns-end t a fresh earlier b q on =
    let w = within t a fresh earlier b q on in
    omega (arith, flag-most b.standing.window.last, flag-most (ltb 0 b.standing.run.cursor.line), flag-most (eqb b.standing.used 0))

pub march-ends : MarchEnds
march-ends opened t run used window numbers rows out waits window' numbers' rows' out' fresh m small = by m.on refl
  where
    by : (on : Bool) → m.on ≡ on → m.on ≡ false
    by true e = absurd (omega (arith, turns-end t (memory (begun_at opened run used) true window numbers rows out) fresh m.earlier (memory m.standing m.on window' numbers' rows' out') m.reached e, m.ended e))
    by false e = e
