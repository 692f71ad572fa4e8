-- Every list of turns that keep the promise of `turn`: what was handed over and what waits is the storm's lines, as far as the turns went. By one law of
-- a turn (`turn-tells` of `hydrograph`), on windows that end with what was read (`Ending` of `files`). Assumes nothing.
use mathlib.Core.Path.{◌≡◌, refl, sym, ap, subst, ◌∙◌}
use mathlib.Core.Bool.{Bool, true, false, cond}
use mathlib.Core.List.{List, [], ◌∷◌, ◌++◌, append_assoc, append-nil}
use native.Mathlib.Omega.{arith}
use Prim.Native.Nat.{ℕ, ◌+◌, ◌-◌, ◌<◌, ◌≤◌}
use lib.Dec.{eqb, leb}
use lib.ListN.{length, take, drop, length-append}
use lib.Seq.{length-take-le, take_at}
use lib.IntN.{ℤ}
use Rattle.records.specs.Shapes.{Traverse, count}
use Rattle.listing.specs.Lines.{failed_line}
use Rattle.listing.specs.Put.{written}
use Rattle.reader.specs.Storm.{record_size, longest_record}
use Rattle.reader.proofs.LentLaws.{step-spares}
use Rattle.files.specs.Filled.{read_behind}
use Rattle.files.specs.TraverseFile.{Continues}
use Rattle.files.proofs.Asks.{holds_not}
use Rattle.files.proofs.Ending.{Ending, ending-none, ending-more, ending-shows}
use Rattle.march.specs.declared.State.{State}
use Rattle.hydrograph.specs.declared.Turn.TheVariants as turn
use Rattle.hydrograph.specs.Turns.{Said, more, reads, says, ends, quiet, start_turn, turn_of, lines_from, said_then, Begins, Heard, record_heard, turn_heard, line_room, LeftTurn, printed, turn_left}
use Rattle.hydrograph.proofs.RecordRead.{turn-seen}
use Rattle.hydrograph.proofs.Tells.{Advances, turn-tells, turn-advances}
use Rattle.files.specs.declared.Held.{Held}
use Rattle.surge.specs.declared.Standing.{Standing}
use Rattle.surge.specs.Standing.{front_of, standing_with, Memory, memory, turn_on, Follows, ReadBy, Waits, Moves, Moved}
use Rattle.files.specs.Chain.{Chain}
use Rattle.surge.specs.Printed.{Reached, read_by, text_read, handed_by, handed_on}
use Rattle.surge.specs.Listing.{How, whole, read-failed, cut_short, PrintedOf, ended_by, Fresh, marched_lines, TurnsTell}
use Rattle.files.proofs.Walked.{never}

-- ---- bytes and numbers of a turn

-- bytes written behind those that wait, wait with them
pub take-written : (bytes : List ℕ) (used : ℕ) (out : List ℕ) → used ≤ length out → take (used + length bytes) (written bytes used out) ≡ take used out ++ bytes
unfolding written
take-written bytes used out h =
    take_at (take used out ++ bytes) (drop (used + length bytes) out) (used + length bytes) (length-append (take used out) bytes ∙ ap (λ (k : ℕ). k + length bytes) (length-take-le used out h))

written-long : (bytes : List ℕ) (used : ℕ) (out : List ℕ) → used ≤ length out → used + length bytes ≤ length (written bytes used out)
unfolding written
written-long bytes used out h =
    let e : length (take used out ++ bytes ++ drop (used + length bytes) out) ≡ used + length bytes + length (drop (used + length bytes) out) = simp (length-append, length-take-le used out h) in
    omega arith

-- a turn keeps how many numbers are lent
heard-long : (t : Traverse) (w : List ℕ) (last : Bool) (at line : ℕ) (st : State) (rows lent : List ℤ) → length (turn_heard t w last at line st rows lent).numbers ≡ length lent
unfolding turn_heard
heard-long t w last at line st rows lent = go (eqb line 0)
  where
    go : (b : Bool) → length (cond {A = Heard} b (record { said = start_turn w last; numbers = lent }) (record_heard t w last at line st rows lent)).numbers ≡ length lent
    go true = refl
    go false = (step-spares w last (count t) at line lent).size

-- ---- how it stands

-- after the text s was read and the bytes f were handed over, from the memory a on: with what waits these are the lines but for those still to come
pub record Told (t : Traverse) (a b : Memory) (s f : List ℕ) : Type 0 where
  pub from : ℕ
  pub ending : Ending s b.window from b.standing.window.have
  pub place : b.standing.run.cursor.at ≤ b.standing.window.have
  pub waits : b.standing.used ≤ length b.out
  pub room : record_size (count t) ≤ length b.numbers
  pub start : b.standing.run.cursor.line ≡ 0 → from + b.standing.run.cursor.at ≡ 0
  pub tells : (e : List ℕ) → Continues b.standing.window.last e → marched_lines t a (s ++ e)
      ≡ (f ++ take b.standing.used b.out) ++ lines_from (s ++ e) t (from + b.standing.run.cursor.at) b.standing.run.cursor.line b.standing.run.state b.rows

-- at the end of the turns
pub record Final (t : Traverse) (a : Memory) (how : How) (last : Bool) (s f waits : List ℕ) : Type 0 where
  pub printed : (e : List ℕ) → Continues last e → PrintedOf how (f ++ waits) (marched_lines t a (s ++ e))

plain : {t : Traverse} {a b : Memory} {s f : List ℕ} → Told t a b s f → Told t a b (s ++ []) (f ++ [])
plain {t} {a} {b} {s} {f} h = subst (λ (x : List ℕ). Told t a b x (f ++ [])) (sym (append-nil s)) (subst (λ (x : List ℕ). Told t a b s x) (sym (append-nil f)) h)

plain-final : {t : Traverse} {a : Memory} {how : How} {last : Bool} {s f waits : List ℕ} → Final t a how last s f waits → Final t a how last (s ++ []) (f ++ []) waits
plain-final {t} {a} {how} {last} {s} {f} {waits} h =
    subst (λ (x : List ℕ). Final t a how last x (f ++ []) waits) (sym (append-nil s)) (subst (λ (x : List ℕ). Final t a how last s x waits) (sym (append-nil f)) h)

-- ---- what a turn comes to, by its answer l

module _ (t : Traverse) (a w : Memory) (s f : List ℕ) where
  -- it goes on, or it was the last
  abbrev WentBy : Bool → LeftTurn → Memory → Type 0
  WentBy true l b = Told t a b (s ++ read_by l.turn l w b) (f ++ handed_by l.turn w)
  WentBy false l b = Final t a (ended_by l.turn false) b.standing.window.last (s ++ read_by l.turn l w b) (f ++ handed_by l.turn w) (take b.standing.used b.out)

  abbrev Went : LeftTurn → Memory → Type 0
  Went l b = WentBy b.on l b

  -- by the memory that is left where something waits
  waited : (k : ℕ) (on : Bool) (l : LeftTurn) (b : Memory) → Waits k on l w b → b.numbers ≡ l.numbers → b.rows ≡ l.rows → Went l (memory (standing_with w.standing l.run k) on w.window l.numbers l.rows l.out) → Went l b
  waited k on l b m n r g = subst (Went l) (λ i. memory (sym m.same i) (sym m.goes i) (sym m.window i) (sym n i) (sym r i) (sym m.out i)) g

-- ---- one turn, from the memory w

module _ (t : Traverse) (a w : Memory) (s f : List ℕ) (h : Told t a w s f) where
  abbrev x : Standing
  x = w.standing

  abbrev said : Said
  said = turn_of t (take x.window.have w.window) x.window.last x.run.cursor.at x.run.cursor.line x.run.state w.rows

  -- what the turn says, and the lines still to come after it
  said-tells : (e : List ℕ) → Continues x.window.last e
      → marched_lines t a (s ++ e) ≡ (f ++ take x.used w.out) ++ said_then (s ++ e) t h.from x.run.cursor.at x.run.cursor.line x.run.state w.rows said
  said-tells e c =
      h.tells e c
      ∙ ap (λ (l : List ℕ). (f ++ take x.used w.out) ++ l)
      (sym (turn-tells (s ++ e) (take x.window.have w.window) t h.from x.window.last (ending-shows s w.window h.from x.window.have x.window.last h.ending e c) x.run.cursor.at x.run.cursor.line x.run.state w.rows
      (let n = length-take-le x.window.have w.window h.ending.held in omega (arith, h.place)) (λ z. let q = h.start z in omega arith)))

  module _ (numbers' : List ℤ) (long : length numbers' ≡ length w.numbers) where
    -- a line waits, or the names line was read
    told_line : (bytes : List ℕ) (at line : ℕ) (st : State) (rows' : List ℤ) (out' : List ℕ) → at ≤ x.window.have → 0 < line → take (x.used + length bytes) out' ≡ take x.used w.out ++ bytes → x.used + length bytes ≤ length out'
        → ((e : List ℕ) → Continues x.window.last e → marched_lines t a (s ++ e) ≡ (f ++ take x.used w.out) ++ (bytes ++ lines_from (s ++ e) t (h.from + at) line st rows'))
        → Told t a (memory (standing_with x (record { cursor = record { at = at; line = line }; state = st }) (x.used + length bytes)) true w.window numbers' rows' out') s f
    told_line bytes at line st rows' out' p l k n q =
        record {
          from = h.from;
          ending = h.ending;
          place = p;
          waits = n;
          room = omega (arith, h.room);
          start = λ z. absurd (omega arith);
          tells = λ e c. q e c
              ∙ sym (append_assoc (f ++ take x.used w.out) bytes (lines_from (s ++ e) t (h.from + at) line st rows'))
              ∙ ap (λ (m : List ℕ). m ++ lines_from (s ++ e) t (h.from + at) line st rows') (append_assoc f (take x.used w.out) bytes ∙ ap (λ (m : List ℕ). f ++ m) (sym k));
        }

    -- more was read
    told_more : (v : Held) (window' : List ℕ) → x.window.last ≡ false → Follows x.run x (record { run = front_of x.run; window = v; used = x.used }) w.window window'
        → Told t a (memory (record { run = front_of x.run; window = v; used = x.used }) true window' numbers' w.rows w.out) (s ++ read_behind (x.window.have - x.run.cursor.at) v.have window') f
    told_more v window' un g =
        record {
          from = h.from + x.run.cursor.at;
          ending = ending-more s w.window window' h.from x.run.cursor.at x.window.have v.have v.last h.ending h.place g.window;
          place = omega arith;
          waits = h.waits;
          room = omega (arith, h.room);
          start = λ z. let q = h.start z in omega arith;
          tells = λ e c. on e;
        }
      where
        got : List ℕ
        got = read_behind (x.window.have - x.run.cursor.at) v.have window'

        on : (e : List ℕ) → marched_lines t a ((s ++ got) ++ e) ≡ (f ++ take x.used w.out) ++ lines_from ((s ++ got) ++ e) t (h.from + x.run.cursor.at + 0) x.run.cursor.line x.run.state w.rows
        on e =
            let z : h.from + x.run.cursor.at ≡ h.from + x.run.cursor.at + 0 = omega arith in
            subst (λ (l : List ℕ). marched_lines t a l ≡ (f ++ take x.used w.out) ++ lines_from l t (h.from + x.run.cursor.at + 0) x.run.cursor.line x.run.state w.rows) (sym (append_assoc s got e))
            (subst (λ (k : ℕ). marched_lines t a (s ++ (got ++ e)) ≡ (f ++ take x.used w.out) ++ lines_from (s ++ (got ++ e)) t k x.run.cursor.line x.run.state w.rows) z (h.tells (got ++ e) (λ l. absurd (never (sym l ∙ un)))))

  -- ---- the last turn

  -- these are the last bytes
  final-end : (bytes out' : List ℕ) → take (x.used + length bytes) out' ≡ take x.used w.out ++ bytes → ((e : List ℕ) → Continues x.window.last e → marched_lines t a (s ++ e) ≡ (f ++ take x.used w.out) ++ bytes)
      → Final t a whole x.window.last s f (take (x.used + length bytes) out')
  final-end bytes out' k q =
      record { printed = λ e c. ap (λ (m : List ℕ). f ++ m) k ∙ sym (append_assoc f (take x.used w.out) bytes) ∙ sym (q e c) }

  -- the line `failed` behind what waited
  final-failed : Final t a read-failed x.window.last s f (take (x.used + length failed_line) (written failed_line x.used w.out))
  final-failed =
      record {
        printed = λ e c. record {
          sound = f ++ take x.used w.out;
          line = ap (λ (m : List ℕ). f ++ m) (take-written failed_line x.used w.out h.waits) ∙ sym (append_assoc f (take x.used w.out) failed_line);
          begins = record { rest = _; joined = sym (h.tells e c) };
        };
      }

  -- what waited was handed over, and the write failed
  final-cut : Final t a cut_short x.window.last s (f ++ take x.used w.out) []
  final-cut =
      record { printed = λ e c. subst (λ (m : List ℕ). Begins m (marched_lines t a (s ++ e))) (sym (append-nil (f ++ take x.used w.out))) (record { rest = _; joined = sym (h.tells e c) }) }

  -- ---- what it comes to

  abbrev heard : Heard
  heard = turn_heard t (take x.window.have w.window) x.window.last x.run.cursor.at x.run.cursor.line x.run.state w.rows w.numbers

  abbrev answer : Said → LeftTurn
  answer z = printed z x.run heard.numbers w.rows w.out x.used

  abbrev full : LeftTurn
  full = record { turn = turn.Full; run = x.run; numbers = w.numbers; rows = w.rows; out = w.out }

  long : length heard.numbers ≡ length w.numbers
  long = heard-long t (take x.window.have w.window) x.window.last x.run.cursor.at x.run.cursor.line x.run.state w.rows w.numbers

  nought : x.used + 0 ≡ x.used
  nought = omega arith

  -- with nothing said, the bytes that wait are as they were
  none_said : take (x.used + 0) w.out ≡ take x.used w.out ++ []
  none_said = ap (λ (k : ℕ). take k w.out) nought ∙ sym (append-nil (take x.used w.out))

  module _ (z : Said) (e : said ≡ z) where
    on-text : (r : List ℕ) → Continues x.window.last r
        → marched_lines t a (s ++ r) ≡ (f ++ take x.used w.out) ++ said_then (s ++ r) t h.from x.run.cursor.at x.run.cursor.line x.run.state w.rows z
    on-text r c =
        said-tells r c
        ∙ ap (λ (y : Said). (f ++ take x.used w.out) ++ said_then (s ++ r) t h.from x.run.cursor.at x.run.cursor.line x.run.state w.rows y) e

  -- more was asked for
  by-more : said ≡ more → x.window.last ≡ false → (b : Memory) → b.numbers ≡ heard.numbers → b.rows ≡ w.rows → Moves turn.More (answer more) w b
      → Went t a w s f (answer more) b
  by-more e un b n r m = go b.on refl m
    where
      go : (on : Bool) → b.on ≡ on → ReadBy on x.run x b.standing w.window b.window w.out b.out → WentBy t a w s f on (answer more) b
      go true q g =
          let y : Standing = record { run = front_of x.run; window = b.standing.window; used = x.used } in
          let p : b ≡ memory y true b.window heard.numbers w.rows w.out =
          λ i. memory (record { run = g.0.same i; window = b.standing.window; used = g.0.waits i }) (q i) b.window (n i) (r i) (g.1 i) in
          subst (λ (v : Memory). Told t a v (s ++ read_by turn.More (answer more) w v) (f ++ [])) (sym p)
          (subst (λ (v : List ℕ). Told t a (memory y true b.window heard.numbers w.rows w.out) (s ++ read_behind (x.window.have - x.run.cursor.at) b.standing.window.have b.window) v) (sym (append-nil f))
          (told_more heard.numbers long b.standing.window b.window un (record { same = refl; waits = refl; window = g.0.window })))
      go false q g =
          let p : b ≡ memory (standing_with x x.run (x.used + length failed_line)) false b.window heard.numbers w.rows (written failed_line x.used w.out) =
          λ i. memory (g.same i) (q i) b.window (n i) (r i) (g.line i) in
          subst (λ (v : Memory). Final t a read-failed v.standing.window.last (s ++ read_by turn.More (answer more) w v) (f ++ []) (take v.standing.used v.out)) (sym p)
          (plain-final final-failed)

  -- something was said, or the text has ended
  by_said : (z : Said) → said ≡ z → Advances x.window.have x.window.last x.run.cursor.at x.run.cursor.line z
      → (b : Memory) → b.numbers ≡ (answer z).numbers → b.rows ≡ (answer z).rows → Moves (answer z).turn (answer z) w b → Went t a w s f (answer z) b
  by_said more e k b n r m = by-more e (holds_not x.window.have x.window.last x.run.cursor.at longest_record k).1 b n r m
  by_said (reads at line) e k b n r m =
      waited t a w s f _ _ (answer (reads at line)) b m n r
      (plain (subst (λ (u : ℕ). Told t a (memory (standing_with x (record { cursor = record { at = at; line = line }; state = x.run.state }) u) true w.window heard.numbers w.rows w.out) s f) nought
      (told_line heard.numbers long [] at line x.run.state w.rows w.out k.1.1 k.1.0 none_said (omega (arith, h.waits)) (on-text (reads at line) e))))
  by_said (says bytes at line st rows) e k b n r m =
      waited t a w s f _ _ (answer (says bytes at line st rows)) b m n r
      (plain (told_line heard.numbers long bytes at line st rows (written bytes x.used w.out) k.1.1.1 k.1.0
      (take-written bytes x.used w.out h.waits) (written-long bytes x.used w.out h.waits) (on-text (says bytes at line st rows) e)))
  by_said (ends bytes) e k b n r m =
      waited t a w s f _ _ (answer (ends bytes)) b m n r
      (plain-final (final-end bytes (written bytes x.used w.out) (take-written bytes x.used w.out h.waits) (on-text (ends bytes) e)))
  by_said quiet e k b n r m =
      waited t a w s f _ _ (answer quiet) b m n r
      (plain-final (subst (λ (u : ℕ). Final t a whole x.window.last s f (take u w.out)) nought
      (final-end [] w.out none_said (on-text quiet e))))

  -- there was no room for a line
  by-full : (b : Memory) → b.numbers ≡ w.numbers → b.rows ≡ w.rows → Moves turn.Full full w b → Went t a w s f full b
  by-full b n r m = waited t a w s f 0 b.on full b m.1 n r (go b.on)
    where
      go : (on : Bool) → Went t a w s f full (memory (standing_with x x.run 0) on w.window w.numbers w.rows w.out)
      go true = subst (λ (v : List ℕ). Told t a (memory (standing_with x x.run 0) true w.window w.numbers w.rows w.out) v (f ++ take x.used w.out)) (sym (append-nil s))
          (record {
            from = h.from;
            ending = h.ending;
            place = h.place;
            waits = omega arith;
            room = h.room;
            start = h.start;
            tells = λ e c. h.tells e c ∙ ap (λ (v : List ℕ). v ++ lines_from (s ++ e) t (h.from + x.run.cursor.at) x.run.cursor.line x.run.state w.rows) (sym (append-nil (f ++ take x.used w.out)));
          })
      go false =
          subst (λ (v : List ℕ). Final t a cut_short x.window.last v (f ++ take x.used w.out) []) (sym (append-nil s))
          final-cut

  -- the turn's answer is one of these
  pub went : (b : Memory) → Moved t w b → Went t a w s f (turn_on t w) b
  unfolding turn_on turn_left
  went b m = go (leb (x.used + line_room) (length w.out)) m.record-left m.rows_left m.moves
    where
      size : length (take x.window.have w.window) ≡ x.window.have
      size = length-take-le x.window.have w.window h.ending.held

      is : said ≡ heard.said
      is = sym (turn-seen t (take x.window.have w.window) x.window.last x.run.cursor.at x.run.cursor.line x.run.state w.rows w.numbers h.room)

      moves : Advances x.window.have x.window.last x.run.cursor.at x.run.cursor.line heard.said
      moves =
          subst (λ (k : ℕ). Advances k x.window.last x.run.cursor.at x.run.cursor.line heard.said) size
          (subst (Advances (length (take x.window.have w.window)) x.window.last x.run.cursor.at x.run.cursor.line) is
          (turn-advances (take x.window.have w.window) x.window.last t x.run.cursor.at x.run.cursor.line x.run.state w.rows))

      go : (r : Bool) → b.numbers ≡ (cond r (answer heard.said) full).numbers → b.rows ≡ (cond r (answer heard.said) full).rows → Moves (cond r (answer heard.said) full).turn (cond r (answer heard.said) full) w b
          → Went t a w s f (cond r (answer heard.said) full) b
      go true n r g = by_said heard.said is moves b n r g
      go false n r g = by-full b n r g

-- ---- turn after turn

module _ (t : Traverse) (a : Memory) (fresh : Fresh t a) where
  told-first : Told t a a [] []
  told-first =
      record {
        from = 0;
        ending = subst (Ending [] a.window 0) (sym fresh.none) (ending-none a.window);
        place = omega (arith, fresh.place, fresh.none);
        waits = fresh.waits;
        room = fresh.room;
        start = λ z. omega (arith, fresh.place);
        tells = λ e c. ap (λ (n : ℕ). take a.standing.used a.out ++ lines_from e t (0 + a.standing.run.cursor.at) n a.standing.run.state a.rows) (sym fresh.line);
      }

  pub told_at : (earlier : List Memory) (b : Memory) → Reached t a earlier b → b.on ≡ true → Told t a b (text_read t earlier b) (handed_on t earlier)
  unfolding Chain text_read handed_on
  told_at [] b q on = subst (λ (v : Memory). Told t a v [] []) (sym q) told-first
  told_at (w ∷ earlier) b q on =
      subst (λ (k : Bool). WentBy t a w (text_read t earlier w) (handed_on t earlier) k (turn_on t w) b) on
      (went t a w (text_read t earlier w) (handed_on t earlier) (told_at earlier w q.1 q.0.0) b q.0.1)

  -- what was printed so far begins the lines
  so_far : (b : Memory) (s f : List ℕ) → Told t a b s f → (e : List ℕ) → Continues b.standing.window.last e
      → PrintedOf cut_short (f ++ take b.standing.used b.out) (marched_lines t a (s ++ e))
  so_far b s f h e c = record { rest = _; joined = sym (h.tells e c) }

pub turns-tell : TurnsTell
unfolding Chain text_read handed_on
turns-tell t a fresh [] b q e c = subst (λ (v : Memory). PrintedOf cut_short (take v.standing.used v.out) (marched_lines t a e)) (sym q) (so_far t a fresh a [] [] (told-first t a fresh) e (subst (λ (v : Memory). Continues v.standing.window.last e) q c))
turns-tell t a fresh (w ∷ earlier) b q e c =
    go b.on (went t a w (text_read t earlier w) (handed_on t earlier) (told_at t a fresh earlier w q.1 q.0.0) b q.0.1)
  where
    s : List ℕ
    s = text_read t earlier w ++ read_by (turn_on t w).turn (turn_on t w) w b

    f : List ℕ
    f = handed_on t earlier ++ handed_by (turn_on t w).turn w

    go : (on : Bool) → WentBy t a w (text_read t earlier w) (handed_on t earlier) on (turn_on t w) b
        → PrintedOf (ended_by (turn_on t w).turn on) (f ++ take b.standing.used b.out) (marched_lines t a (s ++ e))
    go true h = so_far t a fresh b s f h e c
    go false h = h.printed e c
