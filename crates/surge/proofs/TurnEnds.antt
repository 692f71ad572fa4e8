-- What a turn leaves stays within the window and the buffer, and it asks for more of the text only where the window has room for more; and what the
-- program then does with the answer. Assumes nothing.
use mathlib.Core.Path.{◌≡◌, refl, sym, ap, subst, ◌∙◌}
use mathlib.Core.Bool.{Bool, true, false, cond}
use mathlib.Core.List.{List}
use native.Mathlib.Omega.{arith}
use Prim.Native.Nat.{ℕ, ◌+◌, ◌<◌, ◌≤◌}
use lib.Dec.{leb}
use lib.ListN.{length, take, drop, length-append, length-drop}
use lib.Seq.{length-take-le}
use lib.IntN.{ℤ}
use borrow.Author.Tests.{leb-true, leb-false}
use Rattle.records.specs.Shapes.{Traverse, count}
use Rattle.listing.specs.Lines.{failed_line}
use Rattle.listing.specs.Put.{written}
use Rattle.reader.specs.Storm.{record_size, longest_record}
use Rattle.files.proofs.Asks.{holds_not}
use Rattle.hydrograph.specs.declared.Turn.{Turn}
use Rattle.hydrograph.specs.declared.Turn.TheVariants as turn
use Rattle.hydrograph.specs.declared.Run.{Run}
use Rattle.hydrograph.specs.Turns.{Said, more, reads, says, ends, quiet, Heard, turn_heard, line_room, LeftTurn, left_turn, printed, turn_left}
use Rattle.hydrograph.proofs.RecordRead.{turn-seen}
use Rattle.hydrograph.proofs.Tells.{Advances, turn-advances}
use Rattle.std.specs.declared.ops.ControlFlow.{ControlFlow}
use Rattle.surge.specs.declared.Standing.{Standing}
use Rattle.surge.specs.Standing.{Stands, standing_with, left_by, goes_on, Memory, memory, turn_on, ReadBy, Moves, AfterTurn}

-- ---- what is said, printed from a place of a window of so many bytes

-- the place of a turn, in a buffer of so many bytes. Where it asks for more, the window has fewer than 3,575 bytes from the cursor on, and there is
-- room for a line; where there is none, something waits
abbrev pub Placed : ℕ → ℕ → ℕ → ℕ → Turn → Type 0
Placed size room at used turn.More = (size < at + longest_record) × (used + line_room ≤ room)
Placed size room at used (turn.Line k) = k ≤ room
Placed size room at used (turn.End k) = k ≤ room
Placed size room at used turn.Full = 0 < used

pub record Ends (size room used : ℕ) (x : LeftTurn) : Type 0 where
  pub cursor : x.run.cursor.at ≤ size
  pub place : Placed size room x.run.cursor.at used x.turn

-- bytes that were written end within the buffer, since it has its length
pub written-within : (bytes : List ℕ) (used : ℕ) (out : List ℕ) → used ≤ length out → length (written bytes used out) ≡ length out → used + length bytes ≤ length out
unfolding written
written-within bytes used out h e =
    let f : used + length bytes + length (drop (used + length bytes) out) ≡ length out = simp (length-append, length-take-le used out h) at e in
    omega (arith, length-drop (used + length bytes) out)

module _ (size used : ℕ) (last : Bool) (run : Run) (numbers rows : List ℤ) (out : List ℕ) (h : run.cursor.at ≤ size) (u : used ≤ length out) where
  printed-ends : (numbers' : List ℤ) (x : Said) → Advances size last run.cursor.at run.cursor.line x → used + line_room ≤ length out → length (printed x run numbers' rows out used).out ≡ length out →
      Ends size (length out) used (printed x run numbers' rows out used)
  printed-ends numbers' more w l e = record { cursor = h; place = ((holds_not size last run.cursor.at longest_record w).0, l) }
  printed-ends numbers' (reads a k) w l e = record { cursor = w.1.1; place = u }
  printed-ends numbers' (says bytes a k st rows') w l e = record { cursor = w.1.1.1; place = written-within bytes used out u e }
  printed-ends numbers' (ends bytes) w l e = record { cursor = h; place = written-within bytes used out u e }
  printed-ends numbers' quiet w l e = record { cursor = h; place = u }

  left-ends : (heard : Heard) → Advances size last run.cursor.at run.cursor.line heard.said → line_room ≤ length out → length (turn_left heard run numbers rows out used).out ≡ length out →
      Ends size (length out) used (turn_left heard run numbers rows out used)
  unfolding turn_left
  left-ends heard w r = go (leb (used + line_room) (length out)) refl
    where
      full : LeftTurn
      full = record { turn = turn.Full; run = run; numbers = numbers; rows = rows; out = out }

      go : (b : Bool) → leb (used + line_room) (length out) ≡ b → length (cond b (printed heard.said run heard.numbers rows out used) full).out ≡ length out →
          Ends size (length out) used (cond b (printed heard.said run heard.numbers rows out used) full)
      go true f e = printed-ends heard.numbers heard.said w (leb-true (used + line_room) (length out) f) e
      go false f e = record { cursor = h; place = omega (arith, leb-false (used + line_room) (length out) f) }

-- of what `storm_turn` promises
module _ (t : Traverse) (a : Memory) (k : Turn) (run : Run) (numbers' rows' : List ℤ) (out' : List ℕ) where
  abbrev pub Told : Type 0
  Told = left_turn k run numbers' rows' out' ≡ turn_left (turn_heard t (take a.standing.window.have a.window) a.standing.window.last a.standing.run.cursor.at a.standing.run.cursor.line a.standing.run.state a.rows a.numbers) a.standing.run a.numbers a.rows a.out a.standing.used

  pub turn_is : Told → left_turn k run numbers' rows' out' ≡ turn_on t a
  unfolding turn_on
  turn_is e = e

  pub turn-stays : a.standing.window.have ≤ length a.window → a.standing.run.cursor.at ≤ a.standing.window.have → a.standing.used ≤ length a.out → line_room ≤ length a.out
      → record_size (count t) ≤ length a.numbers → length out' ≡ length a.out → Told
      → (run.cursor.at ≤ a.standing.window.have) × Placed a.standing.window.have (length a.out) run.cursor.at a.standing.used k
  turn-stays f h u r n m e =
      let s = a.standing in
      let w = take s.window.have a.window in
      let long = length-take-le s.window.have a.window f in
      let moves = subst (Advances (length w) s.window.last s.run.cursor.at s.run.cursor.line) (sym (turn-seen t w s.window.last s.run.cursor.at s.run.cursor.line s.run.state a.rows a.numbers n)) (turn-advances w s.window.last t s.run.cursor.at s.run.cursor.line s.run.state a.rows) in
      let y = subst (Ends (length w) (length a.out) s.used) (sym e)
      (left-ends (length w) s.used s.window.last s.run a.numbers a.rows a.out (omega arith) u _ moves r (ap (λ (l : LeftTurn). length l.out) (sym e) ∙ m)) in
      subst (λ (n : ℕ). (run.cursor.at ≤ n) × Placed n (length a.out) run.cursor.at s.used k) long (y.cursor, y.place)

  -- how the program stands, and what was done, from the case of the answer
  pub after : Told → (flow : ControlFlow ℕ Standing) (window out : List ℕ) → Stands (left_by flow a.standing run) (length window) (length out)
      → Moves k (left_turn k run numbers' rows' out') a (memory (left_by flow a.standing run) (goes_on flow) window numbers' rows' out) → AfterTurn t a flow window numbers' rows' out
  after e flow window out s m =
      record {
        stands = subst (λ (l : LeftTurn). Stands (left_by flow a.standing l.run) (length window) (length out)) (turn_is e) s;
        moved = record {
          record-left = ap (λ (l : LeftTurn). l.numbers) (turn_is e);
          rows_left = ap (λ (l : LeftTurn). l.rows) (turn_is e);
          moves = subst (λ (l : LeftTurn). Moves l.turn l a (memory (left_by flow a.standing l.run) (goes_on flow) window numbers' rows' out)) (turn_is e) m;
        };
      }

-- ---- what is done with the answer

pub stands-with : (x : Standing) (run : Run) (k : ℕ) (y : Standing) (window room : ℕ) → y ≡ standing_with x run k → run.cursor.at ≤ x.window.have → x.window.have ≤ window → k ≤ room → Stands y window room
stands-with x run k y window room e p h w = subst (λ (z : Standing). Stands z window room) (sym e) (record { place = p; held = h; waits = w })

-- after more was read, or after a read that failed, for whose line there was room
pub stands_read : (on : Bool) (run : Run) (x y : Standing) (a b out out' : List ℕ) → ReadBy on run x y a b out out' → run.cursor.at ≤ x.window.have → x.window.have ≤ length b → x.used + line_room ≤ length out'
    → Stands y (length b) (length out')
stands_read true run x y a b out out' f p h w =
    record {
      place = subst (λ (z : Run). z.cursor.at ≤ y.window.have) (sym f.0.same) (omega arith);
      held = f.0.window.within;
      waits = omega (arith, f.0.waits);
    }
stands_read false run x y a b out out' f p h w = stands-with x run (x.used + length failed_line) y (length b) (length out') f.same p h (omega arith)
