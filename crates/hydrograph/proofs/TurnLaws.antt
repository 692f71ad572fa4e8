-- What the functions of a turn gave is what the definition says. Each law takes the equations that the calls promise. Assumes nothing.
use mathlib.Core.Path.{◌≡◌, refl, sym, ap, subst, ◌∙◌}
use mathlib.Core.Bool.{Bool, true, false, not}
use mathlib.Core.List.{List, []}
use native.Mathlib.Omega.{arith}
use Prim.Native.Nat.{ℕ, ◌+◌, ◌-◌, ◌*◌}
use lib.Dec.{leb}
use lib.ListN.{length, take, drop}
use lib.IntN.{ℤ}
use borrow.Author.Tests.{eq-eqb, ne_eqb, not-true, not-false}
use Rattle.records.specs.declared.Refusal.{Refusal}
use Rattle.records.specs.declared.Closing.{Closing}
use Rattle.records.specs.CheckOrder.{Check}
use Rattle.records.specs.Groups.{closing_of, group_at}
use Rattle.records.specs.Limits.{most_points}
use Rattle.records.specs.Shapes.{Traverse, Record, storm, count}
use Rattle.std.specs.Prelude.{Result, Ok, Err}
use Rattle.listing.specs.Put.{written}
use Rattle.reader.specs.declared.Cursor.{Cursor}
use Rattle.reader.specs.declared.storm.Halt.{Halt}
use Rattle.reader.specs.declared.storm.Halt.TheVariants as halt
use Rattle.reader.specs.Storm.{record_size, record_in, start_step}
use Rattle.march.specs.declared.State.{State}
use Rattle.ranges.specs.declared.Range.{Range}
use Rattle.march.specs.Answers.{refused, told_of}
use Rattle.march.specs.Given.{Given, given}
use Rattle.march.specs.March.{March, stopped, done}
use Rattle.march.specs.Checks.{fresh_state, LeftOpen, open_of, opened_by, check_of}
use Rattle.march.specs.Take.{Left, left, march_given, after_march, after_checks, take_of}
use Rattle.hydrograph.specs.declared.Turn.{Turn}
use Rattle.hydrograph.specs.declared.Turn.TheVariants as turn
use Rattle.hydrograph.specs.declared.Run.{Run}
use Rattle.hydrograph.specs.Listing.{refusal_line, taken_by}
use Rattle.hydrograph.specs.Turns.{Said, says, ends, said_taken, taken_said, said_start, start_turn, record_turn, turn_of, Heard, record_heard, turn_heard, line_room, LeftTurn, left_turn, printed, turn_left, fresh_run, said_open, begin_of}

-- ---- what is said, printed

-- a text that was put at a place of the buffer
module _ (text : List ℕ) (used : ℕ) (out out' : List ℕ) (o : out' ≡ written text used out) (run : Run) (numbers rows : List ℤ) where
  pub printed-line : (place : ℕ) → place ≡ used + length text → (later : Run) (rows' : List ℤ) → left_turn (turn.Line place) later numbers rows' out' ≡ printed (says text later.cursor.at later.cursor.line later.state rows') run numbers rows out used
  printed-line place p later rows' = rw (p, o)

  pub printed-last : (k : Turn) → k ≡ turn.End (used + length text) → left_turn k run numbers rows out' ≡ printed (ends text) run numbers rows out used
  printed-last k e = rw (e, o)

-- ---- the names line of the storm: it leaves the lent numbers and the rows as they are

pub start-with : (w : List ℕ) (last : Bool) (k : Turn) (run later : Run) (numbers rows : List ℤ) (out out' : List ℕ) (used : ℕ) →
    left_turn k later [] [] out' ≡ printed (start_turn w last) run [] [] out used → left_turn k later numbers rows out' ≡ printed (start_turn w last) run numbers rows out used
start-with w last k run later numbers rows out out' used = go (start_step w last)
  where
    lent : LeftTurn → LeftTurn
    lent l = record { turn = l.turn; run = l.run; numbers = numbers; rows = rows; out = l.out }

    go : (q : Result Cursor Halt) → left_turn k later [] [] out' ≡ printed (said_start q) run [] [] out used → left_turn k later numbers rows out' ≡ printed (said_start q) run numbers rows out used
    go (Err halt.More) e = ap lent e
    go (Ok c) e = ap lent e
    go (Err (halt.Refused r)) e = ap lent e

-- ---- a record that was read

-- the record that the code takes is the one that the numbers are
record_is : (n end : ℕ) (l : List ℤ) (c : Closing) → end ≡ record_size n → c ≡ group_at closing_of 2 l 0 → storm c (take (end - 2) (drop 2 l)) ≡ record_in n l
unfolding group_at
record_is n end l c e f = let z : end - 2 ≡ 3 * n = omega arith in rw (f, z)

-- a refused record leaves the state and the rows
refused-same : (g : Given) (number place : ℕ) → (take_of g).answer ≡ refused number place → ((take_of g).state ≡ g.state) × ((take_of g).rows ≡ g.rows)
unfolding take_of
refused-same g number place = by-check (check_of g)
  where
    by-march : (m : March) → (after_march m g).answer ≡ refused number place → ((after_march m g).state ≡ g.state) × ((after_march m g).rows ≡ g.rows)
    by-march (stopped refusal) e = (refl, refl)
    by-march (done legs) e = let z : ◌≡◌ {A = ℕ} 0 1 = cc in absurd (omega arith)

    by-check : (k : Check) → (after_checks k g).answer ≡ refused number place → ((after_checks k g).state ≡ g.state) × ((after_checks k g).rows ≡ g.rows)
    by-check (Err refusal) e = (refl, refl)
    by-check (Ok _) e = by-march (march_given g) e

module _ (t : Traverse) (a l : ℕ) (run : Run) (st : State) (numbers rows rows' places : List ℤ) (n : ℕ) (c : Closing) (x : Result Range Refusal) (many : n ≡ count t) (first : c ≡ group_at closing_of 2 numbers 0)
    (h : left x st rows' places ≡ taken_by t (storm c (take (record_size n - 2) (drop 2 numbers))) run.state rows) (out : List ℕ) (used : ℕ) where
  -- what is taken: the numbers as a record
  abbrev taking : Given
  taking = given most_points t (record_in (count t) numbers) run.state rows []

  taken_is : left x st rows' places ≡ take_of taking
  taken_is = h ∙ ap (λ (r : Record). taken_by t r run.state rows) (record_is (count t) (record_size n) numbers c (ap record_size many) first)

  pub taken-printed : (q : Result Range Refusal) → x ≡ q → (y : LeftTurn) → y ≡ printed (said_taken (told_of q st) a l st rows') run numbers rows out used →
      y ≡ printed (taken_said t (record_in (count t) numbers) a l run.state rows) run numbers rows out used
  taken-printed q f y =
      subst (λ (z : Said). y ≡ printed z run numbers rows out used)
      (ap (λ (z : Result Range Refusal). said_taken (told_of z st) a l st rows') (sym f) ∙ ap (λ (z : Left). said_taken z.answer a l z.state z.rows) taken_is)

  -- where it is refused, the state and the rows stay
  pub taken-refused : (refusal : Refusal) → x ≡ Err refusal → (k : Turn) (out' : List ℕ) → left_turn k run numbers rows out' ≡ printed (ends (refusal_line refusal)) run numbers rows out used →
      left_turn k (record { cursor = run.cursor; state = st }) numbers rows' out' ≡ printed (taken_said t (record_in (count t) numbers) a l run.state rows) run numbers rows out used
  taken-refused refusal f k out' e =
      let s = refused-same taking _ _ (sym (ap (λ (z : Left). z.answer) taken_is) ∙ ap (λ (z : Result Range Refusal). told_of z st) f) in
      taken-printed (Err refusal) f _ (ap (λ (z : Left). left_turn k (record { cursor = run.cursor; state = z.state }) numbers z.rows out') taken_is ∙ (rw (s.0, s.1) e))

-- ---- which of the two a turn is

module _ (t : Traverse) (w : List ℕ) (last : Bool) (a l : ℕ) (st : State) (rows : List ℤ) where
  pub turn-start : l ≡ 0 → turn_of t w last a l st rows ≡ start_turn w last
  unfolding turn_of
  turn-start e = rw (eq-eqb l 0 e)

  pub turn-record : (l ≡ 0 → ⊥) → turn_of t w last a l st rows ≡ record_turn t w last a l st rows
  unfolding turn_of
  turn-record e = rw (ne_eqb l 0 e)

  pub heard-start : (numbers : List ℤ) → l ≡ 0 → turn_heard t w last a l st rows numbers ≡ record { said = start_turn w last; numbers = numbers }
  unfolding turn_heard
  heard-start numbers e = rw (eq-eqb l 0 e)

  pub heard-record : (numbers : List ℤ) → (l ≡ 0 → ⊥) → turn_heard t w last a l st rows numbers ≡ record_heard t w last a l st rows numbers
  unfolding turn_heard
  heard-record numbers e = rw (ne_eqb l 0 e)

-- ---- the test for room

module _ (used : ℕ) (out : List ℕ) (room : Bool) (test : room ≡ leb (used + line_room) (length out)) where
  module _ (heard : Heard) (run : Run) (numbers rows : List ℤ) where
    pub turn-full : not room ≡ true → left_turn turn.Full run numbers rows out ≡ turn_left heard run numbers rows out used
    unfolding turn_left
    turn-full h = let f : leb (used + line_room) (length out) ≡ false = sym test ∙ not-true room h in rw f

    pub turn-printed : not room ≡ false → (heard' : Heard) → heard ≡ heard' → (x : LeftTurn) → x ≡ printed heard'.said run heard'.numbers rows out used → x ≡ turn_left heard run numbers rows out used
    unfolding turn_left
    turn-printed h heard' e x g = let f : leb (used + line_room) (length out) ≡ true = sym test ∙ not-false room h in rw (f, e) g

-- ---- opening

module _ (t : Traverse) (o : Result State Refusal) (h : opened_by o ≡ open_of most_points t) where
  begin-is : (q : Result State Refusal) → o ≡ q → begin_of t [] ≡ said_open (opened_by q).answer fresh_state []
  unfolding begin_of open_of
  begin-is q k = ap (λ (l : LeftOpen). said_open l.answer fresh_state []) (sym h ∙ ap opened_by k)

  pub begin-printed : (used : ℕ) (out : List ℕ) (room : Bool) → room ≡ leb (used + line_room) (length out) → not room ≡ false → (q : Result State Refusal) → o ≡ q →
      (x : LeftTurn) → x ≡ printed (said_open (opened_by q).answer fresh_state []) fresh_run [] [] out used → x ≡ turn_left (record { said = begin_of t []; numbers = [] }) fresh_run [] [] out used
  begin-printed used out room test f q k =
      turn-printed used out room test _ fresh_run [] [] f (record { said = said_open (opened_by q).answer fresh_state []; numbers = [] })
      (ap (λ (s : Said). record { said = s; numbers = [] }) (begin-is q k))
