-- Demand 3 for lists of the exported calls, each spoken of by its promise alone, for any limit on points: `most` is 65 in `fennhop_open_traverse` and
-- `fennhop_take_record`, and 17 in `fennhop_panel_open_traverse` and `fennhop_panel_take_record`. `LentDemand3`: a call that opens a traverse, and calls
-- that take a record on rows and state lent from call to call; what they answered and left is, call by call, what the march's own list has, of which
-- `Demand3` of `march` speaks. `TextDemand3`: the same where the traverse and the records are read from two texts by `fennhop_read_traverse` and
-- `fennhop_read_record`. `proofs/Demand3.antt` has the proofs, `lent-demand3` and `text-demand3`.
use Rattle.std.specs.Prelude.{◌≡◌, List, [], ◌∷◌, map, ℕ, ◌*◌, ◌<◌, ◌^◌, length, take, ℤ}
use Rattle.records.specs.declared.Head.{Head}
use Rattle.records.specs.declared.Row.{Row}
use Rattle.records.specs.Groups.{at}
use Rattle.records.specs.Shapes.{Traverse, traverse, count}
use Rattle.march.specs.declared.State.{State}
use Rattle.march.specs.Checks.{open_of}
use Rattle.march.specs.Exact.{exact_fresh}
use Rattle.march.specs.Demand3.{Brought, called, AllSound, fresh_rows}
use Rattle.reader.specs.Lines.{read}
use Rattle.reader.specs.Traverse.{traverse_of}
use Rattle.reader.specs.Storm.{storm_of}
use Rattle.lent.specs.Numbers.{state_numbers}
use Rattle.lent.specs.Again.{Opening, head_left, points_left, TraverseReading, ReadCall, AllRead, no_cursor, StormRead}
use Rattle.surge_c.specs.Rows.{rows_from}
use Rattle.surge_c.specs.Calls.{LeftRows, after_taken, Takes}

-- a call: what it was lent beside the traverse and what the call before left, and what it answered and left
pub record LentCall : Type 0 where
  pub seconds : ℤ
  pub tide : ℤ
  pub storm : List ℤ
  pub setup : List ℤ
  pub answer : List ℤ
  pub left : LeftRows

-- the call in the march's list
abbrev pub brought : LentCall → Brought
brought c = record { storm = record { closing = record { seconds = c.seconds; tide = c.tide }; points = c.storm }; setup = c.setup }

module _ (most : ℕ) (head : Head) (points : List ℤ) where
  abbrev pub lent_traverse : Traverse
  lent_traverse = traverse head points

  -- the calls keep the promise of taking a record, with an answer of three numbers, each on the state and the rows that the one before left
  unfoldable pub AllKept : List ℤ → List Row → List LentCall → Type 0
  AllKept state rows [] = Unit {0}
  AllKept state rows (c ∷ calls) =
      (length c.answer ≡ 3)
      × (Takes most head.latitude head.friction head.initial points c.seconds c.tide c.storm state rows c.setup c.answer c.left
      × AllKept c.left.state c.left.rows calls)

  -- what each answered and left is the march's
  unfoldable pub AllTold : State → List ℤ → List LentCall → Type 0
  AllTold st rows [] = Unit {0}
  AllTold st rows (c ∷ calls) =
      let x = called most lent_traverse st rows (brought c) in
      (c.left ≡ after_taken x.answer x (state_numbers st) (rows_from rows)) × AllTold x.state x.rows calls

-- a traverse, a call that opened it, and every list of calls from the state that this one wrote and fresh rows
abbrev pub LentDemand3 : Type 0
LentDemand3 =
    (most : ℕ) (head : Head) (points : List ℤ) (x : Opening most head points) (calls : List LentCall) → let t = traverse head points in
    AllKept most head points x.left.state (rows_from (fresh_rows t)) calls
    → AllTold most head points (open_of most t).state (fresh_rows t) calls × AllSound most t (open_of most t).state (fresh_rows t) exact_fresh (map brought calls)

-- ---- the calls of a program that is given two texts

-- a record read and then taken: the first call, what the second was lent beside what that one wrote, and what it answered and left
pub record StormStep : Type 0 where
  pub reading : ReadCall
  pub setup : List ℤ
  pub answer : List ℤ
  pub left : LeftRows

-- the second call, of the values and the n points that the first wrote
abbrev pub taking : ℕ → StormStep → LentCall
taking n s = record {
  seconds = at s.reading.left.values 0;
  tide = at s.reading.left.values 1;
  storm = take (3 * n) s.reading.left.storm;
  setup = s.setup;
  answer = s.answer;
  left = s.left;
}

-- what then holds of the traverse that was opened and of these steps
pub record TextsMarched (most : ℕ) (traverse-text storm-text : List ℕ) (t : Traverse) (steps : List StormStep) : Type 0 where
  pub traverse-is : (place : ℕ) × (line : ℕ) × (traverse_of traverse-text ≡ read t place line)
  -- what was read is the storm text's, its first records or all, and just that was taken
  pub read-are : StormRead storm-text (count t) no_cursor (map (λ s. s.reading) steps) (storm_of storm-text (count t))
  pub taken-are : map (λ s. (brought (taking (count t) s)).storm) steps ≡ take (length steps) (storm_of storm-text (count t)).records
  -- and what was answered and left is the march's, and sound
  pub told : AllTold most t.head t.points (open_of most t).state (fresh_rows t) (map (taking (count t)) steps)
  pub sound : AllSound most t (open_of most t).state (fresh_rows t) exact_fresh (map (λ s. brought (taking (count t) s)) steps)

-- the traverse read and opened, then record after record read and taken, as many as there are or fewer
abbrev pub TextDemand3 : Type 0
TextDemand3 =
    (most : ℕ) (traverse-text storm-text : List ℕ) → length storm-text < 2 ^ 63
    → (r : TraverseReading traverse-text) → r.left.number ≡ 0 → let head = head_left r.left in let points = points_left r.left in
    (x : Opening most head points) → let t = traverse head points in
    (steps : List StormStep) → AllRead storm-text (count t) no_cursor (map (λ s. s.reading) steps)
    → AllKept most head points x.left.state (rows_from (fresh_rows t)) (map (taking (count t)) steps)
    → TextsMarched most traverse-text storm-text t steps
