-- Taking a record: the answer, the state, every row and every setup place, for every input whatever.
use Rattle.std.specs.Prelude.{true, cond, not, List, [], ◌-◌, eqb, length, get_or, ℤ, ◌+ℤ◌, Result, Ok, Err}
use Rattle.ranges.specs.declared.Range.{Range}
use Rattle.records.specs.declared.Refusal.{Refusal}
use Rattle.records.specs.Refusals.{number_of}
use Rattle.records.specs.Groups.{point_at, of_row, of_range, flat}
use Rattle.records.specs.Rows.{fresh_row}
use Rattle.records.specs.Shapes.{Traverse, Record}
use Rattle.records.specs.CheckOrder.{Check}
use Rattle.segment.specs.declared.Leg.{Leg}
use Rattle.segment.specs.Segment.{shore_base}
use Rattle.march.specs.declared.State.{State}
use Rattle.march.specs.Answers.{Told, accepted, refused, told_of}
use Rattle.march.specs.Given.{Given, segments}
use Rattle.march.specs.Checks.{check_of}
use Rattle.march.specs.March.{March, stopped, done, march_of, no_setup, level_of}

-- all that a call leaves: its answer, the state, the lent rows and the lent setup places
pub record Left : Type 0 where
  pub answer : Told
  pub state : State
  pub rows : List ℤ
  pub setup : List ℤ

-- ---- of an accepted record

-- the rows that the legs left
abbrev pub row_numbers : List Leg → List ℤ
row_numbers = flat (λ (leg : Leg). of_row leg.row)

-- "the setup range after each segment, low then high"
abbrev pub setup_numbers : List Leg → List ℤ
setup_numbers = flat (λ (leg : Leg). of_range leg.setup)

abbrev pub no_leg : Leg
no_leg = record { row = fresh_row; setup = no_setup }

-- the setup after the last segment
abbrev pub last_setup : List Leg → Range
last_setup legs = (get_or legs (length legs - 1) no_leg).setup

-- what the shore height has beside it: the deficit is that at the shore point
abbrev pub shore_of : Traverse → Record → ℤ
shore_of t r = shore_base (level_of t r) (point_at r.points (segments t)).deficit

abbrev pub height_of : Traverse → Record → Range → Range
height_of t r s = record { low = s.low +ℤ shore_of t r; high = s.high +ℤ shore_of t r }

-- "The state holds the elapsed seconds .., to which each accepted record adds its Δt, and whether a first record was accepted"
abbrev pub later_state : Record → State → State
later_state r st = record { elapsed = st.elapsed +ℤ r.closing.seconds; started = true }

abbrev pub accepted_answer : Given → List Leg → Told
accepted_answer g legs =
    accepted (later_state g.storm g.state).elapsed (height_of g.traverse g.storm (last_setup legs)).low (height_of g.traverse g.storm (last_setup legs)).high

abbrev pub left_accepted : Given → List Leg → Left
left_accepted g legs = record {
  answer = accepted_answer g legs;
  state = later_state g.storm g.state;
  rows = row_numbers legs;
  setup = cond (eqb (length g.setup) 0) [] (setup_numbers legs);
}

-- ---- "A refused record leaves rows, setup buffer and the whole state as before it"

abbrev pub left_refused : Given → Refusal → Left
left_refused g refusal = record { answer = refused (number_of refusal.kind) refusal.place; state = g.state; rows = g.rows; setup = g.setup }

-- ---- taking a record: checks 5, 19, 6 to 9 and 18, then the march over all segments

abbrev pub march_given : Given → March
march_given g = march_of g.traverse g.storm (not g.state.started) g.rows (segments g.traverse)

abbrev pub after_march : March → Given → Left
after_march (stopped refusal) g = left_refused g refusal
after_march (done legs) g = left_accepted g legs

abbrev pub after_checks : Check → Given → Left
after_checks (Err refusal) g = left_refused g refusal
after_checks (Ok _) g = after_march (march_given g) g

unfoldable pub take_of : Given → Left
take_of g = after_checks (check_of g) g

-- what the code answers and leaves
abbrev pub left : Result Range Refusal → State → List ℤ → List ℤ → Left
left answer st rows setup = record { answer = told_of answer st; state = st; rows = rows; setup = setup }
