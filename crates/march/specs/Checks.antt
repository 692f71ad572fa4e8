-- The checks of a traverse and of a record, in their order: each is a line of a list here, as it is a row of document 01's table "Where each check
-- is made". "Checks run down the table, earliest point or row first." A check that a later request brings is a line more.
use Rattle.std.specs.Prelude.{Bool, false, ◌&&◌, ◌||◌, not, List, [], ◌∷◌, ◌++◌, ℕ, ◌+◌, ◌-◌, ◌*◌, eqb, length, ℤ, pos, ◌+ℤ◌, ◌-ℤ◌, Result, Ok, Err}
use Rattle.records.specs.declared.Closing.{Closing}
use Rattle.records.specs.declared.Refusal.{Refusal}
use Rattle.records.specs.declared.Kind.TheVariants.{Points, PanelPoints, TraverseValue, Distance, Lent, RecordValue, CalmAngle}
use Rattle.records.specs.Refusals.{refusal}
use Rattle.records.specs.CheckOrder.{Check, need, each, first_of}
use Rattle.records.specs.Groups.{station_at, point_count, point_at, row_count, row_at}
use Rattle.records.specs.Shapes.{Traverse, Record, count}
use Rattle.records.specs.Limits.{count_ok, build_has, head_ok, station_ok, length_ok, shore_ok, row_ok, seconds_ok, tide_ok, elapsed_ok, point_ok, calm_ok}
use Rattle.march.specs.declared.State.{State}
use Rattle.march.specs.Answers.{ToldOpen, opened, told_open}
use Rattle.march.specs.Given.{Given}

-- ---- a traverse

-- 6: "a value past its limits, point by point after the first three values"
abbrev pub stations_ok : List ℤ → ℕ → Bool
stations_ok l i = station_ok (station_at l i)

-- 7: "distances break their rule": "Each distance is 1 to 100 less than the one before and the last is 0"
unfoldable pub spacing_ok : ℕ → List ℤ → ℕ → Bool
spacing_ok n l i =
    (eqb i 0 || length_ok ((station_at l (i - 1)).distance -ℤ (station_at l i).distance))
    && (not (eqb (i + 1) n) || shore_ok (station_at l i).distance)

-- 5: "fewer than 2 or more than 65 points". 19, of document 02: "a longer traverse on the panel only .., with the points given, after check 5"; `most`
-- is how many points a build has, our own program's 65 or the panel's 17
unfoldable pub traverse_checks : ℕ → Traverse → List Check
traverse_checks most t =
    need (count_ok (count t)) (refusal Points (count t))
    ∷ need (build_has most (count t)) (refusal PanelPoints (count t))
    ∷ need (head_ok t.head) (refusal TraverseValue 0)
    ∷ each TraverseValue (stations_ok t.points) (count t)
    ∷ each Distance (spacing_ok (count t) t.points) (count t)
    ∷ []

abbrev pub traverse_check : ℕ → Traverse → Check
traverse_check most t = first_of (traverse_checks most t)

-- ---- opening a traverse: "checks 5 to 7 .. answers a state; it reads and writes no row", and 19 among them

abbrev pub fresh_state : State
fresh_state = record { elapsed = pos 0; started = false }

-- its answer, and the state, which is that of a fresh traverse also where it is refused
pub record LeftOpen : Type 0 where
  pub answer : ToldOpen
  pub state : State

unfoldable pub open_of : ℕ → Traverse → LeftOpen
open_of most t = record { answer = told_open (traverse_check most t); state = fresh_state }

-- what the code answers: the state where it opens, and none where it is refused
abbrev pub opened_by : Result State Refusal → LeftOpen
opened_by (Ok st) = record { answer = opened; state = st }
opened_by (Err refusal) = record { answer = told_open (Err refusal); state = fresh_state }

-- ---- what is lent with a record

-- "setup places neither 0 nor two for each segment"
unfoldable pub places_ok : ℕ → ℕ → Bool
places_ok places n = eqb places 0 || eqb places (2 * n)

abbrev pub rows_ok : List ℤ → ℕ → Bool
rows_ok rows i = row_ok (row_at rows i)

-- 8, for a traverse of so many points and a record of so many: "rows not one for each segment, points not one more, ..", then the rows
unfoldable pub lent_checks : ℕ → ℕ → List ℤ → ℕ → List Check
lent_checks points given rows places =
    need (eqb (row_count rows) (points - 1) && (eqb given points && places_ok places (points - 1))) (refusal Lent 0)
    ∷ each Lent (rows_ok rows) (points - 1)
    ∷ []

abbrev pub lent_check : ℕ → ℕ → List ℤ → ℕ → Check
lent_check points given rows places = first_of (lent_checks points given rows places)

-- ---- a record

-- 9: "a value, or the new elapsed time, past its limits". The state is the caller's, so its own elapsed time is held to the limits too
unfoldable pub times_ok : Closing → State → Bool
times_ok c st = seconds_ok st.started c.seconds && (tide_ok c.tide && (elapsed_ok st.elapsed && elapsed_ok (st.elapsed +ℤ c.seconds)))

abbrev pub points_ok : List ℤ → ℕ → Bool
points_ok l i = point_ok (point_at l i)

-- 18, of document 02: a calm that has a direction, "directly after check 9"
abbrev pub calms_ok : List ℤ → ℕ → Bool
calms_ok l i = calm_ok (point_at l i)

unfoldable pub record_checks : ℕ → Record → State → List Check
record_checks points r st =
    need (times_ok r.closing st) (refusal RecordValue 0)
    ∷ each RecordValue (points_ok r.points) points
    ∷ each CalmAngle (calms_ok r.points) points
    ∷ []

abbrev pub record_check : ℕ → Record → State → Check
record_check points r st = first_of (record_checks points r st)

-- ---- all of them, as taking a record makes them, with so many setup places

unfoldable pub checks_of : ℕ → Traverse → Record → State → List ℤ → ℕ → List Check
checks_of most t r st rows places = traverse_checks most t ++ (lent_checks (count t) (point_count r.points) rows places ++ record_checks (count t) r st)

-- of a call; and the first that fails
abbrev pub checks : Given → List Check
checks g = checks_of g.most g.traverse g.storm g.state g.rows (length g.setup)

abbrev pub check_of : Given → Check
check_of g = first_of (checks g)
