-- Demand 3, one statement over whole lists of records (`Demand3` at the end), in document 01's terms. `proofs/Demand3.antt` has its proof,
-- `demand3`. The list is folded with `take_of`, the definition that the promise of `take_record` cites.
use Rattle.std.specs.Prelude.{◌≡◌, Bool, false, not, List, [], ◌∷◌, ℕ, zero, suc, ◌<◌, length, ℤ, pos, ◌<ℤ◌}
use Rattle.ranges.specs.declared.Range.{Range}
use Rattle.ranges.specs.Range.{Within}
use Rattle.records.specs.Groups.{of_row, groups, flat}
use Rattle.records.specs.Rows.{row_flux}
use Rattle.records.specs.Shapes.{Traverse, Record}
use Rattle.segment.specs.declared.Leg.{Leg}
use Rattle.segment.specs.Segment.{segment_depth, segment_flux, segment_setup, leg_of}
use Rattle.segment.specs.ExactSegment.{exact_depth, SegmentOutward}
use Rattle.march.specs.declared.State.{State}
use Rattle.march.specs.Answers.{Told, accepted, refused, opened}
use Rattle.march.specs.Given.{Given, segments}
use Rattle.march.specs.Checks.{open_of}
use Rattle.march.specs.March.{site_at, weather_at, fresh_row_at, working_row, no_setup}
use Rattle.march.specs.Take.{Left, row_numbers, setup_numbers, take_of}
use Rattle.march.specs.Exact.{Exact, exact_fresh, exact_setup, exact_leg, exact_height, exact_step, steps_of, exact_take, is_accepted}

-- ---- one step. `rows` are the rows before it, x is the exact march before it

module _ (t : Traverse) (r : Record) (first : Bool) (rows : List ℤ) where
  -- the setup range before segment i, by steps 1 to 4 of document 01: "S where no setup places are lent, are those of steps 3 and 4"
  unfoldable pub setup_before : ℕ → Range
  setup_before zero = no_setup
  setup_before (suc i) = segment_setup first (site_at t i) (weather_at t r i) (working_row t first rows i) (setup_before i)

  -- the new flux range of segment i
  abbrev pub flux_after : ℕ → Range
  flux_after i = segment_flux first (site_at t i) (weather_at t r i) (working_row t first rows i) (setup_before i)

  -- what segment i leaves, and all segments
  abbrev pub step_leg : ℕ → Leg
  step_leg i = leg_of (flux_after i) (weather_at t r i).cross (setup_before (suc i))

  abbrev pub step_legs : List Leg
  step_legs = groups step_leg (segments t)

-- segment i, from 0
pub record SegmentSound (t : Traverse) (r : Record) (first : Bool) (rows : List ℤ) (x : Exact) (i : ℕ) : Type 0 where
  -- flux and gain: every choice's value lies within, each end is less than one unit beyond a value that a choice reaches, and the ends are
  -- equal exactly when every choice gives that one whole number
  pub outward : SegmentOutward first (site_at t i) (weather_at t r i) (working_row t first rows i) (setup_before t r first rows i)
  -- the exact march lies within, and its δ is above nought, so that it never divides by 0
  pub exact-flux : Within (flux_after t r first rows i) (exact_leg t r x i).kept.v
  pub exact-setup : Within (setup_before t r first rows (suc i)) (exact_setup t r x (suc i))
  pub exact-depth : Within (segment_depth (site_at t i) (weather_at t r i) (setup_before t r first rows i)) (exact_depth (site_at t i) (weather_at t r i) (exact_setup t r x i))
  pub depth-above : pos 0 <ℤ (exact_depth (site_at t i) (weather_at t r i) (exact_setup t r x i)).num

abbrev pub StepSound : Traverse → Record → Bool → List ℤ → Exact → Type 0
StepSound t r first rows x = (i : ℕ) → i < segments t → SegmentSound t r first rows x i

-- ---- one accepted record: `left` is what the call left

-- the ranges are those of the last step r: in the rows, in the setup places where these are lent, and in the answer
pub record LastSound (t : Traverse) (r : Record) (first : Bool) (rows : List ℤ) (x : Exact) (left : Left) (low high : ℤ) : Type 0 where
  pub rows_are : left.rows ≡ row_numbers (step_legs t r first rows)
  pub setup-are : 0 < length left.setup → left.setup ≡ setup_numbers (step_legs t r first rows)
  pub height : Within (record { low = low; high = high }) (exact_height t r x)

-- each step of the record is sound from the rows and the exact march that the one before left
unfoldable pub StepsSound : Traverse → Record → List Record → Bool → List ℤ → Exact → Left → ℤ → ℤ → Type 0
StepsSound t r [] first rows x left low high = StepSound t r first rows x × LastSound t r first rows x left low high
StepsSound t r (s ∷ steps) first rows x left low high =
    StepSound t r first rows x × StepsSound t s steps false (row_numbers (step_legs t r first rows)) (exact_step t r x) left low high

-- ---- between two calls

-- what holds there: each exact v lies within the row that its segment works from, and the kept sums are the rows'
pub record Inside (t : Traverse) (st : State) (rows : List ℤ) (x : Exact) : Type 0 where
  pub same : x.started ≡ st.started
  pub flux : (j : ℕ) → j < segments t → Within (row_flux (working_row t (not x.started) rows j)) (x.kept j).v
  pub cross : (j : ℕ) → j < segments t → (working_row t (not x.started) rows j).cross ≡ (x.kept j).cross

-- ---- one refused record: state, rows and setup places are as they were

pub record RefusedSound (g : Given) (left : Left) : Type 0 where
  pub same-state : left.state ≡ g.state
  pub same_rows : left.rows ≡ g.rows
  pub same-setup : left.setup ≡ g.setup

abbrev pub CallSound : Told → Given → Exact → Left → Type 0
CallSound (accepted elapsed low high) g x left =
    StepsSound g.traverse (steps_of g.storm).first (steps_of g.storm).later (not g.state.started) g.rows x left low high
CallSound (refused number place) g x left = RefusedSound g left

-- ---- a list of calls, with one limit on points and one traverse

-- what a call brings
pub record Brought : Type 0 where
  pub storm : Record
  pub setup : List ℤ

abbrev pub called_with : ℕ → Traverse → State → List ℤ → Brought → Given
called_with most t st rows c = record { most = most; traverse = t; storm = c.storm; state = st; rows = rows; setup = c.setup }

abbrev pub called : ℕ → Traverse → State → List ℤ → Brought → Left
called most t st rows c = take_of (called_with most t st rows c)

-- "each later one the state and the rows as the call before left them"; the exact march is told whether each was accepted
unfoldable pub AllSound : ℕ → Traverse → State → List ℤ → Exact → List Brought → Type 0
AllSound most t st rows x [] = Unit {0}
AllSound most t st rows x (c ∷ calls) =
    CallSound (called most t st rows c).answer (called_with most t st rows c) x (called most t st rows c)
    × AllSound most t (called most t st rows c).state (called most t st rows c).rows (exact_take t c.storm x (is_accepted (called most t st rows c).answer)) calls

-- the fresh row of each segment
abbrev pub fresh_rows : Traverse → List ℤ
fresh_rows t = flat of_row (groups (fresh_row_at t) (segments t))

-- "A list of records is a list of calls that take a record, with one traverse that opening accepted. The first gets the state that opening
-- answered and fresh rows"
abbrev pub Demand3In : ℕ → Type 0
Demand3In most = (t : Traverse) → (open_of most t).answer ≡ opened → (calls : List Brought) → AllSound most t (open_of most t).state (fresh_rows t) exact_fresh calls

-- in every build
abbrev pub Demand3 : Type 0
Demand3 = (most : ℕ) → Demand3In most
