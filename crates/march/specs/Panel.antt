-- Document 02, Q-5: the harbour panel, a build of the march whose traverses may have 17 points, where our own program's may have 65. "Both limits stand
-- in one code .. and all that we promise of a storm holds on the panel." So every promise of a storm is stated for any limit, `most`, and one law gives it for
-- both (`OfStorms`). Here too: what the limit decides, that it decides nothing else, and that the facts about ranges know none. `proofs/Panel.antt` has
-- the proofs.
use Rattle.std.specs.Prelude.{◌≡◌, true, false, not, List, ℕ, ◌<◌, ◌≤◌, ℤ}
use Rattle.records.specs.declared.Kind.TheVariants.{Points, PanelPoints}
use Rattle.records.specs.Limits.{most_points, panel_points, count_ok}
use Rattle.records.specs.Refusals.{refusal}
use Rattle.records.specs.Shapes.{Traverse, Record, count}
use Rattle.segment.specs.declared.Leg.{Leg}
use Rattle.march.specs.declared.State.{State}
use Rattle.march.specs.Answers.{refused, not_opened}
use Rattle.march.specs.Given.{Given, segments}
use Rattle.march.specs.Checks.{open_of}
use Rattle.march.specs.March.{done, march_of}
use Rattle.march.specs.MarchBounds.{MarchIn}
use Rattle.march.specs.Take.{left_refused, take_of}
use Rattle.march.specs.Exact.{Exact}
use Rattle.march.specs.Demand1.{AcceptedWhen}
use Rattle.march.specs.Demand3.{Inside, StepSound, Demand3In}
use Rattle.march.specs.Lists.{ElapsedIsSumIn}

-- ---- "all that we promise of a storm", in a build: demand 3, the elapsed time, and when a record is accepted, with all that the call then leaves

pub record OfStorms (most : ℕ) : Type 0 where
  pub sound : Demand3In most
  pub elapsed : ElapsedIsSumIn most
  pub accepted : (g : Given) → g.most ≡ most → AcceptedWhen g

-- ---- opening a traverse

pub record OpensIn (most : ℕ) (t : Traverse) : Type 0 where
  -- "It refuses a longer traverse .. (19), with the points given"
  pub longer : count_ok (count t) ≡ true → most < count t → (open_of most t).answer ≡ not_opened 19 (count t)
  -- "after check 5"
  pub miscounted : count_ok (count t) ≡ false → (open_of most t).answer ≡ not_opened 5 (count t)
  -- and nothing else: every build that may have so many points answers the same
  pub same : count t ≤ most → (other : ℕ) → count t ≤ other → open_of other t ≡ open_of most t

-- ---- taking a record

-- the same call in another build
abbrev pub in_build : ℕ → Given → Given
in_build most g = record { most = most; traverse = g.traverse; storm = g.storm; state = g.state; rows = g.rows; setup = g.setup }

pub record TakesIn (g : Given) : Type 0 where
  pub longer : count_ok (count g.traverse) ≡ true → g.most < count g.traverse → take_of g ≡ left_refused g (refusal PanelPoints (count g.traverse))
  pub miscounted : count_ok (count g.traverse) ≡ false → take_of g ≡ left_refused g (refusal Points (count g.traverse))
  -- answer, state, rows and setup places
  pub same : count g.traverse ≤ g.most → (other : ℕ) → count g.traverse ≤ other → take_of (in_build other g) ≡ take_of g

-- ---- "on the panel only": our own program never answers 19

pub record PanelOnly : Type 0 where
  pub opening : (t : Traverse) (place : ℕ) → (open_of most_points t).answer ≡ not_opened 19 place → ⊥
  pub taking : (g : Given) (place : ℕ) → g.most ≡ most_points → (take_of g).answer ≡ refused 19 place → ⊥

-- ---- "the range facts are shown for any count": one step over as many segments as a traverse has, no build asked

abbrev pub RangesForAnyCount : Type 0
RangesForAnyCount =
    (t : Traverse) (r : Record) (st : State) (rows : List ℤ) (x : Exact) (legs : List Leg)
    → MarchIn t r rows (segments t) → Inside t st rows x → march_of t r (not st.started) rows (segments t) ≡ done legs
    → StepSound t r (not st.started) rows x

pub record Panel : Type 0 where
  -- one law, and what it gives
  pub storms : (most : ℕ) → OfStorms most
  pub program : OfStorms most_points
  pub panel : OfStorms panel_points
  pub opens : (most : ℕ) (t : Traverse) → OpensIn most t
  pub takes : (g : Given) → TakesIn g
  pub only : PanelOnly
  pub ranges : RangesForAnyCount
