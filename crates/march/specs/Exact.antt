-- The exact march: document 01's "The exact march works in fractions and never rounds", step by step.
use Rattle.std.specs.Prelude.{Bool, true, false, not, List, [], ◌∷◌, ℕ, zero, suc, pos}
use Rattle.ranges.specs.Fraction.{Frac, whole, ◌+F◌}
use Rattle.records.specs.Shapes.{Traverse, Record}
use Rattle.march.specs.Answers.{Told, accepted, refused}
use Rattle.segment.specs.ExactSegment.{Kept, fresh_kept, ExactLeg, exact_segment}
use Rattle.march.specs.Given.{segments}
use Rattle.march.specs.March.{site_at, weather_at}
use Rattle.march.specs.Take.{shore_of}

-- "It keeps for each segment a fraction v and the last sum of the two cross stresses, .. and whether a first record was accepted"
pub record Exact : Type 0 where
  pub kept : ℕ → Kept
  pub started : Bool

-- "all 0 at the start"
abbrev pub exact_fresh : Exact
exact_fresh = record { kept = λ i. fresh_kept; started = false }

module _ (t : Traverse) (r : Record) (x : Exact) where
  -- S before segment i: "it works the segments in order, from S = 0. .. S grows by the gain"
  unfoldable pub exact_setup : ℕ → Frac
  exact_setup zero = whole (pos 0)
  exact_setup (suc i) = (exact_segment (not x.started) (site_at t i) (weather_at t r i) (x.kept i) (exact_setup i)).setup

  -- what segment i leaves
  abbrev pub exact_leg : ℕ → ExactLeg
  exact_leg i = exact_segment (not x.started) (site_at t i) (weather_at t r i) (x.kept i) (exact_setup i)

  -- "its height is the shore height with its last S"
  unfoldable pub exact_height : Frac
  exact_height = exact_setup (segments t) +F whole (shore_of t r)

  -- after the step: "It keeps the new v and this record's sum"
  abbrev pub exact_step : Exact
  exact_step = record { kept = λ i. (exact_leg i).kept; started = true }

-- the steps of a record, each a record of its own, in order: a first one and those after it. A record is one step, itself
pub record Steps : Type 0 where
  pub first : Record
  pub later : List Record

abbrev pub steps_of : Record → Steps
steps_of r = record { first = r; later = [] }

unfoldable pub exact_steps : Traverse → Record → List Record → Exact → Exact
exact_steps t r [] x = exact_step t r x
exact_steps t r (s ∷ steps) x = exact_steps t s steps (exact_step t r x)

-- "A refused record changes nothing in it." It is told whether the record was accepted
abbrev pub exact_take : Traverse → Record → Exact → Bool → Exact
exact_take t r x true = exact_steps t (steps_of r).first (steps_of r).later x
exact_take t r x false = x

-- "of the answers, only whether the record was accepted"
abbrev pub is_accepted : Told → Bool
is_accepted (accepted elapsed low high) = true
is_accepted (refused number place) = false
