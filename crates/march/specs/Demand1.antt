-- Demand 1 for the calls of the march (`Demand1` at the end): "Every input within the limits .. is marched to its end and gets its ranges, whoever
-- calls. Every other input gets the first refusal number .. with its place, and the caller's rows and output stay as lent." `proofs/Demand1.antt`
-- has its proof, `demand1`. The limits are the lists of `Checks.antt`: a refusal that a later request brings is a line more there, and counts here.
use Rattle.std.specs.Prelude.{◌≡◌, true, ℕ, List, ◌⊎◌}
use Rattle.records.specs.declared.Refusal.{Refusal}
use Rattle.records.specs.CheckOrder.{AllPass, FirstFails}
use Rattle.records.specs.Refusals.{number_of}
use Rattle.records.specs.Shapes.{Traverse}
use Rattle.segment.specs.declared.Leg.{Leg}
use Rattle.march.specs.Answers.{opened, not_opened}
use Rattle.march.specs.Given.{Given}
use Rattle.march.specs.Checks.{traverse_checks, open_of, checks}
use Rattle.march.specs.March.{stopped, done}
use Rattle.march.specs.Take.{left_accepted, left_refused, march_given, take_of}
use Rattle.march.specs.Exact.{is_accepted}

-- ---- opening a traverse, which writes nothing

pub record OpenedWhen (most : ℕ) (t : Traverse) : Type 0 where
  pub either : AllPass (traverse_checks most t) ⊎ FirstFails (traverse_checks most t)
  pub opens : AllPass (traverse_checks most t) → (open_of most t).answer ≡ opened
  pub refuses : (f : FirstFails (traverse_checks most t)) → (open_of most t).answer ≡ not_opened (number_of f.refusal.kind) f.refusal.place

abbrev pub OpenedExactly : Type 0
OpenedExactly = (most : ℕ) (t : Traverse) → OpenedWhen most t

-- ---- taking a record

-- the march passes all segments
pub record Marches (g : Given) : Type 0 where
  pub legs : List Leg
  pub is : march_given g ≡ done legs

pub record AcceptedWhen (g : Given) : Type 0 where
  -- what is given is within the limits, or there is a first check that fails
  pub either : AllPass (checks g) ⊎ FirstFails (checks g)
  -- within the limits and marched to its end: `left_accepted` has the march's ranges
  pub accepts : AllPass (checks g) → (m : Marches g) → take_of g ≡ left_accepted g m.legs
  -- and nothing else is accepted
  pub passes : is_accepted (take_of g).answer ≡ true → AllPass (checks g) × Marches g
  -- every other gets the first refusal: `left_refused` has its number and place, and all that was lent as it was
  pub refuses : (f : FirstFails (checks g)) → take_of g ≡ left_refused g f.refusal
  -- 10, 11 and 12 are the march's own, of what is within the limits
  pub stops : (refusal : Refusal) → AllPass (checks g) → march_given g ≡ stopped refusal → take_of g ≡ left_refused g refusal

abbrev pub AcceptedExactly : Type 0
AcceptedExactly = (g : Given) → AcceptedWhen g

abbrev pub Demand1 : Type 0
Demand1 = OpenedExactly × AcceptedExactly
