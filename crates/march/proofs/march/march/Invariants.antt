-- The march that is left, with the end where the next segment begins and the setup before it.
use Rattle.std.proofs.Common.{◌≡◌, ℕ, List}
use Rattle.std.specs.Prelude.{ℤ}
use Rattle.ranges.specs.declared.Range.{Range}
use Rattle.segment.specs.declared.Leg.{Leg}
use Rattle.segment.specs.Segment.{SetupIn}
use Rattle.march.specs.declared.End.{End}
use Rattle.march.specs.declared.Setting.{Setting}
use Rattle.march.specs.March.{end_at}
use Rattle.march.proofs.MarchLaws.{MarchInv}
use Rattle.march.proofs.MarchSteps.{between_at}
use Rattle.march.proofs.march.march.Given as goal

-- the march that is left gives what the whole march gives; `sea` is the end where the next segment begins, and `s` the setup before it
pub record Held (k : Setting) (points winds rows : List ℤ) (legs : List Leg) (sea : End) (s : Range) (i : ℕ) : Type 0 where
  pub march : MarchInv (between_at k points winds rows) legs s i
  pub sea-is : sea ≡ end_at points winds i
  pub setup-in : SetupIn s

abbrev pub invariant-loop-i : goal.invariant-loop-i
invariant-loop-i l = Held l.k l.traverse.points.now l.storm.points.now l.rows l.legs l.sea l.setup l.i
