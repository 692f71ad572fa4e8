-- `force` meets its contract. Assumes nothing.
use lib.IntN.{ℤ, ◌+ℤ◌, ◌*ℤ◌}
use lib.Signed.{le_z_yes}
use mir.Syntax.{w64}
use mir.Val.{SFits}
use Rattle.std.proofs.Common.{rules}
use Rattle.ranges.proofs.Fits.{sized-fits}
use Rattle.forcing.specs.Force.{ForceBounds, force_top, force_of}
use Rattle.forcing.proofs.ForceLaws.{four-sized, product-sized, top-sized}
use Rattle.forcing.proofs.forces.force.Goals as goal

-- each number that the code makes fits
record Steps (s o n : ℤ) : Type 0 where
  four : SFits w64 (o +ℤ n)
  product : SFits w64 (s *ℤ (o +ℤ n))
  top : SFits w64 (force_top s o n)

steps : {s o n : ℤ} → ForceBounds s o n → Steps s o n
steps {s} {o} {n} h = record {
  four = sized-fits (le_z_yes tt) (four-sized s o n h);
  product = sized-fits (le_z_yes tt) (product-sized s o n h);
  top = sized-fits (le_z_yes tt) (top-sized s o n h);
}

pub returns-then-first : goal.returns-then-first
unfolding force_of
returns-then-first c = search rules

pub overflow_mul-seconds : goal.overflow_mul-seconds
overflow_mul-seconds c = search (rules, steps)

pub overflow_mul-seconds-2 : goal.overflow_mul-seconds-2
overflow_mul-seconds-2 c = search (rules, steps)

pub returns : goal.returns
unfolding force_of
returns c = search (rules, steps)
