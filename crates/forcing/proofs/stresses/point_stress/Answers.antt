-- `point_stress` meets its contract. Assumes nothing.
use lib.IntN.{ℤ, ◌*ℤ◌}
use lib.Signed.{le_z_yes}
use mir.Syntax.{w64}
use mir.Val.{SFits}
use Rattle.std.proofs.Common.{rules}
use Rattle.ranges.proofs.Fits.{sized-fits}
use Rattle.forcing.specs.Quadrant.{Angle, sine_of, cosine_of}
use Rattle.forcing.specs.Stress.{Wind, stress_of, cross_of, onshore_of}
use Rattle.forcing.proofs.StressLaws.{cross-sized, onshore-sized}
use Rattle.forcing.proofs.stresses.point_stress.Goals as goal

-- both parts fit
record Parts (w a : ℤ) : Type 0 where
  across : SFits w64 (stress_of w *ℤ sine_of a)
  along : SFits w64 (stress_of w *ℤ cosine_of a)

parts : {w a : ℤ} → Wind w → Angle a → Parts w a
unfolding cross_of onshore_of
parts {w} {a} h k = record { across = sized-fits (le_z_yes tt) (cross-sized w a h k); along = sized-fits (le_z_yes tt) (onshore-sized w a h k) }

pub overflow_mul-result : goal.overflow_mul-result
overflow_mul-result c = search (rules, parts c.args.wind.within c.args.angle.within)

pub overflow_mul-result-2 : goal.overflow_mul-result-2
overflow_mul-result-2 c = search (rules, parts c.args.wind.within c.args.angle.within)

pub returns : goal.returns
unfolding cross_of onshore_of
returns c = search (rules, parts c.args.wind.within c.args.angle.within)
