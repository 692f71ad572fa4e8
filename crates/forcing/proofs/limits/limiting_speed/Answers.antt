-- `limiting_speed` meets its contract. Assumes nothing.
use Rattle.std.proofs.Common.{◌∙◌, w64, FitsSigned}
use borrow.Author.Rules.{sfits_of}
use lib.IntN.{ℤ}
use lib.Signed.{le_z_yes}
use mir.Facts.{to_z-of_z}
use Rattle.ranges.specs.Fraction.{absℤ}
use Rattle.ranges.proofs.Fits.{sized-fits, sized-abs}
use Rattle.forcing.specs.Limit.{limit_divisor, limit_stress, limiting_speed, LimitIn}
use Rattle.forcing.proofs.LimitLaws.{divisor-in, stress-in}
use Rattle.forcing.proofs.limits.limiting_speed.Goals as goal

-- each number on the way fits
module _ {κ sum : ℤ} (i : LimitIn κ sum) where
  size : FitsSigned w64 (absℤ sum)
  size = sized-fits (le_z_yes tt) (sized-abs i.sum-in)

  divisor : FitsSigned w64 (limit_divisor κ)
  divisor = sized-fits (le_z_yes tt) (divisor-in i)

  stress : FitsSigned w64 (limit_stress sum)
  stress = sized-fits (le_z_yes tt) (stress-in i)

pub returns : goal.returns
unfolding limiting_speed
returns c =
    let i = c.requires in
    let r : FitsSigned w64 c.whole_root.result = sfits_of c.whole_root.type_inv in
    to_z-of_z r
    ∙ (simp (c.abs.ensures.value, to_z-of_z, c.ranges.friction, c.ranges.cross, size i, divisor i, stress i) at c.whole_root.ensures)
