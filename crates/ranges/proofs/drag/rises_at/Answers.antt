-- `rises_at` meets its contract. Assumes nothing.
use lib.IntN.{ℤ, pos, ◌*ℤ◌}
use lib.Signed.{le_z_yes}
use mir.Facts.{to_z-of_z}
use mir.Syntax.{w64}
use mir.Val.{SFits}
use Rattle.ranges.specs.Bounds.{RisesBounds}
use Rattle.ranges.specs.Fraction.{absℤ}
use Rattle.ranges.proofs.Fits.{sized-fits, sized-mul, sized-abs, sized-literal}
use Rattle.ranges.proofs.drag.rises_at.Goals as goal

-- each number on the way fits
module _ {c f d : ℤ} (i : RisesBounds c f d) where
  size : SFits w64 (absℤ f)
  size = sized-fits {a = pos 1000000} (le_z_yes tt) (sized-abs i.f-in)

  product : SFits w64 (c *ℤ absℤ f)
  product = sized-fits {a = pos 1000000000000} (le_z_yes tt) (sized-mul i.c-in (sized-abs i.f-in))

  square : SFits w64 (d *ℤ d)
  square = sized-fits {a = pos 10000000000} (le_z_yes tt) (sized-mul i.d-in i.d-in)

  hundred : SFits w64 (pos 100 *ℤ (d *ℤ d))
  hundred = sized-fits {a = pos 1000000000000} (le_z_yes tt) (sized-mul (sized-literal 100) (sized-mul i.d-in i.d-in))

pub returns : goal.returns
returns c =
    let i = c.requires in
    simp (c.abs.ensures.value, to_z-of_z, c.ranges.c, c.ranges.f, c.ranges.d, size i, product i, square i, hundred i)
