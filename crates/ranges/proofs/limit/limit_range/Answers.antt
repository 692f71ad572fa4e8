-- `limit_range` meets its contract. Assumes nothing.
use mathlib.Core.Path.{ap₂, ◌∙◌}
use borrow.Author.Rules.{sfits_of}
use lib.IntN.{ℤ, pos, ◌*ℤ◌}
use lib.Signed.{le_z_yes}
use mir.Facts.{to_z-of_z}
use mir.Syntax.{w64}
use mir.Val.{SFits}
use Rattle.ranges.specs.declared.Range.{Range}
use Rattle.ranges.specs.Bounds.{LimitBounds}
use Rattle.ranges.proofs.Fits.{sized-fits, sized-mul}
use Rattle.ranges.proofs.limit.limit_range.Goals as goal

-- each number on the way fits
module _ {b : ℤ} {δ : Range} (i : LimitBounds b δ) where
  low-fits : SFits w64 δ.low
  low-fits = sized-fits (le_z_yes tt) i.low

  high-fits : SFits w64 δ.high
  high-fits = sized-fits (le_z_yes tt) i.high

  low-product : SFits w64 (b *ℤ δ.low)
  low-product = sized-fits {a = pos 100000000000} (le_z_yes tt) (sized-mul i.b-in i.low)

  high-product : SFits w64 (b *ℤ δ.high)
  high-product = sized-fits {a = pos 100000000000} (le_z_yes tt) (sized-mul i.b-in i.high)

pub returns : goal.returns
returns c =
    let i = c.requires in
    let low : SFits w64 c.round-low.result = sfits_of c.round-low.type_inv in
    let high : SFits w64 c.round-high.result = sfits_of c.round-high.type_inv in
    ap₂ (λ (x y : ℤ). record { low = x; high = y })
    (to_z-of_z low ∙ (simp (to_z-of_z, c.ranges.b, low-fits i, low-product i) at c.round-low.ensures))
    (to_z-of_z high ∙ (simp (to_z-of_z, c.ranges.b, high-fits i, high-product i) at c.round-high.ensures))
