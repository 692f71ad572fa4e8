-- `damped_whole` meets its contract. Assumes nothing.
use mathlib.Core.Path.{◌≡◌, ap, ap₂, ◌∙◌}
use lib.IntN.{ℤ, pos, ◌+ℤ◌, ◌*ℤ◌}
use mir.Facts.{to_z-of_z}
use mir.Syntax.{w64}
use mir.Val.{SFits}
use Rattle.ranges.specs.Bounds.{DampedBounds}
use Rattle.ranges.specs.Damped.{damped_top, damped_bottom}
use Rattle.ranges.specs.Fraction.{absℤ}
use Rattle.ranges.proofs.DampedFits.{c-fits, v-fits, f-fits, d-fits, dd-fits, square-fits, abs-fits, drag-fits, sum_fits, top-fits, bottom-fits, bottom-pos}
use Rattle.ranges.proofs.Fits.{held}
use Rattle.ranges.proofs.drag.damped_whole.Goals as goal

-- the numerator and the divisor, as the machine comes to them. a is what `abs` gives
module _ {c v f d : ℤ} (i : DampedBounds c v f d) where
  square : held (pos 100 *ℤ held (held d *ℤ held d)) ≡ pos 100 *ℤ (d *ℤ d)
  square = simp (to_z-of_z, d-fits i, dd-fits i, square-fits i)

  top : held (held v +ℤ held f) *ℤ held (pos 100 *ℤ held (held d *ℤ held d)) ≡ damped_top v f d
  top = simp (square, to_z-of_z, v-fits i, f-fits i, sum_fits i)

  bottom : {a : ℤ} → a ≡ absℤ (held v) → held (pos 100 *ℤ held (held d *ℤ held d)) +ℤ held (held c *ℤ held a) ≡ damped_bottom c v d
  bottom e = simp (square, e, to_z-of_z, v-fits i, c-fits i, abs-fits i, drag-fits i)

pub overflow_mul-v : goal.overflow_mul-v
overflow_mul-v g c = rw (top c.requires) (top-fits c.requires)

pub overflow_add-square : goal.overflow_add-square
overflow_add-square g c = rw (bottom c.requires c.abs.ensures.value) (bottom-fits c.requires)

pub round-requires : goal.round-requires
round-requires g c = rw (bottom c.requires c.abs.ensures.value, to_z-of_z (bottom-fits c.requires)) (bottom-pos c.requires)

pub returns : goal.returns
returns g c =
    let r : SFits w64 c.round.result = record { sfits = c.round.type_inv } in
    to_z-of_z r ∙ c.round.ensures
    ∙ ap₂ g.E.RangeEnd.rule.rounded
    (ap held (top c.requires) ∙ to_z-of_z (top-fits c.requires))
    (ap held (bottom c.requires c.abs.ensures.value) ∙ to_z-of_z (bottom-fits c.requires))
