-- `damped_end` meets its contract. Assumes nothing.
use mathlib.Core.Path.{◌≡◌, refl, sym, ap, ◌∙◌}
use mathlib.Core.Bool.{Bool, true, false, cond}
use lib.IntN.{ℤ, pos, ◌+ℤ◌}
use lib.Signed.{lt_z}
use mir.Facts.{to_z-of_z}
use mir.Syntax.{w64}
use mir.Val.{SFits}
use Rattle.ranges.specs.declared.Range.{Range}
use Rattle.ranges.specs.Bounds.{DampedBounds}
use Rattle.ranges.specs.Ends.{EndRule, EndLaws}
use Rattle.ranges.specs.Damped.{damped_whole, damped_end}
use Rattle.ranges.proofs.DampedFits.{c-fits, v-fits, f-fits, d-fits, sum_fits}
use Rattle.ranges.proofs.EndsLaws.{of_own, of_other}
use Rattle.ranges.proofs.Fits.{held}
use Rattle.ranges.proofs.drag.damped_end.Goals as goal

-- with δ at one of its ends, d, which the code reads as x
module _ {c v f d x : ℤ} (i : DampedBounds c v f d) (is : x ≡ d) where
  bounds : DampedBounds (held c) (held v) (held f) (held x)
  bounds = simp (is, to_z-of_z, c-fits i, v-fits i, f-fits i, d-fits i) i

  value : (e : EndRule) (δ : Range) {r : ℤ} (t : Bool) → d ≡ cond t (e.other δ) (e.own δ) → lt_z (held (held v +ℤ held f)) (pos 0) ≡ t →
      SFits w64 r → r ≡ damped_whole e (held c) (held v) (held f) (held x) → held r ≡ damped_end e c v f δ
  value e δ t which test hr h =
      to_z-of_z hr ∙ (simp (is, to_z-of_z, c-fits i, v-fits i, f-fits i, d-fits i) at h)
      ∙ ap (damped_whole e c v f) (which ∙ ap (λ (u : Bool). cond u (e.other δ) (e.own δ)) (sym (simp (to_z-of_z, v-fits i, f-fits i, sum_fits i) at test)))

module _ {e : EndRule} (laws : EndLaws e) {c v f : ℤ} {δ : Range} (b : (DampedBounds c v f δ.low) × (DampedBounds c v f δ.high)) where
  at_own : DampedBounds c v f (e.own δ)
  at_own = of_own laws (DampedBounds c v f) δ b.0 b.1

  at_other : DampedBounds c v f (e.other δ)
  at_other = of_other laws (DampedBounds c v f) δ b.0 b.1

pub damped_whole-requires : goal.damped_whole-requires
damped_whole-requires g c = bounds (at_other g.met.E.RangeEnd.laws c.requires) c.ends-own.ensures.other

pub damped_whole-requires-else-v-f-lt0 : goal.damped_whole-requires-else-v-f-lt0
damped_whole-requires-else-v-f-lt0 g c = bounds (at_own g.met.E.RangeEnd.laws c.requires) c.ends-own.ensures.own

pub returns-then-v-f-lt0 : goal.returns-then-v-f-lt0
returns-then-v-f-lt0 g c =
    value (at_other g.met.E.RangeEnd.laws c.requires) c.ends-own.ensures.other g.E.RangeEnd.rule c.args.depth true refl
    c.if-v-f-lt0.true (record { sfits = c.damped_whole.type_inv }) c.damped_whole.ensures

pub returns-else-v-f-lt0 : goal.returns-else-v-f-lt0
returns-else-v-f-lt0 g c =
    value (at_own g.met.E.RangeEnd.laws c.requires) c.ends-own.ensures.own g.E.RangeEnd.rule c.args.depth false refl
    c.if-v-f-lt0.false (record { sfits = c.damped_whole-else-v-f-lt0.type_inv }) c.damped_whole-else-v-f-lt0.ensures
