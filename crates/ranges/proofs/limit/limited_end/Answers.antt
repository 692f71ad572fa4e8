-- `limited_end` meets its contract. Assumes nothing.
use mathlib.Core.Path.{◌≡◌, ap, ap₂, ◌∙◌}
use mathlib.Core.List.{[], ◌∷◌}
use native.Mathlib.Omega.{arith}
use borrow.Author.Rules.{sfits_of}
use lib.IntN.{ℤ, pos, neg_ℤ, ◌-ℤ◌}
use lib.Signed.{le_z_yes}
use mir.Facts.{to_z-of_z}
use mir.Syntax.{w64}
use mir.Val.{SFits}
use Rattle.ranges.specs.Bounds.{Sized}
use Rattle.ranges.specs.Limited.{between}
use Rattle.ranges.proofs.EndsLaws.{of_own, of_other}
use Rattle.ranges.proofs.Fits.{held, sized-fits, sized-sub, sized-literal}
use Rattle.ranges.proofs.LinearSolver.{zomega₀, says}
use Rattle.ranges.proofs.limit.limited_end.Goals as goal

-- an end of c, which the code reads as x, and its negative
module _ {z x : ℤ} (w : Sized (pos 100000000000) z) (is : x ≡ z) where
  end_is : held x ≡ z
  end_is = rw is (to_z-of_z (sized-fits (le_z_yes tt) w))

  minus-fits : SFits w64 (pos 0 -ℤ z)
  minus-fits = sized-fits {a = pos 100000000000} (le_z_yes tt) (sized-sub (sized-literal 0) w)

  minus-is : held (pos 0 -ℤ held x) ≡ neg_ℤ z
  minus-is = ap (λ y. held (pos 0 -ℤ y)) end_is ∙ to_z-of_z minus-fits ∙ zomega₀ (z ∷ []) (search says depth 20) (omega arith)

pub returns : goal.returns
returns g c =
    let i = c.requires in
    let laws = g.met.E.RangeEnd.laws in
    let own = of_own laws (Sized (pos 100000000000)) c.args.c i.low i.high in
    let other = of_other laws (Sized (pos 100000000000)) c.args.c i.low i.high in
    let r : SFits w64 c.between.result = sfits_of c.between.type_inv in
    to_z-of_z r ∙ (simp (to_z-of_z, c.ranges.x) at c.between.ensures)
    ∙ ap₂ (λ least most. between least most c.args.x) (minus-is other c.ends-own.ensures.other) (end_is own c.ends-own.ensures.own)
