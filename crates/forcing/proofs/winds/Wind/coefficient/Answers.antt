-- `coefficient` meets its contract. Assumes nothing.
use lib.IntN.{ℤ, ◌+ℤ◌, ◌-ℤ◌, ◌*ℤ◌}
use lib.Signed.{◌<ℤ◌, le_z_yes}
use mir.Syntax.{w64}
use mir.Val.{SFits}
use Rattle.std.proofs.Common.{rules}
use Rattle.ranges.proofs.Branches.{le-no}
use Rattle.ranges.proofs.Fits.{sized-fits}
use Rattle.forcing.specs.Coefficient.{K₁, K₂, Wc}
use Rattle.forcing.specs.Stress.{Wind}
use Rattle.forcing.proofs.StressLaws.{square-sized, base-sized, excess-sized, excess-square-sized, added-sized, sum-sized}
use Rattle.forcing.proofs.winds.Wind.coefficient.Goals as goal

-- each number that the code makes above W_c fits
record Steps (w : ℤ) : Type 0 where
  square : SFits w64 (w *ℤ w)
  base : SFits w64 (K₁ *ℤ (w *ℤ w))
  excess : SFits w64 (w -ℤ Wc)
  excess-square : SFits w64 ((w -ℤ Wc) *ℤ (w -ℤ Wc))
  added : SFits w64 (K₂ *ℤ ((w -ℤ Wc) *ℤ (w -ℤ Wc)))
  sum : SFits w64 (K₁ *ℤ (w *ℤ w) +ℤ K₂ *ℤ ((w -ℤ Wc) *ℤ (w -ℤ Wc)))

steps : {w : ℤ} → Wind w → Wc <ℤ w → Steps w
steps {w} h l = record {
  square = sized-fits (le_z_yes tt) (square-sized w h);
  base = sized-fits (le_z_yes tt) (base-sized w h);
  excess = sized-fits (le_z_yes tt) (excess-sized w h l);
  excess-square = sized-fits (le_z_yes tt) (excess-square-sized w h l);
  added = sized-fits (le_z_yes tt) (added-sized w h l);
  sum = sized-fits (le_z_yes tt) (sum-sized w h l);
}

-- above W_c
pub returns : goal.returns
returns c = search (rules, steps, le-no)

pub overflow_add-numerator : goal.overflow_add-numerator
overflow_add-numerator c = search (rules, steps)
