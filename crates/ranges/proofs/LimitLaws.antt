-- How large a limit can be. Assumes nothing.
use lib.IntN.{ℤ, pos, ◌*ℤ◌}
use lib.Signed.{lt_z_yes}
use Rattle.ranges.specs.declared.Range.{Range}
use Rattle.ranges.specs.Bounds.{LimitBounds, LimitRange}
use Rattle.ranges.specs.Limited.{thousand, limit_of}
use Rattle.ranges.proofs.DivisionLaws.{floor-sized, ceil-sized}
use Rattle.ranges.proofs.Fits.{sized-mul}

pub limit_within : {b : ℤ} {δ : Range} → LimitBounds b δ → LimitRange (limit_of b δ)
limit_within {b} {δ} i = record {
  low = floor-sized (pos 100000000000) (b *ℤ δ.low) thousand (sized-mul i.b-in i.low) (lt_z_yes tt);
  high = ceil-sized (pos 100000000000) (b *ℤ δ.high) thousand (sized-mul i.b-in i.high) (lt_z_yes tt);
}
