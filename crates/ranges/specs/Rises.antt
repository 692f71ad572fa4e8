-- Where the damped sum rises with v throughout, as far as the code looks: a test of its own, no part of what the range is. What it is worth is
-- `proofs/DampedRises.antt`: there the sum is least at the low end of v and greatest at the high one.
use Rattle.std.specs.Prelude.{Bool, ◌&&◌, ℤ, pos, ◌*ℤ◌}
use Rattle.std.specs.Int.Signed.{le_z}
use Rattle.ranges.specs.declared.Range.{Range}
use Rattle.ranges.specs.Fraction.{absℤ}

-- c·|f| is not above 100δ²
abbrev pub rises_at : ℤ → ℤ → ℤ → Bool
rises_at c f d = le_z (c *ℤ absℤ f) (pos 100 *ℤ (d *ℤ d))

abbrev pub ordered : Range → Bool
ordered r = le_z r.low r.high

-- the ranges are in order, and it is so at the least δ
unfoldable pub rises : ℤ → Range → ℤ → Range → Bool
rises c v f δ = ordered v && (ordered δ && rises_at c f δ.low)
