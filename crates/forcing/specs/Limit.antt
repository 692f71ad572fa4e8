-- What limits the flux of a segment, document 02's Q-6 (the errata of TM-35): the limiting flux is c = b·δ/1,000. Its b, a flux over a water depth, is
-- the limiting speed, in 0.001 ft/s. `LimitingSpeedRight` says the same by the document's words; `proofs/LimitLaws.antt` has it as `speed-right`.
use Rattle.std.specs.Prelude.{ℤ, pos, ◌*ℤ◌, ◌≤ℤ◌, ◌<ℤ◌}
use Rattle.ranges.specs.Bounds.{Sized}
use Rattle.ranges.specs.Fraction.{absℤ}
use Rattle.ranges.specs.Root.{root_of}

-- 225,000·κ, and "242 times the size of this record's cross-stress sum over the two ends"
abbrev pub limit_divisor : ℤ → ℤ
limit_divisor κ = pos 225000 *ℤ κ

abbrev pub limit_stress : ℤ → ℤ
limit_stress sum = pos 242 *ℤ absℤ sum

-- b
unfoldable pub limiting_speed : ℤ → ℤ → ℤ
limiting_speed κ sum = root_of (limit_divisor κ) (limit_stress sum)

-- "b is the greatest whole number with 225,000·κ·b² not above 242 times the size"
pub record LimitingSpeedRight : Type 0 where
  pub within : (κ sum : ℤ) → pos 0 <ℤ κ → (limit_divisor κ *ℤ (limiting_speed κ sum *ℤ limiting_speed κ sum)) ≤ℤ limit_stress sum
  pub greatest : (κ sum b : ℤ) → pos 0 <ℤ κ → (limit_divisor κ *ℤ (b *ℤ b)) ≤ℤ limit_stress sum → b ≤ℤ limiting_speed κ sum

-- the limits of friction and sum
pub record LimitIn (κ sum : ℤ) : Type 0 where
  pub friction-low : pos 0 <ℤ κ
  pub friction : Sized (pos 50) κ
  pub sum-in : Sized (pos 2572800000000) sum
