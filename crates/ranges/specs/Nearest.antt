-- The whole number nearest to a fraction, and tables whose entries are those numbers. "Within half a unit" is document 01's rule for the sines
-- and document 02's for e^(-m/100), both in ten-thousandths.
use Rattle.std.specs.Prelude.{◌≡◌, Bool, ◌&&◌, ℕ, ◌<◌, T, ℤ, pos, ◌+ℤ◌, ◌-ℤ◌, ◌*ℤ◌, ◌≤ℤ◌}
use Rattle.std.specs.Int.Signed.{le_z}
use Rattle.ranges.specs.Division.{floor_div}
use Rattle.ranges.specs.Fraction.{Frac}

-- x is within half a unit of y: y - 1/2 ≤ x ≤ y + 1/2, multiplied by twice y's denominator
abbrev pub within_half : Frac → ℤ → Bool
within_half y x = le_z (pos 2 *ℤ y.num -ℤ y.den) (pos 2 *ℤ x *ℤ y.den) && le_z (pos 2 *ℤ x *ℤ y.den) (pos 2 *ℤ y.num +ℤ y.den)

-- y + 1/2, rounded down: a whole number within half a unit of y
abbrev pub nearest_whole : Frac → ℤ
nearest_whole y = floor_div (pos 2 *ℤ y.num +ℤ y.den) (pos 2 *ℤ y.den)

-- what is shown of an entry x for y: it is within half a unit, no other whole number is, and it lies from 0 to 10,000
pub record NearestRule (y : Frac) (x : ℤ) : Type 0 where
  pub near : T (within_half y x)
  pub only : (z : ℤ) → T (within_half y z) → z ≡ x
  pub low : pos 0 ≤ℤ x
  pub high : x ≤ℤ pos 10000

-- a table, read by place, that holds the entries below `count`
pub record TableHolds (count : ℕ) (entry_of table : ℕ → ℤ) : Type 0 where
  pub entry : (n : ℕ) → n < count → table n ≡ entry_of n
