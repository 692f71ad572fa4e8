-- The table of e^(-m/100). Document 02: "A table gives e^(-m/100) in ten-thousandths, m from 0 to 1,000, each within half a unit of 10,000 divided
-- by the sum of (m/100)^k/k! for k from 0 to 40." Everything here is exact and worked out from that sum; no table stands here.
use Rattle.std.specs.Prelude.{◌≡◌, Bool, List, ℕ, suc, ◌≤◌, ◌<◌, ℤ, pos, length, get_or, ◌≤ℤ◌, ◌<ℤ◌}
use Rattle.std.specs.Int.Signed.{lt_z_yes}
use Rattle.ranges.specs.Fraction.{Frac, whole, ◌/F◌}
use Rattle.ranges.specs.Series.{term, sum_to}
use Rattle.ranges.specs.Nearest.{within_half, nearest_whole, NearestRule, TableHolds}

-- m/100
abbrev pub hundredths : ℕ → Frac
hundredths m = record { num = pos m; den = pos 100; den_pos = lt_z_yes tt }

-- the sum of (m/100)^k/k! for k from 0 to 40
abbrev pub power_sum : ℕ → Frac
power_sum m = sum_to (term (hundredths m)) 40

-- 10,000 divided by it
unfoldable pub scaled_factor : ℕ → Frac
scaled_factor m = whole (pos 10000) /F power_sum m

-- x is within half a unit of it
abbrev pub near_factor : ℕ → ℤ → Bool
near_factor m x = within_half (scaled_factor m) x

-- entry m
unfoldable pub factor_entry : ℕ → ℤ
factor_entry m = nearest_whole (scaled_factor m)

-- what is shown of each entry m up to 1,000: it is within half a unit, no other whole number is, and it lies from 0 to 10,000
abbrev pub FactorRule : ℕ → ℤ → Type 0
FactorRule m x = NearestRule (scaled_factor m) x

-- and of all entries together
pub record TableRule : Type 0 where
  -- what 10,000 is divided by is above nought
  pub divided : (m : ℕ) → pos 0 <ℤ (power_sum m).num
  pub entry : (m : ℕ) → m < 1001 → FactorRule m (factor_entry m)
  pub first : factor_entry 0 ≡ pos 10000
  pub last : (m : ℕ) → 991 ≤ m → m < 1001 → factor_entry m ≡ pos 0
  -- none is above the one before
  pub falling : (m : ℕ) → suc m < 1001 → factor_entry (suc m) ≤ℤ factor_entry m

-- a table that holds the entries 0 to 1,000
pub record TableRight (table : List ℤ) : Type 0 where
  pub long : length table ≡ 1001
  pub holds : TableHolds 1001 factor_entry (λ (m : ℕ). get_or table m (pos 0))
