-- Force F of a segment, document 01, in flux units: Δt·Z·121/22,500,000,000,000. Z is the sum of four cross stresses: both ends, previous record
-- (`old`, its two are summed in the row) and this one (`new`, its two summed). In the first record F is 0.
use Rattle.std.specs.Prelude.{Bool, true, false, ℤ, pos, ◌+ℤ◌, ◌*ℤ◌, ◌≤ℤ◌}
use Rattle.std.specs.Int.Signed.{lt_z_yes}
use Rattle.ranges.specs.declared.Range.{Range}
use Rattle.ranges.specs.Bounds.{Sized}
use Rattle.ranges.specs.Division.{floor_div, ceil_div}
use Rattle.ranges.specs.Fraction.{Frac, whole}

-- the longest seconds of a step of the march, document 01's longest Δt
abbrev pub step_seconds : ℤ
step_seconds = pos 3600

-- the limits of Δt and of the two sums
pub record ForceBounds (seconds old new : ℤ) : Type 0 where
  pub seconds-low : pos 0 ≤ℤ seconds
  pub seconds-high : seconds ≤ℤ step_seconds
  pub old-in : Sized (pos 2572800000000) old
  pub new_in : Sized (pos 2572800000000) new

-- Δt·Z·121
abbrev pub force_top : ℤ → ℤ → ℤ → ℤ
force_top seconds old new = seconds *ℤ (old +ℤ new) *ℤ pos 121

abbrev pub force_bottom : ℤ
force_bottom = pos 22500000000000

-- F exactly
unfoldable pub force_fraction : Bool → ℤ → ℤ → ℤ → Frac
force_fraction true seconds old new = whole (pos 0)
force_fraction false seconds old new = record { num = force_top seconds old new; den = force_bottom; den_pos = lt_z_yes tt }

-- F rounded outward
unfoldable pub force_of : Bool → ℤ → ℤ → ℤ → Range
force_of true seconds old new = record { low = pos 0; high = pos 0 }
force_of false seconds old new = record { low = floor_div (force_top seconds old new) force_bottom; high = ceil_div (force_top seconds old new) force_bottom }
