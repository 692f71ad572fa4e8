-- The sine table of document 01: 901 entries, one for each tenth of a degree from 0 to 90.0, in ten-thousandths. Everything here is exact.
use Rattle.std.specs.Prelude.{Bool, List, ℕ, ◌*◌, ℤ, pos, get_or}
use Rattle.std.specs.Int.Signed.{lt_z_yes}
use Rattle.ranges.specs.Fraction.{Frac, whole, ◌+F◌, ◌*F◌}
use Rattle.ranges.specs.Series.{◌-F◌, term}
use Rattle.ranges.specs.Nearest.{within_half, nearest_whole, NearestRule, TableHolds}

-- P(a) = a - a³/3! + a⁵/5! - .. + a¹³/13!
abbrev pub P : Frac → Frac
P a = a -F term a 3 +F term a 5 -F term a 7 +F term a 9 -F term a 11 +F term a 13

-- a = n·314159265/(1800·10⁸)
abbrev pub arc : ℕ → Frac
arc n = record { num = pos (n * 314159265); den = pos 180000000000; den_pos = lt_z_yes tt }

-- 10,000·P(a)
unfoldable pub scaled_sine : ℕ → Frac
scaled_sine n = whole (pos 10000) *F P (arc n)

-- document 01: "Entry n, from 0, holds the whole number within half a unit of 10,000·P(a)"
abbrev pub near_sine : ℕ → ℤ → Bool
near_sine n x = within_half (scaled_sine n) x

-- entry n
unfoldable pub sine_entry : ℕ → ℤ
sine_entry n = nearest_whole (scaled_sine n)

-- what is shown of each entry n up to 900: it is within half a unit, no other whole number is, and it lies from 0 to 10,000
abbrev pub SineRule : ℕ → ℤ → Type 0
SineRule n x = NearestRule (scaled_sine n) x

-- a table that holds the entries 0 to 900
abbrev pub TableRight : List ℕ → Type 0
TableRight table = TableHolds 901 sine_entry (λ (n : ℕ). pos (get_or table n 0))
