-- The hurricane's field at a point of the plane: document 02, Q-1, and Q-4 for a calm, a sentence to a line. `factor m` is e^(-m/100) in ten-thousandths.
use Rattle.std.specs.Prelude.{cond, List, ℕ, zero, suc, ◌+◌, ◌-◌, ℤ, pos, nat_abs, ◌+ℤ◌, ◌-ℤ◌, ◌*ℤ◌}
use Rattle.std.specs.Int.Signed.{lt_z}
use Rattle.ranges.specs.Division.{floor_div}
use Rattle.ranges.specs.Range.{lesser}
use Rattle.ranges.specs.Root.{root_of}
use Rattle.records.specs.declared.Point.{Point}
use Rattle.records.specs.Limits.{calm}
use Rattle.hurricane.specs.declared.Hurricane.{Hurricane}
use Rattle.hurricane.specs.declared.WindRow.{WindRow}
use Rattle.hurricane.specs.declared.PlanePoint.{PlanePoint}
use Rattle.hurricane.specs.Groups.{wind_count, wind_row_at}

-- "r is the whole root, rounded down", of the squared distance from the centre at x₀, y₀
unfoldable pub distance_of : ℤ → ℤ → ℤ → ℤ → ℤ
distance_of x₀ y₀ x y = root_of (pos 1) ((x -ℤ x₀) *ℤ (x -ℤ x₀) +ℤ (y -ℤ y₀) *ℤ (y -ℤ y₀))

-- m: "R/r is taken in hundredths, rounded down, and 1,000 stands for anything larger or r = 0"
unfoldable pub hundredths_of : ℤ → ℤ → ℤ
hundredths_of radius r = cond (lt_z (pos 0) r) (lesser (floor_div (pos 100 *ℤ radius) r) (pos 1000)) (pos 1000)

-- "The deficit at distance r is (edge - centre)·(1 - e^(-R/r)), rounded down"
unfoldable pub deficit_of : (ℕ → ℤ) → ℤ → ℤ → ℕ → ℤ
deficit_of factor central edge m = floor_div ((edge -ℤ central) *ℤ (pos 10000 -ℤ factor m)) (pos 10000)

-- "straight between rows and rounded down": the wind itself is rounded, not its change from a row
unfoldable pub straight : WindRow → WindRow → ℤ → ℤ
straight a b r = floor_div (a.wind *ℤ (b.radius -ℤ a.radius) +ℤ (b.wind -ℤ a.wind) *ℤ (r -ℤ a.radius)) (b.radius -ℤ a.radius)

-- from row i on, with k more behind it: "beyond the last, the end row's wind holds"
unfoldable pub wind_from : List ℤ → ℤ → ℕ → ℕ → ℤ
wind_from winds r zero i = (wind_row_at winds i).wind
wind_from winds r (suc k) i =
    cond (lt_z r (wind_row_at winds (i + 1)).radius) (straight (wind_row_at winds i) (wind_row_at winds (i + 1)) r) (wind_from winds r k (i + 1))

-- "inside the first radius", the first row's
unfoldable pub wind_of : List ℤ → ℤ → ℤ
wind_of winds r = cond (lt_z r (wind_row_at winds 0).radius) (wind_row_at winds 0).wind (wind_from winds r (wind_count winds - 1) 0)

-- the angle beside a wind that is made: "Each point's angle is given", and of a wind of 0, Q-4: "a calm that Q-1 makes gets angle 0"
abbrev pub angle_for : ℤ → ℤ → ℤ
angle_for wind angle = cond (calm wind) (pos 0) angle

-- what is made at a point at distance r
abbrev pub point_by : (ℕ → ℤ) → Hurricane → List ℤ → ℤ → ℤ → Point
point_by factor h winds angle r = record {
  wind = wind_of winds r;
  angle = angle_for (wind_of winds r) angle;
  deficit = deficit_of factor h.central h.edge (nat_abs (hundredths_of h.radius r));
}

unfoldable pub point_for : (ℕ → ℤ) → Hurricane → List ℤ → PlanePoint → Point
point_for factor h winds p = point_by factor h winds p.angle (distance_of h.x h.y p.x p.y)
