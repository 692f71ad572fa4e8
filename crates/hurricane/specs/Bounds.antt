-- What the checks have let pass, which a field holds and the inner functions require: so no number on the way leaves 64 bits, and nothing past
-- a slice is read.
use Rattle.std.specs.Prelude.{List, ℕ, ◌+◌, ◌≤◌, ◌<◌, ◌≡◌, length, ℤ, pos, ◌-ℤ◌, ◌≤ℤ◌, ◌<ℤ◌}
use Rattle.ranges.specs.Bounds.{Sized}
use Rattle.records.specs.Groups.{at}
use Rattle.hurricane.specs.declared.Hurricane.{Hurricane}
use Rattle.hurricane.specs.declared.WindRow.{WindRow}
use Rattle.hurricane.specs.declared.PlanePoint.{PlanePoint}
use Rattle.hurricane.specs.Groups.{wind_count, wind_row_at, site_count, plane_point_at}

-- of two points in the plane
pub record ApartIn (x₀ y₀ x y : ℤ) : Type 0 where
  pub x₀-in : Sized (pos 10000) x₀
  pub y₀-in : Sized (pos 10000) y₀
  pub x-in : Sized (pos 10000) x
  pub y-in : Sized (pos 10000) y

-- of two pressures: the edge is not below the centre
pub record DropIn (central edge : ℤ) : Type 0 where
  pub low : pos 0 ≤ℤ (edge -ℤ central)
  pub high : (edge -ℤ central) ≤ℤ pos 300

pub record HurricaneIn (h : Hurricane) : Type 0 where
  pub drop : DropIn h.central h.edge
  pub radius-low : pos 1 ≤ℤ h.radius
  pub radius-high : h.radius ≤ℤ pos 2000
  pub x-in : Sized (pos 10000) h.x
  pub y-in : Sized (pos 10000) h.y

pub record PlanePointIn (p : PlanePoint) : Type 0 where
  pub x-in : Sized (pos 10000) p.x
  pub y-in : Sized (pos 10000) p.y
  pub angle-low : pos 0 ≤ℤ p.angle
  pub angle-high : p.angle ≤ℤ pos 3599

pub record WindRowIn (w : WindRow) : Type 0 where
  pub radius-low : pos 0 ≤ℤ w.radius
  pub radius-high : w.radius ≤ℤ pos 30000
  pub wind-low : pos 0 ≤ℤ w.wind
  pub wind-high : w.wind ≤ℤ pos 2000

pub record WindsIn (winds : List ℤ) : Type 0 where
  pub some : 1 ≤ wind_count winds
  pub rows : (i : ℕ) → i < wind_count winds → WindRowIn (wind_row_at winds i)
  pub rising : (i : ℕ) → i + 1 < wind_count winds → (wind_row_at winds i).radius <ℤ (wind_row_at winds (i + 1)).radius

abbrev pub SitesIn : List ℤ → Type 0
SitesIn sites = (i : ℕ) → i < site_count sites → PlanePointIn (plane_point_at sites i)

-- a table of factors in ten-thousandths, m from 0 to 1,000
pub record TableIn (table : List ℤ) : Type 0 where
  pub full : length table ≡ 1001
  pub low : (m : ℕ) → m < 1001 → pos 0 ≤ℤ at table m
  pub high : (m : ℕ) → m < 1001 → at table m ≤ℤ pos 10000

-- two rows one after the other, and a distance between them
pub record BetweenRows (a b : WindRow) (r : ℤ) : Type 0 where
  pub first : WindRowIn a
  pub second : WindRowIn b
  pub from : a.radius ≤ℤ r
  pub to : r <ℤ b.radius
