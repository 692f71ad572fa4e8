-- What the numbers of a list of winds and of points in the plane stand for.
use Rattle.std.specs.Prelude.{List, [], ◌∷◌, ℕ, length, ℤ}
use Rattle.records.specs.Groups.{wholes, group_at}
use Rattle.hurricane.specs.declared.WindRow.{WindRow}
use Rattle.hurricane.specs.declared.PlanePoint.{PlanePoint}

-- a row of the list: radius, wind
abbrev pub wind_count : List ℤ → ℕ
wind_count l = wholes 2 (length l)

abbrev pub wind_row_of : (ℕ → ℤ) → WindRow
wind_row_of f = record { radius = f 0; wind = f 1 }

abbrev pub wind_row_at : List ℤ → ℕ → WindRow
wind_row_at = group_at wind_row_of 2

abbrev pub of_wind_row : WindRow → List ℤ
of_wind_row w = w.radius ∷ w.wind ∷ []

-- a point: x, y, angle
abbrev pub site_count : List ℤ → ℕ
site_count l = wholes 3 (length l)

abbrev pub plane_point_of : (ℕ → ℤ) → PlanePoint
plane_point_of f = record { x = f 0; y = f 1; angle = f 2 }

abbrev pub plane_point_at : List ℤ → ℕ → PlanePoint
plane_point_at = group_at plane_point_of 3

abbrev pub of_plane_point : PlanePoint → List ℤ
of_plane_point p = p.x ∷ p.y ∷ p.angle ∷ []
