-- Document 02's limits of what a storm record is made from, once and by name, and what meets them. Both ends belong to a limit.
use Rattle.std.specs.Prelude.{Bool, ◌&&◌, ℕ, leb, ℤ, pos, negsuc, ◌-ℤ◌}
use Rattle.records.specs.Limits.{inside, wind_ok, angle_ok}
use Rattle.hurricane.specs.declared.Hurricane.{Hurricane}
use Rattle.hurricane.specs.declared.WindRow.{WindRow}
use Rattle.hurricane.specs.declared.PlanePoint.{PlanePoint}

-- "Pressures run from 2,500 to 3,200 hundredths of an inch and differ by at most 300"; "an edge pressure below the centre" is refused
abbrev pub pressure_ok : ℤ → Bool
pressure_ok = inside (pos 2500) (pos 3200)

abbrev pub drop_ok : ℤ → Bool
drop_ok = inside (pos 0) (pos 300)

unfoldable pub pressures_ok : ℤ → ℤ → Bool
pressures_ok central edge = pressure_ok central && (pressure_ok edge && drop_ok (edge -ℤ central))

-- "R runs from 1 to 2,000 tenths of a mile"
abbrev pub radius_ok : ℤ → Bool
radius_ok = inside (pos 1) (pos 2000)

-- "Centre and points have plane coordinates in tenths of a mile within ±10,000"
abbrev pub plane_ok : ℤ → Bool
plane_ok = inside (negsuc 9999) (pos 10000)

unfoldable pub hurricane_ok : Hurricane → Bool
hurricane_ok h = pressures_ok h.central h.edge && (radius_ok h.radius && (plane_ok h.x && plane_ok h.y))

-- "a list of 1 to 50 radii, each 0 to 30,000 tenths of a mile"; a wind has the limits of a record's
unfoldable pub wind_count_ok : ℕ → Bool
wind_count_ok n = leb 1 n && leb n 50

abbrev pub wind_radius_ok : ℤ → Bool
wind_radius_ok = inside (pos 0) (pos 30000)

unfoldable pub wind_row_ok : WindRow → Bool
wind_row_ok w = wind_radius_ok w.radius && wind_ok w.wind

-- "Each point's angle is given": it has the limits of a record's
unfoldable pub plane_point_ok : PlanePoint → Bool
plane_point_ok p = plane_ok p.x && (plane_ok p.y && angle_ok p.angle)
