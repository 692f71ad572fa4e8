-- The limits of document 01's table of quantities and, of a calm, of document 02, once and by name, and what meets them. Both ends belong to a limit.
use Rattle.std.specs.Prelude.{Bool, ◌&&◌, ◌||◌, not, cond, ℕ, leb, ℤ, pos, negsuc}
use Rattle.std.specs.Int.Signed.{lt_z, le_z}
use Rattle.ranges.specs.declared.Range.{Range}
use Rattle.records.specs.declared.Head.{Head}
use Rattle.records.specs.declared.Station.{Station}
use Rattle.records.specs.declared.Point.{Point}
use Rattle.records.specs.declared.Row.{Row}
use Rattle.records.specs.Rows.{row_flux}

-- low ≤ x ≤ high
unfoldable pub inside : ℤ → ℤ → ℤ → Bool
inside low high x = not (lt_z x low) && le_z x high

-- both ends of a range
unfoldable pub range_inside : ℤ → ℤ → Range → Bool
range_inside low high r = inside low high r.low && inside low high r.high

-- ---- a traverse: "A traverse has 2 to 65 points"

abbrev pub most_points : ℕ
most_points = 65

unfoldable pub count_ok : ℕ → Bool
count_ok n = leb 2 n && leb n most_points

-- document 02, Q-5: the harbour panel, a build of the march "with 16 segments at most", so 17 points
abbrev pub panel_points : ℕ
panel_points = 17

-- whether a build whose traverses may have `most` points takes so many
unfoldable pub build_has : ℕ → ℕ → Bool
build_has most n = leb n most

abbrev pub latitude_ok : ℤ → Bool
latitude_ok = inside (pos 0) (pos 900)

abbrev pub friction_ok : ℤ → Bool
friction_ok = inside (pos 10) (pos 50)

abbrev pub initial_ok : ℤ → Bool
initial_ok = inside (negsuc 999) (pos 1000)

unfoldable pub head_ok : Head → Bool
head_ok h = latitude_ok h.latitude && (friction_ok h.friction && initial_ok h.initial)

abbrev pub distance_ok : ℤ → Bool
distance_ok = inside (pos 0) (pos 6400)

abbrev pub bed_ok : ℤ → Bool
bed_ok = inside (pos 0) (pos 10000)

unfoldable pub station_ok : Station → Bool
station_ok s = distance_ok s.distance && bed_ok s.depth

-- the length of a segment: "Each distance is 1 to 100 less than the one before and the last is 0"
abbrev pub length_ok : ℤ → Bool
length_ok = inside (pos 1) (pos 100)

abbrev pub shore_ok : ℤ → Bool
shore_ok = inside (pos 0) (pos 0)

-- ---- a record

abbrev pub tide_ok : ℤ → Bool
tide_ok = inside (negsuc 1999) (pos 2000)

-- the longest seconds of a record; the longest of a step of the march is `forcing`'s own name, `step_seconds`
abbrev pub record_seconds : ℤ
record_seconds = pos 3600

-- seconds of a first record, and of a later one
abbrev pub first_seconds_ok : ℤ → Bool
first_seconds_ok = inside (pos 0) (pos 0)

abbrev pub later_seconds_ok : ℤ → Bool
later_seconds_ok = inside (pos 1) record_seconds

unfoldable pub seconds_ok : Bool → ℤ → Bool
seconds_ok started x = cond started (later_seconds_ok x) (first_seconds_ok x)

abbrev pub elapsed_ok : ℤ → Bool
elapsed_ok = inside (pos 0) (pos 1000000000)

abbrev pub wind_ok : ℤ → Bool
wind_ok = inside (pos 0) (pos 2000)

abbrev pub angle_ok : ℤ → Bool
angle_ok = inside (pos 0) (pos 3599)

abbrev pub deficit_ok : ℤ → Bool
deficit_ok = inside (pos 0) (pos 300)

unfoldable pub point_ok : Point → Bool
point_ok p = wind_ok p.wind && (angle_ok p.angle && deficit_ok p.deficit)

-- a wind of 0
abbrev pub calm : ℤ → Bool
calm = inside (pos 0) (pos 0)

-- document 02, Q-4: "A wind of 0 must carry angle 0"
abbrev pub direction_ok : ℤ → ℤ → Bool
direction_ok wind angle = not (calm wind) || inside (pos 0) (pos 0) angle

unfoldable pub calm_ok : Point → Bool
calm_ok p = direction_ok p.wind p.angle

-- ---- a march

abbrev pub water_ok : Range → Bool
water_ok = range_inside (pos 100) (pos 100000)

abbrev pub flux_ok : Range → Bool
flux_ok = range_inside (negsuc 999999) (pos 1000000)

abbrev pub setup_ok : Range → Bool
setup_ok = range_inside (negsuc 999999) (pos 1000000)

-- ---- a row: "a row's low above its high or past its limits"

abbrev pub cross_ok : ℤ → Bool
cross_ok = inside (negsuc 2572799999999) (pos 2572800000000)

unfoldable pub row_ok : Row → Bool
row_ok v = le_z v.low v.high && (flux_ok (row_flux v) && cross_ok v.cross)
