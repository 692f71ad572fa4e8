-- A step of the march: the segments worked from sea to shore. A record is one step.
use Rattle.std.specs.Prelude.{Bool, cond, List, [], ◌∷◌, ℕ, zero, suc, ◌+◌, ℤ, pos, ◌+ℤ◌, ◌-ℤ◌, Result, Ok, Err}
use Rattle.ranges.specs.declared.Range.{Range}
use Rattle.forcing.specs.Quadrant.{sine_of}
use Rattle.forcing.specs.Stress.{cross_of, onshore_of}
use Rattle.records.specs.declared.Head.{Head}
use Rattle.records.specs.declared.Closing.{Closing}
use Rattle.records.specs.declared.Station.{Station}
use Rattle.records.specs.declared.Point.{Point}
use Rattle.records.specs.declared.Row.{Row}
use Rattle.records.specs.declared.Refusal.{Refusal}
use Rattle.records.specs.CheckOrder.{Check}
use Rattle.records.specs.Groups.{station_at, point_at, row_at}
use Rattle.records.specs.Rows.{fresh_row}
use Rattle.records.specs.Shapes.{Traverse, Record}
use Rattle.segment.specs.declared.Site.{Site}
use Rattle.segment.specs.declared.Weather.{Weather}
use Rattle.segment.specs.declared.Leg.{Leg}
use Rattle.segment.specs.Segment.{segment_of}
use Rattle.march.specs.declared.End.{End}
use Rattle.march.specs.declared.Setting.{Setting}

-- ---- what segment i, from 0, is given by the traverse. It lies between the points i and i + 1

abbrev pub friction_at : Traverse → ℕ → ℤ
friction_at t i = t.head.friction

abbrev pub site_of : ℤ → ℤ → Station → Station → Site
site_of sine friction a b = record { length = a.distance -ℤ b.distance; depths = a.depth +ℤ b.depth; sine = sine; friction = friction }

abbrev pub site_at : Traverse → ℕ → Site
site_at t i = site_of (sine_of t.head.latitude) (friction_at t i) (station_at t.points i) (station_at t.points (i + 1))

-- ---- and by the record: all is this record's, "Here and in the shore height, tide and deficits are this record's"

-- the sums over a segment's two ends of the cross and of the onshore stress
abbrev pub cross_sum : Point → Point → ℤ
cross_sum p q = cross_of p.wind p.angle +ℤ cross_of q.wind q.angle

abbrev pub onshore_sum : Point → Point → ℤ
onshore_sum p q = onshore_of p.wind p.angle +ℤ onshore_of q.wind q.angle

abbrev pub weather_of : ℤ → ℤ → Point → Point → Weather
weather_of seconds level p q = record {
  seconds = seconds;
  level = level;
  deficits = p.deficit +ℤ q.deficit;
  cross = cross_sum p q;
  onshore = onshore_sum p q;
}

-- initial + tide
abbrev pub level_of : Traverse → Record → ℤ
level_of t r = t.head.initial +ℤ r.closing.tide

abbrev pub weather_at : Traverse → Record → ℕ → Weather
weather_at t r i = weather_of r.closing.seconds (level_of t r) (point_at r.points i) (point_at r.points (i + 1))

-- ---- the row that it works from

-- a fresh traverse's row of segment i
abbrev pub fresh_row_at : Traverse → ℕ → Row
fresh_row_at t i = fresh_row

-- the one that a first record works from: "The first record, once past check 8, works as if all rows were fresh"
abbrev pub first_row_at : Traverse → ℕ → Row
first_row_at t i = fresh_row_at t i

abbrev pub working_row : Traverse → Bool → List ℤ → ℕ → Row
working_row t first rows i = cond first (first_row_at t i) (row_at rows i)

-- ---- the march

-- stopped by a refusal, or done with what each segment left
pub data March : Type 0 where
  stopped : Refusal → March
  done : List Leg → March

abbrev pub before : Leg → March → March
before leg (stopped refusal) = stopped refusal
before leg (done legs) = done (leg ∷ legs)

-- a segment that passed hands its setup on to the next
abbrev pub further : Result Leg Refusal → (Range → March) → March
further (Ok leg) rest = before leg (rest leg.setup)
further (Err refusal) rest = stopped refusal

-- k segments from segment i on, whatever a segment does
unfoldable pub march_by : (ℕ → Range → Result Leg Refusal) → ℕ → ℕ → Range → March
march_by segment zero i s = done []
march_by segment (suc k) i s = further (segment i s) (march_by segment k (i + 1))

unfoldable pub segment_at : Traverse → Record → Bool → List ℤ → ℕ → Range → Result Leg Refusal
segment_at t r first rows i s = segment_of (i + 1) first (site_at t i) (weather_at t r i) (working_row t first rows i) s

-- "S before segment 1 being the range 0 to 0"
abbrev pub no_setup : Range
no_setup = record { low = pos 0; high = pos 0 }

-- n segments
abbrev pub march_of : Traverse → Record → Bool → List ℤ → ℕ → March
march_of t r first rows n = march_by (segment_at t r first rows) n 0 no_setup

-- ---- the code's own names

-- what a point gives to the two segments that end there
abbrev pub end_of : Station → Point → End
end_of a p = record {
  distance = a.distance;
  depth = a.depth;
  deficit = p.deficit;
  cross = cross_of p.wind p.angle;
  onshore = onshore_of p.wind p.angle;
}

unfoldable pub end_at : List ℤ → List ℤ → ℕ → End
end_at points winds i = end_of (station_at points i) (point_at winds i)

-- what is the same for every segment
abbrev pub setting_of : Head → Closing → Bool → Setting
setting_of h c first = record { first = first; sine = sine_of h.latitude; friction = h.friction; seconds = c.seconds; level = h.initial +ℤ c.tide }

abbrev pub site_between : Setting → End → End → Site
site_between k a b = record { length = a.distance -ℤ b.distance; depths = a.depth +ℤ b.depth; sine = k.sine; friction = k.friction }

abbrev pub weather_between : Setting → End → End → Weather
weather_between k a b = record {
  seconds = k.seconds;
  level = k.level;
  deficits = a.deficit +ℤ b.deficit;
  cross = a.cross +ℤ b.cross;
  onshore = a.onshore +ℤ b.onshore;
}

abbrev pub chosen_row : Bool → Row → Row
chosen_row first row = cond first fresh_row row

-- the segment numbered `place` between two ends
abbrev pub segment_between : ℕ → Setting → End → End → Row → Range → Result Leg Refusal
segment_between place k a b row s = segment_of place k.first (site_between k a b) (weather_between k a b) (chosen_row k.first row) s

-- what the code answers: whether it came through, and the legs that its scratch holds
abbrev pub marched : Check → List Leg → March
marched (Ok _) legs = done legs
marched (Err refusal) legs = stopped refusal
