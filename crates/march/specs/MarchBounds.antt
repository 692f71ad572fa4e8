-- What the functions of the march are given: numbers that the checks before it let pass.
use Rattle.std.specs.Prelude.{List, ℕ, ◌+◌, ◌*◌, ◌≤◌, ◌<◌, length, ℤ, pos, ◌-ℤ◌, ◌≤ℤ◌, ◌<ℤ◌}
use Rattle.ranges.specs.declared.Range.{Range}
use Rattle.ranges.specs.Bounds.{Sized}
use Rattle.forcing.specs.Quadrant.{Angle}
use Rattle.forcing.specs.Stress.{Wind}
use Rattle.records.specs.declared.Head.{Head}
use Rattle.records.specs.declared.Closing.{Closing}
use Rattle.records.specs.declared.Station.{Station}
use Rattle.records.specs.declared.Point.{Point}
use Rattle.records.specs.declared.Row.{Row}
use Rattle.records.specs.Groups.{station_at, point_at, row_at}
use Rattle.records.specs.Shapes.{Traverse, Record}
use Rattle.segment.specs.Segment.{RowIn, SetupIn}
use Rattle.march.specs.declared.End.{End}
use Rattle.march.specs.declared.Setting.{Setting}

pub record StationIn (a : Station) : Type 0 where
  pub distance : Sized (pos 6400) a.distance
  pub depth : Sized (pos 10000) a.depth

pub record PointIn (p : Point) : Type 0 where
  pub wind : Wind p.wind
  pub angle : Angle p.angle
  pub deficit : Sized (pos 300) p.deficit

-- a segment's length: 1 to 100, and less is asked
pub record LengthIn (from to : ℤ) : Type 0 where
  pub low : pos 0 ≤ℤ (from -ℤ to)
  pub high : Sized (pos 100) (from -ℤ to)

pub record EndIn (a : End) : Type 0 where
  pub distance : Sized (pos 6400) a.distance
  pub depth : Sized (pos 10000) a.depth
  pub deficit : Sized (pos 300) a.deficit
  pub cross : Sized (pos 1286400000000) a.cross
  pub onshore : Sized (pos 1286400000000) a.onshore

pub record SettingFits (k : Setting) : Type 0 where
  pub sine-low : pos 0 ≤ℤ k.sine
  pub sine : Sized (pos 10000) k.sine
  pub friction-low : pos 0 <ℤ k.friction
  pub friction : Sized (pos 50) k.friction
  pub seconds-low : pos 0 ≤ℤ k.seconds
  pub seconds : Sized (pos 3600) k.seconds
  pub level : Sized (pos 3000) k.level

pub record BetweenIn (k : Setting) (a b : End) (row : Row) (s : Range) : Type 0 where
  pub setting : SettingFits k
  pub sea : EndIn a
  pub shore : EndIn b
  pub length : LengthIn a.distance b.distance
  pub row_in : RowIn row
  pub setup-in : SetupIn s

-- the traverse's and the record's own numbers
pub record SettingIn (h : Head) (c : Closing) : Type 0 where
  pub latitude-low : pos 0 ≤ℤ h.latitude
  pub latitude-high : h.latitude ≤ℤ pos 900
  pub friction-low : pos 0 <ℤ h.friction
  pub friction : Sized (pos 50) h.friction
  pub initial : Sized (pos 1000) h.initial
  pub tide : Sized (pos 2000) c.tide
  pub seconds-low : pos 0 ≤ℤ c.seconds
  pub seconds : Sized (pos 3600) c.seconds

-- n segments
pub record MarchIn (t : Traverse) (r : Record) (rows : List ℤ) (n : ℕ) : Type 0 where
  pub points-long : 2 * (n + 1) ≤ length t.points
  pub record-long : 3 * (n + 1) ≤ length r.points
  pub rows_long : 3 * n ≤ length rows
  pub setting : SettingIn t.head r.closing
  pub stations : (i : ℕ) → i < n + 1 → StationIn (station_at t.points i)
  pub lengths : (i : ℕ) → i < n → LengthIn (station_at t.points i).distance (station_at t.points (i + 1)).distance
  pub points : (i : ℕ) → i < n + 1 → PointIn (point_at r.points i)
  pub each_row : (i : ℕ) → i < n → RowIn (row_at rows i)
