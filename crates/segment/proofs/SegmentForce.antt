-- What a segment uses of the laws of its force F: its limits, its size, and that the exact F lies within its range. Assumes nothing.
use mathlib.Core.Bool.{Bool, false}
use lib.IntN.{pos}
use Rattle.ranges.specs.Bounds.{Sized}
use Rattle.ranges.specs.Range.{Within}
use Rattle.forcing.specs.Force.{ForceBounds, force_fraction}
use Rattle.forcing.proofs.ForceLaws.{force-bounded, force-within}
use Rattle.records.specs.declared.Row.{Row}
use Rattle.segment.specs.declared.Weather.{Weather}
use Rattle.segment.specs.Segment.{segment_force, WeatherIn, RowIn}

pub forced : {w : Weather} {v : Row} → WeatherIn w → RowIn v → ForceBounds w.seconds v.cross w.cross
forced j k = record { seconds-low = j.seconds-low; seconds-high = j.seconds.high; old-in = k.cross; new_in = j.cross }

pub segment-force-small : {w : Weather} {v : Row} → WeatherIn w → RowIn v → Sized (pos 1000000) (segment_force false w v).low × Sized (pos 1000000) (segment_force false w v).high
segment-force-small {w} {v} j k = force-bounded false w.seconds v.cross w.cross (forced j k)

pub segment-force-within : (first : Bool) (w : Weather) (v : Row) → Within (segment_force first w v) (force_fraction first w.seconds v.cross w.cross)
segment-force-within first w v = force-within first w.seconds v.cross w.cross
