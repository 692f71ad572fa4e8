-- One segment of a record, in ranges: document 01's "One record", steps 1 to 4, a line of the paper to a line here, and document 02's Q-6.
use Rattle.std.specs.Prelude.{Bool, true, false, cond, ℕ, ℤ, pos, ◌+ℤ◌, ◌*ℤ◌, ◌≤ℤ◌, ◌<ℤ◌, Result, Ok, Err}
use Rattle.ranges.specs.declared.Range.{Range}
use Rattle.ranges.specs.Bounds.{Sized}
use Rattle.ranges.specs.Quotient.{quotient_of}
use Rattle.ranges.specs.Damped.{damped_of}
use Rattle.ranges.specs.Limited.{limited_of}
use Rattle.forcing.specs.Force.{force_of}
use Rattle.forcing.specs.Limit.{limiting_speed}
use Rattle.records.specs.declared.Row.{Row}
use Rattle.segment.specs.declared.Site.{Site}
use Rattle.segment.specs.declared.Weather.{Weather}
use Rattle.segment.specs.declared.Leg.{Leg}
use Rattle.records.specs.declared.Refusal.{Refusal}
use Rattle.records.specs.declared.Kind.TheVariants.{Depth, Flux, Setup}
use Rattle.records.specs.Refusals.{refusal}
use Rattle.records.specs.Limits.{water_ok, flux_ok, setup_ok}
use Rattle.records.specs.Rows.{row_flux}

-- 500·(sum of the two depths) + 100·(initial + tide) + 57·(sum of the two deficits)
abbrev pub depth_base : Site → Weather → ℤ
depth_base a w = pos 500 *ℤ a.depths +ℤ pos 100 *ℤ w.level +ℤ pos 57 *ℤ w.deficits

-- 1. "Water depth: (.. + S)/100, rounded outward"
unfoldable pub depth_of : Site → Weather → Range → Range
depth_of a w s = quotient_of (record { low = depth_base a w +ℤ s.low; high = depth_base a w +ℤ s.high }) (record { low = pos 100; high = pos 100 })

-- κ·Δt
abbrev pub drag : Site → Weather → ℤ
drag a w = a.friction *ℤ w.seconds

-- "the range of F is F rounded outward"
abbrev pub segment_force : Bool → Weather → Row → Range
segment_force first w v = force_of first w.seconds v.cross w.cross

-- 2. "New flux (equation 12): (v + F)·100δ²/(100δ² + κ·Δt·|v|)": the step before the limit
unfoldable pub free_flux : Site → Weather → Row → Range → Range
free_flux a w v δ = damped_of (drag a w) (row_flux v) (segment_force false w v) δ

-- b of the limiting flux c, document 02's Q-6, of "this record's cross-stress sum over the two ends"
abbrev pub segment_speed : Site → Weather → ℤ
segment_speed a w = limiting_speed a.friction w.cross

-- "the new flux is held between -c and c, c = bδ/1,000"; "In the first record the flux stays"
unfoldable pub flux_of : Bool → Site → Weather → Row → Range → Range
flux_of true a w v δ = row_flux v
flux_of false a w v δ = limited_of (segment_speed a w) δ (free_flux a w v δ)

-- X·(2,748,816·s·v + 2,030·Y)
abbrev pub gain_top : Site → Weather → ℤ → ℤ
gain_top a w v = a.length *ℤ (pos 2748816 *ℤ a.sine *ℤ v +ℤ pos 2030 *ℤ w.onshore)

-- 3. "Gain (equation 11; ..): X·(2,748,816·s·v + 2,030·Y)/(10⁹·δ)"
unfoldable pub gain_of : Site → Weather → Range → Range → Range
gain_of a w v δ = quotient_of (record { low = gain_top a w v.low; high = gain_top a w v.high }) (record { low = pos 1000000000 *ℤ δ.low; high = pos 1000000000 *ℤ δ.high })

-- 4. "S for the next segment: low plus low, high plus high"
unfoldable pub next_setup : Range → Range → Range
next_setup s g = record { low = s.low +ℤ g.low; high = s.high +ℤ g.high }

-- the ranges of a segment, in this order
abbrev pub segment_depth : Site → Weather → Range → Range
segment_depth a w s = depth_of a w s

abbrev pub segment_flux : Bool → Site → Weather → Row → Range → Range
segment_flux first a w v s = flux_of first a w v (segment_depth a w s)

abbrev pub segment_gain : Bool → Site → Weather → Row → Range → Range
segment_gain first a w v s = gain_of a w (segment_flux first a w v s) (segment_depth a w s)

abbrev pub segment_setup : Bool → Site → Weather → Row → Range → Range
segment_setup first a w v s = next_setup s (segment_gain first a w v s)

abbrev pub leg_of : Range → ℤ → Range → Leg
leg_of flux cross s = record { row = record { low = flux.low; high = flux.high; cross = cross }; setup = s }

-- "The march takes 10, 11 and 12 for one segment before it begins the next." `place` is the segment's number, from 1
unfoldable pub segment_of : ℕ → Bool → Site → Weather → Row → Range → Result Leg Refusal
segment_of place first a w v s =
    cond (water_ok (segment_depth a w s))
    (cond (flux_ok (segment_flux first a w v s))
    (cond (setup_ok (segment_setup first a w v s)) (Ok (leg_of (segment_flux first a w v s) w.cross (segment_setup first a w v s))) (Err (refusal Setup place)))
    (Err (refusal Flux place)))
    (Err (refusal Depth place))

-- "Shore height: last S plus 100·(initial + tide) plus 114·(deficit at the shore point)": what it has beside S
unfoldable pub shore_base : ℤ → ℤ → ℤ
shore_base level deficit = pos 100 *ℤ level +ℤ pos 114 *ℤ deficit

-- ---- what a segment is given: all within document 01's limits

pub record RowIn (v : Row) : Type 0 where
  pub low : Sized (pos 1000000) v.low
  pub high : Sized (pos 1000000) v.high
  pub cross : Sized (pos 2572800000000) v.cross

pub record SiteIn (a : Site) : Type 0 where
  pub length-low : pos 0 ≤ℤ a.length
  pub length : Sized (pos 100) a.length
  pub depths : Sized (pos 20000) a.depths
  pub sine-low : pos 0 ≤ℤ a.sine
  pub sine : Sized (pos 10000) a.sine
  pub friction-low : pos 0 <ℤ a.friction
  pub friction : Sized (pos 50) a.friction

pub record WeatherIn (w : Weather) : Type 0 where
  pub seconds-low : pos 0 ≤ℤ w.seconds
  pub seconds : Sized (pos 3600) w.seconds
  pub level : Sized (pos 3000) w.level
  pub deficits : Sized (pos 600) w.deficits
  pub cross : Sized (pos 2572800000000) w.cross
  pub onshore : Sized (pos 2572800000000) w.onshore

pub record SetupIn (s : Range) : Type 0 where
  pub low : Sized (pos 1000000) s.low
  pub high : Sized (pos 1000000) s.high

pub record SegmentIn (a : Site) (w : Weather) (v : Row) (s : Range) : Type 0 where
  pub site : SiteIn a
  pub weather : WeatherIn w
  pub row : RowIn v
  pub setup : SetupIn s

-- how large a gain may be: 100·(2,748,816·10,000·1,000,000 + 2,030·2,572,800,000,000)
pub record GainIn (g : Range) : Type 0 where
  pub low : Sized (pos 3271094400000000000) g.low
  pub high : Sized (pos 3271094400000000000) g.high

pub record ShoreIn (level deficit : ℤ) : Type 0 where
  pub level_in : Sized (pos 3000) level
  pub deficit-in : Sized (pos 300) deficit
