-- Each number on the way through a segment is small enough for an `i64`. Assumes nothing.
use mathlib.Core.Path.{◌≡◌}
use mathlib.Core.Bool.{Bool, true, false, cond}
use mathlib.Core.List.{[], ◌∷◌}
use native.Mathlib.Omega.{arith}
use lib.IntN.{ℤ, pos, negsuc, ◌+ℤ◌, ◌*ℤ◌}
use lib.Signed.{lt_z, ◌≤ℤ◌}
use Rattle.ranges.specs.declared.Range.{Range}
use Rattle.ranges.specs.Bounds.{Sized, DampedSpan, DampedIn, LimitBounds}
use Rattle.ranges.specs.Division.{floor_div, ceil_div}
use Rattle.ranges.specs.Quotient.{quotient_low, quotient_high}
use Rattle.ranges.specs.Range.{Positive}
use Rattle.ranges.proofs.LinearSolver.{zomega, says}
use Rattle.ranges.proofs.IntegerOrder.{lt-le, nn-mul}
use Rattle.ranges.proofs.Fits.{sized-add, sized-mul, sized-literal}
use Rattle.ranges.proofs.DivisionLaws.{floor-sized, ceil-sized}
use Rattle.forcing.specs.Limit.{LimitIn}
use Rattle.forcing.proofs.LimitLaws.{speed-sized}
use Rattle.records.specs.declared.Row.{Row}
use Rattle.segment.specs.declared.Site.{Site}
use Rattle.segment.specs.declared.Weather.{Weather}
use Rattle.records.specs.Limits.{water_ok, flux_ok}
use Rattle.records.specs.Rows.{row_flux}
use Rattle.segment.specs.Segment.{depth_base, drag, segment_force, segment_speed, gain_top, gain_of, SiteIn, WeatherIn, RowIn, SetupIn, GainIn}
use Rattle.segment.proofs.SegmentForce.{segment-force-small}
use Rattle.records.proofs.LimitLaws.{sized, range-between, water-positive, water-low-in, water-high-in}

-- ---- both ends of a flux, and of a setup, which have the same limits

pub ends-in : (r : Range) → flux_ok r ≡ true → SetupIn r
ends-in r e = let b = range-between (negsuc 999999) (pos 1000000) r e in record { low = sized b.low-in; high = sized b.high-in }

-- ---- a quotient over a range of divisors

module _ (b n : ℤ) (d : Range) (w : Sized b n) (p : Positive d) where
  quotient-low-sized : Sized b (quotient_low n d)
  unfolding quotient_low
  quotient-low-sized = go (lt_z n (pos 0))
    where
      go : (t : Bool) → Sized b (floor_div n (cond t d.low d.high))
      go true = floor-sized b n d.low w p.low
      go false = floor-sized b n d.high w p.high

  quotient-high-sized : Sized b (quotient_high n d)
  unfolding quotient_high
  quotient-high-sized = go (lt_z n (pos 0))
    where
      go : (t : Bool) → Sized b (ceil_div n (cond t d.high d.low))
      go true = ceil-sized b n d.high w p.high
      go false = ceil-sized b n d.low w p.low

-- ---- water depth

module _ {a : Site} {w : Weather} (i : SiteIn a) (j : WeatherIn w) where
  pub depths-in : Sized (pos 10000000) (pos 500 *ℤ a.depths)
  depths-in = sized-mul (sized-literal 500) i.depths

  pub level_in : Sized (pos 300000) (pos 100 *ℤ w.level)
  level_in = sized-mul (sized-literal 100) j.level

  pub still-in : Sized (pos 10300000) (pos 500 *ℤ a.depths +ℤ pos 100 *ℤ w.level)
  still-in = sized-add depths-in level_in

  pub deficits-in : Sized (pos 34200) (pos 57 *ℤ w.deficits)
  deficits-in = sized-mul (sized-literal 57) j.deficits

  pub base-in : Sized (pos 10334200) (depth_base a w)
  base-in = sized-add still-in deficits-in

  pub depth-top-in : {s : ℤ} → Sized (pos 1000000) s → Sized (pos 11334200) (depth_base a w +ℤ s)
  depth-top-in k = sized-add base-in k

  -- ---- flux

  pub drag-in : Sized (pos 180000) (drag a w)
  drag-in = sized-mul i.friction j.seconds

  pub drag-nn : pos 0 ≤ℤ drag a w
  drag-nn = nn-mul (lt-le i.friction-low) j.seconds-low

  -- its limit
  pub limit-in : LimitIn a.friction w.cross
  limit-in = record { friction-low = i.friction-low; friction = i.friction; sum-in = j.cross }

  -- ---- gain

  pub turn_in : Sized (pos 27488160000) (pos 2748816 *ℤ a.sine)
  turn_in = sized-mul (sized-literal 2748816) i.sine

  pub wind-in : Sized (pos 5222784000000000) (pos 2030 *ℤ w.onshore)
  wind-in = sized-mul (sized-literal 2030) j.onshore

  module _ {v : ℤ} (k : Sized (pos 1000000) v) where
    pub turned-in : Sized (pos 27488160000000000) (pos 2748816 *ℤ a.sine *ℤ v)
    turned-in = sized-mul turn_in k

    pub slope-in : Sized (pos 32710944000000000) (pos 2748816 *ℤ a.sine *ℤ v +ℤ pos 2030 *ℤ w.onshore)
    slope-in = sized-add turned-in wind-in

    pub gain-top-in : Sized (pos 3271094400000000000) (gain_top a w v)
    gain-top-in = sized-mul i.length slope-in

pub damped-in : {a : Site} {w : Weather} {v : Row} {δ : Range} → SiteIn a → WeatherIn w → RowIn v → water_ok δ ≡ true → DampedIn (drag a w) (row_flux v) (segment_force false w v) δ
damped-in {a} {w} {v} {δ} i j k e = let f = segment-force-small j k in record { low = span f.0; high = span f.1 }
  where
    c-in : Sized (pos 1000000) (drag a w)
    c-in = record {
      low = let l = (drag-in i j).low in let c = drag a w in zomega (c ∷ []) l (search says depth 20) (omega arith);
      high = let h = (drag-in i j).high in let c = drag a w in zomega (c ∷ []) h (search says depth 20) (omega arith);
    }

    span : {f : ℤ} → Sized (pos 1000000) f → DampedSpan (drag a w) (row_flux v) f δ
    span f = record {
      low = record { c-nn = drag-nn i j; c-in = c-in; v-in = k.low; f-in = f; d-pos = (water-positive δ e).low; d-in = water-low-in δ e };
      high = record { c-nn = drag-nn i j; c-in = c-in; v-in = k.high; f-in = f; d-pos = (water-positive δ e).high; d-in = water-high-in δ e };
    }

pub limited-in : {a : Site} {w : Weather} {δ : Range} → SiteIn a → WeatherIn w → water_ok δ ≡ true → LimitBounds (segment_speed a w) δ
limited-in {δ} i j e = record { b-in = speed-sized (limit-in i j); low = water-low-in δ e; high = water-high-in δ e }

pub divisor-in : {d : ℤ} → Sized (pos 100000) d → Sized (pos 100000000000000) (pos 1000000000 *ℤ d)
divisor-in h = sized-mul (sized-literal 1000000000) h

pub divisor-positive : (δ : Range) → Positive δ → Positive (record { low = pos 1000000000 *ℤ δ.low; high = pos 1000000000 *ℤ δ.high })
divisor-positive δ p = record {
  low = let h = p.low in zomega (δ.low ∷ []) h (search says depth 20) (omega arith);
  high = let h = p.high in zomega (δ.high ∷ []) h (search says depth 20) (omega arith);
}

pub gain-in : {a : Site} {w : Weather} (v δ : Range) → SiteIn a → WeatherIn w → flux_ok v ≡ true → water_ok δ ≡ true → GainIn (gain_of a w v δ)
unfolding gain_of
gain-in {a} {w} v δ i j ev eδ =
    let p = divisor-positive δ (water-positive δ eδ) in
    let f = ends-in v ev in
    record {
      low = quotient-low-sized (pos 3271094400000000000) (gain_top a w v.low) _ (gain-top-in i j f.low) p;
      high = quotient-high-sized (pos 3271094400000000000) (gain_top a w v.high) _ (gain-top-in i j f.high) p;
    }
