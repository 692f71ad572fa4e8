-- One segment of the exact march lies within the ranges of the same segment: each of its fractions is one of the choices that a range is
-- formed over. Its water depth is above nought, so it divides by nothing that is not. Assumes nothing.
use mathlib.Core.Path.{◌≡◌, refl}
use mathlib.Core.Bool.{Bool, true, false}
use Prim.Native.Nat.{ℕ}
use lib.IntN.{pos}
use lib.Signed.{◌≤ℤ◌}
use Rattle.ranges.specs.declared.Range.{Range}
use Rattle.ranges.specs.Fraction.{Frac}
use Rattle.ranges.specs.Range.{Within, Ordered, Positive}
use Rattle.ranges.proofs.FractionLaws.{sum-within, within-pos, within-ordered}
use Rattle.records.specs.declared.Row.{Row}
use Rattle.segment.specs.declared.Site.{Site}
use Rattle.segment.specs.declared.Weather.{Weather}
use Rattle.segment.specs.declared.Leg.{Leg}
use Rattle.std.specs.Prelude.{Ok}
use Rattle.records.specs.Rows.{row_flux}
use Rattle.segment.specs.Segment.{drag, flux_of, next_setup, segment_depth, segment_flux, segment_gain, segment_of, SiteIn, WeatherIn}
use Rattle.segment.specs.ExactSegment.{Kept, exact_depth, exact_flux, exact_gain, exact_segment, flux_at, SegmentWithin}
use Rattle.segment.proofs.SegmentFits.{drag-nn}
use Rattle.segment.proofs.SegmentLaws.{segment-on, passed-water}
use Rattle.segment.proofs.SegmentRanges.{depth-outward, depth-ordered, flux_choice, flux-outward, gain-outward}

-- the exact march's v, F and δ are a choice for the flux
pub flux-within : (first : Bool) (a : Site) (w : Weather) (v : Row) (δ : Range) (k : Kept) (y : Frac) → pos 0 ≤ℤ drag a w → Positive δ → Ordered δ →
    Within (row_flux v) k.v → v.cross ≡ k.cross → Within δ y → Within (flux_of first a w v δ) (exact_flux first a w k y)
unfolding exact_flux
flux-within first a w v δ k y c0 p δo i same j = go first ((flux-outward first a w v δ c0 p (within-ordered i) δo).within (flux_choice first w v δ k.v y i j))
  where
    go : (first : Bool) → Within (flux_of first a w v δ) (flux_at first a w v δ (flux_choice first w v δ k.v y i j)) → Within (flux_of first a w v δ) (exact_flux first a w k y)
    go true h = h
    go false h = rw (← same) h

pub segment-within : (place : ℕ) (first : Bool) (a : Site) (w : Weather) (v : Row) (s : Range) (leg : Leg) (k : Kept) (x : Frac) → segment_of place first a w v s ≡ Ok leg →
    SiteIn a → WeatherIn w → Within s x → Within (row_flux v) k.v → v.cross ≡ k.cross → SegmentWithin a w s x leg (exact_segment first a w k x)
unfolding exact_segment next_setup
segment-within place first a w v s leg k x e i j xs kv same =
    let q = segment-on place first a w v s leg e in
    let p = passed-water q in
    let δ = segment_depth a w s in
    let so = within-ordered xs in
    let δo = depth-ordered a w s so in
    let d : Within δ (exact_depth a w x) = (depth-outward a w s so).within (record { s-is = x; s-in = xs }) in
    let f = flux-within first a w v δ k (exact_depth a w x) (drag-nn i j) p δo kv same d in
    let g = (gain-outward a w i.length-low i.sine-low (segment_flux first a w v s) δ p (within-ordered f) δo).within (record { v-is = exact_flux first a w k (exact_depth a w x); v-in = f; δ-is = exact_depth a w x; δ-in = d }) in
    rw q.is (record {
      flux = f;
      cross = refl;
      setup = sum-within s (segment_gain first a w v s) x (exact_gain a w (exact_flux first a w k (exact_depth a w x)) (exact_depth a w x)) xs g;
      depth = d;
      depth-above = within-pos p.low d;
    })
