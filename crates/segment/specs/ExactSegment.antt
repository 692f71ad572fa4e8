-- One segment of the exact march, in fractions that are never rounded; and the choices that a range is formed over. Document 01: "The formulas
-- above give δ, F, new v and gain from its own numbers, the kept sum being the previous record's in Z."
use Rattle.std.specs.Prelude.{◌≡◌, Bool, true, false, ℤ, pos, ◌*ℤ◌, ◌<ℤ◌}
use Rattle.ranges.specs.declared.Range.{Range}
use Rattle.ranges.specs.Fraction.{Frac, whole, ◌+F◌, ◌*F◌, ◌/F◌}
use Rattle.ranges.specs.Range.{Within}
use Rattle.ranges.specs.Damped.{damped, DampedChoice}
use Rattle.ranges.specs.Limited.{limited, limited_at}
use Rattle.ranges.specs.Outward.{Outward, EqualEnds}
use Rattle.forcing.specs.Force.{force_fraction}
use Rattle.records.specs.declared.Row.{Row}
use Rattle.segment.specs.declared.Site.{Site}
use Rattle.segment.specs.declared.Weather.{Weather}
use Rattle.segment.specs.declared.Leg.{Leg}
use Rattle.records.specs.Rows.{row_flux}
use Rattle.segment.specs.Segment.{depth_base, drag, segment_force, segment_speed, segment_depth, segment_flux, segment_gain}

-- what the exact march keeps of a segment: "a fraction v and the last sum of the two cross stresses"
pub record Kept : Type 0 where
  pub v : Frac
  pub cross : ℤ

-- "all 0 at the start"
abbrev pub fresh_kept : Kept
fresh_kept = record { v = whole (pos 0); cross = pos 0 }

-- ---- the formulas, of fractions

-- 1. water depth
unfoldable pub exact_depth : Site → Weather → Frac → Frac
exact_depth a w s = (whole (depth_base a w) +F s) /F whole (pos 100)

-- 2. new flux, held by the c of its own δ: document 02's Q-6, "in the exact march alike"; "In the first record F is 0 and v stays"
unfoldable pub exact_flux : Bool → Site → Weather → Kept → Frac → Frac
exact_flux true a w k δ = k.v
exact_flux false a w k δ = limited (segment_speed a w) δ (damped (drag a w) k.v (force_fraction false w.seconds k.cross w.cross) δ)

-- 3. gain
unfoldable pub exact_gain : Site → Weather → Frac → Frac → Frac
exact_gain a w v δ = (whole a.length *F (whole (pos 2748816 *ℤ a.sine) *F v +F whole (pos 2030 *ℤ w.onshore))) /F (whole (pos 1000000000) *F δ)

-- ---- a segment: the new v, the cross sum, and S after it

pub record ExactLeg : Type 0 where
  pub kept : Kept
  pub setup : Frac

unfoldable pub exact_segment : Bool → Site → Weather → Kept → Frac → ExactLeg
exact_segment first a w k s =
    let δ = exact_depth a w s in
    let v = exact_flux first a w k δ in
    record { kept = record { v = v; cross = w.cross }; setup = s +F exact_gain a w v δ }

-- ---- choices. "A choice for a flux is a fraction v, F and δ within the ranges of step 2, for a gain a v and a δ within those of step 3"

-- for a water depth it is an S within the range before the segment
pub record DepthChoice (s : Range) : Type 0 where
  pub s-is : Frac
  pub s-in : Within s s-is

abbrev pub depth_at : (a : Site) (w : Weather) {s : Range} → DepthChoice s → Frac
depth_at a w x = exact_depth a w x.s-is

abbrev pub FluxChoice : Bool → Weather → Row → Range → Type 0
FluxChoice first w v δ = DampedChoice (row_flux v) (segment_force first w v) δ

-- "It reaches the formula's value before rounding; for a flux in the first record it reaches v itself". The limit is applied "for each choice of v, F
-- and δ"
abbrev pub flux_at : (first : Bool) (a : Site) (w : Weather) (v : Row) (δ : Range) → FluxChoice first w v δ → Frac
flux_at true a w v δ x = x.v-is
flux_at false a w v δ x = limited_at (segment_speed a w) (drag a w) x

pub record GainChoice (v δ : Range) : Type 0 where
  pub v-is : Frac
  pub v-in : Within v v-is
  pub δ-is : Frac
  pub δ-in : Within δ δ-is

abbrev pub gain_at : (a : Site) (w : Weather) {v δ : Range} → GainChoice v δ → Frac
gain_at a w x = exact_gain a w x.v-is x.δ-is

-- ---- demand 3's clauses on ranges, of one segment

pub record SegmentOutward (first : Bool) (a : Site) (w : Weather) (v : Row) (s : Range) : Type 0 where
  pub flux : Outward (flux_at first a w v (segment_depth a w s)) (segment_flux first a w v s)
  pub flux-equal : EqualEnds (flux_at first a w v (segment_depth a w s)) (segment_flux first a w v s)
  pub gain : Outward (λ (x : GainChoice (segment_flux first a w v s) (segment_depth a w s)). gain_at a w x) (segment_gain first a w v s)
  pub gain-equal : EqualEnds (λ (x : GainChoice (segment_flux first a w v s) (segment_depth a w s)). gain_at a w x) (segment_gain first a w v s)

-- ---- demand 3's clause on the exact march, of one segment: x is the exact S before it, e what the exact march makes of it

pub record SegmentWithin (a : Site) (w : Weather) (s : Range) (x : Frac) (leg : Leg) (e : ExactLeg) : Type 0 where
  pub flux : Within (row_flux leg.row) e.kept.v
  pub cross : leg.row.cross ≡ e.kept.cross
  pub setup : Within leg.setup e.setup
  pub depth : Within (segment_depth a w s) (exact_depth a w x)
  -- "so it never divides by 0"
  pub depth-above : pos 0 <ℤ (exact_depth a w x).num
