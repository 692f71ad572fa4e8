-- The ranges of a segment's water depth, flux and gain are outward over the fractions that they are worked out of. Depth and gain are
-- quotients whose numerator and divisor rise with what is chosen; the flux is the damped sum, held. Assumes nothing.
use mathlib.Core.Path.{◌≡◌, refl}
use mathlib.Core.Bool.{Bool, true, false, cond}
use mathlib.Core.List.{[], ◌∷◌}
use Prim.Native.Nat.{ℕ}
use native.Mathlib.Omega.{arith}
use lib.IntN.{ℤ, pos, ◌+ℤ◌, ◌*ℤ◌}
use lib.Signed.{lt_z, ◌≤ℤ◌, lt_z_yes, le_z_yes}
use Rattle.ranges.specs.declared.Range.{Range}
use Rattle.ranges.specs.Fraction.{Frac, ◌≈F◌, whole, ◌+F◌, ◌*F◌}
use Rattle.ranges.specs.Range.{Within, Ordered, Positive}
use Rattle.ranges.specs.Outward.{Outward, EqualEnds}
use Rattle.ranges.proofs.RingSolver.{ring, reify}
use Rattle.ranges.proofs.LinearSolver.{zomega, zomega₀, says, ◌&◌}
use Rattle.ranges.proofs.IntegerOrder.{nn-mul}
use Rattle.ranges.proofs.FractionLaws.{at_low, at_high, whole_in, sum-within, scaled-within, within-ordered}
use Rattle.ranges.proofs.QuotientsOutward.{Corner, quotients-outward}
use Rattle.ranges.proofs.LimitedOutward.{limited-right}
use Rattle.ranges.proofs.OutwardLaws.{equal-ends, outward-ordered}
use Rattle.forcing.specs.Force.{force_fraction}
use Rattle.forcing.proofs.LimitLaws.{speed-nn}
use Rattle.records.specs.declared.Row.{Row}
use Rattle.segment.specs.declared.Site.{Site}
use Rattle.segment.specs.declared.Weather.{Weather}
use Rattle.segment.specs.declared.Leg.{Leg}
use Rattle.std.specs.Prelude.{Ok}
use Rattle.records.specs.Rows.{row_flux}
use Rattle.segment.specs.Segment.{depth_base, depth_of, drag, segment_force, segment_speed, free_flux, flux_of, gain_top, gain_of, next_setup, segment_depth, segment_flux, segment_gain, segment_of, SiteIn, WeatherIn}
use Rattle.segment.specs.ExactSegment.{exact_depth, exact_gain, DepthChoice, depth_at, FluxChoice, flux_at, GainChoice, gain_at, SegmentOutward}
use Rattle.segment.proofs.SegmentForce.{segment-force-within}
use Rattle.segment.proofs.SegmentFits.{drag-nn, divisor-positive}
use Rattle.segment.proofs.SegmentLaws.{segment-on, passed-water}

-- ---- water depth

abbrev pub hundred : Range
hundred = record { low = pos 100; high = pos 100 }

pub hundred-positive : Positive hundred
hundred-positive = record { low = lt_z_yes tt; high = lt_z_yes tt }

module _ (a : Site) (w : Weather) (s : Range) (o : Ordered s) where
  abbrev depth_tops : Range
  depth_tops = record { low = depth_base a w +ℤ s.low; high = depth_base a w +ℤ s.high }

  depth-corner : (z : ℤ) (t : Bool) → Within s (whole z) → Corner {C = DepthChoice s} (λ x. whole (depth_base a w) +F x.s-is) (λ x. whole (pos 100)) (depth_base a w +ℤ z) (cond t (pos 100) (pos 100))
  depth-corner z t i = record {
    choice = record { s-is = whole z; s-in = i };
    top-is = record { same = let b = depth_base a w in ring (b ∷ z ∷ []) (search reify depth 20) tt };
    bottom-is = either t;
  }
    where
      either : (t : Bool) → whole (pos 100) ≈F whole (cond t (pos 100) (pos 100))
      either true = record { same = refl }
      either false = record { same = refl }

  pub depth-outward : Outward (λ (x : DepthChoice s). depth_at a w x) (depth_of a w s)
  unfolding depth_of exact_depth
  depth-outward =
      quotients-outward {C = DepthChoice s} (λ x. whole (depth_base a w) +F x.s-is) (λ x. whole (pos 100)) depth_tops hundred hundred-positive
      (λ x. sum-within (record { low = depth_base a w; high = depth_base a w }) s (whole (depth_base a w)) x.s-is (whole_in (depth_base a w)) x.s-in)
      (λ x. whole_in (pos 100))
      (depth-corner s.low (lt_z (depth_base a w +ℤ s.low) (pos 0)) (at_low s o))
      (depth-corner s.high (lt_z (depth_base a w +ℤ s.high) (pos 0)) (at_high s o))

  pub depth-equal : EqualEnds (λ (x : DepthChoice s). depth_at a w x) (depth_of a w s)
  depth-equal = equal-ends (λ (x : DepthChoice s). depth_at a w x) (depth_of a w s) depth-outward

  pub depth-ordered : Ordered (depth_of a w s)
  depth-ordered = outward-ordered (λ (x : DepthChoice s). depth_at a w x) (depth_of a w s) depth-outward

-- ---- flux

-- a choice of v and δ, with the exact F
abbrev pub flux_choice : (first : Bool) (w : Weather) (v : Row) (δ : Range) (x y : Frac) → Within (row_flux v) x → Within δ y → FluxChoice first w v δ
flux_choice first w v δ x y i j = record {
  v-is = x;
  v-in = i;
  f-is = force_fraction first w.seconds v.cross w.cross;
  f-in = segment-force-within first w v;
  δ-is = y;
  δ-in = j;
}

pub flux-outward : (first : Bool) (a : Site) (w : Weather) (v : Row) (δ : Range) → pos 0 ≤ℤ drag a w → Positive δ → Ordered (row_flux v) → Ordered δ → Outward (flux_at first a w v δ) (flux_of first a w v δ)
unfolding flux_of free_flux
flux-outward true a w v δ c0 p vo δo = record {
  within = λ x. x.v-in;
  least = flux_choice true w v δ (whole v.low) (whole δ.low) (at_low (row_flux v) vo) (at_low δ δo);
  least-near = record { lt = zomega₀ (v.low ∷ []) (search says depth 20) (omega arith) };
  greatest = flux_choice true w v δ (whole v.high) (whole δ.low) (at_high (row_flux v) vo) (at_low δ δo);
  greatest-near = record { lt = zomega₀ (v.high ∷ []) (search says depth 20) (omega arith) };
}
flux-outward false a w v δ c0 p vo δo =
    limited-right.outward (segment_speed a w) (drag a w) (row_flux v) (segment_force false w v) δ (speed-nn a.friction w.cross) c0 p vo (within-ordered (segment-force-within false w v)) δo

-- ---- gain: its numerator rises with v, since neither length nor sine is negative

module _ (a : Site) (w : Weather) (x0 : pos 0 ≤ℤ a.length) (s0 : pos 0 ≤ℤ a.sine) where
  abbrev turn : ℤ
  turn = pos 2748816 *ℤ a.sine

  turn-nn : pos 0 ≤ℤ turn
  turn-nn = nn-mul {a = pos 2748816} (le_z_yes tt) s0

  abbrev wind : ℤ
  wind = pos 2030 *ℤ w.onshore

  abbrev top_of : Frac → Frac
  top_of v = whole a.length *F (whole turn *F v +F whole wind)

  abbrev bottom_of : Frac → Frac
  bottom_of δ = whole (pos 1000000000) *F δ

  module _ (v δ : Range) where
    abbrev gain_tops : Range
    gain_tops = record { low = gain_top a w v.low; high = gain_top a w v.high }

    abbrev bottoms : Range
    bottoms = record { low = pos 1000000000 *ℤ δ.low; high = pos 1000000000 *ℤ δ.high }

    top_within : (x : Frac) → Within v x → Within gain_tops (top_of x)
    top_within x i =
        scaled-within a.length x0 (record { low = turn *ℤ v.low +ℤ wind; high = turn *ℤ v.high +ℤ wind }) (whole turn *F x +F whole wind)
        (sum-within (record { low = turn *ℤ v.low; high = turn *ℤ v.high }) (record { low = wind; high = wind }) (whole turn *F x) (whole wind) (scaled-within turn turn-nn v x i) (whole_in wind))

    bottom-within : (y : Frac) → Within δ y → Within bottoms (bottom_of y)
    bottom-within y i = scaled-within (pos 1000000000) (le_z_yes tt) δ y i

    gain-corner : (z e f : ℤ) → Within v (whole z) → (t : Bool) → Within δ (whole e) → Within δ (whole f) →
        Corner {C = GainChoice v δ} (λ x. top_of x.v-is) (λ x. bottom_of x.δ-is) (gain_top a w z) (cond t (pos 1000000000 *ℤ e) (pos 1000000000 *ℤ f))
    gain-corner z e f i t j k = either t
      where
        at : (d : ℤ) → Within δ (whole d) → Corner {C = GainChoice v δ} (λ x. top_of x.v-is) (λ x. bottom_of x.δ-is) (gain_top a w z) (pos 1000000000 *ℤ d)
        at d j = record {
          choice = record { v-is = whole z; v-in = i; δ-is = whole d; δ-in = j };
          top-is = record { same = ring (a.length ∷ a.sine ∷ w.onshore ∷ z ∷ []) (search reify depth 20) tt };
          bottom-is = record { same = ring (d ∷ []) (search reify depth 20) tt };
        }

        either : (t : Bool) → Corner {C = GainChoice v δ} (λ x. top_of x.v-is) (λ x. bottom_of x.δ-is) (gain_top a w z) (cond t (pos 1000000000 *ℤ e) (pos 1000000000 *ℤ f))
        either true = at e j
        either false = at f k

    pub gain-outward : Positive δ → Ordered v → Ordered δ → Outward (λ (x : GainChoice v δ). gain_at a w x) (gain_of a w v δ)
    unfolding gain_of exact_gain
    gain-outward p vo δo =
        quotients-outward {C = GainChoice v δ} (λ x. top_of x.v-is) (λ x. bottom_of x.δ-is) gain_tops bottoms (divisor-positive δ p)
        (λ x. top_within x.v-is x.v-in)
        (λ x. bottom-within x.δ-is x.δ-in)
        (gain-corner v.low δ.low δ.high (at_low v vo) (lt_z (gain_top a w v.low) (pos 0)) (at_low δ δo) (at_high δ δo))
        (gain-corner v.high δ.high δ.low (at_high v vo) (lt_z (gain_top a w v.high) (pos 0)) (at_high δ δo) (at_low δ δo))

-- ---- the segment

pub setup-ordered : (s g : Range) → Ordered s → Ordered g → Ordered (next_setup s g)
unfolding next_setup
setup-ordered s g h k = zomega (s.low ∷ s.high ∷ g.low ∷ g.high ∷ []) (h & k) (search says depth 20) (omega arith)

pub segment-outward : (place : ℕ) (first : Bool) (a : Site) (w : Weather) (v : Row) (s : Range) (leg : Leg) → segment_of place first a w v s ≡ Ok leg →
    SiteIn a → WeatherIn w → Ordered (row_flux v) → Ordered s → SegmentOutward first a w v s × Ordered leg.setup × Ordered (row_flux leg.row)
segment-outward place first a w v s leg e i j vo so =
    let k = segment-on place first a w v s leg e in
    let p = passed-water k in
    let δ = segment_depth a w s in
    let δo = depth-ordered a w s so in
    let f = flux-outward first a w v δ (drag-nn i j) p vo δo in
    let fo = outward-ordered (flux_at first a w v δ) (segment_flux first a w v s) f in
    let g = gain-outward a w i.length-low i.sine-low (segment_flux first a w v s) δ p fo δo in
    let go = outward-ordered (λ (x : GainChoice (segment_flux first a w v s) δ). gain_at a w x) (segment_gain first a w v s) g in (
      record {
        flux = f;
        flux-equal = equal-ends (flux_at first a w v δ) (segment_flux first a w v s) f;
        gain = g;
        gain-equal = equal-ends (λ (x : GainChoice (segment_flux first a w v s) δ). gain_at a w x) (segment_gain first a w v s) g;
      },
      rw k.is (setup-ordered s (segment_gain first a w v s) so go),
      rw k.is fo,
    )
