-- What a segment that passes its checks has shown: its leg is the one of the formulas, and each of its ranges lies within the limits.
-- Assumes nothing.
use mathlib.Core.Path.{◌≡◌, refl}
use mathlib.Core.Bool.{Bool, true, false, cond}
use Prim.Native.Nat.{ℕ}
use native.Mathlib.Omega.{arith}
use Rattle.ranges.specs.declared.Range.{Range}
use Rattle.ranges.specs.Range.{Positive}
use Rattle.records.specs.declared.Row.{Row}
use Rattle.segment.specs.declared.Site.{Site}
use Rattle.segment.specs.declared.Weather.{Weather}
use Rattle.segment.specs.declared.Leg.{Leg}
use Rattle.std.specs.Prelude.{Result, Ok, Err}
use Rattle.records.specs.declared.Refusal.{Refusal}
use Rattle.records.specs.declared.Kind.TheVariants.{Depth, Flux, Setup}
use Rattle.records.specs.Refusals.{refusal}
use Rattle.records.specs.Limits.{water_ok, flux_ok, setup_ok}
use Rattle.records.specs.Rows.{row_flux}
use Rattle.segment.specs.Segment.{segment_depth, segment_flux, segment_setup, leg_of, segment_of, WeatherIn, RowIn, SetupIn}
use Rattle.records.proofs.LimitLaws.{water-positive}
use Rattle.segment.proofs.SegmentFits.{ends-in}

pub record Passed (first : Bool) (a : Site) (w : Weather) (v : Row) (s : Range) (leg : Leg) : Type 0 where
  pub water : water_ok (segment_depth a w s) ≡ true
  pub flux : flux_ok (segment_flux first a w v s) ≡ true
  pub setup : setup_ok (segment_setup first a w v s) ≡ true
  pub is : leg ≡ leg_of (segment_flux first a w v s) w.cross (segment_setup first a w v s)

never : (refusal : Refusal) (leg : Leg) → Err refusal ≡ Ok leg → ⊥
never refusal leg e = let z : ◌≡◌ {A = ℕ} 0 1 = cc in omega arith

pub segment-on : (place : ℕ) (first : Bool) (a : Site) (w : Weather) (v : Row) (s : Range) (leg : Leg) → segment_of place first a w v s ≡ Ok leg → Passed first a w v s leg
unfolding segment_of
segment-on place first a w v s leg e = go (water_ok (segment_depth a w s)) (flux_ok (segment_flux first a w v s)) (setup_ok (segment_setup first a w v s)) refl refl refl e
  where
    go : (t u z : Bool) → water_ok (segment_depth a w s) ≡ t → flux_ok (segment_flux first a w v s) ≡ u → setup_ok (segment_setup first a w v s) ≡ z →
        cond t (cond u (cond z (Ok (leg_of (segment_flux first a w v s) w.cross (segment_setup first a w v s))) (Err (refusal Setup place))) (Err (refusal Flux place))) (Err (refusal Depth place)) ≡ Ok leg → Passed first a w v s leg
    go true true true x y z e = record { water = x; flux = y; setup = z; is = same _ _ e }
      where
        same : (p q : Leg) → ◌≡◌ {A = Result Leg Refusal} (Ok p) (Ok q) → q ≡ p
        same p q e = cc
    go true true false x y z e = absurd (never (refusal Setup place) leg e)
    go true false t x y z e = absurd (never (refusal Flux place) leg e)
    go false u t x y z e = absurd (never (refusal Depth place) leg e)

-- the leg's ranges are those of the formulas, and the new row and the new setup are fit for the next record and the next segment
module _ {first : Bool} {a : Site} {w : Weather} {v : Row} {s : Range} {leg : Leg} (p : Passed first a w v s leg) where
  pub passed-water : Positive (segment_depth a w s)
  passed-water = water-positive (segment_depth a w s) p.water

  pub passed-row : WeatherIn w → RowIn leg.row
  passed-row j = let f = ends-in (segment_flux first a w v s) p.flux in rw p.is (record { low = f.low; high = f.high; cross = j.cross })

  pub passed-setup : SetupIn leg.setup
  passed-setup = rw p.is (ends-in (segment_setup first a w v s) p.setup)

  pub passed-flux-is : row_flux leg.row ≡ segment_flux first a w v s
  passed-flux-is = rw p.is refl

  pub passed-setup-is : leg.setup ≡ segment_setup first a w v s
  passed-setup-is = rw p.is refl
