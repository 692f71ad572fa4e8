-- Document 01's gain, force and flux cases and its listing, of the definitions that a segment uses: one table, and one fact over it; and the edges
-- of the water depth. The flux case with F 100 is `ranges`' own, since no whole Z gives just that force. Assumes nothing.
use mathlib.Core.Path.{◌≡◌, refl}
use mathlib.Core.Bool.{true, false}
use mathlib.Core.List.{List, [], ◌∷◌, map}
use Prim.Native.Nat.{ℕ}
use lib.IntN.{ℤ, pos, negsuc}
use lib.Signed.{le_z_yes}
use Rattle.ranges.specs.declared.Range.{Range}
use Rattle.ranges.specs.Fraction.{whole, ◌/F◌}
use Rattle.ranges.specs.Range.{Within, lesser, greater, nearest}
use Rattle.ranges.specs.Quotient.{quotient_low, quotient_high}
use Rattle.ranges.specs.Limited.{limit, limited, limited_low, limited_high}
use Rattle.ranges.specs.Root.{whole_root, square_root, root_in}
use Rattle.ranges.specs.Damped.{damped, damped_least, damped_most, damped_low, damped_high, damped_floor, damped_ceil}
use Rattle.forcing.specs.Force.{force_of, force_fraction}
use Rattle.forcing.specs.Limit.{limiting_speed}
use Rattle.records.specs.declared.Row.{Row}
use Rattle.segment.specs.declared.Site.{Site}
use Rattle.segment.specs.declared.Weather.{Weather}
use Rattle.segment.specs.declared.Leg.{Leg}
use Rattle.records.specs.declared.Refusal.{Refusal}
use Rattle.std.specs.Prelude.{Result, Ok, Err}
use Rattle.records.specs.Limits.{inside, range_inside}
use Rattle.records.specs.Refusals.{number_of}
use Rattle.records.specs.Rows.{fresh_row}
use Rattle.segment.specs.ExactSegment.{Kept, exact_flux}
use Rattle.segment.specs.Segment.{drag, depth_of, free_flux, flux_of, gain_of, next_setup, segment_force, segment_setup, segment_of}

abbrev one : ℤ → Range
one z = record { low = z; high = z }

-- X 10, the sum of the depths 1,000, the sine of 30 degrees, κ 25
abbrev site : Site
site = record { length = pos 10; depths = pos 1000; sine = pos 5000; friction = pos 25 }

-- a record of so many seconds and such stresses, at level 0 and without deficit
abbrev weather : ℤ → ℤ → ℤ → Weather
weather seconds cross onshore = record { seconds = seconds; level = pos 0; deficits = pos 0; cross = cross; onshore = onshore }

abbrev at_level : ℤ → Weather → Weather
at_level level w = record { seconds = w.seconds; level = level; deficits = w.deficits; cross = w.cross; onshore = w.onshore }

-- a minute of wind 1,000 at angle 900 at both ends
abbrev minute : Weather
minute = weather (pos 60) (pos 572800000000) (pos 0)

abbrev nine_to_eleven : Range
nine_to_eleven = record { low = pos 900; high = pos 1100 }

abbrev row : ℤ → ℤ → Row
row flux cross = record { low = flux; high = flux; cross = cross }

-- a row of the table: the range that the definition gives, and the paper's
pub record SegmentRun : Type 0 where
  pub given : Range
  pub paper : Range

abbrev run : Range → ℤ → ℤ → SegmentRun
run given low high = record { given = given; paper = record { low = low; high = high } }

abbrev pub segment_runs : List SegmentRun
segment_runs =
    -- water depth: two points of 50.0 ft
    run (depth_of site (weather (pos 0) (pos 0) (pos 0)) (one (pos 0))) (pos 5000) (pos 5000)
    -- "Gain, X 10, δ 5,000: s 5,000, v 10,000, Y 0 gives 274 to 275"
    ∷ run (gain_of site (weather (pos 0) (pos 0) (pos 0)) (one (pos 10000)) (one (pos 5000))) (pos 274) (pos 275)
    -- "v 0 and wind 1,000 at angle 0 at both ends gives 2,325 to 2,326": q is 28,640,000 and the cosine 10,000
    ∷ run (gain_of site (weather (pos 0) (pos 0) (pos 572800000000)) (one (pos 0)) (one (pos 5000))) (pos 2325) (pos 2326)
    -- "Force, wind 1,000 at angle 900 in all four places, Δt 1,800: 11,089 to 11,090; at angle 2,700: -11,090 to -11,089"
    ∷ run (segment_force false (weather (pos 1800) (pos 572800000000) (pos 0)) (row (pos 0) (pos 572800000000))) (pos 11089) (pos 11090)
    ∷ run (segment_force false (weather (pos 1800) (negsuc 572799999999) (pos 0)) (row (pos 0) (negsuc 572799999999))) (negsuc 11089) (negsuc 11088)
    -- "Flux, F 0, κ 25, δ 1,000: v 1,000, Δt 1,800 gives 689 to 690; v -1,000 gives -690 to -689; v 2,500, Δt 1,600 gives 1,250 to 1,250"
    ∷ run (free_flux site (weather (pos 1800) (pos 0) (pos 0)) (row (pos 1000) (pos 0)) (one (pos 1000))) (pos 689) (pos 690)
    ∷ run (free_flux site (weather (pos 1800) (pos 0) (pos 0)) (row (negsuc 999) (pos 0)) (one (pos 1000))) (negsuc 689) (negsuc 688)
    ∷ run (free_flux site (weather (pos 1600) (pos 0) (pos 0)) (row (pos 2500) (pos 0)) (one (pos 1000))) (pos 1250) (pos 1250)
    -- the same three, held: without wind nothing is let through
    ∷ run (flux_of false site (weather (pos 1800) (pos 0) (pos 0)) (row (pos 1000) (pos 0)) (one (pos 1000))) (pos 0) (pos 0)
    ∷ run (flux_of false site (weather (pos 1800) (pos 0) (pos 0)) (row (negsuc 999) (pos 0)) (one (pos 1000))) (pos 0) (pos 0)
    ∷ run (flux_of false site (weather (pos 1600) (pos 0) (pos 0)) (row (pos 2500) (pos 0)) (one (pos 1000))) (pos 0) (pos 0)
    -- wind 1,000 at angle 900 at both ends, in this record alone: b is 4,964. A minute on, c is 4,964 at δ 1,000 and from 4,467.6 to 5,460.4 at 900 to 1,100
    ∷ run (free_flux site minute (row (pos 10000) (pos 0)) (one (pos 1000))) (pos 8855) (pos 8857)
    ∷ run (flux_of false site minute (row (pos 10000) (pos 0)) (one (pos 1000))) (pos 4964) (pos 4964)
    ∷ run (flux_of false site minute (row (pos 10000) (pos 0)) nine_to_eleven) (pos 4467) (pos 5461)
    -- held at the low end alone
    ∷ run (flux_of false site minute (record { low = negsuc 9999; high = pos 2000; cross = pos 0 }) nine_to_eleven) (negsuc 5460) (pos 2133)
    -- "this record's" stress, whichever way: what the record before had left no mark on b
    ∷ run (flux_of false site (weather (pos 60) (negsuc 572799999999) (pos 0)) (row (pos 10000) (pos 572800000000)) (one (pos 1000))) (pos 4964) (pos 4964)
    -- "In the first record the flux stays 0"
    ∷ run (flux_of true site (weather (pos 0) (pos 572800000000) (pos 0)) fresh_row (one (pos 1000))) (pos 0) (pos 0)
    -- the listing's two records, of one segment: 2,325 to 2,326, and 7,302 to 7,303 less the 5,000 of its tide of 50
    ∷ run (segment_setup true site (weather (pos 0) (pos 0) (pos 572800000000)) fresh_row (one (pos 0))) (pos 2325) (pos 2326)
    ∷ run (segment_setup false site (at_level (pos 50) (weather (pos 1600) (pos 0) (pos 572800000000))) fresh_row (one (pos 0))) (pos 2302) (pos 2303)
    ∷ []

pub segment-runs : map (λ (r : SegmentRun). r.given) segment_runs ≡ map (λ (r : SegmentRun). r.paper) segment_runs
unfolding depth_of gain_of free_flux flux_of next_setup force_of limiting_speed whole_root square_root root_in quotient_low quotient_high limited_low limited_high damped_least damped_most damped_low damped_high damped_floor damped_ceil lesser greater nearest
segment-runs = refl

-- ---- an exact march that were not held would leave the range: the minute's flux is 4,964 to 4,964, and so is the exact one; without the limit it would
-- be above 8,855

abbrev moving : Kept
moving = record { v = whole (pos 10000); cross = pos 0 }

abbrev minutes-flux : Range
minutes-flux = flux_of false site minute (row (pos 10000) (pos 0)) (one (pos 1000))

pub held-within : Within minutes-flux (exact_flux false site minute moving (whole (pos 1000)))
unfolding flux_of exact_flux free_flux force_of force_fraction limiting_speed whole_root square_root root_in limited limit damped ◌/F◌ limited_low limited_high damped_least damped_most damped_low damped_high damped_floor damped_ceil lesser greater nearest
held-within = record { above = record { le = le_z_yes tt }; below = record { le = le_z_yes tt } }

pub free-outside : Within minutes-flux (damped (drag site minute) moving.v (force_fraction false minute.seconds moving.cross minute.cross) (whole (pos 1000))) → ⊥
unfolding flux_of free_flux force_of force_fraction limiting_speed whole_root square_root root_in damped ◌/F◌ limited_low limited_high damped_least damped_most damped_low damped_high damped_floor damped_ceil lesser greater nearest
free-outside h = absurd h.below.le.le

-- ---- "Edges: δ 100 and 100,000 pass, 99 and 100,001 get 10"

-- the number of a refusal; 0 for none
abbrev number : Result Leg Refusal → ℕ
number (Ok leg) = 0
number (Err refusal) = number_of refusal.kind

-- a first record without wind, over two points whose depths have such a sum
abbrev still : ℤ → ℤ → Result Leg Refusal
still depths level = segment_of 1 true (record { length = pos 10; depths = depths; sine = pos 5000; friction = pos 25 }) (at_level level (weather (pos 0) (pos 0) (pos 0))) fresh_row (one (pos 0))

pub depth-edges : map number (still (pos 0) (pos 99) ∷ still (pos 0) (pos 100) ∷ still (pos 20000) (pos 0) ∷ still (pos 20000) (pos 1) ∷ []) ≡ 10 ∷ 0 ∷ 0 ∷ 10 ∷ []
unfolding segment_of depth_of gain_of flux_of next_setup quotient_low quotient_high inside range_inside
depth-edges = refl
