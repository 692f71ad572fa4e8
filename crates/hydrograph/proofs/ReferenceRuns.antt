-- Document 01's "Reference runs (to be proved together, as one table with one fact over it)": every stress, sine, force, flux and gain case, the
-- edges, and the listing from its two texts. One list of runs, each what a definition gives beside what the paper says; `reference-runs` says that
-- the two columns are the same. Beside it a table of ours, `our-runs`: the paper's runs have deficit 0 everywhere, so equation 33 counts in none of
-- them, and no flux of theirs is held. What ours are said to give was worked out by the second implementation, in fractions (`tests/model`). Assumes
-- nothing.
use mathlib.Core.Path.{◌≡◌, refl}
use mathlib.Core.Bool.{true, false}
use mathlib.Core.List.{List, [], ◌∷◌, ◌++◌, map}
use Prim.Native.Nat.{ℕ}
use lib.IntN.{ℤ, pos, negsuc, ◌+ℤ◌, ◌*ℤ◌}
use Rattle.ranges.specs.declared.Range.{Range}
use Rattle.ranges.specs.Fraction.{◌/F◌}
use Rattle.ranges.specs.Range.{lesser, greater, nearest}
use Rattle.ranges.specs.Quotient.{quotient_low, quotient_high}
use Rattle.ranges.specs.Limited.{limited_low, limited_high}
use Rattle.ranges.specs.Root.{whole_root, square_root, root_in}
use Rattle.ranges.specs.Damped.{damped_of, damped_least, damped_most, damped_low, damped_high, damped_floor, damped_ceil}
use Rattle.std.specs.Prelude.{Result, Ok, Err}
use Rattle.records.specs.declared.Refusal.{Refusal}
use Rattle.records.specs.CheckOrder.{first_bad, first_of}
use Rattle.forcing.specs.Sine.{scaled_sine, sine_entry}
use Rattle.forcing.specs.Quadrant.{sine_of, cosine_of}
use Rattle.forcing.specs.Stress.{stress_of, cross_of, onshore_of}
use Rattle.forcing.specs.Force.{force_of}
use Rattle.forcing.specs.Limit.{limiting_speed}
use Rattle.records.specs.Groups.{wholes, group_at, put_group, groups, flat}
use Rattle.records.specs.Limits.{inside, range_inside, count_ok, build_has, head_ok, station_ok, seconds_ok, point_ok, calm_ok, row_ok}
use Rattle.records.specs.Refusals.{number_of}
use Rattle.records.specs.Rows.{fresh_row}
use Rattle.records.specs.Shapes.{storm}
use Rattle.segment.specs.Segment.{depth_of, free_flux, flux_of, gain_of, next_setup, segment_of, shore_base}
use Rattle.march.specs.Checks.{spacing_ok, traverse_checks, open_of, places_ok, lent_checks, times_ok, record_checks, record_check, checks_of}
use Rattle.march.specs.March.{march_by, segment_at}
use Rattle.march.specs.Take.{take_of}
use Rattle.listing.specs.Decimal.{digits_of, decimal_of, signed_text}
use Rattle.listing.specs.Lines.{values_line, refused_line}
use Rattle.reader.specs.Text.{more, digit_at, digits, worth, good_of, signed_value, start_at, good_at, value_at, past_at, close_of}
use Rattle.reader.specs.Lines.{repeated, kept_with, same_with, values_at, lines_at, spells, names_at}
use Rattle.reader.specs.Storm.{storm_start, record_of, next_at, records_by, storm_rest, storm_of}
use Rattle.reader.specs.Traverse.{start, with_values, stored_at, with_point, line_at, counted_by, end_at, rest_by, rest_at, traverse_of}
use Rattle.hydrograph.specs.Listing.{hydrograph_lines, listing_of}

-- ---- the table

-- a number, a range, the number of a refusal (0 for none), or bytes
pub data Value : Type 0 where
  number : ℤ → Value
  range : ℤ → ℤ → Value
  refusal : ℕ → Value
  bytes : List ℕ → Value

-- what a definition gives, and what it is said to give: by the paper, or in our own table by the second implementation
pub record ReferenceRun : Type 0 where
  pub given : Value
  pub said : Value

abbrev gives : Value → Value → ReferenceRun
gives given said = record { given = given; said = said }

-- the two columns of a table are the same
abbrev pub Agree : List ReferenceRun → Type 0
Agree runs = map (λ (r : ReferenceRun). r.given) runs ≡ map (λ (r : ReferenceRun). r.said) runs

abbrev ranged : Range → Value
ranged r = range r.low r.high

abbrev one : ℤ → Range
one z = record { low = z; high = z }

-- ---- what the runs are of

-- "wind 1,000 at angle .. in all four places, Δt 1,800"
abbrev force : ℤ → Value
force angle = ranged (force_of false (pos 1800) (cross_of (pos 1000) angle +ℤ cross_of (pos 1000) angle) (cross_of (pos 1000) angle +ℤ cross_of (pos 1000) angle))

-- "κ 25", Δt, v, F and δ, before the limit: document 02, "Document 01's flux cases stand for the step before the limit"
abbrev flux : ℤ → Range → ℤ → ℤ → Value
flux seconds v f δ = ranged (damped_of (pos 25 *ℤ seconds) v (one f) (one δ))

-- "X 10, δ 5,000", s 5,000: v and Y
abbrev gain : ℤ → ℤ → Value
gain v onshore =
    ranged (gain_of (record { length = pos 10; depths = pos 1000; sine = pos 5000; friction = pos 25 }) (record { seconds = pos 0; level = pos 0; deficits = pos 0; cross = pos 0; onshore = onshore }) (one v) (one (pos 5000)))

-- the refusal of a still first record at the water depth 5·(sum of the depths) + level
abbrev answer_number : {A : Type 0} → Result A Refusal → Value
answer_number (Ok x) = refusal 0
answer_number (Err r) = refusal (number_of r.kind)

abbrev still : ℤ → ℤ → Value
still depths level =
    answer_number (segment_of 1 true (record { length = pos 10; depths = depths; sine = pos 5000; friction = pos 25 }) (record { seconds = pos 0; level = level; deficits = pos 0; cross = pos 0; onshore = pos 0 }) fresh_row (one (pos 0)))

-- check 9 of a later record of so many seconds
abbrev lasting : ℤ → Value
lasting seconds = answer_number (record_check 0 (storm (record { seconds = seconds; tide = pos 0 }) []) (record { elapsed = pos 0; started = true }))

-- ---- the two texts of the listing, and the listing

abbrev traverse_text : List ℕ
traverse_text =
    -- latitude friction initial
    (108 ∷ 97 ∷ 116 ∷ 105 ∷ 116 ∷ 117 ∷ 100 ∷ 101 ∷ 32 ∷ 102 ∷ 114 ∷ 105 ∷ 99 ∷ 116 ∷ 105 ∷ 111 ∷ 110 ∷ 32 ∷ 105 ∷ 110 ∷ 105 ∷ 116 ∷ 105 ∷ 97 ∷ 108 ∷ 10 ∷ [])
    -- 300 25 0
    ++ (51 ∷ 48 ∷ 48 ∷ 32 ∷ 50 ∷ 53 ∷ 32 ∷ 48 ∷ 10 ∷ [])
    -- distance depth
    ++ (100 ∷ 105 ∷ 115 ∷ 116 ∷ 97 ∷ 110 ∷ 99 ∷ 101 ∷ 32 ∷ 100 ∷ 101 ∷ 112 ∷ 116 ∷ 104 ∷ 10 ∷ [])
    -- 10 500
    ++ (49 ∷ 48 ∷ 32 ∷ 53 ∷ 48 ∷ 48 ∷ 10 ∷ [])
    -- 0 500
    ++ (48 ∷ 32 ∷ 53 ∷ 48 ∷ 48 ∷ 10 ∷ [])

abbrev storm_text : List ℕ
storm_text =
    -- seconds tide wind angle deficit
    (115 ∷ 101 ∷ 99 ∷ 111 ∷ 110 ∷ 100 ∷ 115 ∷ 32 ∷ 116 ∷ 105 ∷ 100 ∷ 101 ∷ 32 ∷ 119 ∷ 105 ∷ 110 ∷ 100 ∷ 32 ∷ 97 ∷ 110 ∷ 103 ∷ 108 ∷ 101 ∷ 32 ∷ 100 ∷ 101 ∷ 102 ∷ 105 ∷ 99 ∷ 105 ∷ 116 ∷ 10 ∷ [])
    -- 0 0 1000 0 0
    ++ (48 ∷ 32 ∷ 48 ∷ 32 ∷ 49 ∷ 48 ∷ 48 ∷ 48 ∷ 32 ∷ 48 ∷ 32 ∷ 48 ∷ 10 ∷ [])
    -- 0 0 1000 0 0
    ++ (48 ∷ 32 ∷ 48 ∷ 32 ∷ 49 ∷ 48 ∷ 48 ∷ 48 ∷ 32 ∷ 48 ∷ 32 ∷ 48 ∷ 10 ∷ [])
    -- 1600 50 1000 0 0
    ++ (49 ∷ 54 ∷ 48 ∷ 48 ∷ 32 ∷ 53 ∷ 48 ∷ 32 ∷ 49 ∷ 48 ∷ 48 ∷ 48 ∷ 32 ∷ 48 ∷ 32 ∷ 48 ∷ 10 ∷ [])
    -- 1600 50 1000 0 0
    ++ (49 ∷ 54 ∷ 48 ∷ 48 ∷ 32 ∷ 53 ∷ 48 ∷ 32 ∷ 49 ∷ 48 ∷ 48 ∷ 48 ∷ 32 ∷ 48 ∷ 32 ∷ 48 ∷ 10 ∷ [])

abbrev listing_text : List ℕ
listing_text =
    -- seconds low high
    (115 ∷ 101 ∷ 99 ∷ 111 ∷ 110 ∷ 100 ∷ 115 ∷ 32 ∷ 108 ∷ 111 ∷ 119 ∷ 32 ∷ 104 ∷ 105 ∷ 103 ∷ 104 ∷ 10 ∷ [])
    -- 0 2325 2326
    ++ (48 ∷ 32 ∷ 50 ∷ 51 ∷ 50 ∷ 53 ∷ 32 ∷ 50 ∷ 51 ∷ 50 ∷ 54 ∷ 10 ∷ [])
    -- 1600 7302 7303
    ++ (49 ∷ 54 ∷ 48 ∷ 48 ∷ 32 ∷ 55 ∷ 51 ∷ 48 ∷ 50 ∷ 32 ∷ 55 ∷ 51 ∷ 48 ∷ 51 ∷ 10 ∷ [])

-- ---- the runs

abbrev pub reference_runs : List ReferenceRun
reference_runs =
    -- "q: 160 gives 281,600; 161 gives 285,156; 1,000 gives 28,640,000"
    gives (number (stress_of (pos 160))) (number (pos 281600))
    ∷ gives (number (stress_of (pos 161))) (number (pos 285156))
    ∷ gives (number (stress_of (pos 1000))) (number (pos 28640000))
    -- "Sine: 300 gives 5,000; 2,100 gives -5,000; cosine of 900 is 0"
    ∷ gives (number (sine_of (pos 300))) (number (pos 5000))
    ∷ gives (number (sine_of (pos 2100))) (number (negsuc 4999))
    ∷ gives (number (cosine_of (pos 900))) (number (pos 0))
    -- "Force, wind 1,000 at angle 900 ..: 11,089 to 11,090; at angle 2,700: -11,090 to -11,089"
    ∷ gives (force (pos 900)) (range (pos 11089) (pos 11090))
    ∷ gives (force (pos 2700)) (range (negsuc 11089) (negsuc 11088))
    -- "Flux, F 0, κ 25, δ 1,000: v 1,000, Δt 1,800 gives 689 to 690; v -1,000 gives -690 to -689; v 2,500, Δt 1,600 gives 1,250 to 1,250"
    ∷ gives (flux (pos 1800) (one (pos 1000)) (pos 0) (pos 1000)) (range (pos 689) (pos 690))
    ∷ gives (flux (pos 1800) (one (negsuc 999)) (pos 0) (pos 1000)) (range (negsuc 689) (negsuc 688))
    ∷ gives (flux (pos 1600) (one (pos 2500)) (pos 0) (pos 1000)) (range (pos 1250) (pos 1250))
    -- "Flux, v from -1,000 to 1,000, F 100, κ 25, Δt 1,600, δ 100: -22 to 100"
    ∷ gives (flux (pos 1600) (record { low = negsuc 999; high = pos 1000 }) (pos 100) (pos 100)) (range (negsuc 21) (pos 100))
    -- "Gain, X 10, δ 5,000: s 5,000, v 10,000, Y 0 gives 274 to 275; v 0 and wind 1,000 at angle 0 at both ends gives 2,325 to 2,326"
    ∷ gives (gain (pos 10000) (pos 0)) (range (pos 274) (pos 275))
    ∷ gives (gain (pos 0) (onshore_of (pos 1000) (pos 0) +ℤ onshore_of (pos 1000) (pos 0))) (range (pos 2325) (pos 2326))
    -- "δ 100 and 100,000 pass, 99 and 100,001 get 10"
    ∷ gives (still (pos 0) (pos 99)) (refusal 10)
    ∷ gives (still (pos 0) (pos 100)) (refusal 0)
    ∷ gives (still (pos 20000) (pos 0)) (refusal 0)
    ∷ gives (still (pos 20000) (pos 1)) (refusal 10)
    -- "3,600 s passes, 3,601 gets 9"
    ∷ gives (lasting (pos 3600)) (refusal 0)
    ∷ gives (lasting (pos 3601)) (refusal 9)
    -- "The listing, by the program, from values .."
    ∷ gives (bytes (listing_of traverse_text storm_text)) (bytes listing_text)
    ∷ []

-- ---- runs of our own, not the paper's: deficits that differ from point to point and from record to record, three points, tide and angle not nought,
-- and a last record of little wind, whose limiting flux holds both fluxes.
-- 57 for 114 or 114 for 57, another point's deficit in the shore height, or one end's deficit for both, each prints another listing

abbrev our_traverse_text : List ℕ
our_traverse_text =
    -- latitude friction initial
    (108 ∷ 97 ∷ 116 ∷ 105 ∷ 116 ∷ 117 ∷ 100 ∷ 101 ∷ 32 ∷ 102 ∷ 114 ∷ 105 ∷ 99 ∷ 116 ∷ 105 ∷ 111 ∷ 110 ∷ 32 ∷ 105 ∷ 110 ∷ 105 ∷ 116 ∷ 105 ∷ 97 ∷ 108 ∷ 10 ∷ [])
    -- 285 30 40
    ++ (50 ∷ 56 ∷ 53 ∷ 32 ∷ 51 ∷ 48 ∷ 32 ∷ 52 ∷ 48 ∷ 10 ∷ [])
    -- distance depth
    ++ (100 ∷ 105 ∷ 115 ∷ 116 ∷ 97 ∷ 110 ∷ 99 ∷ 101 ∷ 32 ∷ 100 ∷ 101 ∷ 112 ∷ 116 ∷ 104 ∷ 10 ∷ [])
    -- 65 900
    ++ (54 ∷ 53 ∷ 32 ∷ 57 ∷ 48 ∷ 48 ∷ 10 ∷ [])
    -- 20 350
    ++ (50 ∷ 48 ∷ 32 ∷ 51 ∷ 53 ∷ 48 ∷ 10 ∷ [])
    -- 0 120
    ++ (48 ∷ 32 ∷ 49 ∷ 50 ∷ 48 ∷ 10 ∷ [])

abbrev our_storm_text : List ℕ
our_storm_text =
    -- seconds tide wind angle deficit
    (115 ∷ 101 ∷ 99 ∷ 111 ∷ 110 ∷ 100 ∷ 115 ∷ 32 ∷ 116 ∷ 105 ∷ 100 ∷ 101 ∷ 32 ∷ 119 ∷ 105 ∷ 110 ∷ 100 ∷ 32 ∷ 97 ∷ 110 ∷ 103 ∷ 108 ∷ 101 ∷ 32 ∷ 100 ∷ 101 ∷ 102 ∷ 105 ∷ 99 ∷ 105 ∷ 116 ∷ 10 ∷ [])
    -- 0 30 620 250 20
    ++ (48 ∷ 32 ∷ 51 ∷ 48 ∷ 32 ∷ 54 ∷ 50 ∷ 48 ∷ 32 ∷ 50 ∷ 53 ∷ 48 ∷ 32 ∷ 50 ∷ 48 ∷ 10 ∷ [])
    -- 0 30 700 310 45
    ++ (48 ∷ 32 ∷ 51 ∷ 48 ∷ 32 ∷ 55 ∷ 48 ∷ 48 ∷ 32 ∷ 51 ∷ 49 ∷ 48 ∷ 32 ∷ 52 ∷ 53 ∷ 10 ∷ [])
    -- 0 30 760 350 80
    ++ (48 ∷ 32 ∷ 51 ∷ 48 ∷ 32 ∷ 55 ∷ 54 ∷ 48 ∷ 32 ∷ 51 ∷ 53 ∷ 48 ∷ 32 ∷ 56 ∷ 48 ∷ 10 ∷ [])
    -- 1800 -45 810 400 65
    ++ (49 ∷ 56 ∷ 48 ∷ 48 ∷ 32 ∷ 45 ∷ 52 ∷ 53 ∷ 32 ∷ 56 ∷ 49 ∷ 48 ∷ 32 ∷ 52 ∷ 48 ∷ 48 ∷ 32 ∷ 54 ∷ 53 ∷ 10 ∷ [])
    -- 1800 -45 900 480 110
    ++ (49 ∷ 56 ∷ 48 ∷ 48 ∷ 32 ∷ 45 ∷ 52 ∷ 53 ∷ 32 ∷ 57 ∷ 48 ∷ 48 ∷ 32 ∷ 52 ∷ 56 ∷ 48 ∷ 32 ∷ 49 ∷ 49 ∷ 48 ∷ 10 ∷ [])
    -- 1800 -45 870 520 150
    ++ (49 ∷ 56 ∷ 48 ∷ 48 ∷ 32 ∷ 45 ∷ 52 ∷ 53 ∷ 32 ∷ 56 ∷ 55 ∷ 48 ∷ 32 ∷ 53 ∷ 50 ∷ 48 ∷ 32 ∷ 49 ∷ 53 ∷ 48 ∷ 10 ∷ [])
    -- 2700 60 690 1900 90
    ++ (50 ∷ 55 ∷ 48 ∷ 48 ∷ 32 ∷ 54 ∷ 48 ∷ 32 ∷ 54 ∷ 57 ∷ 48 ∷ 32 ∷ 49 ∷ 57 ∷ 48 ∷ 48 ∷ 32 ∷ 57 ∷ 48 ∷ 10 ∷ [])
    -- 2700 60 750 2100 140
    ++ (50 ∷ 55 ∷ 48 ∷ 48 ∷ 32 ∷ 54 ∷ 48 ∷ 32 ∷ 55 ∷ 53 ∷ 48 ∷ 32 ∷ 50 ∷ 49 ∷ 48 ∷ 48 ∷ 32 ∷ 49 ∷ 52 ∷ 48 ∷ 10 ∷ [])
    -- 2700 60 640 3300 95
    ++ (50 ∷ 55 ∷ 48 ∷ 48 ∷ 32 ∷ 54 ∷ 48 ∷ 32 ∷ 54 ∷ 52 ∷ 48 ∷ 32 ∷ 51 ∷ 51 ∷ 48 ∷ 48 ∷ 32 ∷ 57 ∷ 53 ∷ 10 ∷ [])
    -- 900 60 250 2300 60
    ++ (57 ∷ 48 ∷ 48 ∷ 32 ∷ 54 ∷ 48 ∷ 32 ∷ 50 ∷ 53 ∷ 48 ∷ 32 ∷ 50 ∷ 51 ∷ 48 ∷ 48 ∷ 32 ∷ 54 ∷ 48 ∷ 10 ∷ [])
    -- 900 60 180 2650 85
    ++ (57 ∷ 48 ∷ 48 ∷ 32 ∷ 54 ∷ 48 ∷ 32 ∷ 49 ∷ 56 ∷ 48 ∷ 32 ∷ 50 ∷ 54 ∷ 53 ∷ 48 ∷ 32 ∷ 56 ∷ 53 ∷ 10 ∷ [])
    -- 900 60 210 2800 70
    ++ (57 ∷ 48 ∷ 48 ∷ 32 ∷ 54 ∷ 48 ∷ 32 ∷ 50 ∷ 49 ∷ 48 ∷ 32 ∷ 50 ∷ 56 ∷ 48 ∷ 48 ∷ 32 ∷ 55 ∷ 48 ∷ 10 ∷ [])

abbrev our_listing_text : List ℕ
our_listing_text =
    -- seconds low high
    (115 ∷ 101 ∷ 99 ∷ 111 ∷ 110 ∷ 100 ∷ 115 ∷ 32 ∷ 108 ∷ 111 ∷ 119 ∷ 32 ∷ 104 ∷ 105 ∷ 103 ∷ 104 ∷ 10 ∷ [])
    -- 0 22698 22702
    ++ (48 ∷ 32 ∷ 50 ∷ 50 ∷ 54 ∷ 57 ∷ 56 ∷ 32 ∷ 50 ∷ 50 ∷ 55 ∷ 48 ∷ 50 ∷ 10 ∷ [])
    -- 1800 26051 26055
    ++ (49 ∷ 56 ∷ 48 ∷ 48 ∷ 32 ∷ 50 ∷ 54 ∷ 48 ∷ 53 ∷ 49 ∷ 32 ∷ 50 ∷ 54 ∷ 48 ∷ 53 ∷ 53 ∷ 10 ∷ [])
    -- 4500 17722 17725
    ++ (52 ∷ 53 ∷ 48 ∷ 48 ∷ 32 ∷ 49 ∷ 55 ∷ 55 ∷ 50 ∷ 50 ∷ 32 ∷ 49 ∷ 55 ∷ 55 ∷ 50 ∷ 53 ∷ 10 ∷ [])
    -- 5400 18414 18416, and 18751 18753 if the last record's fluxes were not held
    ++ (53 ∷ 52 ∷ 48 ∷ 48 ∷ 32 ∷ 49 ∷ 56 ∷ 52 ∷ 49 ∷ 52 ∷ 32 ∷ 49 ∷ 56 ∷ 52 ∷ 49 ∷ 54 ∷ 10 ∷ [])

-- the water depth between points of 35.0 and 12.0 ft at level -5 with deficits 110 and 150, setup 10,955 to 10,957
abbrev our_depth : Value
our_depth =
    ranged (depth_of (record { length = pos 20; depths = pos 470; sine = pos 4772; friction = pos 30 }) (record { seconds = pos 0; level = negsuc 4; deficits = pos 260; cross = pos 0; onshore = pos 0 }) (record { low = pos 10955; high = pos 10957 }))

abbrev pub our_runs : List ReferenceRun
our_runs =
    gives our_depth (range (pos 2602) (pos 2603))
    -- the shore height at level -5 without setup, deficit 150 at the shore
    ∷ gives (number (shore_base (negsuc 4) (pos 150))) (number (pos 16600))
    ∷ gives (bytes (listing_of our_traverse_text our_storm_text)) (bytes our_listing_text)
    ∷ []

-- ---- the facts

all_runs : Agree reference_runs × Agree our_runs
unfolding ◌/F◌ lesser greater nearest whole_root square_root root_in quotient_low quotient_high limited_low limited_high damped_least damped_most damped_low damped_high damped_floor damped_ceil scaled_sine sine_entry sine_of cosine_of stress_of cross_of onshore_of force_of limiting_speed wholes group_at put_group groups flat inside range_inside count_ok build_has head_ok station_ok seconds_ok point_ok row_ok depth_of free_flux flux_of gain_of next_setup segment_of shore_base first_bad spacing_ok first_of traverse_checks open_of places_ok lent_checks times_ok record_checks checks_of calm_ok march_by segment_at take_of digits_of decimal_of signed_text values_line refused_line more digit_at digits worth good_of signed_value start_at good_at value_at past_at close_of repeated kept_with same_with values_at lines_at spells names_at storm_start record_of next_at records_by storm_rest storm_of start with_values stored_at with_point line_at counted_by end_at rest_by rest_at traverse_of hydrograph_lines listing_of
all_runs = (refl, refl)

-- the paper's table
pub reference-runs : Agree reference_runs
reference-runs = all_runs.0

-- our own
pub our-runs : Agree our_runs
our-runs = all_runs.1
