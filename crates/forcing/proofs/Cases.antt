-- Document 01's reference runs for stress, sine and force, one table with one fact over it: the definitions compute to its numbers. Then the
-- coefficients that TM-35 prints, and limiting speeds. Assumes nothing.
use mathlib.Core.Path.{◌≡◌, refl}
use mathlib.Core.Bool.{false}
use mathlib.Core.List.{List, [], ◌∷◌, map}
use lib.IntN.{ℤ, pos, negsuc, ◌+ℤ◌}
use Rattle.ranges.specs.declared.Range.{Range}
use Rattle.ranges.specs.Fraction.{whole, ◌*F◌, ◌/F◌}
use Rattle.ranges.specs.Nearest.{nearest_whole}
use Rattle.ranges.specs.Root.{whole_root, square_root, root_in}
use Rattle.forcing.specs.Sine.{scaled_sine, sine_entry}
use Rattle.forcing.specs.Quadrant.{sine_of, cosine_of}
use Rattle.forcing.specs.Coefficient.{coefficient_of, as_fraction}
use Rattle.forcing.specs.Stress.{stress_of, cross_of}
use Rattle.forcing.specs.Force.{force_of}
use Rattle.forcing.specs.Limit.{limiting_speed}

-- wind 1,000 at one angle in all four places, Δt 1,800
abbrev pub force_at : ℤ → Range
force_at angle = force_of false (pos 1800) (cross_of (pos 1000) angle +ℤ cross_of (pos 1000) angle) (cross_of (pos 1000) angle +ℤ cross_of (pos 1000) angle)

-- what the definitions give
abbrev pub computed : List ℤ
computed =
    stress_of (pos 160) ∷ stress_of (pos 161) ∷ stress_of (pos 1000) ∷
    sine_of (pos 300) ∷ sine_of (pos 2100) ∷ cosine_of (pos 900) ∷
    (force_at (pos 900)).low ∷ (force_at (pos 900)).high ∷
    (force_at (pos 2700)).low ∷ (force_at (pos 2700)).high ∷ []

-- document 01's numbers: 281,600, 285,156, 28,640,000; 5,000, -5,000, 0; 11,089 to 11,090; -11,090 to -11,089
abbrev pub expected : List ℤ
expected =
    pos 281600 ∷ pos 285156 ∷ pos 28640000 ∷
    pos 5000 ∷ negsuc 4999 ∷ pos 0 ∷
    pos 11089 ∷ pos 11090 ∷
    negsuc 11089 ∷ negsuc 11088 ∷ []

pub cases : computed ≡ expected
unfolding ◌/F◌ scaled_sine sine_entry sine_of cosine_of stress_of cross_of force_of
cases = refl

-- TM-35, Table 1 (page 37), row by row: the winds of column 12, and k as column 18 prints it, in 10⁻⁸. Two winds of our copy, 101.0 and 99.1, are
-- not those of their rows: columns 16 and 17 say 102.0 and 96.1
abbrev pub printed_winds : List ℤ
printed_winds =
    pos 900 ∷ pos 937 ∷ pos 973 ∷ pos 990 ∷ pos 1005 ∷ pos 1015 ∷ pos 1020 ∷ pos 1020 ∷
    pos 1020 ∷ pos 1015 ∷ pos 1005 ∷ pos 998 ∷ pos 992 ∷ pos 961 ∷ pos 902 ∷ []

abbrev pub printed_coefficients : List ℤ
printed_coefficients =
    pos 279 ∷ pos 282 ∷ pos 285 ∷ pos 286 ∷ pos 287 ∷ pos 287 ∷ pos 288 ∷ pos 288 ∷
    pos 288 ∷ pos 287 ∷ pos 287 ∷ pos 286 ∷ pos 286 ∷ pos 284 ∷ pos 279 ∷ []

pub table-1 : map (λ (w : ℤ). nearest_whole (whole (pos 10) *F as_fraction (coefficient_of w))) printed_winds ≡ printed_coefficients
unfolding ◌/F◌
table-1 = refl

-- limiting speeds: of the strongest winds across, with the least friction; of wind 1,000 at angle 900 at both ends, κ 25; with κ 22, where 225,000·κ·11²
-- is 242 times 2,475,000, of that sum, of one less and of its negative; and of no stress
pub speeds : limiting_speed (pos 10) (pos 2572800000000) ∷ limiting_speed (pos 25) (pos 572800000000)
    ∷ limiting_speed (pos 22) (pos 2475000) ∷ limiting_speed (pos 22) (pos 2474999) ∷ limiting_speed (pos 22) (negsuc 2474999) ∷ limiting_speed (pos 25) (pos 0) ∷ []
    ≡ pos 16634 ∷ pos 4964 ∷ pos 11 ∷ pos 10 ∷ pos 11 ∷ pos 0 ∷ []
unfolding limiting_speed whole_root square_root root_in
speeds = refl
