-- The checks of a call on numbers worked out by hand: 18 and 19, document 02's Q-4 and Q-5, beside their neighbours in the order. antt computes each.
-- Assumes nothing.
use mathlib.Core.Path.{◌≡◌, refl}
use mathlib.Core.Bool.{Bool, true, false}
use mathlib.Core.List.{[], ◌∷◌}
use Prim.Native.Nat.{ℕ, ◌*◌}
use lib.ListN.{replicate}
use lib.IntN.{ℤ, pos, negsuc}
use Rattle.records.specs.CheckOrder.{Check, Pass, Fail, first_bad, first_of}
use Rattle.records.specs.declared.Kind.TheVariants.{Lent, RecordValue, CalmAngle}
use Rattle.records.specs.Groups.{wholes, group_at}
use Rattle.records.specs.Limits.{inside, range_inside, most_points, panel_points, count_ok, build_has, head_ok, station_ok, seconds_ok, point_ok, calm_ok, row_ok}
use Rattle.records.specs.Refusals.{refusal}
use Rattle.records.specs.Shapes.{storm, traverse}
use Rattle.march.specs.Answers.{ToldOpen, not_opened}
use Rattle.march.specs.Checks.{spacing_ok, traverse_checks, open_of, places_ok, lent_checks, times_ok, record_checks, checks_of}

-- three points; two rows, of which the second may have a low end; a record of three points, the first and the second with given wind and angle
abbrev checked : Bool → ℤ → ℤ → ℤ → ℤ → ℤ → ℤ → Check
checked started seconds low w₁ a₁ w₂ a₂ =
    first_of (checks_of 65
    (traverse (record { latitude = pos 300; friction = pos 25; initial = pos 0 }) (pos 20 ∷ pos 900 ∷ pos 10 ∷ pos 500 ∷ pos 0 ∷ pos 300 ∷ []))
    (storm (record { seconds = seconds; tide = pos 0 }) (w₁ ∷ a₁ ∷ pos 0 ∷ w₂ ∷ a₂ ∷ pos 0 ∷ pos 1 ∷ pos 3599 ∷ pos 0 ∷ []))
    (record { elapsed = pos 0; started = started })
    (pos 0 ∷ pos 0 ∷ pos 0 ∷ low ∷ pos 0 ∷ pos 0 ∷ [])
    0)

abbrev later : ℤ → ℤ → ℤ → ℤ → Check
later = checked true (pos 600) (pos 0)

-- a wind of 0 with angle 0 passes, and so does every other wind with any angle
calms : later (pos 0) (pos 0) (pos 0) (pos 0) ≡ Pass
unfolding first_of first_bad checks_of traverse_checks lent_checks record_checks wholes group_at inside range_inside count_ok build_has head_ok station_ok spacing_ok places_ok row_ok times_ok seconds_ok point_ok calm_ok
calms = refl

-- the first of two calms that have a direction; and the second where the first has none
two-calms : (later (pos 0) (pos 1) (pos 0) (pos 3599) ∷ later (pos 0) (pos 0) (pos 0) (pos 3599) ∷ []) ≡ (Fail (refusal CalmAngle 1) ∷ Fail (refusal CalmAngle 2) ∷ [])
unfolding first_of first_bad checks_of traverse_checks lent_checks record_checks wholes group_at inside range_inside count_ok build_has head_ok station_ok spacing_ok places_ok row_ok times_ok seconds_ok point_ok calm_ok
two-calms = refl

-- a first record's calms are judged too
first-record : checked false (pos 0) (pos 0) (pos 700) (pos 900) (pos 0) (pos 900) ≡ Fail (refusal CalmAngle 2)
unfolding first_of first_bad checks_of traverse_checks lent_checks record_checks wholes group_at inside range_inside count_ok build_has head_ok station_ok spacing_ok places_ok row_ok times_ok seconds_ok point_ok calm_ok
first-record = refl

-- two faults at once: check 9 comes first, at a later point, at the same point (angle 3600) and with place 0 (seconds); and check 8 before both
pairs :
    (later (pos 0) (pos 5) (pos 2001) (pos 0) ∷ later (pos 0) (pos 3600) (pos 0) (pos 5) ∷ checked true (pos 3601) (pos 0) (pos 0) (pos 5) (pos 0) (pos 0)
    ∷ checked true (pos 600) (pos 1) (pos 0) (pos 5) (negsuc 0) (pos 0) ∷ [])
    ≡ (Fail (refusal RecordValue 2) ∷ Fail (refusal RecordValue 1) ∷ Fail (refusal RecordValue 0) ∷ Fail (refusal Lent 2) ∷ [])
unfolding first_of first_bad checks_of traverse_checks lent_checks record_checks wholes group_at inside range_inside count_ok build_has head_ok station_ok spacing_ok places_ok row_ok times_ok seconds_ok point_ok calm_ok
pairs = refl

-- ---- document 02's Q-5

-- opening n points, all of them the shore: where the count passes, check 7 refuses the second
abbrev flat_shore : ℕ → ℕ → ToldOpen
flat_shore most n = (open_of most (traverse (record { latitude = pos 300; friction = pos 25; initial = pos 0 }) (replicate (2 * n) (pos 0)))).answer

-- the panel has 17 points at most; 18 to 65 are refused by 19, and what 5 refuses everywhere it refuses there too
on-panel :
    (flat_shore panel_points 0 ∷ flat_shore panel_points 1 ∷ flat_shore panel_points 2 ∷ flat_shore panel_points 17 ∷ flat_shore panel_points 18
    ∷ flat_shore panel_points 65 ∷ flat_shore panel_points 66 ∷ [])
    ≡ (not_opened 5 0 ∷ not_opened 5 1 ∷ not_opened 7 2 ∷ not_opened 7 2 ∷ not_opened 19 18 ∷ not_opened 19 65 ∷ not_opened 5 66 ∷ [])
unfolding open_of first_of first_bad traverse_checks wholes group_at inside count_ok build_has head_ok station_ok spacing_ok
on-panel = refl

-- our own program has all 65
in-program : (flat_shore most_points 17 ∷ flat_shore most_points 18 ∷ flat_shore most_points 65 ∷ flat_shore most_points 66 ∷ []) ≡ (not_opened 7 2 ∷ not_opened 7 2 ∷ not_opened 7 2 ∷ not_opened 5 66 ∷ [])
unfolding open_of first_of first_bad traverse_checks wholes group_at inside count_ok build_has head_ok station_ok spacing_ok
in-program = refl

-- two faults at once: 19 before a latitude past its limits (6), and 5 before both
abbrev latitude_901 : ℕ → ToldOpen
latitude_901 n = (open_of panel_points (traverse (record { latitude = pos 901; friction = pos 25; initial = pos 0 }) (replicate (2 * n) (pos 0)))).answer

before-six : (latitude_901 17 ∷ latitude_901 18 ∷ latitude_901 66 ∷ []) ≡ (not_opened 6 0 ∷ not_opened 19 18 ∷ not_opened 5 66 ∷ [])
unfolding open_of first_of first_bad traverse_checks wholes group_at inside count_ok build_has head_ok station_ok spacing_ok
before-six = refl
