-- The definitions on numbers worked out by hand: those of the readings, and the hurricane of TM-35's example problem (27.57 and 29.92 inches). antt
-- computes each. Assumes nothing.
use mathlib.Core.Path.{◌≡◌, refl}
use mathlib.Core.List.{List, [], ◌∷◌, ◌++◌}
use Prim.Native.Nat.{ℕ}
use lib.IntN.{ℤ, pos, negsuc}
use Rattle.std.specs.Prelude.{replicate}
use Rattle.ranges.specs.Fraction.{◌/F◌}
use Rattle.ranges.specs.Range.{lesser}
use Rattle.ranges.specs.Root.{root_in, square_root, whole_root}
use Rattle.records.specs.declared.Closing.{Closing}
use Rattle.records.specs.declared.Kind.TheVariants.{ProfileEntry}
use Rattle.records.specs.CheckOrder.{Pass, Fail, first_bad, first_of}
use Rattle.records.specs.Groups.{wholes, group_at, groups, flat}
use Rattle.records.specs.Limits.{inside, count_ok}
use Rattle.records.specs.Refusals.{refusal}
use Rattle.hurricane.specs.declared.Hurricane.{Hurricane}
use Rattle.hurricane.specs.declared.WindRow.{WindRow}
use Rattle.hurricane.specs.Checks.{rising_ok, make_checks}
use Rattle.hurricane.specs.Factor.{scaled_factor, factor_entry}
use Rattle.hurricane.specs.Field.{distance_of, hundredths_of, deficit_of, straight, wind_from, wind_of, point_for}
use Rattle.hurricane.specs.Limits.{pressures_ok, hurricane_ok, wind_count_ok, wind_row_ok, plane_point_ok}
use Rattle.hurricane.specs.Make.{made, not_made, asked, make_of, make_by}
use Rattle.hurricane.specs.Profile.{entry_ok, place_ok, profile_check}

-- ---- a point

abbrev row : ℕ → ℕ → WindRow
row radius wind = record { radius = pos radius; wind = pos wind }

-- 1000 - 300/301, rounded down, where a change divided toward nought would leave 1,000
falling : straight (row 400 1000) (row 701 700) (pos 401) ≡ pos 999
unfolding straight
falling = refl

rising : straight (row 400 700) (row 701 1000) (pos 401) ≡ pos 700
unfolding straight
rising = refl

abbrev winds : List ℤ
winds = pos 400 ∷ pos 1000 ∷ pos 701 ∷ pos 700 ∷ []

-- inside the first radius, between, at the last and beyond it
held : (wind_of winds (pos 0) ∷ wind_of winds (pos 400) ∷ wind_of winds (pos 700) ∷ wind_of winds (pos 701) ∷ wind_of winds (pos 28284) ∷ []) ≡ (pos 1000 ∷ pos 1000 ∷ pos 700 ∷ pos 700 ∷ pos 700 ∷ [])
unfolding wind_of wind_from straight group_at wholes
held = refl

-- the greatest distance, and one that is a whole number
far : (distance_of (negsuc 9999) (negsuc 9999) (pos 10000) (pos 10000) ∷ distance_of (pos 0) (pos 0) (pos 3) (negsuc 3) ∷ []) ≡ (pos 28284 ∷ pos 5 ∷ [])
unfolding distance_of whole_root square_root root_in
far = refl

-- R/r: 1; 0.872.., rounded down; ten; above ten; at the centre
ratios : (hundredths_of (pos 350) (pos 350) ∷ hundredths_of (pos 350) (pos 401) ∷ hundredths_of (pos 350) (pos 35) ∷ hundredths_of (pos 350) (pos 1) ∷ hundredths_of (pos 350) (pos 0) ∷ [])
    ≡ (pos 100 ∷ pos 87 ∷ pos 1000 ∷ pos 1000 ∷ pos 1000 ∷ [])
unfolding hundredths_of lesser
ratios = refl

-- ---- a call

abbrev storm : ℤ → ℤ → Hurricane
storm central edge = record { central = central; edge = edge; radius = pos 350; x = pos 0; y = pos 0 }

abbrev closing : Closing
closing = record { seconds = negsuc 0; tide = pos 99999 }

-- points at the centre, at R and at 401, and room with a number to spare
abbrev sites : ℤ → List ℤ
sites angle = pos 0 ∷ pos 0 ∷ pos 0 ∷ pos 350 ∷ pos 0 ∷ pos 900 ∷ pos 401 ∷ pos 0 ∷ angle ∷ []

abbrev room : List ℤ
room = pos 7 ∷ pos 7 ∷ pos 7 ∷ pos 7 ∷ pos 7 ∷ pos 7 ∷ pos 7 ∷ pos 7 ∷ pos 7 ∷ pos 7 ∷ []

-- e^(-10) is 0 here, e^(-1) 0.3679, e^(-0.87) 0.4190: deficits of the drop of 2.35 inches. Seconds and tide are passed on, whatever they are
whole : make_of (asked factor_entry (storm (pos 2757) (pos 2992)) closing winds (sites (pos 3599)) room)
    ≡ record { answer = made closing; room = pos 1000 ∷ pos 0 ∷ pos 235 ∷ pos 1000 ∷ pos 900 ∷ pos 148 ∷ pos 999 ∷ pos 3599 ∷ pos 136 ∷ pos 7 ∷ [] }
unfolding make_of first_of make_checks hurricane_ok pressures_ok wind_count_ok count_ok wind_row_ok plane_point_ok rising_ok inside first_bad wholes group_at groups flat
    point_for distance_of whole_root square_root root_in hundredths_of lesser wind_of wind_from straight deficit_of factor_entry scaled_factor ◌/F◌
whole = refl

-- Q-4, a calm: at the centre by the row's own 0, at 5 by half a unit rounded down; both get angle 0. At 10 the wind is 1 and keeps the angle given
abbrev calm-rows : List ℤ
calm-rows = pos 0 ∷ pos 0 ∷ pos 10 ∷ pos 1 ∷ []

abbrev calm-sites : ℤ → List ℤ
calm-sites angle = pos 0 ∷ pos 0 ∷ pos 3599 ∷ pos 5 ∷ pos 0 ∷ angle ∷ pos 10 ∷ pos 0 ∷ pos 3599 ∷ []

calm-made : make_of (asked factor_entry (storm (pos 2757) (pos 2992)) closing calm-rows (calm-sites (pos 3599)) room)
    ≡ record { answer = made closing; room = pos 0 ∷ pos 0 ∷ pos 235 ∷ pos 0 ∷ pos 0 ∷ pos 235 ∷ pos 1 ∷ pos 3599 ∷ pos 235 ∷ pos 7 ∷ [] }
unfolding make_of first_of make_checks hurricane_ok pressures_ok wind_count_ok count_ok wind_row_ok plane_point_ok rising_ok inside first_bad wholes group_at groups flat
    point_for distance_of whole_root square_root root_in hundredths_of lesser wind_of wind_from straight deficit_of factor_entry scaled_factor ◌/F◌
calm-made = refl

-- a wind that falls to 0: at the centre it is 1 and keeps its angle, at 5 it is 0 by rounding down, and at 401 the last row's 0 is held
abbrev falling-rows : List ℤ
falling-rows = pos 0 ∷ pos 1 ∷ pos 10 ∷ pos 0 ∷ []

abbrev falling-sites : List ℤ
falling-sites = pos 0 ∷ pos 0 ∷ pos 1 ∷ pos 5 ∷ pos 0 ∷ pos 1 ∷ pos 401 ∷ pos 0 ∷ pos 1 ∷ []

calm-held : make_of (asked factor_entry (storm (pos 2757) (pos 2992)) closing falling-rows falling-sites room)
    ≡ record { answer = made closing; room = pos 1 ∷ pos 1 ∷ pos 235 ∷ pos 0 ∷ pos 0 ∷ pos 235 ∷ pos 0 ∷ pos 0 ∷ pos 136 ∷ pos 7 ∷ [] }
unfolding make_of first_of make_checks hurricane_ok pressures_ok wind_count_ok count_ok wind_row_ok plane_point_ok rising_ok inside first_bad wholes group_at groups flat
    point_for distance_of whole_root square_root root_in hundredths_of lesser wind_of wind_from straight deficit_of factor_entry scaled_factor ◌/F◌
calm-held = refl

-- the angle given at a calm is judged all the same, and the room stays
calm-judged : make_of (asked factor_entry (storm (pos 2757) (pos 2992)) closing calm-rows (calm-sites (pos 3600)) room) ≡ record { answer = not_made 13 2; room = room }
unfolding make_of first_of make_checks hurricane_ok pressures_ok wind_count_ok count_ok wind_row_ok plane_point_ok rising_ok inside first_bad wholes group_at
calm-judged = refl

-- two faults at once, and the first is answered: a point's angle before radii that fall, and these before room that is short. The room stays
abbrev falls : List ℤ
falls = pos 701 ∷ pos 700 ∷ pos 400 ∷ pos 1000 ∷ []

refused-first : make_of (asked factor_entry (storm (pos 2757) (pos 2992)) closing falls (sites (pos 3600)) room) ≡ record { answer = not_made 13 3; room = room }
unfolding make_of first_of make_checks hurricane_ok pressures_ok wind_count_ok count_ok wind_row_ok plane_point_ok rising_ok inside first_bad wholes group_at
refused-first = refl

refused-next : make_of (asked factor_entry (storm (pos 2757) (pos 2992)) closing falls (sites (pos 3599)) []) ≡ record { answer = not_made 14 2; room = [] }
unfolding make_of first_of make_checks hurricane_ok pressures_ok wind_count_ok count_ok wind_row_ok plane_point_ok rising_ok inside first_bad wholes group_at
refused-next = refl

refused-last : make_of (asked factor_entry (storm (pos 2757) (pos 2992)) closing winds (sites (pos 3599)) []) ≡ record { answer = not_made 8 0; room = [] }
unfolding make_of first_of make_checks hurricane_ok pressures_ok wind_count_ok count_ok wind_row_ok plane_point_ok rising_ok inside first_bad wholes group_at
refused-last = refl

-- ---- Q-7, a profile that is lent

-- entry 7 above the one before it, in a table of 8, and with that entry equal the table ends early; no entry at all; entry 0; an entry below 0
wrong : (
    profile_check (pos 10000 ∷ pos 9 ∷ pos 8 ∷ pos 7 ∷ pos 6 ∷ pos 5 ∷ pos 4 ∷ pos 5 ∷ [])
    ∷ profile_check (pos 10000 ∷ pos 9 ∷ pos 8 ∷ pos 7 ∷ pos 6 ∷ pos 5 ∷ pos 4 ∷ pos 4 ∷ [])
    ∷ profile_check []
    ∷ profile_check (pos 9999 ∷ pos 9 ∷ [])
    ∷ profile_check (pos 10001 ∷ pos 9 ∷ [])
    ∷ profile_check (pos 10000 ∷ pos 0 ∷ negsuc 0 ∷ pos 0 ∷ [])
    ∷ []
    )
    ≡ (
    Fail (refusal ProfileEntry 7)
    ∷ Fail (refusal ProfileEntry 8)
    ∷ Fail (refusal ProfileEntry 0)
    ∷ Fail (refusal ProfileEntry 0)
    ∷ Fail (refusal ProfileEntry 0)
    ∷ Fail (refusal ProfileEntry 2)
    ∷ []
    )
unfolding profile_check place_ok entry_ok inside first_bad
wrong = refl

-- 10,000 and then so many noughts: 1,001 entries pass, one fewer is missing, and the first that is too many is told, whatever it and those behind it are
abbrev steep : ℕ → List ℤ
steep n = pos 10000 ∷ replicate n (pos 0)

counted : (profile_check (steep 1000) ∷ profile_check (steep 999) ∷ profile_check (steep 1001) ∷ profile_check (steep 1000 ++ (pos 7 ∷ negsuc 7 ∷ [])) ∷ [])
    ≡ (Pass ∷ Fail (refusal ProfileEntry 1000) ∷ Fail (refusal ProfileEntry 1001) ∷ Fail (refusal ProfileEntry 1001) ∷ [])
unfolding profile_check place_ok entry_ok inside first_bad
counted = refl

-- by that table the whole drop of 2.35 inches is the deficit at every point, where R/r is 0.01 or more
steep-made : make_by (steep 1000) (storm (pos 2757) (pos 2992)) closing winds (sites (pos 3599)) room
    ≡ record { answer = made closing; room = pos 1000 ∷ pos 0 ∷ pos 235 ∷ pos 1000 ∷ pos 900 ∷ pos 235 ∷ pos 999 ∷ pos 3599 ∷ pos 235 ∷ pos 7 ∷ [] }
unfolding make_by profile_check place_ok entry_ok first_of make_checks hurricane_ok pressures_ok wind_count_ok count_ok wind_row_ok plane_point_ok rising_ok inside first_bad wholes group_at groups flat
    point_for distance_of whole_root square_root root_in hundredths_of lesser wind_of wind_from straight deficit_of
steep-made = refl

-- a table that is no profile is refused before a point past its limits, and this as ever
refused-20 : make_by (steep 6) (storm (pos 2757) (pos 2992)) closing falls (sites (pos 3600)) [] ≡ record { answer = not_made 20 7; room = [] }
unfolding make_by profile_check place_ok entry_ok first_of inside first_bad
refused-20 = refl

refused-13 : make_by (steep 1000) (storm (pos 2757) (pos 2992)) closing falls (sites (pos 3600)) [] ≡ record { answer = not_made 13 3; room = [] }
unfolding make_by profile_check place_ok entry_ok first_of make_checks hurricane_ok pressures_ok wind_count_ok count_ok wind_row_ok plane_point_ok rising_ok inside first_bad wholes group_at
refused-13 = refl
