-- Checks 13, 14 and 8 of a record that is to be made, in their order, a check to a line of a list.
use Rattle.std.specs.Prelude.{Bool, ◌&&◌, ◌||◌, List, [], ◌∷◌, ℕ, ◌-◌, ◌*◌, eqb, leb, ℤ}
use Rattle.std.specs.Int.Signed.{lt_z}
use Rattle.records.specs.declared.Kind.TheVariants.{Lent, StormValue, WindRadii}
use Rattle.records.specs.CheckOrder.{Check, need, each, first_of}
use Rattle.records.specs.Limits.{count_ok}
use Rattle.records.specs.Refusals.{refusal}
use Rattle.hurricane.specs.declared.Hurricane.{Hurricane}
use Rattle.hurricane.specs.Groups.{wind_count, wind_row_at, site_count, plane_point_at}
use Rattle.hurricane.specs.Limits.{hurricane_ok, wind_count_ok, wind_row_ok, plane_point_ok}

abbrev pub wind_rows_ok : List ℤ → ℕ → Bool
wind_rows_ok winds i = wind_row_ok (wind_row_at winds i)

abbrev pub sites_ok : List ℤ → ℕ → Bool
sites_ok sites i = plane_point_ok (plane_point_at sites i)

-- 14: "wind radii that do not rise", by the later row of a pair
unfoldable pub rising_ok : List ℤ → ℕ → Bool
rising_ok winds i = eqb i 0 || lt_z (wind_row_at winds (i - 1)).radius (wind_row_at winds i).radius

-- "For 13 the place is 0 for pressures, R, centre and counts, then the list's row, then the point; for 14 the row"; "room too short .. gets 8,
-- place 0, last". Here for room of so many numbers
unfoldable pub make_checks : Hurricane → List ℤ → List ℤ → ℕ → List Check
make_checks h winds sites room =
    need (hurricane_ok h && (wind_count_ok (wind_count winds) && count_ok (site_count sites))) (refusal StormValue 0)
    ∷ each StormValue (wind_rows_ok winds) (wind_count winds)
    ∷ each StormValue (sites_ok sites) (site_count sites)
    ∷ each WindRadii (rising_ok winds) (wind_count winds)
    ∷ need (leb (3 * site_count sites) room) (refusal Lent 0)
    ∷ []

abbrev pub make_check : Hurricane → List ℤ → List ℤ → ℕ → Check
make_check h winds sites room = first_of (make_checks h winds sites room)
