-- The definitions on texts worked out by hand. antt computes each. Assumes nothing.
use mathlib.Core.Path.{◌≡◌, refl}
use mathlib.Core.List.{List, [], ◌∷◌, ◌++◌}
use Prim.Native.Nat.{ℕ}
use lib.IntN.{pos, negsuc}
use Rattle.std.specs.Prelude.{Ok, Err}
use Rattle.records.specs.declared.Kind.TheVariants.{Names, Malformed, ProfileEntry}
use Rattle.records.specs.CheckOrder.{Fail, first_bad, first_of}
use Rattle.records.specs.Limits.{inside}
use Rattle.records.specs.Refusals.{refusal}
use Rattle.reader.specs.Text.{more, digit_at, digits, worth, good_of, signed_value, start_at, good_at, value_at, past_at, close_of}
use Rattle.reader.specs.Lines.{leaves, repeated, kept_with, same_with, values_at, lines_at, spells, names_at}
use Rattle.hurricane.specs.Profile.{entry_ok, place_ok, profile_check}
use Rattle.profile.specs.Entries.{factor_name, entries_by, entries_of}
use Rattle.profile.specs.Load.{load_of}

-- lines `10000`, `-9` and `07`, and the last without its line feed
abbrev first : List ℕ
first = 49 ∷ 48 ∷ 48 ∷ 48 ∷ 48 ∷ 10 ∷ []

abbrev below : List ℕ
below = 45 ∷ 57 ∷ 10 ∷ []

abbrev bad : List ℕ
bad = 48 ∷ 55 ∷ 10 ∷ []

-- the names line alone has no entry; with it the names line may be no other, nor lack its line feed, nor be missing
named : (entries_of factor_name ∷ entries_of (102 ∷ 97 ∷ 99 ∷ 116 ∷ 111 ∷ 114 ∷ []) ∷ entries_of (102 ∷ 97 ∷ 99 ∷ 116 ∷ 111 ∷ 114 ∷ 115 ∷ 10 ∷ []) ∷ entries_of [] ∷ [])
    ≡ (Ok [] ∷ Err (refusal Names 1) ∷ Err (refusal Names 1) ∷ Err (refusal Names 1) ∷ [])
unfolding entries_of entries_by names_at spells more
named = refl

-- entries in the order of their lines; a line that is no value, one that lacks its line feed, an empty one
listed : (entries_of (factor_name ++ (first ++ below)) ∷ entries_of (factor_name ++ (first ++ bad)) ∷ entries_of (factor_name ++ (first ++ (57 ∷ []))) ∷ entries_of (factor_name ++ (first ++ (10 ∷ []))) ∷ [])
    ≡ (Ok (pos 10000 ∷ negsuc 8 ∷ []) ∷ Err (refusal Malformed 3) ∷ Err (refusal Malformed 3) ∷ Err (refusal Malformed 3) ∷ [])
unfolding entries_of entries_by names_at spells more lines_at values_at kept_with same_with repeated good_at good_of value_at signed_value past_at start_at digits digit_at worth close_of
listed = refl

-- no entry: 20, place 0, before room that is short; and a bad entry 0 behind which a line is malformed: 2
refused-20 : load_of factor_name [] ≡ leaves (Fail (refusal ProfileEntry 0)) []
unfolding load_of entries_of entries_by names_at spells more first_of profile_check place_ok entry_ok inside first_bad
refused-20 = refl

refused-2 : load_of (factor_name ++ (below ++ bad)) (pos 7 ∷ []) ≡ leaves (Fail (refusal Malformed 3)) (pos 7 ∷ [])
unfolding load_of entries_of entries_by names_at spells more lines_at values_at kept_with same_with repeated good_at good_of value_at signed_value past_at start_at digits digit_at worth close_of
refused-2 = refl
