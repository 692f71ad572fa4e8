-- Check 20 of a customer's own pressure profile. Document 02, Q-7: "Load a table of 1,001 values in place of ours .. Entry 0 is 10,000, none is above its
-- predecessor, none below 0. .. It refuses any other table (20) with the first bad, missing or surplus entry, counted from 0".
use Rattle.std.specs.Prelude.{◌≡◌, Bool, true, false, cond, ◌&&◌, List, ℕ, zero, suc, ◌+◌, ◌-◌, ◌≤◌, ◌<◌, length, eqb, ltb, leb, ℤ, pos, ◌≤ℤ◌, Result, Ok, Err}
use Rattle.records.specs.declared.Kind.TheVariants.{ProfileEntry}
use Rattle.records.specs.declared.Refusal.{Refusal}
use Rattle.records.specs.CheckOrder.{Check, Pass, Fail, need, first_bad}
use Rattle.records.specs.Groups.{at}
use Rattle.records.specs.Limits.{inside}
use Rattle.records.specs.Refusals.{refusal}
use Rattle.hurricane.specs.declared.profile.Judged.{Judged}

-- "a table of 1,001 values"
abbrev pub entries : ℕ
entries = 1001

-- whether entry i is what it may be behind those before it: "Entry 0 is 10,000, none is above its predecessor, none below 0"
unfoldable pub entry_ok : List ℤ → ℕ → Bool
entry_ok table zero = inside (pos 10000) (pos 10000) (at table 0)
entry_ok table (suc i) = inside (pos 0) (at table i) (at table (suc i))

-- whether a place is as it has to be: such an entry up to 1,000, and none at 1,001
unfoldable pub place_ok : List ℤ → ℕ → Bool
place_ok table i = cond (ltb i entries) (ltb i (length table) && entry_ok table i) (leb (length table) i)

-- the first that is not, counted from 1; 0 where there is none
abbrev pub wrong_place : List ℤ → ℕ
wrong_place table = first_bad (place_ok table) (entries + 1) 0

-- "with the first bad, missing or surplus entry, counted from 0"
unfoldable pub profile_check : List ℤ → Check
profile_check table = need (eqb (wrong_place table) 0) (refusal ProfileEntry (wrong_place table - 1))

-- ---- what it lets pass and what it refuses: a statement, proved in proofs/ProfileLaws.antt

-- a profile in plain words
pub record ProfileIn (table : List ℤ) : Type 0 where
  pub full : length table ≡ 1001
  pub first : at table 0 ≡ pos 10000
  pub falling : (m : ℕ) → suc m < 1001 → at table (suc m) ≤ℤ at table m
  pub least : (m : ℕ) → m < 1001 → pos 0 ≤ℤ at table m

-- the first place that is not as it has to be
pub record FirstWrong (table : List ℤ) (place : ℕ) : Type 0 where
  pub before : (i : ℕ) → i < place → place_ok table i ≡ true
  pub here : place_ok table place ≡ false
  pub within : place ≤ 1001

pub record ProfileRight (table : List ℤ) : Type 0 where
  pub passes : profile_check table ≡ Pass → ProfileIn table
  pub passed : ProfileIn table → profile_check table ≡ Pass
  pub refused : (r : Refusal) → profile_check table ≡ Fail r → (r.kind ≡ ProfileEntry) × FirstWrong table r.place

-- ---- in the code's terms, which judges entry by entry: how many were right so far, and the last of them

abbrev pub none_judged : Judged
none_judged = record { count = 0; last = pos 10000 }

-- entry 0 has what `last` says; a later one at most that, and at least 0
abbrev pub judged_ok : Judged → ℤ → Bool
judged_ok j x = ltb j.count entries && inside (cond (eqb j.count 0) (pos 10000) (pos 0)) j.last x

unfoldable pub judged_with : Judged → ℤ → Result Judged Refusal
judged_with j x = cond (judged_ok j x) (Ok (record { count = j.count + 1; last = x })) (Err (refusal ProfileEntry j.count))

unfoldable pub judged_end : Judged → Check
judged_end j = need (eqb j.count entries) (refusal ProfileEntry j.count)
