-- A customer's own pressure profile: judging its table entry by entry is check 20, what that lets pass, and that our own table passes it. Assumes nothing.
use mathlib.Core.Path.{◌≡◌, refl, sym, ap, subst, ◌∙◌}
use mathlib.Core.Bool.{Bool, true, false, ◌&&◌, cond}
use mathlib.Core.List.{List, [], ◌∷◌}
use native.Mathlib.Numerals.{add-one}
use native.Mathlib.Omega.{arith}
use borrow.Author.Tests.{leb-true, ltb-true, ltb-false, le-leb, lt-leb, lt-ltb, le-ltb, ne_eqb, eqb-true, eqb-false}
use Prim.Native.Nat.{ℕ, zero, suc, ◌+◌, ◌-◌, ◌≤◌, ◌<◌}
use lib.Dec.{ltb, leb, eqb}
use lib.ListN.{length, drop, length-drop, drop_of_length-le}
use lib.Seq.{drop-cons}
use lib.IntN.{ℤ, pos}
use lib.Signed.{◌≤ℤ◌, le_z_yes}
use Rattle.std.specs.Prelude.{Result, Ok, Err}
use Rattle.ranges.proofs.IntegerOrder.{le_antisymm, le_trans, le-self}
use Rattle.records.specs.declared.Kind.TheVariants.{ProfileEntry}
use Rattle.records.specs.declared.Refusal.{Refusal}
use Rattle.records.specs.CheckOrder.{Check, Pass, Fail, need, first_of}
use Rattle.records.specs.Groups.{at}
use Rattle.records.specs.Limits.{inside}
use Rattle.records.specs.Refusals.{refusal}
use Rattle.records.proofs.CheckOrderLaws.{need-passed, then-left, then-right}
use Rattle.records.proofs.FirstBad.{SearchInv, search-start, search-on, search-hit, search-none, none-bad, all-ok, first-is}
use Rattle.records.proofs.LimitLaws.{and_left, and_right, and_both, Between, between, within}
use Rattle.hurricane.specs.declared.Hurricane.{Hurricane}
use Rattle.records.specs.declared.Closing.{Closing}
use Rattle.hurricane.specs.declared.profile.Judged.{Judged}
use Rattle.hurricane.specs.Bounds.{TableIn}
use Rattle.hurricane.specs.Checks.{make_check}
use Rattle.hurricane.specs.Factor.{factor_entry, TableRight}
use Rattle.hurricane.specs.Make.{Asked, asked, check_of, make_of, check_by, make_by, OwnPasses}
use Rattle.hurricane.specs.Profile.{entry_ok, place_ok, wrong_place, profile_check, ProfileIn, FirstWrong, ProfileRight, none_judged, judged_ok, judged_with, judged_end}
use Rattle.hurricane.proofs.FactorTable.{table-rule, right-rule}
use Rattle.hurricane.proofs.MakeLaws.{make_same}

-- ---- judging entry by entry

-- what is left of the entries, behind those that were judged
abbrev pub on_judged : Result Judged Refusal → (Judged → Check) → Check
on_judged (Ok j) next = next j
on_judged (Err r) next = Fail r

unfoldable pub judged_from : Judged → List ℤ → Check
judged_from j [] = judged_end j
judged_from j (x ∷ l) = on_judged (judged_with j x) (λ k. judged_from k l)

module _ (table : List ℤ) where
  -- the entry before place n, and what entry 0 has to be
  abbrev before_at : ℕ → ℤ
  before_at zero = pos 10000
  before_at (suc m) = at table m

  -- n entries of the table are as they have to be
  record JudgedTo (n : ℕ) (j : Judged) : Type 0 where
    count : j.count ≡ n
    last : j.last ≡ before_at n
    reach : n ≤ length table
    few : n ≤ 1001
    rest : SearchInv (place_ok table) 1002 n

  -- the place of an entry that is there is judged as its place in the table
  limits-are : (n : ℕ) → inside (cond (eqb n 0) (pos 10000) (pos 0)) (before_at n) (at table n) ≡ entry_ok table n
  unfolding entry_ok
  limits-are zero = refl
  limits-are (suc m) = rw (ne_eqb (suc m) 0 (λ e. omega arith))

  here-is : (n : ℕ) (j : Judged) (x : ℤ) → JudgedTo n j → n < length table → at table n ≡ x → judged_ok j x ≡ place_ok table n
  unfolding place_ok
  here-is n j x v h e = rw (v.count, v.last, ← e, lt-ltb n (length table) h, limits-are n) (go (ltb n 1001) refl)
    where
      go : (t : Bool) → ltb n 1001 ≡ t → (t && entry_ok table n) ≡ cond t (true && entry_ok table n) (leb (length table) n)
      go true q = refl
      go false q = sym (lt-leb (length table) n h)

  -- a place that is not as it has to be is the one that is refused
  refused-here : (n : ℕ) → SearchInv (place_ok table) 1002 n → n < 1002 → place_ok table n ≡ false → Fail (refusal ProfileEntry n) ≡ profile_check table
  unfolding profile_check
  refused-here n s h e =
      let f = search-hit (place_ok table) 1002 n s h e in
      let z : n + 1 - 1 ≡ n = omega arith in
      rw (← f, ne_eqb (n + 1) 0 (λ q. omega arith), z) refl

  ends-here : (n : ℕ) (j : Judged) → JudgedTo n j → length table ≤ n → judged_end j ≡ profile_check table
  unfolding judged_end place_ok profile_check
  ends-here n j v h = go (eqb n 1001) refl
    where
      go : (t : Bool) → eqb n 1001 ≡ t → judged_end j ≡ profile_check table
      go true e =
          let q : n ≡ 1001 = eqb-true n 1001 e in
          let ok : place_ok table n ≡ true = rw (le-ltb n 1001 (omega arith), le-leb (length table) n h) in
          let s = search-on (place_ok table) 1002 n v.rest (omega arith) ok in
          let z = search-none (place_ok table) 1002 (n + 1) s (omega arith) in
          rw (v.count, e, ← z)
      go false e =
          let few : n < 1001 = omega (arith, v.few, eqb-false n 1001 e) in
          let bad : place_ok table n ≡ false = rw (lt-ltb n 1001 few, le-ltb n (length table) h) in
          rw (v.count, e) (refused-here n v.rest (omega arith) bad)

  judged-rest : (l : List ℤ) (n : ℕ) (j : Judged) → drop n table ≡ l → JudgedTo n j → judged_from j l ≡ profile_check table
  unfolding judged_from judged_with
  judged-rest [] n j e v =
      let z : length (drop n table) ≡ 0 = ap (λ (k : List ℤ). length k) e in
      ends-here n j v (omega (arith, length-drop n table))
  judged-rest (x ∷ l) n j e v =
      let s : length (drop n table) ≡ suc (length l) = ap (λ (k : List ℤ). length k) e in
      let h : n < length table = omega (arith, length-drop n table) in
      let c : at table n ∷ drop (suc n) table ≡ x ∷ l = sym (drop-cons table n (pos 0) h) ∙ e in
      let first : at table n ≡ x = ap (λ (k : List ℤ). at k 0) c in
      let rest : drop (suc n) table ≡ l = ap (λ (k : List ℤ). drop 1 k) c in
      go h first (λ k v. judged-rest l (suc n) k rest v) (judged_ok j x) refl
    where
      go : n < length table → at table n ≡ x → ((k : Judged) → JudgedTo (suc n) k → judged_from k l ≡ profile_check table) → (t : Bool) → judged_ok j x ≡ t
          → on_judged (judged_with j x) (λ k. judged_from k l) ≡ profile_check table
      go h first behind true q =
          let ok = sym (here-is n j x v h first) ∙ q in
          let few : n < 1001 = omega (arith, v.count, ltb-true _ _ (and_left (ltb j.count 1001) (inside (cond (eqb j.count 0) (pos 10000) (pos 0)) j.last x) q)) in
          rw q
          (behind (record { count = j.count + 1; last = x })
          (record {
            count = ap (λ (k : ℕ). k + 1) v.count ∙ add-one n;
            last = sym first;
            reach = omega arith;
            few = omega arith;
            rest = rw (add-one n) at (search-on (place_ok table) 1002 n v.rest (omega arith) ok);
          }))
      go h first behind false q =
          let bad = sym (here-is n j x v h first) ∙ q in
          rw (q, v.count) (refused-here n v.rest (omega (arith, v.few)) bad)

  -- from the first entry on it is check 20
  pub judged-is : judged_from none_judged table ≡ profile_check table
  judged-is = judged-rest table 0 none_judged refl (record { count = refl; last = refl; reach = omega arith; few = omega arith; rest = search-start (place_ok table) 1002 })

-- one entry more, and where it is refused
module _ (table : List ℤ) (i : ℕ) (x : ℤ) (j : Judged) (h : i < length table) (e : x ≡ at table i) where
  rest-from : judged_from j (drop i table) ≡ on_judged (judged_with j x) (λ k. judged_from k (drop (i + 1) table))
  unfolding judged_from
  rest-from = rw (e, drop-cons table i (pos 0) h, add-one i) refl

  pub judged-on : (k : Judged) → judged_with j x ≡ Ok k → judged_from k (drop (i + 1) table) ≡ judged_from j (drop i table)
  judged-on k q = sym (rest-from ∙ rw q)

  pub judged-off : (r : Refusal) → judged_with j x ≡ Err r → Fail r ≡ judged_from j (drop i table)
  judged-off r q = sym (rest-from ∙ rw q)

pub judged-none : (table : List ℤ) (i : ℕ) (j : Judged) → length table ≤ i → judged_end j ≡ judged_from j (drop i table)
unfolding judged_from
judged-none table i j h = rw (drop_of_length-le table h)

-- ---- what it lets pass

module _ (table : List ℤ) where
  all-right : profile_check table ≡ Pass → (i : ℕ) → i < 1002 → place_ok table i ≡ true
  unfolding profile_check
  all-right e i h =
      none-bad (place_ok table) 1002 0 (eqb-true (wrong_place table) 0 (need-passed _ (refusal ProfileEntry (wrong_place table - 1)) e)) i (omega arith) (omega arith)

  -- of an entry's place
  at-place : (i : ℕ) → i < 1001 → place_ok table i ≡ true → (i < length table) × (entry_ok table i ≡ true)
  unfolding place_ok
  at-place i h e =
      let q : (ltb i (length table) && entry_ok table i) ≡ true = rw (lt-ltb i 1001 h) at e in
      (ltb-true i (length table) (and_left _ _ q), and_right _ _ q)

  behind-it : place_ok table 1001 ≡ true → length table ≤ 1001
  unfolding place_ok
  behind-it e = leb-true (length table) 1001 e

  first-entry : entry_ok table 0 ≡ true → at table 0 ≡ pos 10000
  unfolding entry_ok
  first-entry e = let b = between (pos 10000) (pos 10000) (at table 0) e in le_antisymm b.to b.from

  next-entry : (m : ℕ) → entry_ok table (suc m) ≡ true → Between (pos 0) (at table m) (at table (suc m))
  unfolding entry_ok
  next-entry m e = between (pos 0) (at table m) (at table (suc m)) e

  pub profile-in : profile_check table ≡ Pass → ProfileIn table
  profile-in e =
      let ok = λ (i : ℕ) (h : i < 1001). at-place i h (all-right e i (omega arith)) in
      let first = first-entry (ok 0 (omega arith)).1 in
      record {
        full = omega (arith, (ok 1000 (omega arith)).0, behind-it (all-right e 1001 (omega arith)));
        first = first;
        falling = λ m h. (next-entry m (ok (suc m) h).1).to;
        least = λ m h. least ok first m h;
      }
    where
      least : ((i : ℕ) → i < 1001 → (i < length table) × (entry_ok table i ≡ true)) → at table 0 ≡ pos 10000 → (m : ℕ) → m < 1001 → pos 0 ≤ℤ at table m
      least ok first zero h = rw first (le_z_yes tt)
      least ok first (suc m) h = (next-entry m (ok (suc m) h).1).from

  module _ (v : ProfileIn table) where
    entry-passes : (i : ℕ) → i < 1001 → entry_ok table i ≡ true
    unfolding entry_ok inside
    entry-passes zero h = rw v.first refl
    entry-passes (suc m) h = within (pos 0) (at table m) (at table (suc m)) (record { from = v.least (suc m) h; to = v.falling m h })

    place-passes : (i : ℕ) → i < 1002 → place_ok table i ≡ true
    unfolding place_ok
    place-passes i h = go (ltb i 1001) refl
      where
        go : (t : Bool) → ltb i 1001 ≡ t → cond t (ltb i (length table) && entry_ok table i) (leb (length table) i) ≡ true
        go true e = let l : i < 1001 = ltb-true i 1001 e in and_both _ _ (lt-ltb i (length table) (omega (arith, v.full))) (entry-passes i l)
        go false e = le-leb (length table) i (omega (arith, v.full, ltb-false i 1001 e))

    pub profile-passes : profile_check table ≡ Pass
    unfolding profile_check
    profile-passes = rw (all-ok (place_ok table) 1002 0 (λ i h l. place-passes i (omega arith)))

    -- no entry is above the first
    highest : (m : ℕ) → m < 1001 → at table m ≤ℤ pos 10000
    highest zero h = rw v.first (le-self (pos 10000))
    highest (suc m) h = le_trans (v.falling m h) (highest m (omega arith))

    pub profile-table : TableIn table
    profile-table = record { full = v.full; low = v.least; high = highest }

  pub profile-refuses : (r : Refusal) → profile_check table ≡ Fail r → (r.kind ≡ ProfileEntry) × FirstWrong table r.place
  unfolding profile_check
  profile-refuses r e = go (wrong_place table) refl e
    where
      failed : (n : ℕ) → wrong_place table ≡ suc n → refusal ProfileEntry n ≡ r → (r.kind ≡ ProfileEntry) × FirstWrong table r.place
      failed n q f =
          let x = first-is (place_ok table) 1002 0 n (q ∙ sym (add-one n)) in
          let w = x.within in
          subst (λ (s : Refusal). (s.kind ≡ ProfileEntry) × FirstWrong table s.place) f
          (refl, record { before = λ i h. x.before i (omega arith) h; here = x.here; within = omega arith })

      go : (n : ℕ) → wrong_place table ≡ n → need (eqb n 0) (refusal ProfileEntry (n - 1)) ≡ Fail r → (r.kind ≡ ProfileEntry) × FirstWrong table r.place
      go zero q f = absurd cc
      go (suc n) q f =
          let z : suc n - 1 ≡ n = omega arith in
          let g = rw (ne_eqb (suc n) 0 (λ e. omega arith), z) at f in
          failed n q cc

pub profile-right : (table : List ℤ) → ProfileRight table
profile-right table = record { passes = profile-in table; passed = profile-passes table; refused = profile-refuses table }

-- ---- our own table

module _ (table : List ℤ) (r : TableRight table) where
  own-in : ProfileIn table
  own-in = record {
    full = r.long;
    first = r.holds.entry 0 (omega arith) ∙ table-rule.first;
    falling = λ m h.
        let a = r.holds.entry m (omega arith) in
        let b = r.holds.entry (suc m) h in
        subst (λ (x : ℤ). x ≤ℤ at table m) (sym b) (subst (λ (x : ℤ). factor_entry (suc m) ≤ℤ x) (sym a) (table-rule.falling m h));
    least = λ m h. (right-rule table r m h).low;
  }

pub make-by-passed : (table : List ℤ) (h : Hurricane) (closing : Closing) (winds sites room : List ℤ) → profile_check table ≡ Pass
    → make_by table h closing winds sites room ≡ make_of (asked (at table) h closing winds sites room)
unfolding make_by make_of first_of
make-by-passed table h closing winds sites room e = rw e

-- where its checks pass, the table's passes and so do those of a call by our own
pub check-by-passed : (table : List ℤ) (a : Asked) → check_by table a ≡ Pass → (profile_check table ≡ Pass) × (check_of a ≡ Pass)
unfolding first_of
check-by-passed table a e = let c = make_check a.hurricane a.winds a.sites (length a.room) in (then-left (profile_check table) c e, then-right (profile_check table) c e)

pub own-passes : OwnPasses
own-passes table r =
    let e = profile-passes table (own-in table r) in
    record {
      passes = e;
      same = λ h closing winds sites room. make-by-passed table h closing winds sites room e ∙ make_same (at table) factor_entry (λ m l. r.holds.entry m l) h closing winds sites room;
    }
