-- The search for the first bad place: what a loop keeps, and what it lets pass. Assumes nothing.
use mathlib.Core.Path.{◌≡◌, refl, ap}
use mathlib.Core.Bool.{Bool, true, false, cond}
use mathlib.Core.Logic.{◌⊎◌, inl, inr}
use native.Mathlib.Omega.{arith}
use Prim.Native.Nat.{ℕ, zero, suc, ◌+◌, ◌-◌, ◌≤◌, ◌<◌}
use Rattle.records.specs.CheckOrder.{first_bad}

-- the search that is left gives what the whole search gives
pub record SearchInv (ok : ℕ → Bool) (n i : ℕ) : Type 0 where
  pub reach : i ≤ n
  pub rest : first_bad ok (n - i) i ≡ first_bad ok n 0

pub search-start : (ok : ℕ → Bool) (n : ℕ) → SearchInv ok n 0
search-start ok n = record { reach = omega arith; rest = let z : n - 0 ≡ n = omega arith in rw z }

module _ (ok : ℕ → Bool) (n i : ℕ) where
  one_more : i < n → n - i ≡ suc (n - (i + 1))
  one_more h = omega arith

  pub search-on : SearchInv ok n i → i < n → ok i ≡ true → SearchInv ok n (i + 1)
  unfolding first_bad
  search-on v h e = record { reach = omega arith; rest = rw (one_more h, e) at v.rest }

  pub search-hit : SearchInv ok n i → i < n → ok i ≡ false → i + 1 ≡ first_bad ok n 0
  unfolding first_bad
  search-hit v h e = rw (one_more h, e) at v.rest

  pub search-none : SearchInv ok n i → n ≤ i → 0 ≡ first_bad ok n 0
  unfolding first_bad
  search-none v h = let z : n - i ≡ 0 = omega arith in rw z at v.rest

le_split : (i j : ℕ) → i ≤ j → (i ≡ j) ⊎ (i + 1 ≤ j)
le_split zero zero h = inl refl
le_split zero (suc j) h = inr (omega arith)
le_split (suc i) zero h = absurd (bad i h)
  where
    bad : (i : ℕ) → suc i ≤ 0 → ⊥
    bad i h = omega arith
le_split (suc i) (suc j) h = up (le_split i j (omega arith))
  where
    up : (i ≡ j) ⊎ (i + 1 ≤ j) → (suc i ≡ suc j) ⊎ (suc i + 1 ≤ suc j)
    up (inl q) = inl (ap suc q)
    up (inr q) = inr (omega arith)

-- where none is bad, each is ok
pub none-bad : (ok : ℕ → Bool) (n i : ℕ) → first_bad ok n i ≡ 0 → (j : ℕ) → i ≤ j → j < i + n → ok j ≡ true
unfolding first_bad
none-bad ok zero i e j h l = absurd (no_way i j h l)
  where
    no_way : (i j : ℕ) → i ≤ j → j < i + 0 → ⊥
    no_way i j h l = omega arith
none-bad ok (suc n) i e j h l = go (ok i) refl (λ z q. none-bad ok n (i + 1) z j q (omega arith)) e
  where
    no_way : (i : ℕ) → i + 1 ≡ 0 → ⊥
    no_way i e = omega arith

    by : ok i ≡ true → (first_bad ok n (i + 1) ≡ 0 → i + 1 ≤ j → ok j ≡ true) → first_bad ok n (i + 1) ≡ 0 → (i ≡ j) ⊎ (i + 1 ≤ j) → ok j ≡ true
    by t f e (inl q) = rw q at t
    by t f e (inr q) = f e q

    go : (t : Bool) → ok i ≡ t → (first_bad ok n (i + 1) ≡ 0 → i + 1 ≤ j → ok j ≡ true) → cond t (first_bad ok n (i + 1)) (i + 1) ≡ 0 → ok j ≡ true
    go true t f e = by t f e (le_split i j h)
    go false t f e = absurd (no_way i e)

-- and where each is ok, none is bad
pub all-ok : (ok : ℕ → Bool) (n i : ℕ) → ((j : ℕ) → i ≤ j → j < i + n → ok j ≡ true) → first_bad ok n i ≡ 0
unfolding first_bad
all-ok ok zero i f = refl
all-ok ok (suc n) i f = rw (f i (omega arith) (omega arith)) (all-ok ok n (i + 1) (λ j h l. f j (omega arith) (omega arith)))

-- ---- what is found: a bad place, and none before it

pub record FirstIs (ok : ℕ → Bool) (n i place : ℕ) : Type 0 where
  pub from : i ≤ place
  pub within : place < i + n
  pub here : ok place ≡ false
  pub before : (j : ℕ) → i ≤ j → j < place → ok j ≡ true

pub first-is : (ok : ℕ → Bool) (n i place : ℕ) → first_bad ok n i ≡ place + 1 → FirstIs ok n i place
unfolding first_bad
first-is ok zero i place e = absurd (omega arith)
first-is ok (suc n) i place e = go (ok i) refl (first-is ok n (i + 1) place) e
  where
    on : ok i ≡ true → FirstIs ok n (i + 1) place → (j : ℕ) → j < place → (i ≡ j) ⊎ (i + 1 ≤ j) → ok j ≡ true
    on t f j l (inl q) = rw q at t
    on t f j l (inr q) = f.before j q l

    go : (t : Bool) → ok i ≡ t → (first_bad ok n (i + 1) ≡ place + 1 → FirstIs ok n (i + 1) place) → cond t (first_bad ok n (i + 1)) (i + 1) ≡ place + 1 → FirstIs ok (suc n) i place
    go true t f e =
        let x = f e in
        let a = x.from in
        let b = x.within in
        record { from = omega arith; within = omega arith; here = x.here; before = λ j h l. on t x j l (le_split i j h) }
    go false t f e =
        let q : i ≡ place = omega arith in
        record { from = omega arith; within = omega arith; here = rw q at t; before = λ j h l. absurd (omega arith) }
