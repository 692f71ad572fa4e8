-- Of a run of digits: how many there are, what they are worth, and what one digit more does to both. Assumes nothing.
use mathlib.Core.Path.{◌≡◌, refl, ◌∙◌}
use mathlib.Core.Bool.{Bool, true, false}
use mathlib.Core.List.{List, [], ◌∷◌}
use Prim.Native.Nat.{ℕ, zero, suc, ◌+◌, ◌-◌, ◌*◌, ◌<◌, ◌≤◌, ◌^◌}
use native.Mathlib.Omega.{arith}
use native.Mathlib.Numerals.{add-one}
use native.Mathlib.Nat.{pow-suc, mul-le-mul_right}
use lib.ListN.{length}
use lib.Dec.{ltb}
use borrow.Author.Tests.{lt-ltb, le-ltb, ltb-true, ltb-false}
use Rattle.std.proofs.Common.{Some, None, cond}
use Rattle.reader.specs.Text.{digit_at, some_digit, digits, worth}

-- a digit stands within the text
pub within : (s : List ℕ) (i : ℕ) → digit_at s i < 10 → i < length s
unfolding digit_at
within [] i h = omega arith
within (x ∷ s) zero h = omega arith
within (x ∷ s) (suc i) h = let r = within s i h in omega arith

pub digits-none : (s : List ℕ) (n at : ℕ) → 10 ≤ digit_at s at → digits s n at ≡ 0
unfolding digits
digits-none s zero at h = refl
digits-none s (suc n) at h = simp (le-ltb _ _ h)

-- ---- how many, and what they are worth

-- what is known of them by whether a digit stands first
by_digit : {P : Type 0} (s : List ℕ) (n at : ℕ) → (digit_at s at < 10 → digits s (suc n) at ≡ suc (digits s n (at + 1)) → P) → (digits s (suc n) at ≡ 0 → P) → P
unfolding digits
by_digit {P} s n at f g = by (ltb (digit_at s at) 10) refl
  where
    by : (t : Bool) → ltb (digit_at s at) 10 ≡ t → P
    by true e = f (ltb-true _ _ e) (rw e)
    by false e = g (rw e)

pub digits-most : (s : List ℕ) (n at : ℕ) → digits s n at ≤ n
unfolding digits
digits-most s zero at = omega arith
digits-most s (suc n) at = by_digit s n at (λ d e. let r = digits-most s n (at + 1) in omega arith) (λ e. omega arith)

pub digits-within : (s : List ℕ) (n at : ℕ) → at ≤ length s → at + digits s n at ≤ length s
unfolding digits
digits-within s zero at h = omega arith
digits-within s (suc n) at h =
    by_digit s n at
    (λ d e. let w = within s at d in let r = digits-within s n (at + 1) (omega arith) in omega arith)
    (λ e. omega arith)

pub digits-worth : (s : List ℕ) (n v at : ℕ) → worth s v (digits s n at) at < suc v * 10 ^ digits s n at
unfolding digits worth
digits-worth s zero v at = omega arith
digits-worth s (suc n) v at =
    by_digit s n at
    (λ d e.
    let w : ℕ = v * 10 + digit_at s at in
    let r = digits-worth s n w (at + 1) in
    let m : suc w * 10 ^ digits s n (at + 1) ≤ suc v * 10 * 10 ^ digits s n (at + 1) = mul-le-mul_right (10 ^ digits s n (at + 1)) (omega arith) in
    rw (e, pow-suc) (omega arith))
    (λ e. rw e (omega arith))

-- ---- digit by digit

-- the digit at a place, where there is one, and where there is none
pub digit-some : (s : List ℕ) (i d : ℕ) → Some d ≡ some_digit s i → (d ≡ digit_at s i) × (digit_at s i < 10)
digit-some s i d e = go (ltb (digit_at s i) 10) refl e
  where
    go : (t : Bool) → ltb (digit_at s i) 10 ≡ t → Some d ≡ cond t (Some (digit_at s i)) None → (d ≡ digit_at s i) × (digit_at s i < 10)
    go true l f = (cc, ltb-true _ _ l)
    go false l f = absurd cc

pub digit-none : (s : List ℕ) (i : ℕ) → None ≡ some_digit s i → 10 ≤ digit_at s i
digit-none s i e = go (ltb (digit_at s i) 10) refl e
  where
    go : (t : Bool) → ltb (digit_at s i) 10 ≡ t → None ≡ cond t (Some (digit_at s i)) None → 10 ≤ digit_at s i
    go true l f = absurd cc
    go false l f = ltb-false _ _ l

-- what holds while digits are read, `most` of them at most: `count` of them from `start` on, worth `value`
pub record Scan (most : ℕ) (s : List ℕ) (start at count value : ℕ) : Type 0 where
  pub place : at ≡ start + count
  pub few : count ≤ most
  pub small : value < 10 ^ count
  pub many : digits s most start ≡ count + digits s (most - count) at
  pub same : worth s 0 (digits s most start) start ≡ worth s value (digits s (most - count) at) at

module _ {most : ℕ} {s : List ℕ} {start at count value : ℕ} (h : Scan most s start at count value) where
  -- one digit more is counted
  scan-next : digit_at s at < 10 → count < most → digits s (most - count) at ≡ suc (digits s (most - (count + 1)) (at + 1))
  unfolding digits
  scan-next p q =
      let e : most - count ≡ suc (most - (count + 1)) = omega arith in
      rw (e, lt-ltb _ _ p)

  pub scan-more : (to d : ℕ) → d ≡ digit_at s at → digit_at s at < 10 → count < most → to ≡ at + 1 → Scan most s start to (count + 1) (value * 10 + d)
  unfolding worth
  scan-more to d r p q t =
      let g = h.small in
      record {
        place = omega (arith, h.place);
        few = omega arith;
        small = simp (add-one, pow-suc) (omega arith);
        many = rw t (omega (arith, h.many, scan-next p q));
        same = h.same ∙ rw (scan-next p q, t, r);
      }

  -- no digit more is there, or is counted
  pub scan-ended : 10 ≤ digit_at s at → digits s (most - count) at ≡ 0
  scan-ended p = digits-none s (most - count) at p

  pub scan-full : count ≡ most → digits s (most - count) at ≡ 0
  unfolding digits
  scan-full p = let e : most - count ≡ 0 = omega arith in rw e

  module _ (z : digits s (most - count) at ≡ 0) where
    pub scan-count : digits s most start ≡ count
    scan-count = omega (arith, h.many, z)

    pub scan-value : worth s 0 (digits s most start) start ≡ value
    unfolding worth
    scan-value = h.same ∙ rw z

  pub scan-long : digit_at s at < 10 → count < most → count < digits s most start
  scan-long p q = omega (arith, h.many, scan-next p q)
