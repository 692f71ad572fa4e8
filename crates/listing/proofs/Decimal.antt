-- Laws of `decimal_of` and `signed_text`: how a number's digits follow from those of a tenth of it, and how many there are.
-- Assumes nothing.
use mathlib.Core.Path.{◌≡◌, refl, sym, ap, ◌∙◌}
use mathlib.Core.Bool.{Bool, true, false}
use mathlib.Core.List.{List, [], ◌∷◌, ◌++◌}
use Prim.Native.Nat.{ℕ, zero, suc, ◌+◌, ◌*◌, ◌/◌, ◌%◌, ◌^◌, ◌<◌, ◌≤◌}
use native.Mathlib.Omega.{arith}
use native.Mathlib.Numerals.{add-one}
use native.Mathlib.Nat.{not-suc-le-zero, div-lt_self, div-lt_iff_lt-mul, le-div_iff_mul-le, pow-suc}
use lib.ListN.{length, length-append}
use Rattle.std.specs.Prelude.{Option, Some, None, IfSome, IfNone}
use Rattle.std.specs.Option.{unwrap_or}
use lib.Dec.{ltb}
use borrow.Author.Tests.{lt-ltb, le-ltb, ltb-true, ltb-false}
use Rattle.std.specs.Prelude.{ℤ, pos, negsuc, decimal}
use Rattle.std.specs.Fmt.{signed_decimal}
use Rattle.std.proofs.Common.{w64, FitsSigned}
use Rattle.std.proofs.lemmas.Fmt.{decimal_by_steps}
use Rattle.listing.specs.Decimal.{digit, digits_of, decimal_of, signed_text}

digits-small : (k n : ℕ) → n < 10 → digits_of (suc k) n ≡ digit n ∷ []
unfolding digits_of
digits-small k n h = simp (lt-ltb _ _ h)

digits-large : (k n : ℕ) → 10 ≤ n → digits_of (suc k) n ≡ digits_of k (n / 10) ++ (digit (n % 10) ∷ [])
unfolding digits_of
digits-large k n h = simp (le-ltb _ _ h)

tenth-less : (n : ℕ) → 10 ≤ n → n / 10 < n
tenth-less n h = div-lt_self (omega arith) (omega arith)

-- more room than n's digits can need changes nothing
digits-room : (j k n : ℕ) → n < j → n < k → digits_of j n ≡ digits_of k n
digits-room zero k n h i = elim (not-suc-le-zero h) [ ]
digits-room (suc j) zero n h i = elim (not-suc-le-zero i) [ ]
digits-room (suc j) (suc k) n h i = by (digits-room j k (n / 10)) (ltb n 10) refl
  where
    by : (n / 10 < j → n / 10 < k → digits_of j (n / 10) ≡ digits_of k (n / 10))
        → (t : Bool) → ltb n 10 ≡ t → digits_of (suc j) n ≡ digits_of (suc k) n
    by same true e = digits-small j n (ltb-true _ _ e) ∙ sym (digits-small k n (ltb-true _ _ e))
    by same false e =
        let l : 10 ≤ n = ltb-false _ _ e in
        let d : n / 10 < n = tenth-less n l in
        digits-large j n l
        ∙ ap (λ (x : List ℕ). x ++ (digit (n % 10) ∷ [])) (same (omega arith) (omega arith))
        ∙ sym (digits-large k n l)

-- a number below ten is one digit; another has the digits of a tenth of it, and one more
pub decimal-small : (n : ℕ) → n < 10 → decimal_of n ≡ digit n ∷ []
unfolding decimal_of
decimal-small n h = rw add-one (digits-small n n h)

pub decimal-large : (n : ℕ) → 10 ≤ n → decimal_of n ≡ decimal_of (n / 10) ++ (digit (n % 10) ∷ [])
unfolding decimal_of
decimal-large n h =
    let d = tenth-less n h in
    rw (add-one n) (digits-large n n h)
    ∙ ap (λ (x : List ℕ). x ++ (digit (n % 10) ∷ [])) (digits-room n (n / 10 + 1) (n / 10) d (omega arith))

-- ---- how many digits

pub length-small : (n : ℕ) → n < 10 → length (decimal_of n) ≡ 1
length-small n h = rw (decimal-small n h)

pub length-large : (n : ℕ) → 10 ≤ n → length (decimal_of n) ≡ length (decimal_of (n / 10)) + 1
length-large n h = rw (decimal-large n h) (length-append (decimal_of (n / 10)) (digit (n % 10) ∷ []))

-- what is known of digits by cases on a test
pub by_size : {P : Type 0} (n : ℕ) → (n < 10 → P) → (10 ≤ n → P) → P
by_size {P} n f g = by (ltb n 10) refl
  where
    by : (t : Bool) → ltb n 10 ≡ t → P
    by true e = f (ltb-true _ _ e)
    by false e = g (ltb-false _ _ e)

pub length_some : (n : ℕ) → 0 < length (decimal_of n)
length_some n = by_size n (λ l. omega (arith, length-small n l)) (λ l. omega (arith, length-large n l))

pub length_most : (k n : ℕ) → n < 10 ^ suc k → length (decimal_of n) ≤ suc k
length_most zero n h = omega (arith, length-small n (omega arith))
length_most (suc k) n h =
    by_size n
    (λ l. omega (arith, length-small n l))
    (λ l.
    let p : n < 10 ^ suc k * 10 = rw pow-suc at h in
    let r = length_most k (n / 10) ((div-lt_iff_lt-mul {k = 10} (omega arith)).1 p) in
    omega (arith, length-large n l))

-- a number between two powers of ten
pub length_between : (k n : ℕ) → 10 ^ k ≤ n → n < 10 * 10 ^ k → length (decimal_of n) ≡ k + 1
length_between zero n l h = length-small n (omega arith)
length_between (suc k) n l h =
    let p : 10 ^ k * 10 ≤ n = rw pow-suc at l in
    let q : n < 10 * (10 ^ k * 10) = rw pow-suc at h in
    let low : 10 ^ k ≤ n / 10 = (le-div_iff_mul-le {k = 10} (omega arith)).1 p in
    let high : n / 10 < 10 * 10 ^ k = (div-lt_iff_lt-mul {k = 10} (omega arith)).1 (omega arith) in
    omega (arith, length-large n (omega arith), length_between k (n / 10) low high)

-- one more than the logarithm of n, where it has one
pub length-counted : (n : ℕ) (r : Option ℕ) → IfNone r (n ≡ 0) → IfSome r (λ k. 10 ^ k ≤ n) → IfSome r (λ k. n < 10 * 10 ^ k)
    → length (decimal_of n) ≡ unwrap_or r 0 + 1
length-counted n None z l h = length-small n (omega arith)
length-counted n (Some k) z l h = length_between k n l h

-- ---- the digits are what the library prints

pub decimal-is : (n : ℕ) → n < 2 ^ 64 → decimal_of n ≡ decimal n
decimal-is n h =
    decimal_by_steps (λ m ds. decimal_of m ≡ ds) decimal-small
    (λ m ds l e. decimal-large m l ∙ ap (λ (x : List ℕ). x ++ (digit (m % 10) ∷ [])) e) n h

pub signed-is : (x : ℤ) → FitsSigned w64 x → signed_text x ≡ signed_decimal x
unfolding signed_text
signed-is (pos n) h = decimal-is n (omega (arith, h))
signed-is (negsuc n) h = ap (λ (ds : List ℕ). 45 ∷ ds) (decimal-is (suc n) (omega (arith, h)))
