-- `decimal_of n` is the decimal number n, and nothing else is. Assumes nothing.
use mathlib.Core.Path.{◌≡◌, refl, sym, ap, ◌∙◌}
use mathlib.Core.Bool.{Bool, true, false}
use mathlib.Core.List.{List, [], ◌∷◌, ◌++◌, append-nil}
use Prim.Native.Nat.{ℕ, zero, suc, ◌+◌, ◌-◌, ◌*◌, ◌/◌, ◌%◌, ◌<◌, ◌≤◌}
use native.Mathlib.Omega.{arith}
use native.Mathlib.Nat.{mod-lt, div-add-mod', div-lt_self, not-suc-le-zero}
use lib.Seq.{append_snoc}
use lib.Dec.{eqb}
use lib.IntN.{ℤ, pos, negsuc}
use borrow.Author.Tests.{eqb-true, eqb-false, ne_eqb}
use Rattle.listing.specs.Decimal.{digit, decimal_of, signed_text}
use Rattle.listing.specs.Meaning.{worth_after, worth, AllDigits, NoLeadingZero, Decimal, worth_signed}
use Rattle.listing.proofs.Decimal.{decimal-small, decimal-large, by_size}

-- ---- it is one

worth-last : (v : ℕ) (bs : List ℕ) (b : ℕ) → worth_after v (bs ++ (b ∷ [])) ≡ worth_after v bs * 10 + (b - 48)
unfolding worth_after
worth-last v [] b = refl
worth-last v (a ∷ bs) b = worth-last (v * 10 + (a - 48)) bs b

digits_last : (bs : List ℕ) (b : ℕ) → AllDigits bs → (48 ≤ b) × (b ≤ 57) → AllDigits (bs ++ (b ∷ []))
digits_last [] b h k = (k, tt)
digits_last (a ∷ bs) b h k = (h.0, digits_last bs b h.1 k)

-- a number that is not zero does not begin with `0`
pub first_some : (b : ℕ) (bs : List ℕ) → NoLeadingZero (b ∷ bs) → 0 < worth (b ∷ bs) → b ≡ 48 → ⊥
unfolding worth_after
first_some b bs h k e =
    let z : worth (b ∷ bs) ≡ 0 = rw (h e, e) in
    omega arith

leading-last : (bs : List ℕ) (b : ℕ) → NoLeadingZero bs → 0 < worth bs → NoLeadingZero (bs ++ (b ∷ []))
leading-last [] b h k = elim h [ ]
leading-last (a ∷ bs) b h k = λ e. elim (first_some a bs h k e) [ ]

decimal-one : (n : ℕ) → n < 10 → Decimal n (digit n ∷ [])
unfolding worth_after
decimal-one n h = record { digits = ((omega arith, omega arith), tt); leading = λ e. refl; worths = omega arith }

decimal-next : (n : ℕ) (bs : List ℕ) → 10 ≤ n → Decimal (n / 10) bs → Decimal n (bs ++ (digit (n % 10) ∷ []))
decimal-next n bs l h =
    let m : n % 10 < 10 = mod-lt n (omega arith) in
    let s : n / 10 * 10 + n % 10 ≡ n = div-add-mod' n 10 in
    let w : worth bs ≡ n / 10 = h.worths in
    record {
      digits = digits_last bs (digit (n % 10)) h.digits (omega arith, omega arith);
      leading = leading-last bs (digit (n % 10)) h.leading (omega arith);
      worths = worth-last 0 bs (digit (n % 10)) ∙ omega arith;
    }

decimal-below : (k n : ℕ) → n < k → Decimal n (decimal_of n)
decimal-below zero n h = elim (not-suc-le-zero h) [ ]
decimal-below (suc k) n h =
    by_size n
    (λ l. rw (decimal-small n l) (decimal-one n l))
    (λ l.
    let d : n / 10 < n = div-lt_self (omega arith) (omega arith) in
    rw (decimal-large n l) (decimal-next n (decimal_of (n / 10)) l (decimal-below k (n / 10) (omega arith))))

pub decimal-right : (n : ℕ) → Decimal n (decimal_of n)
decimal-right n = decimal-below (suc n) n (omega arith)

-- ---- nothing else is

-- one digit more behind a number that is not zero
one_more : (v b : ℕ) → 0 < v → (48 ≤ b) × (b ≤ 57) → decimal_of (v * 10 + (b - 48)) ≡ decimal_of v ++ (b ∷ [])
one_more v b p h =
    let q : (v * 10 + (b - 48)) / 10 ≡ v = omega arith in
    let r : (v * 10 + (b - 48)) % 10 ≡ b - 48 = omega arith in
    let d : 48 + (b - 48) ≡ b = omega arith in
    decimal-large (v * 10 + (b - 48)) (omega arith) ∙ rw (q, r, d)

all_more : (v : ℕ) (bs : List ℕ) → 0 < v → AllDigits bs → decimal_of (worth_after v bs) ≡ decimal_of v ++ bs
unfolding worth_after
all_more v [] p h = sym (append-nil (decimal_of v))
all_more v (b ∷ bs) p h =
    all_more (v * 10 + (b - 48)) bs (omega arith) h.1
    ∙ ap (λ (ds : List ℕ). ds ++ bs) (one_more v b p h.0)
    ∙ append_snoc (decimal_of v) b bs

pub decimal-only : (n : ℕ) (bs : List ℕ) → Decimal n bs → bs ≡ decimal_of n
unfolding worth_after
decimal-only n [] h = elim h.leading [ ]
decimal-only n (b ∷ bs) h = sym (by (eqb b 48) refl)
  where
    small : (48 ≤ b) × (b ≤ 57)
    small = h.digits.0

    by : (t : Bool) → eqb b 48 ≡ t → decimal_of n ≡ b ∷ bs
    by true e =
        let z : b ≡ 48 = eqb-true b 48 e in
        let w : worth (48 ∷ []) ≡ n = rw (z, h.leading z) at h.worths in
        rw (h.leading z, z, ← w) (decimal-small 0 (omega arith))
    by false e =
        let f : b ≡ 48 → ⊥ = eqb-false b 48 e in
        let s = small in
        let z : 0 + (b - 48) ≡ b - 48 = omega arith in
        let d : decimal_of (b - 48) ≡ b ∷ [] = decimal-small (b - 48) (omega arith) ∙ ap (λ (x : ℕ). x ∷ []) (omega arith) in
        rw (← h.worths, z)
        (all_more (b - 48) bs (omega arith) h.digits.1 ∙ ap (λ (ds : List ℕ). ds ++ bs) d)

-- ---- with a sign

-- a decimal number does not begin with a minus
plain : (n : ℕ) (bs : List ℕ) → Decimal n bs → worth_signed bs ≡ pos n
unfolding worth_signed
plain n [] h = elim h.leading [ ]
plain n (b ∷ bs) h =
    let d = h.digits.0 in
    let e : eqb b 45 ≡ false = ne_eqb b 45 (omega arith) in
    rw e (ap pos h.worths)

pub signed-right : (x : ℤ) → worth_signed (signed_text x) ≡ x
unfolding signed_text worth_signed
signed-right (pos n) = plain n (decimal_of n) (decimal-right n)
signed-right (negsuc n) = rw (decimal-right (suc n)).worths
