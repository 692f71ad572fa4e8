-- What `square_root` and `whole_root` are: the one number whose square is not above the operand while the next one's is. Assumes nothing.
use mathlib.Core.Path.{◌≡◌, refl, ap}
use mathlib.Core.Bool.{Bool, true, false, cond}
use Prim.Native.Nat.{ℕ, zero, suc, ◌+◌, ◌*◌, ◌/◌, ◌<◌, ◌≤◌, zero-le}
use native.Mathlib.Nat.{mul-le-mul, le-div_iff_mul-le}
use native.Mathlib.Omega.{arith}
use lib.Dec.{leb, leb→le, ltb→lt}
use lib.IntN.{ℤ, pos, negsuc, ◌+ℤ◌, ◌*ℤ◌}
use lib.Signed.{◌≤ℤ◌, ◌<ℤ◌}
use borrow.Author.Tests.{leb-true, leb-false}
use Rattle.ranges.specs.Root.{IsRoot, or_more, root_in, square_root, whole_root, root_of, RootRight}

-- b² is not above q, and the next square is
pub record Square (q b : ℕ) : Type 0 where
  pub within : b * b ≤ q
  pub next : q < (b + 1) * (b + 1)

-- a is below b where its square is below that of b
pub below-by-squares : (a b : ℕ) → a * a < b * b → a < b
below-by-squares a b h = by (leb b a) refl
  where
    by : (t : Bool) → leb b a ≡ t → a < b
    by true e = let l = leb-true b a e in let no : ⊥ = omega (arith, mul-le-mul l l) in elim no [ ]
    by false e = leb-false b a e

-- a number whose square is not above q is not above the root
below_root : {q b : ℕ} (c : ℕ) → Square q b → c * c ≤ q → c ≤ b
below_root {q} {b} c s h = let l : c < b + 1 = below-by-squares c (b + 1) (omega arith) in omega arith

square-only : {q a b : ℕ} → Square q a → Square q b → a ≡ b
square-only {q} {a} {b} s t = omega (arith, below_root a t s.within, below_root b s t.within)

-- ---- by quarters

module _ (q b : ℕ) (quarter : Square (q / 4) b) where
  twice : q < (2 * b + 1) * (2 * b + 1) → Square q (2 * b)
  twice h = record { within = omega arith; next = h }

  twice-more : (2 * b + 1) * (2 * b + 1) ≤ q → Square q (2 * b + 1)
  twice-more h = record { within = h; next = omega arith }

  or-more : Square q (or_more q (2 * b))
  or-more = by (leb ((2 * b + 1) * (2 * b + 1)) q) refl
    where
      by : (t : Bool) → leb ((2 * b + 1) * (2 * b + 1)) q ≡ t → Square q (cond t (2 * b + 1) (2 * b))
      by true e = twice-more (leb-true _ _ e)
      by false e = twice (leb-false _ _ e)

root_in-square : (fuel q : ℕ) → q ≤ fuel → Square q (root_in fuel q)
unfolding root_in
root_in-square zero q h = record { within = zero-le; next = omega arith }
root_in-square (suc fuel) zero h = record { within = zero-le; next = omega arith }
root_in-square (suc fuel) (suc q) h = or-more (suc q) (root_in fuel (suc q / 4)) (root_in-square fuel (suc q / 4) (omega arith))

pub square-root-is : (q : ℕ) → Square q (square_root q)
unfolding square_root
square-root-is q = root_in-square q q (omega arith)

pub is-square-root : {q b : ℕ} → Square q b → b ≡ square_root q
is-square-root {q} s = square-only s (square-root-is q)

-- ---- of n with a factor

whole_is : (k n : ℕ) → 0 < k → IsRoot k n (whole_root k n)
unfolding whole_root
whole_is k n p =
    let s = square-root-is (n / k) in
    record {
      within = omega (arith, (le-div_iff_mul-le {k = k} p).0 s.within);
      greatest = λ c h. below_root c s ((le-div_iff_mul-le {k = k} p).1 (omega arith));
    }

-- `specs/Root.antt`'s statement
pub root-right : RootRight
root-right = record {
  is = whole_is;
  only = λ k n b p r. let s = whole_is k n p in omega (arith, s.greatest b r.within, r.greatest (whole_root k n) s.within);
}

-- ---- of signed numbers: a number whose square with k is not above n, while that of the next one is, is the root

below_next : (k n b c : ℕ) → k * (c * c) ≤ n → n < k * ((b + 1) * (b + 1)) → c ≤ b
below_next k n b c l h = by (leb (b + 1) c) refl
  where
    by : (t : Bool) → leb (b + 1) c ≡ t → c ≤ b
    by true e = let m = leb-true (b + 1) c e in let k-self : k ≤ k = omega arith in let no : ⊥ = omega (arith, mul-le-mul k-self (mul-le-mul m m)) in elim no [ ]
    by false e = let m = leb-false (b + 1) c e in omega arith

pub is-root : (k n b : ℤ) → pos 0 <ℤ k → pos 0 ≤ℤ n → pos 0 ≤ℤ b → (k *ℤ (b *ℤ b)) ≤ℤ n → n <ℤ (k *ℤ ((b +ℤ pos 1) *ℤ (b +ℤ pos 1))) → b ≡ root_of k n
is-root (pos k) (pos n) (pos b) p nn bn l h =
    ap pos (root-right.only k n b (ltb→lt 0 k p.lt) (record { within = leb→le _ _ l.le; greatest = λ c m. below_next k n b c m (ltb→lt _ _ h.lt) }))
is-root (negsuc k) n b p nn bn l h = absurd p.lt
is-root (pos k) (negsuc n) b p nn bn l h = absurd nn.le
is-root (pos k) (pos n) (negsuc b) p nn bn l h = absurd bn.le
