-- The sum of aᵏ/k! over one denominator, Dⁿ·n! for a = N/D: a shorter sum of the same value, where that of `sum_to` has the product of all its
-- terms' denominators. And that the sum is above zero. Assumes nothing.
use mathlib.Core.Path.{◌≡◌, refl, sym, subst, ap, ap₂, ◌∙◌}
use mathlib.Core.List.{[], ◌∷◌}
use Prim.Native.Nat.{ℕ, zero, suc, ◌+◌}
use native.Mathlib.Omega.{arith}
use lib.Dec.{lt→ltb}
use lib.IntN.{ℤ, pos, ◌+ℤ◌, ◌*ℤ◌}
use lib.Signed.{◌≤ℤ◌, ◌<ℤ◌, le_z_yes, lt_z_yes}
use Rattle.ranges.specs.Fraction.{Frac, ◌≈F◌, whole, ◌/F◌, pos-mul}
use Rattle.ranges.specs.Series.{factorial, ◌^F◌, term, sum_to}
use Rattle.ranges.proofs.FractionLaws.{≈F-above, num-pos-up, div-num, div-den}
use Rattle.ranges.proofs.IntegerOrder.{nn-mul, pos-add}
use Rattle.ranges.proofs.RingSolver.{ring, reify}

-- ---- over one denominator

-- Dⁿ·n!
abbrev pub common_den : Frac → ℕ → ℤ
common_den a zero = pos 1
common_den a (suc k) = common_den a k *ℤ (a.den *ℤ pos (suc k))

-- the sum of Nᵏ·Dⁿ⁻ᵏ·n!/k!, by what one more term makes of it
abbrev common_num : Frac → ℕ → ℤ
common_num a zero = pos 1
common_num a (suc k) = common_num a k *ℤ (a.den *ℤ pos (suc k)) +ℤ (a ^F suc k).num

-- the same, going on from the sum and the power at k: antt then works out each power once
abbrev pub further_num : Frac → ℕ → ℕ → ℤ → ℤ → ℤ
further_num a zero k sum power = sum
further_num a (suc left) k sum power = further_num a left (suc k) (sum *ℤ (a.den *ℤ pos (suc k)) +ℤ a.num *ℤ power) (a.num *ℤ power)

further-is : (a : Frac) (left k n : ℕ) → n ≡ left + k → further_num a left k (common_num a k) (a ^F k).num ≡ common_num a n
further-is a zero k n e = let same : k ≡ n = omega arith in ap (common_num a) same
further-is a (suc left) k n e = further-is a left (suc k) n (omega arith)

suc-pos : (k : ℕ) → pos 0 <ℤ pos (suc k)
suc-pos k = lt_z_yes (lt→ltb 0 (suc k) (omega arith))

-- D·(k + 1)
step-pos : (a : Frac) (k : ℕ) → pos 0 <ℤ (a.den *ℤ pos (suc k))
step-pos a k = pos-mul a.den_pos (suc-pos k)

pub common-pos : (a : Frac) (n : ℕ) → pos 0 <ℤ common_den a n
common-pos a zero = lt_z_yes tt
common-pos a (suc k) = pos-mul (common-pos a k) (step-pos a k)

abbrev pub common_sum : Frac → ℕ → Frac
common_sum a n = record { num = further_num a n 0 (pos 1) (pos 1); den = common_den a n; den_pos = common-pos a n }

-- ---- it is the sum

factorial-pos : (k : ℕ) → pos 0 <ℤ pos (factorial k)
factorial-pos zero = lt_z_yes tt
factorial-pos (suc k) = pos-mul {a = pos (suc k)} {b = pos (factorial k)} (suc-pos k) (factorial-pos k)

den-step : (D d s f c : ℤ) → d *ℤ f ≡ c → (D *ℤ d) *ℤ (s *ℤ f) ≡ c *ℤ (D *ℤ s)
den-step D d s f c e = arranged ∙ ap (λ (x : ℤ). x *ℤ (D *ℤ s)) e
  where
    arranged : (D *ℤ d) *ℤ (s *ℤ f) ≡ (d *ℤ f) *ℤ (D *ℤ s)
    arranged = ring (D ∷ d ∷ s ∷ f ∷ []) (search reify depth 20) tt

power-den : (a : Frac) (k : ℕ) → (a ^F k).den *ℤ pos (factorial k) ≡ common_den a k
power-den a zero = refl
power-den a (suc k) = den-step a.den (a ^F k).den (pos (suc k)) (pos (factorial k)) (common_den a k) (power-den a k)

term-num : (a : Frac) (k : ℕ) → (term a k).num ≡ (a ^F k).num *ℤ pos 1
term-num a k = div-num (a ^F k) (whole (pos (factorial k))) (factorial-pos k)

term-den : (a : Frac) (k : ℕ) → (term a k).den ≡ common_den a k
term-den a k = div-den (a ^F k) (whole (pos (factorial k))) (factorial-pos k) ∙ power-den a k

-- X/Y and S/E have the same value, and so have t/d and M/C: so have X/Y + t/d and S/E + M/C, where C is s times E
sum_step : (X Y S E t d M s : ℤ) → X *ℤ E ≡ S *ℤ Y → t ≡ M *ℤ pos 1 → d ≡ E *ℤ s → (X *ℤ d +ℤ t *ℤ Y) *ℤ (E *ℤ s) ≡ (S *ℤ s +ℤ M) *ℤ (Y *ℤ d)
sum_step X Y S E t d M s e f g =
    ap₂ (λ (u v : ℤ). (X *ℤ v +ℤ u *ℤ Y) *ℤ (E *ℤ s)) f g ∙ apart ∙ ap (λ (u : ℤ). (u *ℤ s +ℤ M *ℤ Y) *ℤ (E *ℤ s)) e ∙ together
    ∙ sym (ap (λ (v : ℤ). (S *ℤ s +ℤ M) *ℤ (Y *ℤ v)) g)
  where
    apart : (X *ℤ (E *ℤ s) +ℤ (M *ℤ pos 1) *ℤ Y) *ℤ (E *ℤ s) ≡ ((X *ℤ E) *ℤ s +ℤ M *ℤ Y) *ℤ (E *ℤ s)
    apart = ring (X ∷ Y ∷ S ∷ E ∷ M ∷ s ∷ []) (search reify depth 20) tt

    together : ((S *ℤ Y) *ℤ s +ℤ M *ℤ Y) *ℤ (E *ℤ s) ≡ (S *ℤ s +ℤ M) *ℤ (Y *ℤ (E *ℤ s))
    together = ring (X ∷ Y ∷ S ∷ E ∷ M ∷ s ∷ []) (search reify depth 20) tt

sum-num : (a : Frac) (n : ℕ) → (sum_to (term a) n).num *ℤ common_den a n ≡ common_num a n *ℤ (sum_to (term a) n).den
unfolding ◌/F◌
sum-num a zero = refl
sum-num a (suc k) =
    let x = sum_to (term a) k in
    let t = term a (suc k) in
    sum_step x.num x.den (common_num a k) (common_den a k) t.num t.den (a ^F suc k).num (a.den *ℤ pos (suc k))
    (sum-num a k) (term-num a (suc k)) (term-den a (suc k))

num-is : (a : Frac) (n : ℕ) → (common_sum a n).num ≡ common_num a n
num-is a n = further-is a n 0 n (omega arith)

pub common-same : (a : Frac) (n : ℕ) → sum_to (term a) n ≈F common_sum a n
common-same a n = record { same = sum-num a n ∙ ap (λ (x : ℤ). x *ℤ (sum_to (term a) n).den) (sym (num-is a n)) }

-- ---- above zero, for an a that is not below it

power-nn : (a : Frac) (k : ℕ) → pos 0 ≤ℤ a.num → pos 0 ≤ℤ (a ^F k).num
power-nn a zero h = le_z_yes tt
power-nn a (suc k) h = nn-mul h (power-nn a k h)

common-above : (a : Frac) (n : ℕ) → pos 0 ≤ℤ a.num → pos 0 <ℤ common_num a n
common-above a zero h = lt_z_yes tt
common-above a (suc k) h = pos-add (pos-mul (common-above a k h) (step-pos a k)) (power-nn a (suc k) h)

pub sum-above : (a : Frac) (n : ℕ) → pos 0 ≤ℤ a.num → pos 0 <ℤ (sum_to (term a) n).num
sum-above a n h = num-pos-up (≈F-above (common-same a n)) (subst (λ (x : ℤ). pos 0 <ℤ x) (sym (num-is a n)) (common-above a n h))
