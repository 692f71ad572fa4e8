-- The rules of the low and of the high end keep the laws of `Ends`. Assumes nothing.
use Rattle.std.specs.Prelude.{◌≡◌, refl, ℕ, zero, suc, ◌+◌, ◌*◌, ◌/◌, ◌-◌, ◌<◌, ℤ, pos, negsuc, neg_ℤ, ◌*ℤ◌, ◌≤ℤ◌, ◌<ℤ◌}
use Rattle.std.proofs.Common.{arith, inl, inr, ap, sym, ◌∙◌, ltb→lt}
use Rattle.std.proofs.Math.IntN.{neg_ℤ-neg_ℤ}
use Rattle.std.proofs.Math.Nat.{suc-mul, mul-div_cancel, div-mul-le_self, lt-div-mul-add}
use Rattle.std.proofs.lemmas.Nat.{div-mul-add}
use Rattle.std.proofs.lemmas.Int.{ints}
use Rattle.ranges.specs.Division.{floor_div, ceil_div}
use Rattle.ranges.specs.Range.{lesser, greater}
use Rattle.ranges.specs.Ends.{EndLaws, low_rule, high_rule}

-- ---- the lesser and the greater

lesser-is : (a b : ℤ) → a ≤ℤ b → lesser a b ≡ a
unfolding lesser
lesser-is a b h = grind (arith, ints)

greater-is : (a b : ℤ) → b ≤ℤ a → greater a b ≡ a
unfolding greater
greater-is a b h = grind (arith, ints)

lesser-past_first : (a b : ℤ) → lesser a (lesser a b) ≡ lesser a b
unfolding lesser
lesser-past_first a b = grind (arith, ints)

lesser-past_second : (a b : ℤ) → lesser b (lesser a b) ≡ lesser a b
unfolding lesser
lesser-past_second a b = grind (arith, ints)

greater-past_first : (a b : ℤ) → greater a (greater a b) ≡ greater a b
unfolding greater
greater-past_first a b = grind (arith, ints)

greater-past_second : (a b : ℤ) → greater b (greater a b) ≡ greater a b
unfolding greater
greater-past_second a b = grind (arith, ints)

-- ---- rounding down and up

neg-under : (n k : ℕ) → n < k → neg_ℤ (pos k) ≤ℤ negsuc n
neg-under n k h = omega (arith, ints)

floor-under : (n d : ℤ) → pos 0 <ℤ d → (floor_div n d *ℤ d) ≤ℤ n
floor-under n (negsuc d) h = absurd h.lt
floor-under (pos n) (pos d) h = omega (arith, ints, div-mul-le_self n d)
floor-under (negsuc n) (pos d) h =
    let l : n < n / d * d + d = lt-div-mul-add (ltb→lt 0 d h.lt) in
    neg-under n (suc (n / d) * d) (omega (arith, suc-mul (n / d) d))

-- -(n + 1) times d, over d
neg-exact : (k n d : ℕ) → 0 < d → k ≡ n * d + d → floor_div (neg_ℤ (pos k)) (pos d) ≡ negsuc n
neg-exact zero n d p e = absurd (omega arith)
neg-exact (suc k) n d p e =
    let rest : k ≡ n * d + (d - 1) = omega arith in
    ap negsuc (ap (λ m. m / d) rest ∙ div-mul-add n d (d - 1) (omega arith))

pub floor-exact : (n d : ℤ) → pos 0 <ℤ d → floor_div (n *ℤ d) d ≡ n
floor-exact n (negsuc d) h = absurd h.lt
floor-exact (pos n) (pos d) h = ap pos (mul-div_cancel n (ltb→lt 0 d h.lt))
floor-exact (negsuc n) (pos d) h = neg-exact (suc n * d) n d (ltb→lt 0 d h.lt) (suc-mul n d)

-- rounded up is minus the minus rounded down
minus-times : (q d : ℤ) → pos 0 <ℤ d → neg_ℤ q *ℤ d ≡ neg_ℤ (q *ℤ d)
minus-times q (negsuc d) h = absurd h.lt
minus-times (pos zero) (pos d) h = omega (arith, ints)
minus-times (pos (suc q)) (pos d) h = refl
minus-times (negsuc q) (pos d) h = sym (neg_ℤ-neg_ℤ (pos (suc q * d)))

minus-over : (n m : ℤ) → m ≤ℤ neg_ℤ n → n ≤ℤ neg_ℤ m
minus-over n m h = omega (arith, ints)

ceil-over : (n d : ℤ) → pos 0 <ℤ d → n ≤ℤ (ceil_div n d *ℤ d)
ceil-over n d h = rw (minus-times (floor_div (neg_ℤ n) d) d h) (minus-over n _ (floor-under (neg_ℤ n) d h))

ceil-exact : (n d : ℤ) → pos 0 <ℤ d → ceil_div (n *ℤ d) d ≡ n
ceil-exact n d h = rw (← minus-times n d h) (ap neg_ℤ (floor-exact (neg_ℤ n) d h) ∙ neg_ℤ-neg_ℤ n)

-- ---- the two ends

pub low-laws : EndLaws low_rule
low-laws = record {
  is = inl refl;
  outward = λ n d p. lesser-is _ _ (floor-under n d p);
  exact = floor-exact;
  past_first = lesser-past_first;
  past_second = lesser-past_second;
  ends = λ r. inl (refl, refl);
  outermost = λ r o. lesser-is _ _ o;
}

pub high-laws : EndLaws high_rule
high-laws = record {
  is = inr refl;
  outward = λ n d p. greater-is _ _ (ceil-over n d p);
  exact = ceil-exact;
  past_first = greater-past_first;
  past_second = greater-past_second;
  ends = λ r. inr (refl, refl);
  outermost = λ r o. greater-is _ _ o;
}
