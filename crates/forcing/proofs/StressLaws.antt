-- The stress of a wind: that its coefficient is equation 9a's, that the division by w² leaves no rest, that it is document 01's q; the size of it and
-- of its parts. Assumes nothing.
use borrow.Author.Tests.{ne_eqb}
use mathlib.Core.Path.{◌≡◌, refl, sym, subst, ◌∙◌}
use mathlib.Core.Bool.{Bool, true, false, cond}
use mathlib.Core.Logic.{◌⊎◌, inl, inr}
use mathlib.Core.List.{[], ◌∷◌}
use native.Mathlib.Omega.{arith}
use lib.Dec.{ltb→lt}
use lib.IntN.{ℤ, pos, negsuc, ◌+ℤ◌, ◌-ℤ◌, ◌*ℤ◌}
use lib.Signed.{le_z, quot_z, rem_z, ◌≤ℤ◌, ◌<ℤ◌, le_z_yes}
use mir.Syntax.{w64}
use mir.Val.{SFits}
use Rattle.ranges.specs.Bounds.{Sized}
use Rattle.ranges.specs.Fraction.{whole, pos-mul}
use Rattle.ranges.proofs.Branches.{le-true, le-false, le_yes}
use Rattle.ranges.proofs.DivisionLaws.{floor-times, rest-times}
use Rattle.ranges.proofs.DivisionSteps.{floor-pos}
use Rattle.ranges.proofs.Fits.{sized-mul, sized-add, sized-literal, sized-fits}
use Rattle.ranges.proofs.FractionLaws.{div-num, div-den, div_same}
use Rattle.ranges.proofs.IntegerOrder.{le_antisymm, le-or-gt, nn-mul, nn-sq}
use Rattle.ranges.proofs.LinearSolver.{zomega, says, ◌&◌}
use Rattle.ranges.proofs.RingSolver.{ring, reify}
use Rattle.forcing.specs.Coefficient.{K₁, K₂, Wc, Equation9a, coefficient_of, as_fraction}
use Rattle.forcing.specs.Quadrant.{Angle}
use Rattle.forcing.specs.Stress.{Wind, calm, stress_of, q, StressRight, cross_of, onshore_of}
use Rattle.forcing.proofs.QuadrantLaws.{sine-sized, cosine-sized}

pub sized-wider : {a b x : ℤ} → a ≤ℤ b → Sized a x → Sized b x
sized-wider {a} {b} {x} h s =
    let l = s.low in
    let k = s.high in
    record {
      low = zomega (a ∷ b ∷ x ∷ []) (h & l) (search says depth 20) (omega arith);
      high = zomega (a ∷ b ∷ x ∷ []) (h & k) (search says depth 20) (omega arith);
    }

-- ---- the numbers on the way to k

module _ (w : ℤ) (h : Wind w) where
  pub wind-sized : Sized (pos 2000) w
  wind-sized = let l = h.low in record { low = zomega (w ∷ []) l (search says depth 20) (omega arith); high = h.high }

  pub square-sized : Sized (pos 4000000) (w *ℤ w)
  square-sized = sized-mul wind-sized wind-sized

  pub base-sized : Sized (pos 44000000) (K₁ *ℤ (w *ℤ w))
  base-sized = sized-mul (sized-literal 11) square-sized

  module _ (t : Wc <ℤ w) where
    pub excess-sized : Sized (pos 1840) (w -ℤ Wc)
    excess-sized = let k = h.high in record {
      low = zomega (w ∷ []) t (search says depth 20) (omega arith);
      high = zomega (w ∷ []) k (search says depth 20) (omega arith);
    }

    pub excess-square-sized : Sized (pos 3385600) ((w -ℤ Wc) *ℤ (w -ℤ Wc))
    excess-square-sized = sized-mul excess-sized excess-sized

    pub added-sized : Sized (pos 84640000) (K₂ *ℤ ((w -ℤ Wc) *ℤ (w -ℤ Wc)))
    added-sized = sized-mul (sized-literal 25) excess-square-sized

    pub sum-sized : Sized (pos 128640000) (K₁ *ℤ (w *ℤ w) +ℤ K₂ *ℤ ((w -ℤ Wc) *ℤ (w -ℤ Wc)))
    sum-sized = sized-add base-sized added-sized

  pub numerator-sized : Sized (pos 128640000) (coefficient_of w).numerator
  numerator-sized = go (le_z w Wc) refl
    where
      go : (t : Bool) → le_z w Wc ≡ t → Sized (pos 128640000) (coefficient_of w).numerator
      go true e = rw e (sized-wider (le_z_yes tt) base-sized)
      go false e = rw e (sum-sized (le-false w Wc e))

-- ---- k is equation 9a's

-- from W_c on: at W_c itself the second term is 0
from-critical : (w : ℤ) → Wc ≤ℤ w → (coefficient_of w).numerator ≡ K₁ *ℤ (w *ℤ w) +ℤ K₂ *ℤ ((w -ℤ Wc) *ℤ (w -ℤ Wc))
from-critical w h = go (le_z w Wc) refl
  where
    go : (t : Bool) → le_z w Wc ≡ t → (coefficient_of w).numerator ≡ K₁ *ℤ (w *ℤ w) +ℤ K₂ *ℤ ((w -ℤ Wc) *ℤ (w -ℤ Wc))
    go true e = subst (λ (x : ℤ). (coefficient_of x).numerator ≡ K₁ *ℤ (x *ℤ x) +ℤ K₂ *ℤ ((x -ℤ Wc) *ℤ (x -ℤ Wc))) (sym (le_antisymm (le-true w Wc e) h)) refl
    go false e = rw e

-- where w ≤ W_c
to-critical : (w : ℤ) → w ≤ℤ Wc → (coefficient_of w).numerator ≡ K₁ *ℤ (w *ℤ w)
to-critical w h = rw (le_yes h)

equation-9a : (w : ℤ) → pos 0 <ℤ w → Equation9a w (as_fraction (coefficient_of w))
equation-9a w p = record {
  below = λ h. div_same (whole (coefficient_of w).numerator) (whole (w *ℤ w)) (whole K₁) (pos-mul p p) (rw (to-critical w h) (ring (w ∷ []) (search reify depth 20) tt));
  above = λ h. div_same (whole (coefficient_of w).numerator) (whole (w *ℤ w)) _ (pos-mul p p)
      (rw (from-critical w h, div-num (whole Wc) (whole w) p, div-den (whole Wc) (whole w) p) (ring (w ∷ []) (search reify depth 20) tt));
}

-- ---- k times w²

numerator-nn : (w : ℤ) → pos 0 ≤ℤ (coefficient_of w).numerator
numerator-nn w = go (le_z w Wc)
  where
    go : (t : Bool) → pos 0 ≤ℤ cond t (K₁ *ℤ (w *ℤ w)) (K₁ *ℤ (w *ℤ w) +ℤ K₂ *ℤ ((w -ℤ Wc) *ℤ (w -ℤ Wc)))
    go true = let s = nn-sq w in zomega (w ∷ []) s (search says depth 20) (omega arith)
    go false = let s = nn-sq w in let e = nn-sq (w -ℤ Wc) in zomega (w ∷ []) (s & e) (search says depth 20) (omega arith)

no-rest : (w : ℤ) → pos 0 <ℤ w → rem_z ((coefficient_of w).numerator *ℤ (w *ℤ w)) (coefficient_of w).square ≡ pos 0
no-rest w p = rest-times (coefficient_of w).numerator (w *ℤ w) (numerator-nn w) (pos-mul p p)

-- k times w² is the numerator
blowing-is : (w : ℤ) → pos 0 <ℤ w → stress_of w ≡ (coefficient_of w).numerator
unfolding stress_of
blowing-is w p = rw (test w p) (floor-times (coefficient_of w).numerator (w *ℤ w) (pos-mul p p))
  where
    test : (w : ℤ) → pos 0 <ℤ w → calm w ≡ false
    test (pos n) p = let l = ltb→lt 0 n p.lt in ne_eqb n 0 (λ e. omega arith)
    test (negsuc n) p = absurd p.lt

pub calm-is : stress_of (pos 0) ≡ pos 0
unfolding stress_of
calm-is = refl

-- the numerator is document 01's q
stress-is : (w : ℤ) → Wind w → stress_of w ≡ q w
unfolding q
stress-is w h = go (le-or-gt w (pos 0))
  where
    go : (w ≤ℤ pos 0) ⊎ (pos 0 <ℤ w) → stress_of w ≡ q w
    go (inl k) = subst (λ (x : ℤ). stress_of x ≡ q x) (le_antisymm h.low k) calm-is
    go (inr p) = blowing-is w p

pub stress-right : StressRight
stress-right = record {
  printed = λ w h p. equation-9a w p;
  rest = λ w h p. no-rest w p;
  is = stress-is;
}

pub stress-sized : (w : ℤ) → Wind w → Sized (pos 128640000) (stress_of w)
unfolding q
stress-sized w h = subst (Sized (pos 128640000)) (sym (stress-is w h)) (numerator-sized w h)

-- what the code makes of a wind that is no calm, the coefficient's numerator being n: n·w² over w²
pub record Times (w n : ℤ) : Type 0 where
  pub numerator : SFits w64 n
  pub square : SFits w64 (w *ℤ w)
  pub above : pos 0 <ℤ (w *ℤ w)
  pub top : SFits w64 (n *ℤ (w *ℤ w))
  pub is : quot_z (n *ℤ (w *ℤ w)) (w *ℤ w) ≡ stress_of w

pub times : {w : ℤ} → Wind w → pos 0 <ℤ w → Times w (coefficient_of w).numerator
times {w} h p =
    let n = (coefficient_of w).numerator in
    let s = pos-mul p p in
    record {
      numerator = sized-fits (le_z_yes tt) (numerator-sized w h);
      square = sized-fits (le_z_yes tt) (square-sized w h);
      above = s;
      top = sized-fits (le_z_yes tt) (sized-mul (numerator-sized w h) (square-sized w h));
      is = floor-pos (n *ℤ (w *ℤ w)) (w *ℤ w) (nn-mul (numerator-nn w) (nn-sq w)) s ∙ floor-times n (w *ℤ w) s ∙ sym (blowing-is w p);
    }

-- ---- the parts across and along

pub cross-sized : (w a : ℤ) → Wind w → Angle a → Sized (pos 1286400000000) (cross_of w a)
unfolding cross_of
cross-sized w a h k = sized-mul (stress-sized w h) (sine-sized a k)

pub onshore-sized : (w a : ℤ) → Wind w → Angle a → Sized (pos 1286400000000) (onshore_of w a)
unfolding onshore_of
onshore-sized w a h k = sized-mul (stress-sized w h) (cosine-sized a k)

-- the two ends of a segment
pub cross-sum-sized : (w a w' a' : ℤ) → Wind w → Angle a → Wind w' → Angle a' → Sized (pos 2572800000000) (cross_of w a +ℤ cross_of w' a')
cross-sum-sized w a w' a' h k h' k' = sized-add (cross-sized w a h k) (cross-sized w' a' h' k')

pub onshore-sum-sized : (w a w' a' : ℤ) → Wind w → Angle a → Wind w' → Angle a' → Sized (pos 2572800000000) (onshore_of w a +ℤ onshore_of w' a')
onshore-sum-sized w a w' a' h k h' k' = sized-add (onshore-sized w a h k) (onshore-sized w' a' h' k')
