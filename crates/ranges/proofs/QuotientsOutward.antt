-- The range of a quotient is outward: shown one time, for any family of quotients whose numerators lie within one range and whose divisors lie
-- within another, above zero, where some choice reaches the corner of each end. Assumes nothing.
use mathlib.Core.Path.{refl}
use lib.IntN.{ℤ}
use Rattle.ranges.specs.declared.Range.{Range}
use Rattle.ranges.specs.Fraction.{Frac, ◌≈F◌, whole, ◌/F◌}
use Rattle.ranges.specs.Range.{Within, Ordered, Positive}
use Rattle.ranges.specs.Quotient.{QuotientChoice, quotient_at, quotient_of}
use Rattle.ranges.specs.Outward.{Outward}
use Rattle.ranges.proofs.FractionLaws.{≤<F-trans, <≤F-trans, ≈F-below, ≈F-above, at_low, at_high, within-pos, div-cong}
use Rattle.ranges.proofs.QuotientLaws.{least_divisor, most_divisor, least-near, most-near, least-in, most-in, quotient-above, quotient-below}

-- a choice whose numerator is n and whose divisor is d
pub record Corner {C : Type 0} (top bottom : C → Frac) (n d : ℤ) : Type 0 where
  pub choice : C
  pub top-is : top choice ≈F whole n
  pub bottom-is : bottom choice ≈F whole d

module _ {C : Type 0} (top bottom : C → Frac) (n d : Range) (p : Positive d) (top_in : (c : C) → Within n (top c)) (bottom-in : (c : C) → Within d (bottom c)) where
  pub corner-is : {m e : ℤ} (k : Corner top bottom m e) → (top k.choice /F bottom k.choice) ≈F (whole m /F whole e)
  corner-is k = div-cong _ _ _ _ (within-pos p.low (bottom-in k.choice)) k.top-is k.bottom-is

  -- the corners: the least numerator over the divisor that leaves it least, and the greatest over the divisor that leaves it greatest
  pub quotients-outward : Corner top bottom n.low (least_divisor n.low d) → Corner top bottom n.high (most_divisor n.high d) → Outward (λ (c : C). top c /F bottom c) (quotient_of n d)
  quotients-outward l h = record {
    within = λ c. record { above = quotient-above n.low d p (bottom c) (bottom-in c) (top c) (top_in c).above; below = quotient-below n.high d p (bottom c) (bottom-in c) (top c) (top_in c).below };
    least = l.choice;
    least-near = ≤<F-trans (≈F-below (corner-is l)) (least-near n.low d p);
    greatest = h.choice;
    greatest-near = <≤F-trans (most-near n.high d p) (≈F-above (corner-is h));
  }

-- every fraction in n over every fraction in d
pub quotient-outward : (n d : Range) → Positive d → Ordered n → Ordered d → Outward (λ (x : QuotientChoice n d). quotient_at x) (quotient_of n d)
quotient-outward n d p n-ordered d-ordered =
    quotients-outward {C = QuotientChoice n d} (λ x. x.top) (λ x. x.bottom) n d p (λ x. x.top_in) (λ x. x.bottom-in)
    (corner n.low (least_divisor n.low d) (at_low n n-ordered) (least-in n.low d p d-ordered))
    (corner n.high (most_divisor n.high d) (at_high n n-ordered) (most-in n.high d p d-ordered))
  where
    corner : (m e : ℤ) → Within n (whole m) → Within d (whole e) → Corner {C = QuotientChoice n d} (λ x. x.top) (λ x. x.bottom) m e
    corner m e i j = record {
      choice = record { top = whole m; top_in = i; bottom = whole e; bottom-in = j };
      top-is = record { same = refl };
      bottom-is = record { same = refl };
    }
