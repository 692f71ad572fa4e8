-- The range of the limited sum is outward: `specs/Limited.antt`'s `LimitedRight`, as `limited-right`. What is held lies between its bounds rounded
-- outward, and at the choices that the damped sum comes nearest to its ends with, it comes as near. Assumes nothing.
use mathlib.Core.Path.{◌≡◌}
use mathlib.Core.Logic.{⊎_elim}
use mathlib.Core.List.{[], ◌∷◌}
use native.Mathlib.Omega.{arith}
use lib.IntN.{ℤ, pos, neg_ℤ, ◌+ℤ◌, ◌-ℤ◌, ◌*ℤ◌}
use lib.Signed.{lt_z, ◌≤ℤ◌, ◌<ℤ◌, le_z_yes, lt_z_yes}
use Rattle.ranges.specs.declared.Range.{Range}
use Rattle.ranges.specs.Division.{floor_div, ceil_div}
use Rattle.ranges.specs.Fraction.{Frac, ◌≤F◌, ◌<F◌, ◌≈F◌, whole, ◌/F◌, minus_f, lesser_f, greater_f}
use Rattle.ranges.specs.Range.{Positive, Ordered, lesser, greater}
use Rattle.ranges.specs.Damped.{DampedChoice, damped_at, damped_least, damped_most, damped_of}
use Rattle.ranges.specs.Limited.{limit, limited, limited_at, thousand, limit_of, limited_low, limited_high, limited_of, LimitedRight}
use Rattle.ranges.specs.Outward.{Outward}
use Rattle.ranges.proofs.LinearSolver.{zomega, says}
use Rattle.ranges.proofs.RingSolver.{ring, reify}
use Rattle.ranges.proofs.IntegerOrder.{lt-le, gap, nn-mul, le-ring, le_trans}
use Rattle.ranges.proofs.DivisionLaws.{floor-nn, ceil-nn}
use Rattle.ranges.proofs.FractionLaws.{≤F-trans, ≤<F-trans, <≤F-trans, ≈F-below, ≈F-above, lesser_f-left, lesser_f-right, greater_f-left, greater_f-right, minus_f-down, whole_le, zero-below, zero-above, ratio, floor-below, floor-near, ceil-above, ceil-near}
use Rattle.ranges.proofs.RangeLaws.{picked, lesser-left, lesser-right, greater-left, greater-right}
use Rattle.ranges.proofs.DampedOutward.{damped-above, damped-below, least-reached, most-reached}

-- ---- a relation of whole numbers to the fractions that they stand for goes over to the lesser and the greater of two

-- where it holds, it holds of a lesser number and of a greater fraction
record Upward (R : ℤ → Frac → Type 0) : Type 0 where
  pub less : (a b : ℤ) (x : Frac) → a ≤ℤ b → R b x → R a x
  pub more : (a : ℤ) (x y : Frac) → x ≤F y → R a x → R a y

-- or of a greater number and of a lesser fraction
record Downward (R : ℤ → Frac → Type 0) : Type 0 where
  pub more : (a b : ℤ) (x : Frac) → a ≤ℤ b → R a x → R b x
  pub less : (a : ℤ) (x y : Frac) → y ≤F x → R a x → R a y

-- what holds of both fractions holds of the lesser and of the greater
module _ (P : Frac → Type 0) (x y : Frac) (h : P x) (k : P y) where
  of_lesser : P (lesser_f x y)
  of_lesser = picked P (lt_z (x.num *ℤ y.den) (y.num *ℤ x.den)) h k

  of_greater : P (greater_f x y)
  of_greater = picked P (lt_z (x.num *ℤ y.den) (y.num *ℤ x.den)) k h

module _ (R : ℤ → Frac → Type 0) (a b : ℤ) (x y : Frac) where
  up-lesser : Upward R → R a x → R b y → R (lesser a b) (lesser_f x y)
  up-lesser u h k = of_lesser (R (lesser a b)) x y (u.less _ _ _ (lesser-left a b) h) (u.less _ _ _ (lesser-right a b) k)

  up-greater : Upward R → R a x → R b y → R (greater a b) (greater_f x y)
  unfolding greater
  up-greater u h k = picked (λ z. R z (greater_f x y)) (lt_z a b) (u.more _ _ _ (greater_f-right x y) k) (u.more _ _ _ (greater_f-left x y) h)

  down-lesser : Downward R → R a x → R b y → R (lesser a b) (lesser_f x y)
  unfolding lesser
  down-lesser d h k = picked (λ z. R z (lesser_f x y)) (lt_z a b) (d.less _ _ _ (lesser_f-left x y) h) (d.less _ _ _ (lesser_f-right x y) k)

  down-greater : Downward R → R a x → R b y → R (greater a b) (greater_f x y)
  down-greater d h k = of_greater (R (greater a b)) x y (d.more _ _ _ (greater-left a b) h) (d.more _ _ _ (greater-right a b) k)

-- the four relations that a rounded end has to its fraction
abbrev Under : ℤ → Frac → Type 0
Under z x = whole z ≤F x

abbrev Over : ℤ → Frac → Type 0
Over z x = x ≤F whole z

abbrev UnderNear : ℤ → Frac → Type 0
UnderNear z x = x <F whole (z +ℤ pos 1)

abbrev OverNear : ℤ → Frac → Type 0
OverNear z x = whole (z -ℤ pos 1) <F x

under : Upward Under
under = record { less = λ a b x h k. ≤F-trans (whole_le h) k; more = λ a x y h k. ≤F-trans k h }

over : Downward Over
over = record { more = λ a b x h k. ≤F-trans k (whole_le h); less = λ a x y h k. ≤F-trans h k }

under_near : Downward UnderNear
under_near = record {
  more = λ a b x h k. <≤F-trans k (whole_le (zomega (a ∷ b ∷ []) h (search says depth 20) (omega arith)));
  less = λ a x y h k. ≤<F-trans h k;
}

over_near : Upward OverNear
over_near = record {
  less = λ a b x h k. ≤<F-trans (whole_le (zomega (a ∷ b ∷ []) h (search says depth 20) (omega arith))) k;
  more = λ a x y h k. <≤F-trans k h;
}

-- ---- the limit c

thousand-pos : pos 0 <ℤ thousand
thousand-pos = lt_z_yes tt

module _ (b : ℤ) (b0 : pos 0 ≤ℤ b) where
  -- at a whole δ
  limit-is : (d : ℤ) → limit b (whole d) ≈F ratio (b *ℤ d) thousand thousand-pos
  unfolding limit ◌/F◌
  limit-is d = record { same = ring (b ∷ d ∷ []) (search reify depth 20) tt }

  -- it grows with δ, and is not below zero where δ is not
  limit-up : {x y : Frac} → x ≤F y → limit b x ≤F limit b y
  unfolding limit ◌/F◌
  limit-up {x} {y} h = record { le = le-ring (b ∷ x.num ∷ x.den ∷ y.num ∷ y.den ∷ []) (nn-mul {a = thousand} (le_z_yes tt) (nn-mul b0 (gap h.le))) (search reify depth 20) tt }

  limit-nn : (x : Frac) → pos 0 ≤ℤ x.num → whole (pos 0) ≤F limit b x
  unfolding limit ◌/F◌
  limit-nn x h = zero-below _ (let k = nn-mul b0 h in zomega (b ∷ x.num ∷ []) k (search says depth 20) (omega arith))

  minus-np : (x : Frac) → pos 0 ≤ℤ x.num → minus_f (limit b x) ≤F whole (pos 0)
  unfolding limit ◌/F◌
  minus-np x h = zero-above _ (let k = nn-mul b0 h in zomega (b ∷ x.num ∷ []) k (search says depth 20) (omega arith))

  -- rounded, c and -c
  module _ (d : ℤ) where
    floor-under : Under (floor_div (b *ℤ d) thousand) (limit b (whole d))
    floor-under = ≤F-trans (floor-below (b *ℤ d) thousand thousand-pos) (≈F-above (limit-is d))

    floor-close : UnderNear (floor_div (b *ℤ d) thousand) (limit b (whole d))
    floor-close = ≤<F-trans (≈F-below (limit-is d)) (floor-near (b *ℤ d) thousand thousand-pos)

    ceil-over : Over (ceil_div (b *ℤ d) thousand) (limit b (whole d))
    ceil-over = ≤F-trans (≈F-below (limit-is d)) (ceil-above (b *ℤ d) thousand thousand-pos)

    ceil-close : OverNear (ceil_div (b *ℤ d) thousand) (limit b (whole d))
    ceil-close = <≤F-trans (ceil-near (b *ℤ d) thousand thousand-pos) (≈F-above (limit-is d))

-- the same of negatives: what is above goes below
minus-under : {z : ℤ} {x : Frac} → Over z x → Under (neg_ℤ z) (minus_f x)
minus-under h = minus_f-down h

minus-over : {z : ℤ} {x : Frac} → Under z x → Over (neg_ℤ z) (minus_f x)
minus-over h = minus_f-down h

minus-under_near : (z : ℤ) (x : Frac) → OverNear z x → UnderNear (neg_ℤ z) (minus_f x)
minus-under_near z x h = record { lt = let l = h.lt in zomega (z ∷ x.num ∷ x.den ∷ []) l (search says depth 20) (omega arith) }

minus-over_near : (z : ℤ) (x : Frac) → UnderNear z x → OverNear (neg_ℤ z) (minus_f x)
minus-over_near z x h = record { lt = let l = h.lt in zomega (z ∷ x.num ∷ x.den ∷ []) l (search says depth 20) (omega arith) }

-- ---- the range

module _ (b c : ℤ) (b0 : pos 0 ≤ℤ b) (c0 : pos 0 ≤ℤ c) (v f δ : Range) (p : Positive δ) where
  module _ (x : DampedChoice v f δ) where
    abbrev value : Frac
    value = damped_at c x

    abbrev most : Frac
    most = limit b x.δ-is

    -- c's bounds, at the ends of δ
    above-low : limit b (whole δ.low) ≤F most
    above-low = limit-up b b0 x.δ-in.above

    below-high : most ≤F limit b (whole δ.high)
    below-high = limit-up b b0 x.δ-in.below

    limited-above : whole (limited_low b δ (damped_least c v f.low δ)) ≤F limited_at b c x
    unfolding limited_low limited
    limited-above =
        up-greater Under _ _ (minus_f most) (lesser_f most value) under
        (minus-under (≤F-trans below-high (ceil-over b b0 δ.high)))
        (up-lesser Under _ _ most value under (≤F-trans (floor-under b b0 δ.low) above-low) (damped-above c c0 v f δ p x))

    limited-below : limited_at b c x ≤F whole (limited_high b δ (damped_most c v f.high δ))
    unfolding limited_high limited
    limited-below =
        down-greater Over _ _ (minus_f most) (lesser_f most value) over
        (minus-over (≤F-trans (floor-under b b0 δ.low) above-low))
        (down-lesser Over _ _ most value over (≤F-trans below-high (ceil-over b b0 δ.high)) (damped-below c c0 v f δ p x))

  -- a value x near the end m of the damped sum's range, with δ at its end by the sign of m: held, it is near that end held. Below zero c does not hold
  -- it, and from zero on -c does not
  module _ (m : ℤ) (x d : Frac) where
    abbrev c-is : Frac
    c-is = limit b d

    abbrev held : Frac
    held = lesser_f c-is x

    abbrev least_c : ℤ
    least_c = (limit_of b δ).low

    abbrev greatest_c : ℤ
    greatest_c = (limit_of b δ).high

    least_c-nn : pos 0 ≤ℤ least_c
    least_c-nn = floor-nn (b *ℤ δ.low) thousand thousand-pos (nn-mul b0 (lt-le p.low))

    greatest_c-nn : pos 0 ≤ℤ greatest_c
    greatest_c-nn = ceil-nn (b *ℤ δ.high) thousand thousand-pos (nn-mul b0 (lt-le p.high))

    module _ (near : UnderNear m x) where
      abbrev low_held : ℤ
      low_held = lesser least_c m

      low-below : m ≤ℤ pos 0 → d ≡ whole δ.high → UnderNear (limited_low b δ m) (limited b d x)
      unfolding limited_low limited lesser
      low-below h e =
          let both = picked (λ z. UnderNear z x) (lt_z least_c m) {a = least_c} {b = m} (under_near.more m least_c x (le_trans h least_c-nn) near) near in
          down-greater UnderNear (neg_ℤ greatest_c) low_held (minus_f c-is) held under_near (rw e (minus-under_near greatest_c _ (ceil-close b b0 δ.high))) (under_near.less low_held x held (lesser_f-right c-is x) both)

      low-from : pos 0 ≤ℤ m → d ≡ whole δ.low → UnderNear (limited_low b δ m) (limited b d x)
      unfolding limited_low limited lesser
      low-from h e =
          let nn : pos 0 ≤ℤ low_held = picked (λ z. pos 0 ≤ℤ z) (lt_z least_c m) least_c-nn h in
          let zero : UnderNear (pos 0) (minus_f c-is) = ≤<F-trans (minus-np b b0 d (rw e (lt-le p.low))) (record { lt = lt_z_yes tt }) in
          let k = greater-right (neg_ℤ greatest_c) low_held in
          of_greater (UnderNear (greater (neg_ℤ greatest_c) low_held)) (minus_f c-is) held
          (under_near.more low_held _ (minus_f c-is) k (under_near.more (pos 0) low_held _ nn zero))
          (under_near.more low_held _ held k (down-lesser UnderNear least_c m c-is x under_near (rw e (floor-close b b0 δ.low)) near))

    module _ (near : OverNear m x) where
      abbrev high_held : ℤ
      high_held = lesser greatest_c m

      high-below : m ≤ℤ pos 0 → d ≡ whole δ.low → OverNear (limited_high b δ m) (limited b d x)
      unfolding limited_high limited greater
      high-below h e =
          let zero : OverNear (pos 0) c-is = <≤F-trans (record { lt = lt_z_yes tt }) (limit-nn b b0 d (rw e (lt-le p.low))) in
          let k = lesser-right greatest_c m in
          up-greater OverNear (neg_ℤ least_c) high_held (minus_f c-is) held over_near (rw e (minus-over_near least_c _ (floor-close b b0 δ.low)))
          (of_lesser (OverNear high_held) c-is x (over_near.less high_held m c-is k (over_near.less m (pos 0) c-is h zero)) (over_near.less high_held m x k near))

      high-from : pos 0 ≤ℤ m → d ≡ whole δ.high → OverNear (limited_high b δ m) (limited b d x)
      unfolding limited_high limited greater lesser
      high-from h e =
          let nn : pos 0 ≤ℤ high_held = picked (λ z. pos 0 ≤ℤ z) (lt_z greatest_c m) greatest_c-nn h in
          let np : neg_ℤ least_c ≤ℤ pos 0 = let z = least_c in let k = least_c-nn in zomega (z ∷ []) k (search says depth 20) (omega arith) in
          let near = over_near.more high_held held _ (greater_f-right (minus_f c-is) held) (up-lesser OverNear greatest_c m c-is x over_near (rw e (ceil-close b b0 δ.high)) near) in
          picked (λ z. OverNear z (limited b d x)) (lt_z (neg_ℤ least_c) high_held) {a = high_held} {b = neg_ℤ least_c} near (over_near.less (neg_ℤ least_c) high_held _ (le_trans np nn) near)

  module _ (vo : Ordered v) (fo : Ordered f) (δo : Ordered δ) where
    limited-outward : Outward (λ (x : DampedChoice v f δ). limited_at b c x) (limited_of b δ (damped_of c v f δ))
    limited-outward =
        let l = least-reached c c0 v f δ p vo fo δo in
        let h = most-reached c c0 v f δ p vo fo δo in
        record {
          within = λ x. record { above = limited-above x; below = limited-below x };
          least = l.choice;
          least-near = ⊎_elim (λ k. low-below (damped_least c v f.low δ) (damped_at c l.choice) l.choice.δ-is l.holds k.0 k.1) (λ k. low-from (damped_least c v f.low δ) (damped_at c l.choice) l.choice.δ-is l.holds k.0 k.1) l.side;
          greatest = h.choice;
          greatest-near = ⊎_elim (λ k. high-below (damped_most c v f.high δ) (damped_at c h.choice) h.choice.δ-is h.holds k.0 k.1) (λ k. high-from (damped_most c v f.high δ) (damped_at c h.choice) h.choice.δ-is h.holds k.0 k.1) h.side;
        }

pub limited-right : LimitedRight
limited-right = record { outward = λ b c v f δ b0 c0 p vo fo δo. limited-outward b c b0 c0 v f δ p vo fo δo }
