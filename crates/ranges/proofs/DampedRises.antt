-- Where c·|f| is not above 100δ² at the least δ, the damped sum rises with v throughout, on both sides of zero: so it is least at the low end of v and
-- greatest at the high one, and the code need not try the others. Assumes nothing.
use mathlib.Core.Path.{◌≡◌, sym, ap, subst}
use mathlib.Core.Logic.{⊎_elim}
use mathlib.Core.List.{[], ◌∷◌}
use native.Mathlib.Omega.{arith}
use Rattle.std.proofs.lemmas.Int.{ints}
use lib.IntN.{ℤ, pos, neg_ℤ, ◌+ℤ◌, ◌-ℤ◌, ◌*ℤ◌}
use lib.Signed.{lt_z, ◌≤ℤ◌, ◌<ℤ◌}
use Rattle.ranges.specs.declared.Range.{Range}
use Rattle.ranges.specs.Fraction.{◌≤F◌, whole, absℤ}
use Rattle.ranges.specs.Range.{Within, Positive, Ordered, lesser, greater, nearest}
use Rattle.ranges.specs.Ends.{EndRule, EndLaws}
use Rattle.ranges.specs.Damped.{damped, damped_end, damped_furthest, damped_floor, damped_ceil, damped_low, damped_high, damped_least, damped_most}
use Rattle.ranges.proofs.LinearSolver.{zomega, says, ◌&◌}
use Rattle.ranges.proofs.RingSolver.{reify}
use Rattle.ranges.proofs.IntegerOrder.{le-or-gt, lt-le, gap, nn-mul, le-ring, abs-pos, abs_neg, abs-nn}
use Rattle.ranges.proofs.FractionLaws.{≤F-trans, ≤<F-trans, <≤F-trans, ≈F-below, ≈F-above, lt-whole, at_low, at_high}
use Rattle.ranges.proofs.RangeLaws.{picked, nearest_in}
use Rattle.ranges.proofs.DampedLaws.{damped-whole}
use Rattle.ranges.proofs.DampedOutward.{floor-under, floor-close, ceil-over, ceil-close, low_end, high_end, low-δ, high-δ}
use Rattle.ranges.proofs.DampedFits.{square-pos}

-- ---- cleared of denominators, D being 100δ²

module _ (c x y f D : ℤ) (c0 : pos 0 ≤ℤ c) (D0 : pos 0 ≤ℤ D) (h : x ≤ℤ y) (up : (c *ℤ f) ≤ℤ D) (down : (pos 0 -ℤ c *ℤ f) ≤ℤ D) where
  abbrev Rises : ℤ → ℤ → Type 0
  Rises s t = ((x +ℤ f) *ℤ D *ℤ (D +ℤ c *ℤ t)) ≤ℤ ((y +ℤ f) *ℤ D *ℤ (D +ℤ c *ℤ s))

  from_zero : Rises x y
  from_zero = le-ring (c ∷ x ∷ y ∷ f ∷ D ∷ []) (nn-mul (nn-mul (gap h) (gap up)) D0) (search reify depth 20) tt

  to_zero : Rises (neg_ℤ x) (neg_ℤ y)
  to_zero = le-ring (c ∷ x ∷ y ∷ f ∷ D ∷ []) (nn-mul (nn-mul (gap h) (gap down)) D0) (search reify depth 20) tt

  across : x ≤ℤ pos 0 → pos 0 ≤ℤ y → Rises (neg_ℤ x) y
  across n p =
      let a = nn-mul (nn-mul p (gap up)) D0 in
      let b = nn-mul (nn-mul (gap n) (gap down)) D0 in
      let d = nn-mul (nn-mul c0 (nn-mul p (gap n))) D0 in
      zomega (c ∷ x ∷ y ∷ f ∷ D ∷ []) (a & b & d) (search says depth 20) (omega arith)

  rises : Rises (absℤ x) (absℤ y)
  rises = ⊎_elim
      (λ p. let q : pos 0 ≤ℤ y = zomega (x ∷ y ∷ []) (p & h) (search says depth 20) (omega arith) in rw (abs-pos x p, abs-pos y q) from_zero)
      (λ n. ⊎_elim (λ p. rw (abs_neg x (lt-le n), abs-pos y p) (across (lt-le n) p)) (λ m. rw (abs_neg x (lt-le n), abs_neg y (lt-le m)) to_zero) (le-or-gt (pos 0) y))
      (le-or-gt (pos 0) x)

-- ---- of fractions, at whole numbers

size-up : (c f D : ℤ) → pos 0 ≤ℤ c → (c *ℤ absℤ f) ≤ℤ D → (c *ℤ f) ≤ℤ D
size-up c f D c0 h = ⊎_elim
    (λ p. rw (← abs-pos f p) h)
    (λ n. let k = nn-mul c0 (abs-nn f) in let m = nn-mul c0 (gap (lt-le n)) in let s = absℤ f in zomega (c ∷ f ∷ D ∷ s ∷ []) (h & k & m) (search says depth 20) (omega arith))
    (le-or-gt (pos 0) f)

size-down : (c f D : ℤ) → pos 0 ≤ℤ c → (c *ℤ absℤ f) ≤ℤ D → (pos 0 -ℤ c *ℤ f) ≤ℤ D
size-down c f D c0 h = ⊎_elim
    (λ p. let k = nn-mul c0 (abs-nn f) in let m = nn-mul c0 p in let s = absℤ f in zomega (c ∷ f ∷ D ∷ s ∷ []) (h & k & m) (search says depth 20) (omega arith))
    (λ n. let e = abs_neg f (lt-le n) in let s = absℤ f in let k : c *ℤ s ≡ c *ℤ neg_ℤ f = ap (λ (z : ℤ). c *ℤ z) e in zomega (c ∷ f ∷ D ∷ s ∷ []) (h & k) (search says depth 20) (omega arith))
    (le-or-gt (pos 0) f)

module _ (c : ℤ) (c0 : pos 0 ≤ℤ c) (f d : ℤ) (p : pos 0 <ℤ d) (small : (c *ℤ absℤ f) ≤ℤ (pos 100 *ℤ (d *ℤ d))) (x y : ℤ) (h : x ≤ℤ y) where
  whole-rises : damped c (whole x) (whole f) (whole d) ≤F damped c (whole y) (whole f) (whole d)
  whole-rises =
      let D = pos 100 *ℤ (d *ℤ d) in
      ≤F-trans (≈F-below (damped-whole c c0 x f d p))
      (≤F-trans (record { le = rises c x y f D c0 (lt-le (square-pos p)) h (size-up c f D c0 small) (size-down c f D c0 small) })
      (≈F-above (damped-whole c c0 y f d p)))

-- ---- the corners

-- what the code asks
pub record RisesIn (c : ℤ) (v : Range) (f : ℤ) (δ : Range) : Type 0 where
  pub v-ordered : Ordered v
  pub δ-ordered : Ordered δ
  pub small : (c *ℤ absℤ f) ≤ℤ (pos 100 *ℤ (δ.low *ℤ δ.low))

module _ (c : ℤ) (c0 : pos 0 ≤ℤ c) (v : Range) (f : ℤ) (δ : Range) (p : Positive δ) (r : RisesIn c v f δ) where
  -- what is asked of δ, at either of its ends
  record At (d : ℤ) : Type 0 where
    pub within : Within δ (whole d)
    pub above : pos 0 <ℤ d
    pub small : (c *ℤ absℤ f) ≤ℤ (pos 100 *ℤ (d *ℤ d))

  at_least : At δ.low
  at_least = record { within = at_low δ r.δ-ordered; above = p.low; small = r.small }

  at_greatest : At δ.high
  at_greatest =
      let a = nn-mul (gap r.δ-ordered) (lt-le p.low) in
      let b = nn-mul (gap r.δ-ordered) (lt-le p.high) in
      let z = c *ℤ absℤ f in
      let s = r.small in
      record { within = at_high δ r.δ-ordered; above = p.high; small = zomega (z ∷ δ.low ∷ δ.high ∷ []) (s & a & b) (search says depth 20) (omega arith) }

  -- the low end's corner at v's low end is not above that at any x of v, and the high end's corner at v's high end is not below
  low-mono : (x : ℤ) → v.low ≤ℤ x → damped_low c v.low f δ ≤ℤ damped_low c x f δ
  unfolding damped_low damped_floor
  low-mono x h =
      let here = picked At (lt_z (v.low +ℤ f) (pos 0)) at_greatest at_least in
      let there = picked At (lt_z (x +ℤ f) (pos 0)) at_greatest at_least in
      let l = lt-whole (≤<F-trans
      (≤F-trans (floor-under c c0 v.low f (low_end δ f v.low) here.above)
      (≤F-trans (low-δ c c0 δ p f v.low (whole (low_end δ f x)) there.within) (whole-rises c c0 f (low_end δ f x) there.above there.small v.low x h)))
      (floor-close c c0 x f (low_end δ f x) there.above)) in
      let a = damped_low c v.low f δ in
      let b = damped_low c x f δ in
      zomega (a ∷ b ∷ []) l (search says depth 20) (omega arith)

  high-mono : (x : ℤ) → x ≤ℤ v.high → damped_high c x f δ ≤ℤ damped_high c v.high f δ
  unfolding damped_high damped_ceil
  high-mono x h =
      let here = picked At (lt_z (v.high +ℤ f) (pos 0)) at_least at_greatest in
      let there = picked At (lt_z (x +ℤ f) (pos 0)) at_least at_greatest in
      let l = lt-whole (<≤F-trans
      (ceil-close c c0 x f (high_end δ f x) there.above)
      (≤F-trans (whole-rises c c0 f (high_end δ f x) there.above there.small x v.high h)
      (≤F-trans (high-δ c c0 δ p f v.high (whole (high_end δ f x)) there.within) (ceil-over c c0 v.high f (high_end δ f v.high) here.above)))) in
      let a = damped_high c x f δ in
      let b = damped_high c v.high f δ in
      zomega (a ∷ b ∷ []) l (search says depth 20) (omega arith)

  -- so they are the furthest of the three
  lesser-second : (a b z : ℤ) → b ≤ℤ a → b ≤ℤ z → lesser a (lesser b z) ≡ b
  unfolding lesser
  lesser-second a b z h k = grind (arith, ints)

  greater-third : (a b z : ℤ) → a ≤ℤ z → b ≤ℤ z → greater a (greater b z) ≡ z
  unfolding greater
  greater-third a b z h k = grind (arith, ints)

  least-is : damped_least c v f δ ≡ damped_low c v.low f δ
  unfolding damped_least damped_low
  least-is =
      let n = nearest_in v r.v-ordered in
      lesser-second (damped_low c (nearest v) f δ) (damped_low c v.low f δ) (damped_low c v.high f δ) (low-mono (nearest v) n.0) (low-mono v.high r.v-ordered)

  most-is : damped_most c v f δ ≡ damped_high c v.high f δ
  unfolding damped_most damped_high
  most-is =
      let n = nearest_in v r.v-ordered in
      greater-third (damped_high c (nearest v) f δ) (damped_high c v.low f δ) (damped_high c v.high f δ) (high-mono (nearest v) n.1) (high-mono v.low r.v-ordered)

  -- at either end
  pub furthest-is : {e : EndRule} → EndLaws e → damped_furthest e c v f δ ≡ damped_end e c (e.own v) f δ
  unfolding damped_least damped_most damped_low damped_high
  furthest-is {e} laws = ⊎_elim (λ k. subst One (sym k) least-is) (λ k. subst One (sym k) most-is) laws.is
    where
      One : EndRule → Type 0
      One e = damped_furthest e c v f δ ≡ damped_end e c (e.own v) f δ
