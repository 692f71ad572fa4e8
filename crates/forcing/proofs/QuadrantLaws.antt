-- Sine and cosine by quadrant: the place of an angle, the size of a sine, and the symmetries of the circle. Assumes nothing.
use mathlib.Core.Path.{◌≡◌, refl, sym, ap, subst, ◌∙◌}
use mathlib.Core.Bool.{Bool, true, false}
use mathlib.Core.List.{[], ◌∷◌}
use mathlib.Core.Logic.{◌⊎◌, inl, inr}
use Prim.Native.Nat.{ℕ, ◌<◌}
use native.Mathlib.Omega.{arith}
use lib.IntN.{ℤ, pos, nat_abs, neg_ℤ, ◌+ℤ◌, ◌-ℤ◌, neg_ℤ-neg_ℤ}
use lib.Signed.{lt_z, ◌≤ℤ◌, ◌<ℤ◌}
use mir.Syntax.{w64}
use mir.Val.{SFits}
use Rattle.ranges.specs.Bounds.{Sized}
use Rattle.ranges.specs.Fraction.{◌/F◌}
use Rattle.ranges.proofs.Branches.{le_yes, le-no, lt-true, lt-false}
use Rattle.ranges.proofs.Fits.{abs-most}
use Rattle.ranges.proofs.IntegerOrder.{le-or-gt}
use Rattle.ranges.proofs.RingSolver.{ring, reify}
use Rattle.ranges.proofs.LinearSolver.{zomega, says, ◌&◌}
use Rattle.forcing.specs.declared.sines.Place.{Place}
use Rattle.forcing.specs.Sine.{sine_entry, scaled_sine}
use Rattle.forcing.specs.Quadrant.{Angle, InTable, place_of, signed, sine_of, quarter_on, cosine_of}
use Rattle.forcing.proofs.SineTable.{entry-rule}

-- ---- the quadrants

-- a place is below the table's length
table-place : (z : ℤ) → InTable z → nat_abs z < 901
table-place z i = let m = abs-most z 900 i.low i.high in omega arith

-- the quadrant of an angle: the definition's tests there, and the place
pub record First (a : ℤ) : Type 0 where
  pub is : place_of a ≡ record { at = nat_abs a; negative = false }
  pub place : InTable a

pub record Second (a : ℤ) : Type 0 where
  pub is : place_of a ≡ record { at = nat_abs (pos 1800 -ℤ a); negative = false }
  pub place : InTable (pos 1800 -ℤ a)

pub record Third (a : ℤ) : Type 0 where
  pub is : place_of a ≡ record { at = nat_abs (a -ℤ pos 1800); negative = true }
  pub place : InTable (a -ℤ pos 1800)

pub record Fourth (a : ℤ) : Type 0 where
  pub is : place_of a ≡ record { at = nat_abs (pos 3600 -ℤ a); negative = true }
  pub place : InTable (pos 3600 -ℤ a)

module _ (a : ℤ) (h : Angle a) where
  pub first : a ≤ℤ pos 900 → First a
  first k = record { is = rw (le_yes k); place = record { low = h.low; high = k } }

  pub second : pos 900 <ℤ a → a ≤ℤ pos 1800 → Second a
  second l k = record {
    is = rw (le-no l) (rw (le_yes k));
    place = record {
      low = zomega (a ∷ []) k (search says depth 20) (omega arith);
      high = zomega (a ∷ []) l (search says depth 20) (omega arith);
    };
  }

  pub third : pos 900 <ℤ a → pos 1800 <ℤ a → a ≤ℤ pos 2700 → Third a
  third j l k = record {
    is = rw (le-no j) (rw (le-no l) (rw (le_yes k)));
    place = record {
      low = zomega (a ∷ []) l (search says depth 20) (omega arith);
      high = zomega (a ∷ []) k (search says depth 20) (omega arith);
    };
  }

  pub fourth : pos 900 <ℤ a → pos 1800 <ℤ a → pos 2700 <ℤ a → Fourth a
  fourth i j l = record {
    is = rw (le-no i) (rw (le-no j) (rw (le-no l)));
    place = record {
      low = let k = h.high in zomega (a ∷ []) k (search says depth 20) (omega arith);
      high = zomega (a ∷ []) l (search says depth 20) (omega arith);
    };
  }

  -- a fact of every quadrant
  pub by-quadrant : {X : Type 0} → (First a → X) → (Second a → X) → (Third a → X) → (Fourth a → X) → X
  by-quadrant {X} f₁ f₂ f₃ f₄ = go (le-or-gt a (pos 900)) (le-or-gt a (pos 1800)) (le-or-gt a (pos 2700))
    where
      go : (a ≤ℤ pos 900) ⊎ (pos 900 <ℤ a) → (a ≤ℤ pos 1800) ⊎ (pos 1800 <ℤ a) → (a ≤ℤ pos 2700) ⊎ (pos 2700 <ℤ a) → X
      go (inl k) y z = f₁ (first k)
      go (inr l) (inl k) z = f₂ (second l k)
      go (inr i) (inr l) (inl k) = f₃ (third i l k)
      go (inr i) (inr j) (inr l) = f₄ (fourth i j l)

-- every angle's place is one of the table
pub place_in : (a : ℤ) → Angle a → (place_of a).at < 901
place_in a h =
    by-quadrant a h (λ q. put q.is q.place) (λ q. put q.is q.place) (λ q. put q.is q.place) (λ q. put q.is q.place)
  where
    put : {z : ℤ} {b : Bool} → place_of a ≡ record { at = nat_abs z; negative = b } → InTable z → (place_of a).at < 901
    put {z} {b} e i = subst (λ (p : Place). p.at < 901) (sym e) (table-place z i)

-- ---- the size of a sine

pub entry-sized : (n : ℕ) → n < 901 → Sized (pos 10000) (sine_entry n)
entry-sized n h =
    let r = entry-rule n h in
    let x = sine_entry n in
    record { low = zomega (x ∷ []) r.low (search says depth 20) (omega arith); high = r.high }

neg-sized : (b x : ℤ) → Sized b x → Sized b (neg_ℤ x)
neg-sized b x s = record {
  low = zomega (b ∷ x ∷ []) s.high (search says depth 20) (omega arith);
  high = zomega (b ∷ x ∷ []) s.low (search says depth 20) (omega arith);
}

signed-sized : (t : Bool) (b x : ℤ) → Sized b x → Sized b (signed t x)
signed-sized true b x s = neg-sized b x s
signed-sized false b x s = s

-- |sine| ≤ 10,000
pub sine-sized : (a : ℤ) → Angle a → Sized (pos 10000) (sine_of a)
unfolding sine_of
sine-sized a h = signed-sized (place_of a).negative (pos 10000) (sine_entry (place_of a).at) (entry-sized (place_of a).at (place_in a h))

-- ---- a quarter turn on

pub before-quarter : (a : ℤ) → Angle a → lt_z a (pos 2700) ≡ true → Angle (a +ℤ pos 900)
before-quarter a h t =
    let l = lt-true a (pos 2700) t in
    record { low = zomega (a ∷ []) h.low (search says depth 20) (omega arith); high = zomega (a ∷ []) l (search says depth 20) (omega arith) }

pub past-quarter : (a : ℤ) → Angle a → lt_z a (pos 2700) ≡ false → Angle (a -ℤ pos 2700)
past-quarter a h t =
    let l = lt-false a (pos 2700) t in
    record { low = zomega (a ∷ []) l (search says depth 20) (omega arith); high = zomega (a ∷ []) h.high (search says depth 20) (omega arith) }

pub quarter-in : (a : ℤ) → Angle a → Angle (quarter_on a)
quarter-in a h = go (lt_z a (pos 2700)) refl
  where
    go : (t : Bool) → lt_z a (pos 2700) ≡ t → Angle (quarter_on a)
    go true e = rw e (before-quarter a h e)
    go false e = rw e (past-quarter a h e)

-- cosine is the sine a quarter turn on, |cosine| ≤ 10,000
pub cosine-is : (a : ℤ) → cosine_of a ≡ sine_of (quarter_on a)
unfolding cosine_of
cosine-is a = refl

pub cosine-sized : (a : ℤ) → Angle a → Sized (pos 10000) (cosine_of a)
cosine-sized a h = rw (cosine-is a) (sine-sized (quarter_on a) (quarter-in a h))

-- an angle is within 64 bits
pub angle-fits : (a : ℤ) → Angle a → SFits w64 a
angle-fits a h = zomega (a ∷ []) (h.low & h.high) (search says depth 20) (omega arith)

-- ---- half a turn on

-- the sine by the table, quadrant by quadrant
signed-at : Place → ℤ
signed-at p = signed p.negative (sine_entry p.at)

at_place : (a : ℤ) (p : Place) → place_of a ≡ p → sine_of a ≡ signed-at p
unfolding sine_of signed-at
at_place a p e = ap (λ (q : Place). signed q.negative (sine_entry q.at)) e

sine-half-zero : sine_of (pos 1800) ≡ neg_ℤ (sine_of (pos 0))
unfolding sine_of sine_entry scaled_sine ◌/F◌
sine-half-zero = refl

module _ (a : ℤ) (h : Angle a) (k : a <ℤ pos 1800) where
  turned : Angle (a +ℤ pos 1800)
  turned = record {
    low = let l = h.low in zomega (a ∷ []) l (search says depth 20) (omega arith);
    high = zomega (a ∷ []) k (search says depth 20) (omega arith);
  }

  -- the sine of a half turn more is the negative
  pub sine-half : sine_of (a +ℤ pos 1800) ≡ neg_ℤ (sine_of a)
  unfolding signed-at
  sine-half = go (le-or-gt a (pos 0)) (le-or-gt a (pos 900))
    where
      go : (a ≤ℤ pos 0) ⊎ (pos 0 <ℤ a) → (a ≤ℤ pos 900) ⊎ (pos 900 <ℤ a) → sine_of (a +ℤ pos 1800) ≡ neg_ℤ (sine_of a)
      go (inl z) y =
          let low = h.low in
          let e : pos 0 ≡ a = zomega (a ∷ []) (z & low) (search says depth 20) (omega arith) in
          subst (λ (x : ℤ). sine_of (x +ℤ pos 1800) ≡ neg_ℤ (sine_of x)) e sine-half-zero
      go (inr l) (inl m) =
          let q = third (a +ℤ pos 1800) turned
          (zomega (a ∷ []) l (search says depth 20) (omega arith))
          (zomega (a ∷ []) l (search says depth 20) (omega arith))
          (zomega (a ∷ []) m (search says depth 20) (omega arith)) in
          let e : a +ℤ pos 1800 -ℤ pos 1800 ≡ a = ring (a ∷ []) (search reify depth 20) tt in
          at_place (a +ℤ pos 1800) _ q.is ∙ ap (λ (x : ℤ). neg_ℤ (sine_entry (nat_abs x))) e ∙ ap neg_ℤ (sym (at_place a _ (first a h m).is))
      go (inr l) (inr m) =
          let q = fourth (a +ℤ pos 1800) turned
          (zomega (a ∷ []) m (search says depth 20) (omega arith))
          (zomega (a ∷ []) m (search says depth 20) (omega arith))
          (zomega (a ∷ []) m (search says depth 20) (omega arith)) in
          let e : pos 3600 -ℤ (a +ℤ pos 1800) ≡ pos 1800 -ℤ a = ring (a ∷ []) (search reify depth 20) tt in
          let n : a ≤ℤ pos 1800 = zomega (a ∷ []) k (search says depth 20) (omega arith) in
          at_place (a +ℤ pos 1800) _ q.is ∙ ap (λ (x : ℤ). neg_ℤ (sine_entry (nat_abs x))) e ∙ ap neg_ℤ (sym (at_place a _ (second a h m n).is))

-- and of a half turn less
pub sine-half-back : (a : ℤ) → Angle a → pos 1800 ≤ℤ a → sine_of (a -ℤ pos 1800) ≡ neg_ℤ (sine_of a)
sine-half-back a h k =
    let b = a -ℤ pos 1800 in
    let high = h.high in
    let g : Angle b = record {
      low = zomega (a ∷ []) k (search says depth 20) (omega arith);
      high = zomega (a ∷ []) high (search says depth 20) (omega arith);
    } in
    let l : b <ℤ pos 1800 = zomega (a ∷ []) high (search says depth 20) (omega arith) in
    let e : b +ℤ pos 1800 ≡ a = ring (a ∷ []) (search reify depth 20) tt in
    sym (neg_ℤ-neg_ℤ (sine_of b)) ∙ ap neg_ℤ (sym (sine-half b g l) ∙ ap sine_of e)
