-- What a limit lets pass, and that what lies within passes. Assumes nothing.
use mathlib.Core.Path.{◌≡◌, refl, sym, ◌∙◌}
use mathlib.Core.Bool.{Bool, true, false, ◌&&◌, not}
use mathlib.Core.List.{[], ◌∷◌}
use native.Mathlib.Omega.{arith}
use borrow.Author.Tests.{not-true, leb-true, le-leb, lt-leb}
use Prim.Native.Nat.{ℕ, ◌≤◌, ◌<◌}
use lib.Dec.{leb}
use lib.IntN.{ℤ, pos, neg_ℤ}
use lib.Signed.{lt_z, le_z, ◌≤ℤ◌, ◌<ℤ◌}
use Rattle.ranges.specs.declared.Range.{Range}
use Rattle.ranges.specs.Bounds.{Sized}
use Rattle.ranges.specs.Range.{Positive}
use Rattle.ranges.proofs.Branches.{lt-true, lt-false, le-true, le-false}
use Rattle.ranges.proofs.LinearSolver.{zomega, says, ◌&◌}
use Rattle.records.specs.Limits.{inside, range_inside, most_points, count_ok, build_has, water_ok}

-- ---- flags

pub unequal : {A : Type 0} → true ≡ false → A
unequal e = absurd (no_way e)
  where
    no_way : true ≡ false → ⊥
    no_way e = let z : ◌≡◌ {A = ℕ} 0 1 = cc in omega arith

pub and_left : (a b : Bool) → (a && b) ≡ true → a ≡ true
and_left true b e = refl
and_left false b e = e

pub and_right : (a b : Bool) → (a && b) ≡ true → b ≡ true
and_right true b e = e
and_right false b e = unequal (sym e)

pub and_both : (a b : Bool) → a ≡ true → b ≡ true → (a && b) ≡ true
and_both a b p q = rw (p, q)

never_both : {a b : ℤ} → b <ℤ a → a ≤ℤ b → ⊥
never_both {a} {b} h k = zomega (a ∷ b ∷ []) (h & k) (search says depth 20) (omega arith)

-- "low not above high" by the test "high below low"
pub le_not_lt : (a b : ℤ) → le_z a b ≡ not (lt_z b a)
le_not_lt a b = go (lt_z b a) refl (le_z a b) refl
  where
    go : (t : Bool) → lt_z b a ≡ t → (u : Bool) → le_z a b ≡ u → u ≡ not t
    go true e true f = absurd (never_both (lt-true b a e) (le-true a b f))
    go true e false f = refl
    go false e true f = refl
    go false e false f = absurd (never_both (le-false a b f) (lt-false b a e))

pub le-flag : (a b : ℤ) → a ≤ℤ b → le_z a b ≡ true
le-flag a b h = go (le_z a b) refl
  where
    go : (u : Bool) → le_z a b ≡ u → u ≡ true
    go true e = refl
    go false e = absurd (never_both (le-false a b e) h)

-- ---- a count of points that is allowed: 2 at least and the most at most

pub counts-in : (n : ℕ) → count_ok n ≡ true → (2 ≤ n) × (n ≤ most_points)
unfolding count_ok
counts-in n e = (leb-true 2 n (and_left (leb 2 n) (leb n most_points) e), leb-true n most_points (and_right (leb 2 n) (leb n most_points) e))

pub counts-pass : (n : ℕ) → 2 ≤ n → n ≤ most_points → count_ok n ≡ true
unfolding count_ok
counts-pass n h k = rw (le-leb 2 n h, le-leb n most_points k)

-- and that a build has

pub build-in : (most n : ℕ) → build_has most n ≡ true → n ≤ most
unfolding build_has
build-in most n e = leb-true n most e

pub build-passes : (most n : ℕ) → n ≤ most → build_has most n ≡ true
unfolding build_has
build-passes most n h = le-leb n most h

pub build-refuses : (most n : ℕ) → most < n → build_has most n ≡ false
unfolding build_has
build-refuses most n h = lt-leb n most h

-- ---- a limit

-- low ≤ x ≤ high, as two facts
pub record Between (low high x : ℤ) : Type 0 where
  pub from : low ≤ℤ x
  pub to : x ≤ℤ high

pub between : (low high x : ℤ) → inside low high x ≡ true → Between low high x
unfolding inside
between low high x e = record {
  from = lt-false x low (not-true _ (and_left _ (le_z x high) e));
  to = le-true x high (and_right (not (lt_z x low)) (le_z x high) e);
}

pub within : (low high x : ℤ) → Between low high x → inside low high x ≡ true
unfolding inside
within low high x h = and_both (not (lt_z x low)) (le_z x high) (sym (le_not_lt low x) ∙ le-flag low x h.from) (le-flag x high h.to)

-- a limit that is the same both ways
pub sized : {b x : ℤ} → Between (neg_ℤ b) b x → Sized b x
sized h = record { low = h.from; high = h.to }

-- 0 ≤ x ≤ b
pub nn-sized : {b x : ℤ} → Between (pos 0) b x → Sized b x
nn-sized {b} {x} h = record { low = zomega (b ∷ x ∷ []) (h.from & h.to) (search says depth 20) (omega arith); high = h.to }

-- ---- both ends of a range

pub record RangeBetween (low high : ℤ) (r : Range) : Type 0 where
  pub low-in : Between low high r.low
  pub high-in : Between low high r.high

pub range-between : (low high : ℤ) (r : Range) → range_inside low high r ≡ true → RangeBetween low high r
unfolding range_inside
range-between low high r e = record {
  low-in = between low high r.low (and_left (inside low high r.low) (inside low high r.high) e);
  high-in = between low high r.high (and_right (inside low high r.low) (inside low high r.high) e);
}

pub range-within : (low high : ℤ) (r : Range) → RangeBetween low high r → range_inside low high r ≡ true
unfolding range_inside
range-within low high r h = and_both (inside low high r.low) (inside low high r.high) (within low high r.low h.low-in) (within low high r.high h.high-in)

-- ---- both ends of a water depth

module _ (r : Range) (e : water_ok r ≡ true) where
  ends : RangeBetween (pos 100) (pos 100000) r
  ends = range-between (pos 100) (pos 100000) r e

  pub water-low : pos 100 ≤ℤ r.low
  water-low = ends.low-in.from

  pub water-high : pos 100 ≤ℤ r.high
  water-high = ends.high-in.from

  pub water-positive : Positive r
  water-positive = record {
    low = let h = water-low in zomega (r.low ∷ []) h (search says depth 20) (omega arith);
    high = let h = water-high in zomega (r.high ∷ []) h (search says depth 20) (omega arith);
  }

  pub water-low-in : Sized (pos 100000) r.low
  water-low-in = record { low = let h = water-low in zomega (r.low ∷ []) h (search says depth 20) (omega arith); high = ends.low-in.to }

  pub water-high-in : Sized (pos 100000) r.high
  water-high-in = record { low = let h = water-high in zomega (r.high ∷ []) h (search says depth 20) (omega arith); high = ends.high-in.to }
