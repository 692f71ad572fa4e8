-- `whole_root` meets its contract. Assumes nothing.
use mathlib.Core.Path.{◌≡◌, ap, ◌∙◌}
use mathlib.Core.List.{[], ◌∷◌}
use Prim.Native.Nat.{ℕ, ◌+◌, ◌*◌, ◌/◌, ◌<◌, ◌≤◌, zero-le}
use native.Mathlib.Omega.{arith}
use lib.Dec.{le→leb}
use lib.IntN.{ℤ, pos, nat_abs, ◌+ℤ◌, ◌*ℤ◌}
use lib.Signed.{◌≤ℤ◌, le_z_yes}
use mir.Facts.{to_z-of_z}
use mir.Syntax.{w64}
use mir.Val.{SFits}
use Rattle.ranges.specs.Bounds.{Sized, RootBounds}
use Rattle.ranges.specs.Division.{floor_div}
use Rattle.ranges.specs.Root.{whole_root}
use Rattle.ranges.proofs.Branches.{lt-true, le-true}
use Rattle.ranges.proofs.Fits.{held, sized-fits, sized-mul}
use Rattle.ranges.proofs.LinearSolver.{zomega, says}
use Rattle.ranges.proofs.DivisionLaws.{floor-nat}
use Rattle.ranges.proofs.RootLaws.{is-square-root, is-root}
use Rattle.ranges.proofs.root.whole_root.Goals as goal

-- ---- the trial. Each number on the way fits

module _ {k n b : ℤ} (i : RootBounds k n) (low : pos 0 ≤ℤ b) (high : b ≤ℤ pos 32767) where
  b-in : Sized (pos 32768) b
  b-in = record { low = zomega (b ∷ []) low (search says depth 20) (omega arith); high = zomega (b ∷ []) high (search says depth 20) (omega arith) }

  next-in : Sized (pos 32768) (b +ℤ pos 1)
  next-in = record { low = zomega (b ∷ []) low (search says depth 20) (omega arith); high = zomega (b ∷ []) high (search says depth 20) (omega arith) }

  k-in : Sized (pos 4294967296) k
  k-in = record { low = let l = i.k-low in zomega (k ∷ []) l (search says depth 20) (omega arith); high = i.k-high }

  b-fits : SFits w64 b
  b-fits = sized-fits (le_z_yes tt) b-in

  square-fits : SFits w64 (b *ℤ b)
  square-fits = sized-fits {a = pos 1073741824} (le_z_yes tt) (sized-mul b-in b-in)

  product-fits : SFits w64 (k *ℤ (b *ℤ b))
  product-fits = sized-fits {a = pos 4611686018427387904} (le_z_yes tt) (sized-mul k-in (sized-mul b-in b-in))

  next-fits : SFits w64 (b +ℤ pos 1)
  next-fits = sized-fits (le_z_yes tt) next-in

  next-square : SFits w64 ((b +ℤ pos 1) *ℤ (b +ℤ pos 1))
  next-square = sized-fits {a = pos 1073741824} (le_z_yes tt) (sized-mul next-in next-in)

  next-product : SFits w64 (k *ℤ ((b +ℤ pos 1) *ℤ (b +ℤ pos 1)))
  next-product = sized-fits {a = pos 4611686018427387904} (le_z_yes tt) (sized-mul k-in (sized-mul next-in next-in))

pub overflow_mul-k : goal.overflow_mul-k
overflow_mul-k c =
    let i = c.requires in
    let b = c.proposed-b.ensures in
    simp (to_z-of_z, c.ranges.k, b-fits i b.low b.high, square-fits i b.low b.high) (product-fits i b.low b.high)

pub overflow_mul-next : goal.overflow_mul-next
overflow_mul-next c =
    let i = c.requires in
    let b = c.proposed-b.ensures in
    simp (to_z-of_z, b-fits i b.low b.high, next-fits i b.low b.high) (next-square i b.low b.high)

pub overflow_mul-k-then-k-b : goal.overflow_mul-k-then-k-b
overflow_mul-k-then-k-b c =
    let i = c.requires in
    let b = c.proposed-b.ensures in
    simp (to_z-of_z, c.ranges.k, b-fits i b.low b.high, next-fits i b.low b.high, next-square i b.low b.high) (next-product i b.low b.high)

pub returns-then-n-k : goal.returns-then-n-k
returns-then-n-k c =
    let i = c.requires in
    let b = c.proposed-b.ensures in
    let f = b-fits i b.low b.high in
    let below = le-true _ _ (simp (to_z-of_z, c.ranges.k, c.ranges.n, f, square-fits i b.low b.high, product-fits i b.low b.high) at c.if-k-b.true) in
    let above = lt-true _ _ (simp (to_z-of_z, c.ranges.k, c.ranges.n, f, next-fits i b.low b.high, next-square i b.low b.high, next-product i b.low b.high) at c.if-n-k.true) in
    to_z-of_z f ∙ is-root c.args.k c.args.n c.proposed-b.result i.k-low i.n-low b.low below above

-- ---- where the trial fails: the quotient, as the machine reads it
quotient : {k n d : ℤ} → SFits w64 k → SFits w64 n → SFits w64 d → pos 0 ≤ℤ n → d ≡ floor_div (held n) (held k) → held d ≡ pos (nat_abs n / nat_abs k)
quotient {k} {n} hk hn hd nn e = to_z-of_z hd ∙ (simp (to_z-of_z, hn, hk) at e) ∙ floor-nat n k nn

pub isqrt-requires : goal.isqrt-requires
isqrt-requires c =
    rw (quotient c.ranges.k c.ranges.n (record { sfits = c.floor_div.type_inv }) c.requires.n-low c.floor_div.ensures) (record { le = le→leb 0 _ zero-le })

-- the greatest number whose square is not above n / k, rounded down
root : (k n d : ℤ) (r : ℕ) → held d ≡ pos (nat_abs n / nat_abs k) → r * r ≤ nat_abs (held d) → nat_abs (held d) < (r + 1) * (r + 1) → r ≡ whole_root (nat_abs k) (nat_abs n)
unfolding whole_root
root k n d r q below next = is-square-root (record { within = rw q at below; next = rw q at next })

pub returns : goal.returns
returns c =
    let i = c.isqrt.ensures in
    let q = quotient c.ranges.k c.ranges.n (record { sfits = c.floor_div.type_inv }) c.requires.n-low c.floor_div.ensures in
    to_z-of_z {w = w64} (record { sfits = c.isqrt.type_inv }) ∙ i.1 ∙ ap pos (root c.args.k c.args.n c.floor_div.result i.0 q i.2 i.3)
