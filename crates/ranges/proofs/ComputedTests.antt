-- A test that antt computes at every number below a count, and what it tells of each. Assumes nothing.
use mathlib.Core.Path.{subst}
use mathlib.Core.Bool.{Bool, true, false, not, ◌&&◌}
use Prim.Native.Nat.{ℕ, zero, suc, ◌<◌, ◌≤◌}
use native.Mathlib.Nat.{not-suc-le-zero}
use native.Mathlib.Omega.{arith}
use lib.Dec.{T, ltb, ltb→lt, nltb→le}

pub both : (a b : Bool) → T (a && b) → T a × T b
both true b t = (tt, t)
both false b t = absurd t

pub and : (a b : Bool) → T a → T b → T (a && b)
and true b s t = t
and false b s t = s

-- the test f passes at every number below k
abbrev pub below : (ℕ → Bool) → ℕ → Bool
below f zero = true
below f (suc k) = f k && below f k

-- so it passes at each
pub below_at : (f : ℕ → Bool) (k : ℕ) → T (below f k) → (n : ℕ) → n < k → T (f n)
below_at f zero t n h = absurd (not-suc-le-zero h)
below_at f (suc k) t n h =
    let parts = both (f k) (below f k) t in
    go parts.0 (λ l. below_at f k parts.1 n l) (ltb n k) (ltb→lt n k) (nltb→le n k)
  where
    go : T (f k) → (n < k → T (f n)) → (s : Bool) → (T s → n < k) → (T (not s) → k ≤ n) → T (f n)
    go last earlier true l g = earlier (l tt)
    go last earlier false l g = let k≤n = g tt in subst (λ (m : ℕ). T (f m)) (omega arith) last
