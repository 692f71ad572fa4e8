-- The whole root: the greatest b with k·b² not above n. Document 02: "r is the whole root, rounded down", where k is 1.
use Rattle.std.specs.Prelude.{◌≡◌, cond, ℕ, zero, suc, ◌+◌, ◌*◌, ◌/◌, ◌<◌, ◌≤◌, leb, ℤ, pos, nat_abs}

pub record IsRoot (k n b : ℕ) : Type 0 where
  pub within : k * (b * b) ≤ n
  pub greatest : (c : ℕ) → k * (c * c) ≤ n → c ≤ b

-- b, or one more where the square of that is not above q
abbrev pub or_more : ℕ → ℕ → ℕ
or_more q b = cond (leb ((b + 1) * (b + 1)) q) (b + 1) b

-- the root of q is twice the root of a quarter of q, or one more. As many quarters are taken as the root has bits, so that `fuel` = q is enough
unfoldable pub root_in : ℕ → ℕ → ℕ
root_in zero q = 0
root_in (suc fuel) zero = 0
root_in (suc fuel) (suc q) = or_more (suc q) (2 * root_in fuel (suc q / 4))

-- the greatest b with b² not above q
unfoldable pub square_root : ℕ → ℕ
square_root q = root_in q q

-- the greatest b with k·b² not above n: its square is not above n / k
unfoldable pub whole_root : ℕ → ℕ → ℕ
whole_root k n = square_root (n / k)

-- that it is that number, and that no other is. `proofs/RootLaws.antt` shows it: `root-right`
pub record RootRight : Type 0 where
  pub is : (k n : ℕ) → 0 < k → IsRoot k n (whole_root k n)
  pub only : (k n b : ℕ) → 0 < k → IsRoot k n b → b ≡ whole_root k n

-- the same of signed numbers, for k above zero and n not below it
abbrev pub root_of : ℤ → ℤ → ℤ
root_of k n = pos (whole_root (nat_abs k) (nat_abs n))
