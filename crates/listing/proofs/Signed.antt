-- Laws of a signed number's size and sign. Assumes nothing.
use mathlib.Core.Path.{◌≡◌}
use Prim.Native.Nat.{ℕ, ◌+◌}
use native.Mathlib.Omega.{arith}
use lib.IntN.{ℤ, pos, negsuc, nat_abs}
use lib.ListN.{length}
use borrow.Author.Tests.{le-ltb}
use lib.Signed.{lt_z}
use Rattle.std.specs.Int.{from_bool}
use Rattle.listing.specs.Decimal.{decimal_of, signed_text}

-- a byte more where there is a minus
pub signed-length : (x : ℤ) (size : ℕ) → size ≡ nat_abs x → length (signed_text x) ≡ from_bool (lt_z x (pos 0)) + length (decimal_of size)
unfolding signed_text
signed-length (pos n) size e = rw (e, le-ltb n 0 (omega arith)) (omega arith)
signed-length (negsuc n) size e = rw e (omega arith)
