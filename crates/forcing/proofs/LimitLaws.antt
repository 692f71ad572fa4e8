-- The limiting speed is the greatest whole number that document 02 asks for, and how large it can be. Assumes nothing.
use mathlib.Core.Logic.{◌⊎◌, inl, inr}
use mathlib.Core.List.{[], ◌∷◌}
use Prim.Native.Nat.{ℕ, ◌*◌, ◌<◌, zero-le}
use native.Mathlib.Omega.{arith}
use lib.Dec.{ltb→lt, le→leb, leb→le}
use lib.IntN.{ℤ, pos, negsuc, nat_abs, ◌-ℤ◌, ◌*ℤ◌}
use lib.Signed.{◌≤ℤ◌, ◌<ℤ◌, le_z_yes}
use Rattle.ranges.specs.Bounds.{Sized}
use Rattle.ranges.specs.Fraction.{absℤ}
use Rattle.ranges.specs.Root.{IsRoot, whole_root}
use Rattle.ranges.proofs.RootLaws.{root-right}
use Rattle.ranges.proofs.Fits.{sized-mul, sized-abs, sized-literal}
use Rattle.ranges.proofs.LinearSolver.{zomega, says, ◌&◌}
use Rattle.ranges.proofs.IntegerOrder.{le-or-gt, gap, lt-le, nn-mul, nn-sq, abs-nn}
use Rattle.forcing.specs.Limit.{limit_divisor, limit_stress, limiting_speed, LimitingSpeedRight, LimitIn}

-- a factor above zero, as a natural number
above : (κ : ℕ) → pos 0 <ℤ pos κ → 0 < 225000 * κ
above κ h = let p = ltb→lt 0 κ h.lt in omega arith

root : (κ : ℕ) (sum : ℤ) → pos 0 <ℤ pos κ → IsRoot (225000 * κ) (242 * nat_abs sum) (whole_root (225000 * κ) (242 * nat_abs sum))
root κ sum h = root-right.is (225000 * κ) (242 * nat_abs sum) (above κ h)

pub speed-within : (κ sum : ℤ) → pos 0 <ℤ κ → (limit_divisor κ *ℤ (limiting_speed κ sum *ℤ limiting_speed κ sum)) ≤ℤ limit_stress sum
unfolding limiting_speed
speed-within (negsuc κ) sum h = absurd h.lt
speed-within (pos κ) sum h = record { le = le→leb _ _ (root κ sum h).within }

pub speed-nn : (κ sum : ℤ) → pos 0 ≤ℤ limiting_speed κ sum
unfolding limiting_speed
speed-nn κ sum = record { le = le→leb 0 _ zero-le }

speed-greatest : (κ sum b : ℤ) → pos 0 <ℤ κ → (limit_divisor κ *ℤ (b *ℤ b)) ≤ℤ limit_stress sum → b ≤ℤ limiting_speed κ sum
unfolding limiting_speed
speed-greatest (negsuc κ) sum b h k = absurd h.lt
speed-greatest (pos κ) sum (negsuc b) h k = record { le = tt }
speed-greatest (pos κ) sum (pos b) h k = record { le = le→leb _ _ ((root κ sum h).greatest b (leb→le _ _ k.le)) }

pub speed-right : LimitingSpeedRight
speed-right = record { within = speed-within; greatest = speed-greatest }

-- ---- how large it is: 16,634 at the most, of which 1,000,000 is asked

module _ {κ sum : ℤ} (i : LimitIn κ sum) where
  pub stress-in : Sized (pos 622617600000000) (limit_stress sum)
  stress-in = sized-mul (sized-literal 242) (sized-abs i.sum-in)

  friction-from_one : pos 1 ≤ℤ κ
  friction-from_one = let p = i.friction-low in zomega (κ ∷ []) p (search says depth 20) (omega arith)

  square-most : (b : ℤ) → (limit_divisor κ *ℤ (b *ℤ b)) ≤ℤ limit_stress sum → (pos 225000 *ℤ (b *ℤ b)) ≤ℤ pos 622617600000000
  square-most b h =
      let more : pos 0 ≤ℤ ((κ -ℤ pos 1) *ℤ (b *ℤ b)) = nn-mul (gap friction-from_one) (nn-sq b) in
      let most = stress-in.high in
      let s = absℤ sum in
      zomega (κ ∷ b ∷ s ∷ []) (h & more & most) (search says depth 20) (omega arith)

  below : (b : ℤ) → (pos 225000 *ℤ (b *ℤ b)) ≤ℤ pos 622617600000000 → b ≤ℤ pos 1000000
  below b h = go (le-or-gt b (pos 1000000))
    where
      go : (b ≤ℤ pos 1000000) ⊎ (pos 1000000 <ℤ b) → b ≤ℤ pos 1000000
      go (inl l) = l
      go (inr g) = let k = nn-mul (gap (lt-le g)) (gap (lt-le g)) in zomega (b ∷ []) (g & k & h) (search says depth 20) (omega arith)

  pub speed-sized : Sized (pos 1000000) (limiting_speed κ sum)
  speed-sized = record {
    low = let n = speed-nn κ sum in let b = limiting_speed κ sum in zomega (b ∷ []) n (search says depth 20) (omega arith);
    high = below (limiting_speed κ sum) (square-most (limiting_speed κ sum) (speed-within κ sum i.friction-low));
  }

  -- what the code works with
  pub divisor-in : Sized (pos 11250000) (limit_divisor κ)
  divisor-in = sized-mul (sized-literal 225000) i.friction

  pub divisor-pos : pos 0 <ℤ limit_divisor κ
  divisor-pos = let p = i.friction-low in zomega (κ ∷ []) p (search says depth 20) (omega arith)

  pub stress-nn : pos 0 ≤ℤ limit_stress sum
  stress-nn = nn-mul {a = pos 242} (le_z_yes tt) (abs-nn sum)
