-- The force as a range: the exact force lies within it, each end is less than one unit from it, and how large it is. Assumes nothing.
use mathlib.Core.Bool.{Bool, true, false}
use mathlib.Core.List.{[], ◌∷◌}
use native.Mathlib.Omega.{arith}
use lib.IntN.{ℤ, pos, negsuc, ◌+ℤ◌, ◌-ℤ◌, ◌*ℤ◌}
use lib.Signed.{◌<ℤ◌, le_z_yes, lt_z_yes}
use Rattle.ranges.specs.Bounds.{Sized}
use Rattle.ranges.specs.Division.{floor_div, ceil_div}
use Rattle.ranges.specs.Fraction.{whole, ◌<F◌}
use Rattle.ranges.specs.Outward.{Outward}
use Rattle.ranges.specs.Range.{Within, Ordered}
use Rattle.ranges.proofs.DivisionLaws.{floor-mono, ceil-mono}
use Rattle.ranges.proofs.Fits.{sized-mul, sized-add, sized-literal}
use Rattle.ranges.proofs.FractionLaws.{floor-below, floor-near, ceil-above, ceil-near, whole-within, within-ordered}
use Rattle.ranges.proofs.IntegerOrder.{le_trans}
use Rattle.ranges.proofs.LinearSolver.{zomega, says}
use Rattle.forcing.specs.Force.{step_seconds, ForceBounds, force_top, force_bottom, force_fraction, force_of}
use Rattle.forcing.proofs.StressLaws.{sized-wider}

-- ---- the numbers on the way

module _ (s o n : ℤ) (h : ForceBounds s o n) where
  seconds-sized : Sized step_seconds s
  seconds-sized = let l = h.seconds-low in record { low = zomega (s ∷ []) l (search says depth 20) (omega arith); high = h.seconds-high }

  pub four-sized : Sized (pos 5145600000000) (o +ℤ n)
  four-sized = sized-add h.old-in h.new_in

  pub product-sized : Sized (pos 18524160000000000) (s *ℤ (o +ℤ n))
  product-sized = sized-mul seconds-sized four-sized

  pub top-sized : Sized (pos 2241423360000000000) (force_top s o n)
  top-sized = sized-mul product-sized (sized-literal 121)

-- ---- rounded outward

bottom-pos : pos 0 <ℤ force_bottom
bottom-pos = lt_z_yes tt

-- the range is the outward rounding of the exact force: of one value, so both ends are near it
pub force-outward : (first : Bool) (s o n : ℤ) → Outward (λ (u : Unit {0}). force_fraction first s o n) (force_of first s o n)
unfolding force_fraction force_of
force-outward true s o n = record {
  within = λ u. whole-within (pos 0) (le_z_yes tt) (le_z_yes tt);
  least = tt;
  least-near = record { lt = lt_z_yes tt };
  greatest = tt;
  greatest-near = record { lt = lt_z_yes tt };
}
force-outward false s o n =
    let top = force_top s o n in
    record {
      within = λ u. record { above = floor-below top force_bottom bottom-pos; below = ceil-above top force_bottom bottom-pos };
      least = tt;
      least-near = floor-near top force_bottom bottom-pos;
      greatest = tt;
      greatest-near = ceil-near top force_bottom bottom-pos;
    }

module _ (first : Bool) (s o n : ℤ) where
  pub force-within : Within (force_of first s o n) (force_fraction first s o n)
  force-within = (force-outward first s o n).within tt

  pub force-low-near : force_fraction first s o n <F whole ((force_of first s o n).low +ℤ pos 1)
  force-low-near = (force-outward first s o n).least-near

  pub force-high-near : whole ((force_of first s o n).high -ℤ pos 1) <F force_fraction first s o n
  force-high-near = (force-outward first s o n).greatest-near

  pub force-ordered : Ordered (force_of first s o n)
  force-ordered = within-ordered force-within

-- ---- the size of its ends

floor-sized : (z : ℤ) → Sized (pos 2241423360000000000) z → Sized (pos 99619) (floor_div z force_bottom)
floor-sized z s = record {
  low = floor-mono (negsuc 2241423359999999999) z force_bottom bottom-pos s.low;
  high = le_trans (floor-mono z (pos 2241423360000000000) force_bottom bottom-pos s.high) (le_z_yes tt);
}

ceil-sized : (z : ℤ) → Sized (pos 2241423360000000000) z → Sized (pos 99619) (ceil_div z force_bottom)
ceil-sized z s = record {
  low = le_trans {a = negsuc 99618} (le_z_yes tt) (ceil-mono (negsuc 2241423359999999999) z force_bottom bottom-pos s.low);
  high = ceil-mono z (pos 2241423360000000000) force_bottom bottom-pos s.high;
}

pub force-sized : (first : Bool) (s o n : ℤ) → ForceBounds s o n → Sized (pos 99619) (force_of first s o n).low × Sized (pos 99619) (force_of first s o n).high
unfolding force_of
force-sized true s o n h = (record { low = le_z_yes tt; high = le_z_yes tt }, record { low = le_z_yes tt; high = le_z_yes tt })
force-sized false s o n h = (floor-sized (force_top s o n) (top-sized s o n h), ceil-sized (force_top s o n) (top-sized s o n h))

-- within the limits of `ranges`
pub force-bounded : (first : Bool) (s o n : ℤ) → ForceBounds s o n → Sized (pos 1000000) (force_of first s o n).low × Sized (pos 1000000) (force_of first s o n).high
force-bounded first s o n h = let k = force-sized first s o n h in (sized-wider (le_z_yes tt) k.0, sized-wider (le_z_yes tt) k.1)
