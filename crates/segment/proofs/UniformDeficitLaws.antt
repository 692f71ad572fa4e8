-- A deficit that grows alike at every point moves water depth and shore height alike (`specs/UniformDeficit.antt`). Assumes nothing.
use mathlib.Core.Path.{◌≡◌, refl, sym, ap₂}
use mathlib.Core.Bool.{Bool, true, false, cond}
use mathlib.Core.List.{[], ◌∷◌}
use native.Mathlib.Omega.{arith}
use lib.IntN.{ℤ, pos, ◌+ℤ◌, ◌*ℤ◌}
use lib.Signed.{lt_z}
use Rattle.ranges.specs.Division.{floor_div, ceil_div}
use Rattle.ranges.specs.Fraction.{◌/F◌}
use Rattle.ranges.specs.Quotient.{quotient_low, quotient_high}
use Rattle.ranges.proofs.RingSolver.{ring, reify}
use Rattle.ranges.proofs.LinearSolver.{zomega, says, ◌&◌}
use Rattle.ranges.proofs.DivisionLaws.{floor-is, floor-only, ceil-is, ceil-only}
use Rattle.segment.specs.declared.Site.{Site}
use Rattle.segment.specs.declared.Weather.{Weather}
use Rattle.segment.specs.Segment.{depth_base, depth_of, shore_base}
use Rattle.segment.specs.ExactSegment.{exact_depth}
use Rattle.segment.specs.UniformDeficit.{larger_deficits, UniformDeficit}
use Rattle.segment.proofs.SegmentRanges.{hundred, hundred-positive}

-- ---- a numerator larger by a multiple of its divisor: over 100, by 57 times 100 for each k

either : (t : Bool) → cond t (pos 100) (pos 100) ≡ pos 100
either true = refl
either false = refl

module _ (n m k : ℤ) (e : m ≡ n +ℤ pos 5700 *ℤ k) where
  floor-moved : floor_div m (pos 100) ≡ floor_div n (pos 100) +ℤ pos 57 *ℤ k
  floor-moved =
      let q = floor_div n (pos 100) in
      let f = floor-is n (pos 100) hundred-positive.low in
      sym (floor-only m (pos 100) (q +ℤ pos 57 *ℤ k) hundred-positive.low (record {
        low = zomega (n ∷ m ∷ k ∷ q ∷ []) (e & f.low) (search says depth 20) (omega arith);
        high = zomega (n ∷ m ∷ k ∷ q ∷ []) (e & f.high) (search says depth 20) (omega arith);
      }))

  ceil-moved : ceil_div m (pos 100) ≡ ceil_div n (pos 100) +ℤ pos 57 *ℤ k
  ceil-moved =
      let q = ceil_div n (pos 100) in
      let f = ceil-is n (pos 100) hundred-positive.low in
      sym (ceil-only m (pos 100) (q +ℤ pos 57 *ℤ k) hundred-positive.low (record {
        low = zomega (n ∷ m ∷ k ∷ q ∷ []) (e & f.low) (search says depth 20) (omega arith);
        high = zomega (n ∷ m ∷ k ∷ q ∷ []) (e & f.high) (search says depth 20) (omega arith);
      }))

  low-moved : quotient_low m hundred ≡ quotient_low n hundred +ℤ pos 57 *ℤ k
  unfolding quotient_low
  low-moved = rw (either (lt_z m (pos 0)), either (lt_z n (pos 0))) floor-moved

  high-moved : quotient_high m hundred ≡ quotient_high n hundred +ℤ pos 57 *ℤ k
  unfolding quotient_high
  high-moved = rw (either (lt_z m (pos 0)), either (lt_z n (pos 0))) ceil-moved

-- ---- the law

end_moved : (a : Site) (w : Weather) (z k : ℤ) → depth_base a (larger_deficits (pos 50 *ℤ k) w) +ℤ z ≡ (depth_base a w +ℤ z) +ℤ pos 5700 *ℤ k
end_moved a w z k = let depths = a.depths in let level = w.level in let deficits = w.deficits in ring (depths ∷ level ∷ deficits ∷ z ∷ k ∷ []) (search reify depth 20) tt

pub uniform-deficit : UniformDeficit
unfolding shore_base exact_depth depth_of ◌/F◌
uniform-deficit = record {
  depth = λ a w e. let depths = a.depths in let level = w.level in let deficits = w.deficits in ring (depths ∷ level ∷ deficits ∷ e ∷ []) (search reify depth 20) tt;
  height = λ level deficit e. ring (level ∷ deficit ∷ e ∷ []) (search reify depth 20) tt;
  alike = λ a w level deficit e s. record {
    same =
        let depths = a.depths in
        let l = w.level in
        let deficits = w.deficits in
        let x = s.num in
        let y = s.den in
        ring (depths ∷ l ∷ deficits ∷ level ∷ deficit ∷ e ∷ x ∷ y ∷ []) (search reify depth 20) tt;
  };
  range = λ a w s k.
      ap₂ (λ (x y : ℤ). record { low = x; high = y })
      (low-moved (depth_base a w +ℤ s.low) (depth_base a (larger_deficits (pos 50 *ℤ k) w) +ℤ s.low) k (end_moved a w s.low k))
      (high-moved (depth_base a w +ℤ s.high) (depth_base a (larger_deficits (pos 50 *ℤ k) w) +ℤ s.high) k (end_moved a w s.high k));
}
