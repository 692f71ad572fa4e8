-- Wind stress: k times W², TM-35, equation 9, with k of equation 9a, in units of 10⁻⁹ mph², of a wind w in tenths of a mile per hour, 0 to 2,000. What
-- is in quotation marks is document 02, Q-2, unless it is said.
use Rattle.std.specs.Prelude.{◌≡◌, Bool, cond, eqb, ℤ, pos, nat_abs, ◌+ℤ◌, ◌-ℤ◌, ◌*ℤ◌, ◌≤ℤ◌, ◌<ℤ◌}
use Rattle.std.specs.Int.Signed.{le_z, rem_z}
use Rattle.ranges.specs.Division.{floor_div}
use Rattle.forcing.specs.Coefficient.{Equation9a, coefficient_of, as_fraction}
use Rattle.forcing.specs.declared.stresses.PointStress.{PointStress}
use Rattle.forcing.specs.Quadrant.{sine_of, cosine_of}

-- the limits of a wind
pub record Wind (w : ℤ) : Type 0 where
  pub low : pos 0 ≤ℤ w
  pub high : w ≤ℤ pos 2000

-- a calm has no k, and its stress is 0
abbrev pub calm : ℤ → Bool
calm w = eqb (nat_abs w) 0

-- q: "then k times w², where the division comes out even, and a calm taken apart"
unfoldable pub stress_of : ℤ → ℤ
stress_of w = cond (calm w) (pos 0) (floor_div ((coefficient_of w).numerator *ℤ (w *ℤ w)) (coefficient_of w).square)

-- q as document 01 has it: "11w² up to w = 160, above it 11w² + 25(w - 160)²"
unfoldable pub q : ℤ → ℤ
q w =
    cond (le_z w (pos 160))
    (pos 11 *ℤ (w *ℤ w))
    (pos 11 *ℤ (w *ℤ w) +ℤ pos 25 *ℤ ((w -ℤ pos 160) *ℤ (w -ℤ pos 160)))

-- what is shown for every wind, `stress-right` (`proofs/StressLaws.antt`). From 1 on: k is equation 9a's, and k times w² leaves no rest. From 0 on: the
-- stress is document 01's
pub record StressRight : Type 0 where
  pub printed : (w : ℤ) → Wind w → pos 0 <ℤ w → Equation9a w (as_fraction (coefficient_of w))
  pub rest : (w : ℤ) → Wind w → pos 0 <ℤ w → rem_z ((coefficient_of w).numerator *ℤ (w *ℤ w)) (coefficient_of w).square ≡ pos 0
  pub is : (w : ℤ) → Wind w → stress_of w ≡ q w

-- the cross stress at a point: q·sine of the angle
unfoldable pub cross_of : ℤ → ℤ → ℤ
cross_of w a = stress_of w *ℤ sine_of a

-- the onshore stress at a point: q·cosine of the angle
unfoldable pub onshore_of : ℤ → ℤ → ℤ
onshore_of w a = stress_of w *ℤ cosine_of a

-- both
abbrev pub point_stress : ℤ → ℤ → PointStress
point_stress w a = record { cross = cross_of w a; onshore = onshore_of w a }
