-- The wind stress coefficient k. TM-35, equation 9a (page 14), of a wind W:
--
--     k = K₁                      for W ≤ W_c
--     k = K₁ + K₂(1 - W_c/W)²     for W ≥ W_c
--
-- "where the constants K₁ and K₂ are 1.1·10⁻⁶ and 2.5·10⁻⁶, respectively, and W_c is a critical wind speed taken as 14 knots (about 16 miles per
-- hour)". Here k is in units of 10⁻⁷ and a wind w in tenths of a mile per hour.
use Rattle.std.specs.Prelude.{cond, ℤ, pos, ◌+ℤ◌, ◌-ℤ◌, ◌*ℤ◌, ◌≤ℤ◌}
use Rattle.std.specs.Int.Signed.{le_z}
use Rattle.ranges.specs.Fraction.{Frac, ◌≈F◌, whole, ◌+F◌, ◌*F◌, ◌/F◌}
use Rattle.ranges.specs.Series.{◌^F◌, ◌-F◌}
use Rattle.forcing.specs.declared.winds.StressCoefficient.{StressCoefficient}

abbrev pub K₁ : ℤ
K₁ = pos 11

abbrev pub K₂ : ℤ
K₂ = pos 25

abbrev pub Wc : ℤ
Wc = pos 160

-- equation 9a as it is printed, of any fraction k: at W_c itself both lines hold
pub record Equation9a (w : ℤ) (k : Frac) : Type 0 where
  pub below : w ≤ℤ Wc → k ≈F whole K₁
  pub above : Wc ≤ℤ w → k ≈F (whole K₁ +F whole K₂ *F (whole (pos 1) -F whole Wc /F whole w) ^F 2)

-- document 02: "the coefficient k as a whole number over w²". K₂(1 - W_c/w)² is K₂(w - W_c)² over w²
abbrev pub coefficient_of : ℤ → StressCoefficient
coefficient_of w = record {
  numerator = cond (le_z w Wc) (K₁ *ℤ (w *ℤ w)) (K₁ *ℤ (w *ℤ w) +ℤ K₂ *ℤ ((w -ℤ Wc) *ℤ (w -ℤ Wc)));
  square = w *ℤ w;
}

-- k itself
abbrev pub as_fraction : StressCoefficient → Frac
as_fraction k = whole k.numerator /F whole k.square
