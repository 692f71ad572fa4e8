-- A range as two numbers, and two numbers as a range; a coefficient as two numbers.
use Rattle.std.specs.Prelude.{List, [], ◌∷◌, ℤ}
use Rattle.ranges.specs.declared.Range.{Range}
use Rattle.forcing.specs.declared.winds.StressCoefficient.{StressCoefficient}

abbrev pub ends_of : Range → List ℤ
ends_of r = r.low ∷ r.high ∷ []

abbrev pub range : ℤ → ℤ → Range
range low high = record { low = low; high = high }

abbrev pub parts_of : StressCoefficient → List ℤ
parts_of k = k.numerator ∷ k.square ∷ []
