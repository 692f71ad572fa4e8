-- Powers, factorials and sums of fractions, exact: what the tables of documents 01 and 02 are defined by.
use Rattle.std.specs.Prelude.{ℕ, zero, suc, ◌*◌, pos, negsuc}
use Rattle.ranges.specs.Fraction.{Frac, whole, ◌+F◌, ◌*F◌, ◌/F◌}

-- k!
abbrev pub factorial : ℕ → ℕ
factorial zero = 1
factorial (suc k) = suc k * factorial k

-- x to the power k
infixr 58 ◌^F◌
abbrev pub ◌^F◌ : Frac → ℕ → Frac
x ^F zero = whole (pos 1)
x ^F suc k = x *F (x ^F k)

infixl 56 ◌-F◌
abbrev pub ◌-F◌ : Frac → Frac → Frac
x -F y = x +F whole (negsuc 0) *F y

-- aᵏ/k!
abbrev pub term : Frac → ℕ → Frac
term a k = a ^F k /F whole (pos (factorial k))

-- the sum of f k for k from 0 to n
abbrev pub sum_to : (ℕ → Frac) → ℕ → Frac
sum_to f zero = f 0
sum_to f (suc n) = sum_to f n +F f (suc n)
