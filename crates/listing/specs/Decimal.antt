-- A whole decimal number as bytes: an optional minus, then digits without a leading zero.
-- A byte is its number: 48 to 57 are the digits `0` to `9`, and 45 is the minus. Assumes nothing.
use Rattle.std.specs.Prelude.{ℕ, zero, suc, ◌+◌, ◌/◌, ◌%◌, Bool, true, false, List, [], ◌∷◌, ◌++◌, ltb, ℤ, pos, negsuc}

-- the byte of a digit from 0 to 9
abbrev pub digit : ℕ → ℕ
digit d = 48 + d

-- n is below ten and one digit; or its digits are those of a tenth of it, as `front` gives them, and one more
abbrev pub last_digit : Bool → (ℕ → List ℕ) → ℕ → List ℕ
last_digit true front n = digit n ∷ []
last_digit false front n = front (n / 10) ++ (digit (n % 10) ∷ [])

-- the digits of n, the most significant first, where n has at most k of them
unfoldable pub digits_of : ℕ → ℕ → List ℕ
digits_of zero n = []
digits_of (suc k) n = last_digit (ltb n 10) (digits_of k) n

-- the decimal number n, which has at most n + 1 digits
unfoldable pub decimal_of : ℕ → List ℕ
decimal_of n = digits_of (n + 1) n

-- the same with a minus in front where it is below zero
unfoldable pub signed_text : ℤ → List ℕ
signed_text (pos n) = decimal_of n
signed_text (negsuc n) = 45 ∷ decimal_of (suc n)
