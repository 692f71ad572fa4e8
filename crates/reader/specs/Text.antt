-- Document 01, "Files": a value is an optional minus and one to nine digits, without leading zero or minus nought.
-- All goes by the byte at a place of the text, which is 0 past the text's end: no byte of a value, a space or a line feed.
-- Assumes nothing.
use Rattle.std.specs.Prelude.{Option, Some, None, ℕ, zero, suc, ◌+◌, ◌-◌, ◌*◌, List, Bool, true, false, cond, get_or, ℤ, pos, negsuc, neg_ℤ, ltb, eqb}

-- one more, of a count of lines or points; a count that no text reaches, 2⁶⁴ - 1, stays
unfoldable pub more : ℕ → ℕ
more n = cond (ltb n 18446744073709551615) (n + 1) n

abbrev pub byte : List ℕ → ℕ → ℕ
byte s i = get_or s i 0

-- the digit that a byte is, and 10 where it is none
abbrev pub digit_of : ℕ → ℕ
digit_of b = cond (ltb b 48) 10 (cond (ltb 57 b) 10 (b - 48))

unfoldable pub digit_at : List ℕ → ℕ → ℕ
digit_at s i = digit_of (byte s i)

-- the same as an option
abbrev pub some_digit : List ℕ → ℕ → Option ℕ
some_digit s i = cond (ltb (digit_at s i) 10) (Some (digit_at s i)) None

-- how many digits stand from a place on, counted to n at most
unfoldable pub digits : List ℕ → ℕ → ℕ → ℕ
digits s zero at = 0
digits s (suc n) at = cond (ltb (digit_at s at) 10) (suc (digits s n (at + 1))) 0

-- what n digits from a place on are worth, after the number v
unfoldable pub worth : List ℕ → ℕ → ℕ → ℕ → ℕ
worth s v zero at = v
worth s v (suc n) at = worth s (v * 10 + digit_at s at) n (at + 1)

-- whether n digits, of which the first is the byte b, are a value: one to nine, no leading zero, no minus nought
unfoldable pub good_of : Bool → ℕ → ℕ → Bool
good_of negative n b = cond (eqb n 0) false (cond (ltb 9 n) false (cond (eqb b 48) (cond negative false (eqb n 1)) true))

unfoldable pub signed_value : Bool → ℕ → ℤ
signed_value negative m = cond negative (neg_ℤ (pos m)) (pos m)

-- the value at a place: whether it has a minus, where its digits start, whether it is a value, what it is, the place past it
abbrev pub negative_at : List ℕ → ℕ → Bool
negative_at s at = eqb (byte s at) 45

unfoldable pub start_at : List ℕ → ℕ → ℕ
start_at s at = cond (negative_at s at) (at + 1) at

unfoldable pub good_at : List ℕ → ℕ → Bool
good_at s at = good_of (negative_at s at) (digits s 10 (start_at s at)) (byte s (start_at s at))

unfoldable pub value_at : List ℕ → ℕ → ℤ
value_at s at = signed_value (negative_at s at) (worth s 0 (digits s 10 (start_at s at)) (start_at s at))

unfoldable pub past_at : List ℕ → ℕ → ℕ
past_at s at = start_at s at + digits s 10 (start_at s at)

-- the byte that closes a value with n more behind it in its line: a space, or the line feed
unfoldable pub close_of : ℕ → ℕ
close_of n = cond (eqb n 0) 10 32

abbrev pub eq_z : ℤ → ℤ → Bool
eq_z (pos a) (pos b) = eqb a b
eq_z (pos a) (negsuc b) = false
eq_z (negsuc a) (pos b) = false
eq_z (negsuc a) (negsuc b) = eqb a b
