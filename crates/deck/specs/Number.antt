-- Document 02, Q-3: a card number is "one to eight digits, a number the same with at most one point". So a number is a run of digits, and where a
-- point follows, another run behind it; either may be empty. A run is counted to nine digits, one more than are allowed. Bytes and digits at a place
-- are the reader's. Assumes nothing.
use Rattle.std.specs.Prelude.{ℕ, ◌+◌, ◌*◌, ◌/◌, ◌%◌, ◌^◌, List, Bool, cond, ◌&&◌, ltb, eqb, Option, Some, None}
use Rattle.reader.specs.Text.{byte, digits, worth}
use Rattle.deck.specs.declared.CardCursor.{CardCursor}
use Rattle.deck.specs.declared.numbers.Run.{Run}
use Rattle.deck.specs.declared.numbers.Number.{Number}

-- ---- a run of digits: how many, and what they are worth

unfoldable pub count_at : List ℕ → ℕ → ℕ
count_at s at = digits s 9 at

unfoldable pub worth_at : List ℕ → ℕ → ℕ
worth_at s at = worth s 0 (count_at s at) at

-- "one to eight digits"
unfoldable pub count_good : ℕ → Bool
count_good n = ltb 0 n && ltb n 9

-- ---- a number

-- whether a point follows the first run, where the second begins, how many digits that has and what they are worth
unfoldable pub point_at : List ℕ → ℕ → Bool
point_at s at = eqb (byte s (at + count_at s at)) 46

unfoldable pub part_from : List ℕ → ℕ → ℕ
part_from s at = at + count_at s at + 1

unfoldable pub part_count : List ℕ → ℕ → ℕ
part_count s at = cond (point_at s at) (count_at s (part_from s at)) 0

unfoldable pub part_worth : List ℕ → ℕ → ℕ
part_worth s at = cond (point_at s at) (worth_at s (part_from s at)) 0

-- "the same with at most one point": the point is not counted
unfoldable pub good_at : List ℕ → ℕ → Bool
good_at s at = count_good (count_at s at + part_count s at)

-- the place past it
unfoldable pub past_at : List ℕ → ℕ → ℕ
past_at s at = cond (point_at s at) (part_from s at + part_count s at) (at + count_at s at)

-- in our units, tenths of a nautical mile or of a foot, and whether it is a whole count of them
unfoldable pub tenths_at : List ℕ → ℕ → ℕ
tenths_at s at = 10 * worth_at s at + 10 * part_worth s at / 10 ^ part_count s at

unfoldable pub whole_at : List ℕ → ℕ → Bool
whole_at s at = eqb (10 * part_worth s at % 10 ^ part_count s at) 0

-- ---- the same in the code's terms

abbrev pub cursor : ℕ → CardCursor
cursor at = record { at = at }

unfoldable pub run_at : List ℕ → ℕ → Run
run_at s at = record { past = cursor (at + count_at s at); count = count_at s at; worth = worth_at s at; scale = 10 ^ count_at s at }

-- no digit, at a place
abbrev pub no_digit : CardCursor → Run
no_digit c = record { past = c; count = 0; worth = 0; scale = 1 }

-- the run behind a point at a place; where no point stands it has no digit
unfoldable pub part_at : List ℕ → ℕ → Run
part_at s at = cond (eqb (byte s at) 46) (run_at s (at + 1)) (no_digit (cursor at))

-- what stands in a number's place, of any count of digits
unfoldable pub decimal_at : List ℕ → ℕ → Number
decimal_at s at = record { past = cursor (past_at s at); count = count_at s at + part_count s at; tenths = tenths_at s at; whole = whole_at s at }

unfoldable pub number_at : List ℕ → ℕ → Option Number
number_at s at = cond (good_at s at) (Some (decimal_at s at)) None
