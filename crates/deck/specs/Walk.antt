-- How the code goes over a deck that was found sound, without an array of points: a cursor stands on a number and moves to the next one, from the
-- last of a card past the word and the card number of the card behind it. Inner definitions: proofs/WalkLaws.antt shows that two such cursors meet
-- just the distances and the depths of `deck_of`. Assumes nothing.
use Rattle.std.specs.Prelude.{ℕ, zero, suc, ◌+◌, List, [], ◌∷◌, ◌++◌, cond, length, ltb, eqb}
use Rattle.reader.specs.Text.{byte}
use Rattle.deck.specs.declared.walk.Point.{Point}
use Rattle.deck.specs.declared.walk.Points.{Points}
use Rattle.deck.specs.declared.walk.Step.{Step}
use Rattle.deck.specs.Number.{past_at, tenths_at, cursor}
use Rattle.deck.specs.Deck.{point_line}

-- the place past the next k spaces; n bytes are enough where no more are left
unfoldable pub past_spaces : List ℕ → ℕ → ℕ → ℕ → ℕ
past_spaces s zero k at = at
past_spaces s (suc n) zero at = at
past_spaces s (suc n) (suc k) at = cond (ltb at (length s)) (past_spaces s n (cond (eqb (byte s at) 32) k (suc k)) (at + 1)) at

unfoldable pub past_space : List ℕ → ℕ → ℕ
past_space s at = past_spaces s (length s) 1 at

-- the first number of the card at a place: past its word and its card number
unfoldable pub first_at : List ℕ → ℕ → ℕ
first_at s at = past_spaces s (length s) 2 at

-- the next number, behind one that ends at `past`
unfoldable pub next_from : List ℕ → ℕ → ℕ
next_from s past = cond (ltb past (length s)) (cond (eqb (byte s past) 10) (first_at s (past + 1)) (past + 1)) past

unfoldable pub next_at : List ℕ → ℕ → ℕ
next_at s at = next_from s (past_at s at)

unfoldable pub step_at : List ℕ → ℕ → Step
step_at s at = record { tenths = tenths_at s at; next = cursor (next_at s at) }

-- n numbers from a place on, and the place behind them
unfoldable pub numbers_from : List ℕ → ℕ → ℕ → List ℕ
numbers_from s zero at = []
numbers_from s (suc n) at = tenths_at s at ∷ numbers_from s n (next_at s at)

unfoldable pub walked : List ℕ → ℕ → ℕ → ℕ
walked s zero at = at
walked s (suc n) at = walked s n (next_at s at)

-- the lines of n points, from a distance and a depth on
unfoldable pub lines_from : List ℕ → ℕ → ℕ → ℕ → List ℕ
lines_from s zero distance depth = []
lines_from s (suc n) distance depth = point_line (tenths_at s distance) (tenths_at s depth) ++ lines_from s n (next_at s distance) (next_at s depth)

-- the point at two cursors, and the cursors at the next one
unfoldable pub points_at : List ℕ → Points → Point × Points
points_at s x =
    (record { distance = tenths_at s x.distance.at; depth = tenths_at s x.depth.at }, record { distance = cursor (next_at s x.distance.at); depth = cursor (next_at s x.depth.at) })
