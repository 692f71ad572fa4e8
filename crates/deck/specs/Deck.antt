-- Document 02, Q-3: what the call answers, and every byte of the text that it is lent, for any deck, any given values and any room. The file's names
-- lines are the reader's, its decimal numbers the listing's. Assumes nothing.
use Rattle.std.specs.Prelude.{ℕ, List, [], ◌∷◌, ◌++◌, cond, length, leb, eqb, Result, Ok, Err}
use Rattle.records.specs.declared.Head.{Head}
use Rattle.records.specs.declared.Kind.TheVariants.{TraverseValue, Lent, CardCounts}
use Rattle.records.specs.declared.Refusal.{Refusal}
use Rattle.records.specs.Limits.{head_ok}
use Rattle.records.specs.Refusals.{refusal}
use Rattle.listing.specs.Decimal.{decimal_of}
use Rattle.listing.specs.Lines.{space, feed, values_line}
use Rattle.listing.specs.Put.{written}
use Rattle.reader.specs.Traverse.{head_names, point_names}
use Rattle.deck.specs.Cards.{Cards, cards, refused, deck_of}

-- ---- the text of `traverse.txt`

-- a point's line: its distance and its depth
unfoldable pub point_line : ℕ → ℕ → List ℕ
point_line distance depth = decimal_of distance ++ space ++ decimal_of depth ++ feed

-- the first distance with the first depth, and so on
unfoldable pub point_lines : List ℕ → List ℕ → List ℕ
point_lines (d ∷ ds) (h ∷ hs) = point_line d h ++ point_lines ds hs
point_lines (d ∷ ds) [] = []
point_lines [] hs = []

-- names, the three given values, names, and the points
unfoldable pub head_lines : Head → List ℕ
head_lines h = head_names ++ values_line h.latitude h.friction h.initial ++ point_names

unfoldable pub traverse_text : Head → List ℕ → List ℕ → List ℕ
traverse_text h distances depths = head_lines h ++ point_lines distances depths

-- ---- the call

-- the answer, which is the count of its bytes or the refusal, and what stands then in the text that was lent
pub record LeftDeck : Type 0 where
  pub answer : Result ℕ Refusal
  pub text : List ℕ

abbrev pub left_deck : Result ℕ Refusal → List ℕ → LeftDeck
left_deck answer text = record { answer = answer; text = text }

-- last of all the room, 8 with place 0: the text goes to its front, and what is behind stays as lent
unfoldable pub put_text : List ℕ → List ℕ → LeftDeck
put_text bytes room = cond (leb (length bytes) (length room)) (left_deck (Ok (length bytes)) (written bytes 0 room)) (left_deck (Err (refusal Lent 0)) room)

-- "unequal counts of distances and depths (17) with the count of distances, card by card, the counts last"
abbrev pub after_cards : Head → Cards → List ℕ → LeftDeck
after_cards h (refused r) room = left_deck (Err r) room
after_cards h (cards distances depths) room =
    cond (eqb (length distances) (length depths))
    (put_text (traverse_text h distances depths) room)
    (left_deck (Err (refusal CardCounts (length distances))) room)

-- "The given values, past their limits, get 6 with place 0 first of all"
unfoldable pub convert_of : Head → List ℕ → List ℕ → LeftDeck
convert_of h s room = cond (head_ok h) (after_cards h (deck_of s) room) (left_deck (Err (refusal TraverseValue 0)) room)
