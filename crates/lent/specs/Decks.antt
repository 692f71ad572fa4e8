-- The call that turns an old card deck into the text of `traverse.txt`, whatever it is given: what is returned, and everything that was lent. It is
-- `deck`'s own definition (`convert_of`), with numbers for its values. `ReadsDeck` is the promise itself. And the statement that reading that text gives
-- just the deck's points and the given values, or refuses the count of its points.
use Rattle.std.specs.Prelude.{◌≡◌, true, false, cond, List, ℕ, ◌<◌, ◌^◌, eqb, length, take, ℤ, pos, Result, Ok, Err}
use Rattle.records.specs.declared.Head.{Head}
use Rattle.records.specs.declared.Kind.TheVariants.{Points}
use Rattle.records.specs.declared.Refusal.{Refusal}
use Rattle.records.specs.Groups.{at}
use Rattle.records.specs.Limits.{count_ok}
use Rattle.records.specs.Refusals.{number_of, refusal}
use Rattle.deck.specs.Cards.{cards, deck_of}
use Rattle.deck.specs.Deck.{LeftDeck, convert_of}
use Rattle.deck.specs.Reading.{paired}
use Rattle.lent.specs.Numbers.{place_number, answer_numbers, refused_answer, wrong_buffer}
use Rattle.lent.specs.Texts.{LeftTraverse, lent_place}
use Rattle.lent.specs.Again.{RefusalTold, head_left, points_left, TraverseReading}

pub record LeftText : Type 0 where
  pub number : ℕ
  pub text : List ℕ
  pub answer : List ℤ

abbrev pub left_text : ℕ → List ℕ → List ℤ → LeftText
left_text number text answer = record { number = number; text = text; answer = answer }

-- the text is `convert_of`'s in either case; the answer has how many bytes were written, or the place
abbrev pub after_converted : Result ℕ Refusal → List ℕ → LeftText
after_converted (Ok n) text = left_text 0 text (answer_numbers (pos 0) (place_number n) (pos 0))
after_converted (Err refusal) text = left_text (number_of refusal.kind) text (refused_answer refusal.place)

abbrev pub deck_with : LeftDeck → List ℕ → List ℤ → LeftText
deck_with x text answer = cond (eqb (length answer) 3) (after_converted x.answer x.text) (left_text wrong_buffer text answer)

unfoldable pub deck_call : ℤ → ℤ → ℤ → List ℕ → List ℕ → List ℤ → LeftText
deck_call latitude friction initial deck text answer =
    deck_with (convert_of (record { latitude = latitude; friction = friction; initial = initial }) deck text) text answer

-- the promise of the call, on these and with this left
abbrev pub ReadsDeck : ℤ → ℤ → ℤ → List ℕ → List ℕ → List ℤ → LeftText → Type 0
ReadsDeck latitude friction initial deck text answer left = left ≡ deck_call latitude friction initial deck text answer

-- ---- the text that it wrote, read

-- the first bytes of the room, as many as the answer says
abbrev pub text_written : LeftText → List ℕ
text_written x = take (lent_place (at x.answer 1)) x.text

-- a call of `read_deck` that kept its promise and returned 0; no room is of 2^63 bytes or more
pub record DeckReading (h : Head) (deck : List ℕ) : Type 0 where
  pub text : List ℕ
  pub answer : List ℤ
  pub left : LeftText
  pub small : length text < 2 ^ 63
  pub kept : ReadsDeck h.latitude h.friction h.initial deck text answer left
  pub accepted : left.number ≡ 0

-- what a call of `read_traverse` tells of it: with 2 to 65 points just these and the given values, otherwise 5 with their count
pub record DeckTold (h : Head) (deck : List ℕ) (x : LeftTraverse) : Type 0 where
  pub distances : List ℕ
  pub depths : List ℕ
  pub cards-are : deck_of deck ≡ cards distances depths
  pub same : length distances ≡ length depths
  pub points : count_ok (length distances) ≡ true
      → (x.number ≡ 0)
      × (x.answer ≡ answer_numbers (pos 0) (pos (length distances)) (pos 0))
      × (head_left x ≡ h)
      × (points_left x ≡ paired distances depths)
  pub count : count_ok (length distances) ≡ false → RefusalTold x.number x.answer (refusal Points (length distances))

abbrev pub DeckThenTraverse : Type 0
DeckThenTraverse = (h : Head) (deck : List ℕ) → length deck < 2 ^ 64 → (d : DeckReading h deck) (t : TraverseReading (text_written d.left)) → DeckTold h deck t.left
