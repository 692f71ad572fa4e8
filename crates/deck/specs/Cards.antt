-- Document 02, Q-3: a card is a line, "a word, a card number from 1, one to six decimal numbers", and "fields are parted by one space; any other
-- line shape gets 2". "All DIST cards come first, and DEPTH cards number from 1 again; a DIST card after them is a wrong word." Assumes nothing.
use Rattle.std.specs.Prelude.{ℕ, zero, suc, ◌+◌, List, [], ◌∷◌, ◌++◌, Bool, false, cond, ◌&&◌, not, length, ltb, eqb, Option, Some, None}
use Rattle.records.specs.declared.Kind.TheVariants.{Malformed, Ended, CardOrder, CardUnit}
use Rattle.records.specs.declared.Refusal.{Refusal}
use Rattle.records.specs.Refusals.{refusal}
use Rattle.reader.specs.Text.{more, byte}
use Rattle.reader.specs.Lines.{spells}
use Rattle.deck.specs.declared.cards.Word.{Word}
use Rattle.deck.specs.declared.cards.Word.TheVariants.{Dist, Depth}
use Rattle.deck.specs.declared.cards.Last.{Last}
use Rattle.deck.specs.Number.{count_at, worth_at, count_good, good_at, past_at, tenths_at, whole_at}

-- ---- a word: "bytes other than space", in its line

unfoldable pub in_word : List ℕ → ℕ → Bool
in_word s at = ltb at (length s) && (not (eqb (byte s at) 32) && not (eqb (byte s at) 10))

-- the place past it; n bytes are enough where no more are left
unfoldable pub word_end : List ℕ → ℕ → ℕ → ℕ
word_end s zero at = at
word_end s (suc n) at = cond (in_word s at) (word_end s n (at + 1)) at

-- `DIST` and `DEPTH`, each with the space behind it
abbrev pub dist_word : List ℕ
dist_word = 68 ∷ 73 ∷ 83 ∷ 84 ∷ 32 ∷ []

abbrev pub depth_word : List ℕ
depth_word = 68 ∷ 69 ∷ 80 ∷ 84 ∷ 72 ∷ 32 ∷ []

unfoldable pub word_at : List ℕ → ℕ → Option Word
word_at s at = cond (spells s at dist_word) (Some Dist) (cond (spells s at depth_word) (Some Depth) None)

-- ---- the numbers of a card

-- in tenths, whether each is a whole count of them, and the place past the card's line feed; or no card's shape
pub data Numbers : Type 0 where
  numbers : List ℕ → Bool → ℕ → Numbers
  misshapen : Numbers

-- a number in front of those behind it
abbrev pub before : ℕ → Bool → Numbers → Numbers
before t w (numbers ts ws past) = numbers (t ∷ ts) (w && ws) past
before t w misshapen = misshapen

-- n more at most: behind each stands a space and the next, or the line feed
unfoldable pub numbers_at : List ℕ → ℕ → ℕ → Numbers
numbers_at s zero at = misshapen
numbers_at s (suc n) at =
    cond (good_at s at)
    (cond (eqb (byte s (past_at s at)) 10)
    (numbers (tenths_at s at ∷ []) (whole_at s at) (past_at s at + 1))
    (cond (eqb (byte s (past_at s at)) 32)
    (before (tenths_at s at) (whole_at s at) (numbers_at s n (past_at s at + 1)))
    misshapen))
    misshapen

-- ---- a card

-- its word, if it is one of the two, its card number and its numbers; or no card's shape
pub data Card : Type 0 where
  card : Option Word → ℕ → Numbers → Card
  no_card : Card

-- the word at `at` ends at `end`, where one space stands, then one to eight digits and one space more
unfoldable pub head_good : List ℕ → ℕ → ℕ → Bool
head_good s at end = ltb at end && (eqb (byte s end) 32 && (count_good (count_at s (end + 1)) && eqb (byte s (end + 1 + count_at s (end + 1))) 32))

unfoldable pub card_with : List ℕ → ℕ → ℕ → Card
card_with s at end = cond (head_good s at end) (card (word_at s at) (worth_at s (end + 1)) (numbers_at s 6 (end + 1 + count_at s (end + 1) + 1))) no_card

unfoldable pub card_at : List ℕ → ℕ → Card
card_at s at = card_with s at (word_end s (length s) at)

-- ---- cards in order

-- before the first card, as if a DIST card 0 were there
abbrev pub none : Last
none = record { word = Dist; number = 0 }

-- whether a card with word v and number n may stand behind one with word w and number m
unfoldable pub follows_by : Word → ℕ → Word → ℕ → Bool
follows_by Dist m Dist n = eqb n (m + 1)
follows_by Dist m Depth n = eqb n 1
follows_by Depth m Dist n = false
follows_by Depth m Depth n = eqb n (m + 1)

unfoldable pub follows : Last → Word → ℕ → Bool
follows last v n = follows_by last.word last.number v n

-- what a deck says: its distances and its depths, in tenths; or the refusal
pub data Cards : Type 0 where
  cards : List ℕ → List ℕ → Cards
  refused : Refusal → Cards

-- a card's numbers in front of those of the cards behind it
abbrev pub in_front : Word → List ℕ → Cards → Cards
in_front Dist ts (cards distances depths) = cards (ts ++ distances) depths
in_front Depth ts (cards distances depths) = cards distances (ts ++ depths)
in_front w ts (refused r) = refused r

-- after a card, in line `line`: "a wrong word or card number (15), a number that is not a whole count of our units (16)", or the cards behind it
abbrev pub after_numbers : Numbers → Last → Option Word → ℕ → ℕ → (Last → ℕ → ℕ → Cards) → Cards
after_numbers (numbers ts whole past) last (Some word) n line next =
    cond (follows last word n)
    (cond whole (in_front word ts (next (record { word = word; number = n }) past line)) (refused (refusal CardUnit line)))
    (refused (refusal CardOrder line))
after_numbers (numbers ts whole past) last None n line next = refused (refusal CardOrder line)
after_numbers misshapen last word n line next = refused (refusal Malformed line)

abbrev pub after_card : Card → Last → ℕ → (Last → ℕ → ℕ → Cards) → Cards
after_card (card word n ns) last line next = after_numbers ns last word n line next
after_card no_card last line next = refused (refusal Malformed line)

-- card by card from a place on, behind `line` lines; n cards are enough where no more bytes are left
unfoldable pub cards_by : List ℕ → ℕ → Last → ℕ → ℕ → Cards
cards_by s zero last at line = cards [] []
cards_by s (suc n) last at line = cond (ltb at (length s)) (after_card (card_at s at) last (more line) (cards_by s n)) (cards [] [])

-- the whole deck; "a text without a line gets 3, place 0"
unfoldable pub deck_of : List ℕ → Cards
deck_of s = cond (eqb (length s) 0) (refused (refusal Ended 0)) (cards_by s (length s) none 0 0)
