-- The checks of the cards in the code's terms, which counts numbers where `deck_of` lists them. Inner definitions: proofs/CheckLaws.antt shows that
-- the refusals are those of `deck_of`, and the counts the lengths of its lists. Assumes nothing.
use Rattle.std.specs.Prelude.{ℕ, ◌+◌, List, Bool, true, cond, ◌&&◌, length, eqb, Option, Some, None, Result, Ok, Err}
use Rattle.records.specs.declared.Kind.{Kind}
use Rattle.records.specs.declared.Kind.TheVariants.{Malformed, CardOrder, CardUnit}
use Rattle.records.specs.declared.Refusal.{Refusal}
use Rattle.reader.specs.Text.{byte}
use Rattle.deck.specs.declared.CardCursor.{CardCursor}
use Rattle.deck.specs.declared.cards.Word.{Word}
use Rattle.deck.specs.declared.cards.Word.TheVariants.{Dist, Depth}
use Rattle.deck.specs.declared.cards.CardNumbers.{CardNumbers}
use Rattle.deck.specs.declared.cards.Counts.{Counts}
use Rattle.deck.specs.declared.cards.Tally.{Tally}
use Rattle.deck.specs.Number.{count_good, cursor}
use Rattle.deck.specs.Cards.{Numbers, numbers, misshapen, Card, card, no_card, none, follows, Cards, cards, refused}

-- ---- a card

-- so many numbers of the card were there before, each a whole count or not, and these come behind them
abbrev pub counted : ℕ → Bool → Numbers → Option CardNumbers
counted n whole (numbers ts ws past) = Some (record { count = n + length ts; whole = whole && ws; past = cursor past })
counted n whole misshapen = None

-- whether a run of so many digits, which ends at a place, is a card number with a space behind it
unfoldable pub card_number_good : List ℕ → ℕ → ℕ → Bool
card_number_good s count past = count_good count && eqb (byte s past) 32

-- ---- the cards so far

abbrev pub no_cards : Tally
no_cards = record { last = none; counts = record { distances = 0; depths = 0 } }

-- with so many more of a word
unfoldable pub with_numbers : Counts → Word → ℕ → Counts
with_numbers c Dist n = record { distances = c.distances + n; depths = c.depths }
with_numbers c Depth n = record { distances = c.distances; depths = c.depths + n }

-- with a card more
abbrev pub with_card : Tally → Word → ℕ → ℕ → Tally
with_card t word n count = record { last = record { word = word; number = n }; counts = with_numbers t.counts word count }

-- what a card makes of them, with the cursor past its line: 15, then 16; where it has no card's shape, 2
unfoldable pub placed_step : Tally → Word → ℕ → CardNumbers → Result (Tally × CardCursor) Kind
placed_step t word n x = cond (follows t.last word n) (cond x.whole (Ok (with_card t word n x.count, x.past)) (Err CardUnit)) (Err CardOrder)

abbrev pub shape_step : Tally → Option Word → ℕ → Option CardNumbers → Result (Tally × CardCursor) Kind
shape_step t (Some word) n (Some x) = placed_step t word n x
shape_step t None n (Some x) = Err CardOrder
shape_step t word n None = Err Malformed

abbrev pub card_step : Tally → Card → Result (Tally × CardCursor) Kind
card_step t (card word n ns) = shape_step t word n (counted 0 true ns)
card_step t no_card = Err Malformed

-- ---- all cards

-- so many distances and depths were there before, and these come behind them
abbrev pub tallied : Tally → Cards → Result Counts Refusal
tallied t (cards distances depths) = Ok (record { distances = t.counts.distances + length distances; depths = t.counts.depths + length depths })
tallied t (refused r) = Err r
