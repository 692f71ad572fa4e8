-- The definitions computed on decks and numbers worked out by hand: document 01's listing and TM-50's first cards as decks, every shape of number, each
-- refusal, two faults at once. In the comments a line feed is \n. Assumes nothing.
use Rattle.std.proofs.Common.{Some, None, Ok, Err}
use mathlib.Core.Path.{◌≡◌, refl}
use mathlib.Core.Bool.{true, false}
use mathlib.Core.List.{[], ◌∷◌}
use lib.IntN.{pos}
use Rattle.records.specs.declared.Head.{Head}
use Rattle.records.specs.declared.Kind.TheVariants as kind
use Rattle.records.specs.Limits.{head_ok, inside}
use Rattle.records.specs.Refusals.{refusal}
use Rattle.listing.specs.Decimal.{decimal_of, digits_of, signed_text}
use Rattle.listing.specs.Lines.{values_line}
use Rattle.listing.specs.Put.{written}
use Rattle.reader.specs.Text.{more, digit_at, digits, worth}
use Rattle.reader.specs.Lines.{spells}
use Rattle.deck.specs.Number.{count_at, worth_at, count_good, point_at, part_from, part_count, part_worth, good_at, past_at, tenths_at, whole_at, decimal_at, number_at, cursor}
use Rattle.deck.specs.Cards.{in_word, word_end, word_at, numbers_at, head_good, card_with, card_at, follows_by, follows, cards, refused, cards_by, deck_of}
use Rattle.deck.specs.Deck.{point_line, point_lines, head_lines, traverse_text, left_deck, put_text, convert_of}

-- a number at the front of a text, if it is one: the place past it, how many digits, its tenths, whether they are whole
pub record NumberCases : Type 0 where
  -- `12.5 `
  fraction : number_at (49 ∷ 50 ∷ 46 ∷ 53 ∷ 32 ∷ []) 0 ≡ Some (record { past = cursor 4; count = 3; tenths = 125; whole = true })
  -- `.5\n`
  point-first : number_at (46 ∷ 53 ∷ 10 ∷ []) 0 ≡ Some (record { past = cursor 2; count = 1; tenths = 5; whole = true })
  -- `5. `
  point-last : number_at (53 ∷ 46 ∷ 32 ∷ []) 0 ≡ Some (record { past = cursor 2; count = 1; tenths = 50; whole = true })
  -- `00012.50\n`
  noughts-around : number_at (48 ∷ 48 ∷ 48 ∷ 49 ∷ 50 ∷ 46 ∷ 53 ∷ 48 ∷ 10 ∷ []) 0 ≡ Some (record { past = cursor 8; count = 7; tenths = 125; whole = true })
  -- `20.10 `
  nought-behind : number_at (50 ∷ 48 ∷ 46 ∷ 49 ∷ 48 ∷ 32 ∷ []) 0 ≡ Some (record { past = cursor 5; count = 4; tenths = 201; whole = true })
  -- `.05 `
  hundredths : number_at (46 ∷ 48 ∷ 53 ∷ 32 ∷ []) 0 ≡ Some (record { past = cursor 3; count = 2; tenths = 0; whole = false })
  -- `1.23 `
  tenths-and-hundredths : number_at (49 ∷ 46 ∷ 50 ∷ 51 ∷ 32 ∷ []) 0 ≡ Some (record { past = cursor 4; count = 3; tenths = 12; whole = false })
  -- `. `
  point-alone : (number_at (46 ∷ 32 ∷ []) 0 ≡ None) × (decimal_at (46 ∷ 32 ∷ []) 0 ≡ record { past = cursor 1; count = 0; tenths = 0; whole = true })
  -- `99999999\n`
  eight-digits : number_at (57 ∷ 57 ∷ 57 ∷ 57 ∷ 57 ∷ 57 ∷ 57 ∷ 57 ∷ 10 ∷ []) 0 ≡ Some (record { past = cursor 8; count = 8; tenths = 999999990; whole = true })
  -- `1234567.8\n`
  eight-with-point : number_at (49 ∷ 50 ∷ 51 ∷ 52 ∷ 53 ∷ 54 ∷ 55 ∷ 46 ∷ 56 ∷ 10 ∷ []) 0 ≡ Some (record { past = cursor 9; count = 8; tenths = 12345678; whole = true })
  -- `123456789 `
  nine-digits : (number_at (49 ∷ 50 ∷ 51 ∷ 52 ∷ 53 ∷ 54 ∷ 55 ∷ 56 ∷ 57 ∷ 32 ∷ []) 0 ≡ None) × (decimal_at (49 ∷ 50 ∷ 51 ∷ 52 ∷ 53 ∷ 54 ∷ 55 ∷ 56 ∷ 57 ∷ 32 ∷ []) 0 ≡ record { past = cursor 9; count = 9; tenths = 1234567890; whole = true })
  -- `12345678.9 `
  nine-with-point : (number_at (49 ∷ 50 ∷ 51 ∷ 52 ∷ 53 ∷ 54 ∷ 55 ∷ 56 ∷ 46 ∷ 57 ∷ 32 ∷ []) 0 ≡ None) × (decimal_at (49 ∷ 50 ∷ 51 ∷ 52 ∷ 53 ∷ 54 ∷ 55 ∷ 56 ∷ 46 ∷ 57 ∷ 32 ∷ []) 0 ≡ record { past = cursor 10; count = 9; tenths = 123456789; whole = true })
  -- `0 `
  nought : number_at (48 ∷ 32 ∷ []) 0 ≡ Some (record { past = cursor 1; count = 1; tenths = 0; whole = true })

pub number-cases : NumberCases
unfolding number_at decimal_at good_at past_at tenths_at whole_at part_count part_worth part_from point_at count_good count_at worth_at digits worth digit_at
number-cases = record {
  fraction = refl;
  point-first = refl;
  point-last = refl;
  noughts-around = refl;
  nought-behind = refl;
  hundredths = refl;
  tenths-and-hundredths = refl;
  point-alone = (refl, refl);
  eight-digits = refl;
  eight-with-point = refl;
  nine-digits = (refl, refl);
  nine-with-point = (refl, refl);
  nought = refl;
}

-- whole decks: the distances and the depths, or the refusal
pub record DeckCases : Type 0 where
  -- `DIST 1 1 .0\nDEPTH 1 50 50\n`
  two-cards : deck_of (68 ∷ 73 ∷ 83 ∷ 84 ∷ 32 ∷ 49 ∷ 32 ∷ 49 ∷ 32 ∷ 46 ∷ 48 ∷ 10 ∷ 68 ∷ 69 ∷ 80 ∷ 84 ∷ 72 ∷ 32 ∷ 49 ∷ 32 ∷ 53 ∷ 48 ∷ 32 ∷ 53 ∷ 48 ∷ 10 ∷ []) ≡ cards (10 ∷ 0 ∷ []) (500 ∷ 500 ∷ [])
  -- `DIST 1 47.6 46.6 43.6 40.6 39.6 38.6\nDEPTH 1 600. 580. 456. 446. 410. 420.\n`
  hampton-beach : deck_of (68 ∷ 73 ∷ 83 ∷ 84 ∷ 32 ∷ 49 ∷ 32 ∷ 52 ∷ 55 ∷ 46 ∷ 54 ∷ 32 ∷ 52 ∷ 54 ∷ 46 ∷ 54 ∷ 32 ∷ 52 ∷ 51 ∷ 46 ∷ 54 ∷ 32 ∷ 52 ∷ 48 ∷ 46 ∷ 54 ∷ 32 ∷ 51 ∷ 57 ∷ 46 ∷ 54 ∷ 32 ∷ 51 ∷ 56 ∷ 46 ∷ 54 ∷ 10 ∷ 68 ∷ 69 ∷ 80 ∷ 84 ∷ 72 ∷ 32 ∷ 49 ∷ 32 ∷ 54 ∷ 48 ∷ 48 ∷ 46 ∷ 32 ∷ 53 ∷ 56 ∷ 48 ∷ 46 ∷ 32 ∷ 52 ∷ 53 ∷ 54 ∷ 46 ∷ 32 ∷ 52 ∷ 52 ∷ 54 ∷ 46 ∷ 32 ∷ 52 ∷ 49 ∷ 48 ∷ 46 ∷ 32 ∷ 52 ∷ 50 ∷ 48 ∷ 46 ∷ 10 ∷ []) ≡ cards (476 ∷ 466 ∷ 436 ∷ 406 ∷ 396 ∷ 386 ∷ []) (6000 ∷ 5800 ∷ 4560 ∷ 4460 ∷ 4100 ∷ 4200 ∷ [])
  -- `DIST 1 2 1\nDIST 2 0\nDEPTH 00000001 3\nDEPTH 2 4 5\n`
  cards-not-in-step : deck_of (68 ∷ 73 ∷ 83 ∷ 84 ∷ 32 ∷ 49 ∷ 32 ∷ 50 ∷ 32 ∷ 49 ∷ 10 ∷ 68 ∷ 73 ∷ 83 ∷ 84 ∷ 32 ∷ 50 ∷ 32 ∷ 48 ∷ 10 ∷ 68 ∷ 69 ∷ 80 ∷ 84 ∷ 72 ∷ 32 ∷ 48 ∷ 48 ∷ 48 ∷ 48 ∷ 48 ∷ 48 ∷ 48 ∷ 49 ∷ 32 ∷ 51 ∷ 10 ∷ 68 ∷ 69 ∷ 80 ∷ 84 ∷ 72 ∷ 32 ∷ 50 ∷ 32 ∷ 52 ∷ 32 ∷ 53 ∷ 10 ∷ []) ≡ cards (20 ∷ 10 ∷ 0 ∷ []) (30 ∷ 40 ∷ 50 ∷ [])
  -- ``
  no-byte : deck_of ([]) ≡ refused (refusal kind.Ended 0)
  -- `\n`
  line-feed-alone : deck_of (10 ∷ []) ≡ refused (refusal kind.Malformed 1)
  -- `DIST 1 1`
  no-line-feed : deck_of (68 ∷ 73 ∷ 83 ∷ 84 ∷ 32 ∷ 49 ∷ 32 ∷ 49 ∷ []) ≡ refused (refusal kind.Malformed 1)
  -- `DIST 1 1 \n`
  space-at-end : deck_of (68 ∷ 73 ∷ 83 ∷ 84 ∷ 32 ∷ 49 ∷ 32 ∷ 49 ∷ 32 ∷ 10 ∷ []) ≡ refused (refusal kind.Malformed 1)
  -- `DIST  1 1\n`
  two-spaces : deck_of (68 ∷ 73 ∷ 83 ∷ 84 ∷ 32 ∷ 32 ∷ 49 ∷ 32 ∷ 49 ∷ 10 ∷ []) ≡ refused (refusal kind.Malformed 1)
  -- `DIST 1\n`
  no-number : deck_of (68 ∷ 73 ∷ 83 ∷ 84 ∷ 32 ∷ 49 ∷ 10 ∷ []) ≡ refused (refusal kind.Malformed 1)
  -- `DIST 1 1 1 1 1 1 1 1\n`
  seven-numbers : deck_of (68 ∷ 73 ∷ 83 ∷ 84 ∷ 32 ∷ 49 ∷ 32 ∷ 49 ∷ 32 ∷ 49 ∷ 32 ∷ 49 ∷ 32 ∷ 49 ∷ 32 ∷ 49 ∷ 32 ∷ 49 ∷ 32 ∷ 49 ∷ 10 ∷ []) ≡ refused (refusal kind.Malformed 1)
  -- ` 1 1\n`
  no-word : deck_of (32 ∷ 49 ∷ 32 ∷ 49 ∷ 10 ∷ []) ≡ refused (refusal kind.Malformed 1)
  -- `DIST 1 1\r\n`
  carriage-return : deck_of (68 ∷ 73 ∷ 83 ∷ 84 ∷ 32 ∷ 49 ∷ 32 ∷ 49 ∷ 13 ∷ 10 ∷ []) ≡ refused (refusal kind.Malformed 1)
  -- `DIST 1 -1\n`
  minus : deck_of (68 ∷ 73 ∷ 83 ∷ 84 ∷ 32 ∷ 49 ∷ 32 ∷ 45 ∷ 49 ∷ 10 ∷ []) ≡ refused (refusal kind.Malformed 1)
  -- `DIST 000000001 1\n`
  long-card-number : deck_of (68 ∷ 73 ∷ 83 ∷ 84 ∷ 32 ∷ 48 ∷ 48 ∷ 48 ∷ 48 ∷ 48 ∷ 48 ∷ 48 ∷ 48 ∷ 49 ∷ 32 ∷ 49 ∷ 10 ∷ []) ≡ refused (refusal kind.Malformed 1)
  -- `DI\tT 1 1\n`
  tab-in-word : deck_of (68 ∷ 73 ∷ 9 ∷ 84 ∷ 32 ∷ 49 ∷ 32 ∷ 49 ∷ 10 ∷ []) ≡ refused (refusal kind.CardOrder 1)
  -- `dist 1 1\n`
  small-letters : deck_of (100 ∷ 105 ∷ 115 ∷ 116 ∷ 32 ∷ 49 ∷ 32 ∷ 49 ∷ 10 ∷ []) ≡ refused (refusal kind.CardOrder 1)
  -- `DIST 0 1\n`
  card-nought : deck_of (68 ∷ 73 ∷ 83 ∷ 84 ∷ 32 ∷ 48 ∷ 32 ∷ 49 ∷ 10 ∷ []) ≡ refused (refusal kind.CardOrder 1)
  -- `DIST 2 1\n`
  card-two-first : deck_of (68 ∷ 73 ∷ 83 ∷ 84 ∷ 32 ∷ 50 ∷ 32 ∷ 49 ∷ 10 ∷ []) ≡ refused (refusal kind.CardOrder 1)
  -- `DIST 1 1\nDEPTH 2 1\n`
  number-not-reset : deck_of (68 ∷ 73 ∷ 83 ∷ 84 ∷ 32 ∷ 49 ∷ 32 ∷ 49 ∷ 10 ∷ 68 ∷ 69 ∷ 80 ∷ 84 ∷ 72 ∷ 32 ∷ 50 ∷ 32 ∷ 49 ∷ 10 ∷ []) ≡ refused (refusal kind.CardOrder 2)
  -- `DIST 1 1\nDEPTH 1 1\nDIST 2 1\n`
  dist-behind-depth : deck_of (68 ∷ 73 ∷ 83 ∷ 84 ∷ 32 ∷ 49 ∷ 32 ∷ 49 ∷ 10 ∷ 68 ∷ 69 ∷ 80 ∷ 84 ∷ 72 ∷ 32 ∷ 49 ∷ 32 ∷ 49 ∷ 10 ∷ 68 ∷ 73 ∷ 83 ∷ 84 ∷ 32 ∷ 50 ∷ 32 ∷ 49 ∷ 10 ∷ []) ≡ refused (refusal kind.CardOrder 3)
  -- `DIST 1 1\nDIST 2 1 .05\n`
  hundredths : deck_of (68 ∷ 73 ∷ 83 ∷ 84 ∷ 32 ∷ 49 ∷ 32 ∷ 49 ∷ 10 ∷ 68 ∷ 73 ∷ 83 ∷ 84 ∷ 32 ∷ 50 ∷ 32 ∷ 49 ∷ 32 ∷ 46 ∷ 48 ∷ 53 ∷ 10 ∷ []) ≡ refused (refusal kind.CardUnit 2)
  -- `DIST 2 1 \n`
  shape-before-order : deck_of (68 ∷ 73 ∷ 83 ∷ 84 ∷ 32 ∷ 50 ∷ 32 ∷ 49 ∷ 32 ∷ 10 ∷ []) ≡ refused (refusal kind.Malformed 1)
  -- `DIST 2 .05\n`
  order-before-unit : deck_of (68 ∷ 73 ∷ 83 ∷ 84 ∷ 32 ∷ 50 ∷ 32 ∷ 46 ∷ 48 ∷ 53 ∷ 10 ∷ []) ≡ refused (refusal kind.CardOrder 1)
  -- `DIST 1 .05\nDIST 1 1 \n`
  earliest-line : deck_of (68 ∷ 73 ∷ 83 ∷ 84 ∷ 32 ∷ 49 ∷ 32 ∷ 46 ∷ 48 ∷ 53 ∷ 10 ∷ 68 ∷ 73 ∷ 83 ∷ 84 ∷ 32 ∷ 49 ∷ 32 ∷ 49 ∷ 32 ∷ 10 ∷ []) ≡ refused (refusal kind.CardUnit 1)
  -- `DEPTH 1 5\n`
  no-dist : deck_of (68 ∷ 69 ∷ 80 ∷ 84 ∷ 72 ∷ 32 ∷ 49 ∷ 32 ∷ 53 ∷ 10 ∷ []) ≡ cards ([]) (50 ∷ [])

pub deck-cases : DeckCases
unfolding deck_of cards_by card_at card_with head_good numbers_at word_at word_end in_word follows_by follows spells more good_at past_at tenths_at whole_at part_count part_worth part_from point_at count_good count_at worth_at digits worth digit_at
deck-cases = record {
  two-cards = refl;
  hampton-beach = refl;
  cards-not-in-step = refl;
  no-byte = refl;
  line-feed-alone = refl;
  no-line-feed = refl;
  space-at-end = refl;
  two-spaces = refl;
  no-number = refl;
  seven-numbers = refl;
  no-word = refl;
  carriage-return = refl;
  minus = refl;
  long-card-number = refl;
  tab-in-word = refl;
  small-letters = refl;
  card-nought = refl;
  card-two-first = refl;
  number-not-reset = refl;
  dist-behind-depth = refl;
  hundredths = refl;
  shape-before-order = refl;
  order-before-unit = refl;
  earliest-line = refl;
  no-dist = refl;
}

-- the given values of document 01's listing
abbrev given : Head
given = record { latitude = pos 300; friction = pos 25; initial = pos 0 }

-- the call
pub record CallCases : Type 0 where
  -- document 01's listing, with room for one byte more
  whole : convert_of given (68 ∷ 73 ∷ 83 ∷ 84 ∷ 32 ∷ 49 ∷ 32 ∷ 49 ∷ 32 ∷ 46 ∷ 48 ∷ 10 ∷ 68 ∷ 69 ∷ 80 ∷ 84 ∷ 72 ∷ 32 ∷ 49 ∷ 32 ∷ 53 ∷ 48 ∷ 32 ∷ 53 ∷ 48 ∷ 10 ∷ []) (7 ∷ 7 ∷ 7 ∷ 7 ∷ 7 ∷ 7 ∷ 7 ∷ 7 ∷ 7 ∷ 7 ∷ 7 ∷ 7 ∷ 7 ∷ 7 ∷ 7 ∷ 7 ∷ 7 ∷ 7 ∷ 7 ∷ 7 ∷ 7 ∷ 7 ∷ 7 ∷ 7 ∷ 7 ∷ 7 ∷ 7 ∷ 7 ∷ 7 ∷ 7 ∷ 7 ∷ 7 ∷ 7 ∷ 7 ∷ 7 ∷ 7 ∷ 7 ∷ 7 ∷ 7 ∷ 7 ∷ 7 ∷ 7 ∷ 7 ∷ 7 ∷ 7 ∷ 7 ∷ 7 ∷ 7 ∷ 7 ∷ 7 ∷ 7 ∷ 7 ∷ 7 ∷ 7 ∷ 7 ∷ 7 ∷ 7 ∷ 7 ∷ 7 ∷ 7 ∷ 7 ∷ 7 ∷ 7 ∷ 7 ∷ []) ≡ left_deck (Ok 63) (108 ∷ 97 ∷ 116 ∷ 105 ∷ 116 ∷ 117 ∷ 100 ∷ 101 ∷ 32 ∷ 102 ∷ 114 ∷ 105 ∷ 99 ∷ 116 ∷ 105 ∷ 111 ∷ 110 ∷ 32 ∷ 105 ∷ 110 ∷ 105 ∷ 116 ∷ 105 ∷ 97 ∷ 108 ∷ 10 ∷ 51 ∷ 48 ∷ 48 ∷ 32 ∷ 50 ∷ 53 ∷ 32 ∷ 48 ∷ 10 ∷ 100 ∷ 105 ∷ 115 ∷ 116 ∷ 97 ∷ 110 ∷ 99 ∷ 101 ∷ 32 ∷ 100 ∷ 101 ∷ 112 ∷ 116 ∷ 104 ∷ 10 ∷ 49 ∷ 48 ∷ 32 ∷ 53 ∷ 48 ∷ 48 ∷ 10 ∷ 48 ∷ 32 ∷ 53 ∷ 48 ∷ 48 ∷ 10 ∷ 7 ∷ [])
  -- with room for one byte less
  short : convert_of given (68 ∷ 73 ∷ 83 ∷ 84 ∷ 32 ∷ 49 ∷ 32 ∷ 49 ∷ 32 ∷ 46 ∷ 48 ∷ 10 ∷ 68 ∷ 69 ∷ 80 ∷ 84 ∷ 72 ∷ 32 ∷ 49 ∷ 32 ∷ 53 ∷ 48 ∷ 32 ∷ 53 ∷ 48 ∷ 10 ∷ []) (7 ∷ 7 ∷ 7 ∷ 7 ∷ 7 ∷ 7 ∷ 7 ∷ 7 ∷ 7 ∷ 7 ∷ 7 ∷ 7 ∷ 7 ∷ 7 ∷ 7 ∷ 7 ∷ 7 ∷ 7 ∷ 7 ∷ 7 ∷ 7 ∷ 7 ∷ 7 ∷ 7 ∷ 7 ∷ 7 ∷ 7 ∷ 7 ∷ 7 ∷ 7 ∷ 7 ∷ 7 ∷ 7 ∷ 7 ∷ 7 ∷ 7 ∷ 7 ∷ 7 ∷ 7 ∷ 7 ∷ 7 ∷ 7 ∷ 7 ∷ 7 ∷ 7 ∷ 7 ∷ 7 ∷ 7 ∷ 7 ∷ 7 ∷ 7 ∷ 7 ∷ 7 ∷ 7 ∷ 7 ∷ 7 ∷ 7 ∷ 7 ∷ 7 ∷ 7 ∷ 7 ∷ 7 ∷ []) ≡ left_deck (Err (refusal kind.Lent 0)) (7 ∷ 7 ∷ 7 ∷ 7 ∷ 7 ∷ 7 ∷ 7 ∷ 7 ∷ 7 ∷ 7 ∷ 7 ∷ 7 ∷ 7 ∷ 7 ∷ 7 ∷ 7 ∷ 7 ∷ 7 ∷ 7 ∷ 7 ∷ 7 ∷ 7 ∷ 7 ∷ 7 ∷ 7 ∷ 7 ∷ 7 ∷ 7 ∷ 7 ∷ 7 ∷ 7 ∷ 7 ∷ 7 ∷ 7 ∷ 7 ∷ 7 ∷ 7 ∷ 7 ∷ 7 ∷ 7 ∷ 7 ∷ 7 ∷ 7 ∷ 7 ∷ 7 ∷ 7 ∷ 7 ∷ 7 ∷ 7 ∷ 7 ∷ 7 ∷ 7 ∷ 7 ∷ 7 ∷ 7 ∷ 7 ∷ 7 ∷ 7 ∷ 7 ∷ 7 ∷ 7 ∷ 7 ∷ [])
  -- one depth and no distance: the count of distances, and before the room
  unequal : convert_of given (68 ∷ 69 ∷ 80 ∷ 84 ∷ 72 ∷ 32 ∷ 49 ∷ 32 ∷ 53 ∷ 10 ∷ []) [] ≡ left_deck (Err (refusal kind.CardCounts 0)) []
  -- the given values before a deck of no bytes
  values-first : convert_of (record { latitude = pos 901; friction = pos 25; initial = pos 0 }) [] [] ≡ left_deck (Err (refusal kind.TraverseValue 0)) []

pub call-cases : CallCases
unfolding convert_of put_text traverse_text head_lines point_lines point_line written values_line signed_text decimal_of digits_of head_ok inside deck_of cards_by card_at card_with head_good numbers_at word_at word_end in_word follows_by follows spells more good_at past_at tenths_at whole_at part_count part_worth part_from point_at count_good count_at worth_at digits worth digit_at
call-cases = record {
  whole = refl;
  short = refl;
  unequal = refl;
  values-first = refl;
}
