-- `check_cards`: the cards from here on, behind those so far, are what all cards are; and the word of a card ends where it ends from its start.
-- Assumes nothing.
use Rattle.std.proofs.Common.{◌≡◌, ◌+◌, ◌-◌, ◌<◌, ◌≤◌, ◌^◌, length}
use Rattle.reader.specs.Text.{byte}
use Rattle.deck.specs.Cards.{none, word_end, cards_by}
use Rattle.deck.specs.Checks.{no_cards, tallied}
use Rattle.deck.proofs.cards.check_cards.Given as goal

abbrev pub invariant-loop-b : goal.invariant-loop-b
invariant-loop-b l = record {
  from : l.from.at ≤ l.c.at;
  within : l.c.at ≤ length l.s;
  here : l.b ≡ byte l.s l.c.at;
  rest : word_end l.s (length l.s - (l.c.at - l.from.at)) l.c.at ≡ word_end l.s (length l.s) l.from.at;
}

abbrev pub decreases-loop-b : goal.decreases-loop-b
decreases-loop-b l = length l.s - l.c.at

abbrev pub invariant-cards : goal.invariant-cards
invariant-cards l = record {
  within : l.c.at ≤ length l.s;
  line : l.line < 2 ^ 64;
  counts : l.tally.counts.distances + l.tally.counts.depths ≤ l.c.at;
  rest : tallied l.tally (cards_by l.s (length l.s - l.c.at) l.tally.last l.c.at l.line) ≡ tallied no_cards (cards_by l.s (length l.s) none 0 0);
}

abbrev pub decreases-cards : goal.decreases-cards
decreases-cards l = length l.s - l.c.at
