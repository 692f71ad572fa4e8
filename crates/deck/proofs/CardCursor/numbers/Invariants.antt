-- `CardCursor::numbers`: with the numbers from here on, those counted so far make what the card's make. Assumes nothing.
use Rattle.std.proofs.Common.{◌≡◌, ◌-◌, true}
use Rattle.deck.specs.Cards.{numbers_at}
use Rattle.deck.specs.Checks.{counted}
use Rattle.deck.proofs.CardCursor.numbers.Given as goal

abbrev pub invariant-loop-i : goal.invariant-loop-i
invariant-loop-i l = counted l.i l.whole (numbers_at l.s (6 - l.i) l.c.at) ≡ counted 0 true (numbers_at l.s 6 l.fn.self.at)
