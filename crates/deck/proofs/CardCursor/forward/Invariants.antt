-- `CardCursor::forward`: the place behind the numbers that are left is the one behind all of them. Assumes nothing.
use Rattle.std.proofs.Common.{◌≡◌, ◌-◌}
use Rattle.deck.specs.Walk.{walked}
use Rattle.deck.proofs.CardCursor.forward.Given as goal

abbrev pub invariant-loop : goal.invariant-loop
invariant-loop l = walked l.s (l.n - l.counter) l.c.at ≡ walked l.s l.n l.fn.self.at
