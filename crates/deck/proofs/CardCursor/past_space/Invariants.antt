-- `CardCursor::past_space`: the place past the next space from here is the one past it from the start. Assumes nothing.
use Rattle.std.proofs.Common.{◌≡◌, ◌-◌, ◌≤◌, length}
use Rattle.deck.specs.Walk.{past_spaces, past_space}
use Rattle.deck.proofs.CardCursor.past_space.Given as goal

abbrev pub invariant-loop-at : goal.invariant-loop-at
invariant-loop-at l = record {
  within : l.at - l.fn.self.at ≤ length l.s - l.fn.self.at;
  rest : past_spaces l.s (length l.s - (l.at - l.fn.self.at)) 1 l.at ≡ past_space l.s l.fn.self.at;
}
