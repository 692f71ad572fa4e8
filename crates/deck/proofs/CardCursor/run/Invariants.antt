-- `CardCursor::run`: the digits read so far are the run's first. Assumes nothing.
use Rattle.std.proofs.Common.{◌≡◌, ◌^◌}
use Rattle.reader.proofs.Digits.{Scan}
use Rattle.deck.proofs.CardCursor.run.Given as goal

abbrev pub invariant-loop : goal.invariant-loop
invariant-loop l = record {
  turns : l.run.count ≡ l.counter;
  scan : Scan 9 l.s l.fn.self.at l.run.past.at l.run.count l.run.worth;
  scale : l.run.scale ≡ 10 ^ l.run.count;
}
