-- `next_setup` meets its contract. Assumes nothing.
use Rattle.std.proofs.Common.{rules}
use Rattle.segment.specs.Segment.{next_setup}
use Rattle.segment.proofs.formulas.next_setup.Goals as goal

pub returns : goal.returns
unfolding next_setup
returns c = search rules
