-- Reading on from here is reading on from where the call began.
use Rattle.std.proofs.Common.{◌≡◌, ◌-◌, length}
use Rattle.reader.specs.Traverse.{held, traverse_step}
use Rattle.reader.proofs.traverse.Known.step.Given as goal

abbrev pub invariant-loop-k : goal.invariant-loop-k
invariant-loop-k l = traverse_step l.window.bytes.now l.window.last (held l.k l.points) l.c.at l.c.line ≡ traverse_step l.window.bytes.now l.window.last (held l.fn.self l.fn.points) l.fn.from.at l.fn.from.line

abbrev pub decreases-loop-k : goal.decreases-loop-k
decreases-loop-k l = length l.window.bytes.now - l.c.at
