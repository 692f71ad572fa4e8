-- The program stands within the window and the buffer, where the turns so far brought it; the turns that are left fall. The traverse and the slices
-- that are lent are those it began with.
use Rattle.std.proofs.Common.{◌-◌, true, length}
use Rattle.std.specs.Option.{is_some}
use Rattle.records.specs.Shapes.{traverse_of}
use Rattle.surge.specs.Standing.{Stands}
use Rattle.surge.specs.Storm.{Keeps, memory_of}
use Rattle.surge.specs.Printed.{TurnMade, begun_at}
use Rattle.files.specs.Chain.{most_turns}
use Rattle.files.proofs.Walked.{Walked}
use Rattle.surge.proofs.Storm.march.Given as goal

abbrev pub invariant-loop : goal.invariant-loop
invariant-loop l = record {
  keeps : Keeps l.initial.self l.self;
  stands : Stands l.x (length l.self.buf.now) (length l.self.out.now);
  walked : Walked (TurnMade (traverse_of l.initial.self.traverse)) (memory_of (begun_at (is_some l.initial.self.source.now.file) l.fn.run l.fn.used) true l.initial.self) (memory_of l.x true l.self) (most_turns - l.counter);
}
