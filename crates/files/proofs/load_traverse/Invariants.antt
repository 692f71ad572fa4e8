-- What the window holds fits it, and reading stands where the steps and refills so far brought it; the turns that are left fall.
use Rattle.std.proofs.Common.{◌-◌, ◌≤◌, is_some, length}
use Rattle.files.specs.Chain.{most_turns}
use Rattle.files.specs.TraverseFile.{begun, Follows}
use Rattle.files.proofs.Reached.{reading}
use Rattle.files.proofs.Walked.{Walked}
use Rattle.files.proofs.load_traverse.Given as goal

abbrev pub invariant-loop : goal.invariant-loop
invariant-loop l = record {
  within : l.held.have ≤ length l.buf;
  walked : Walked Follows (begun (is_some l.initial.source.file) l.initial.buf l.initial.points) (reading l.known l.points l.line l.buf l.held.have l.held.last) (most_turns - l.counter);
}
