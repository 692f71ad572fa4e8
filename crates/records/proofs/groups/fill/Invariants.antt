-- The first i groups are written.
use Rattle.std.proofs.Common.{ℕ}
use Rattle.records.specs.Places.{Gives}
use Rattle.records.proofs.GroupLaws.{Stored}
use Rattle.records.proofs.groups.fill.Given as goal

abbrev pub invariant-loop-i : goal.invariant-loop-i
invariant-loop-i g l = (view : ℕ → _) → Gives (goal.F-post g l.group) l.n view → Stored g.G.Group.NUMBERS g.G.Group.numbers view l.n l.list l.i
