-- The first i rows are put back, by the contract's own definition.
use Rattle.std.proofs.Common.{◌≡◌}
use Rattle.surge_c.specs.Rows.{backed}
use Rattle.surge_c.proofs.put_back.Given as goal

abbrev pub invariant-loop-i : goal.invariant-loop-i
invariant-loop-i l = l.rows ≡ backed l.i l.numbers l.initial.rows
