-- The numbers of the first i rows are laid, by the contract's own definition.
use Rattle.std.proofs.Common.{◌≡◌}
use Rattle.surge_c.specs.Rows.{laid}
use Rattle.surge_c.proofs.lay_rows.Given as goal

abbrev pub invariant-loop-i : goal.invariant-loop-i
invariant-loop-i l = l.numbers ≡ laid l.i l.rows l.initial.numbers
