-- `factor_table` meets its contract: antt computes the rule's test over the whole of `FACTORS`, at `tt`. Assumes nothing.
use Rattle.std.proofs.Common.{refl}
use Rattle.ranges.specs.Fraction.{◌/F◌}
use Rattle.hurricane.proofs.FactorTable.{table-right}
use Rattle.hurricane.proofs.table.factor_table.Goals as goal

pub returns : goal.returns
unfolding ◌/F◌
returns c = table-right _ refl tt
