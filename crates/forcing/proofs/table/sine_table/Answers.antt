-- `sine_table` meets its contract: antt computes the rule's test over the whole of `SINES`, at `tt`. Assumes nothing.
use Rattle.ranges.specs.Fraction.{◌/F◌}
use Rattle.ranges.proofs.NearestLaws.{passed-rule, table-holds}
use Rattle.forcing.specs.Sine.{scaled_sine, sine_entry}
use Rattle.forcing.proofs.table.sine_table.Goals as goal

pub returns : goal.returns
unfolding ◌/F◌ scaled_sine sine_entry
returns c = table-holds (passed-rule scaled_sine 901 _ tt)
