-- `lay_rows` meets its contract. Assumes nothing.
use Rattle.std.proofs.Common.{arith, ◌∙◌}
use Rattle.surge_c.proofs.RowLaws.{laid_next}
use Rattle.surge_c.proofs.lay_rows.Goals as goal

pub loop-i-preserved : goal.loop-i-preserved
loop-i-preserved c = c.store_group.ensures ∙ rw c.loop-i.invariant (laid_next c.loop-i.i c.args.rows.now c.args.numbers.now (omega arith) (omega arith))
