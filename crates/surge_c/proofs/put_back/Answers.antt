-- `put_back` meets its contract. Assumes nothing.
use Rattle.std.proofs.Common.{arith}
use Rattle.surge_c.proofs.RowLaws.{backed-next}
use Rattle.surge_c.proofs.put_back.Goals as goal

pub loop-i-preserved : goal.loop-i-preserved
loop-i-preserved c = rw (c.loop-i.invariant, c.group_at.ensures) (backed-next c.loop-i.i c.args.numbers.now c.args.rows.now (omega arith))
