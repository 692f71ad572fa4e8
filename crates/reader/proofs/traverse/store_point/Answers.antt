-- `store_point` meets its contract. Assumes nothing.
use Rattle.std.proofs.Common.{length, arith}
use Rattle.records.proofs.GroupLaws.{wholes-fit}
use Rattle.reader.proofs.traverse.store_point.Goals as goal

pub store_group-requires : goal.store_group-requires
store_group-requires c = omega (arith, wholes-fit 2 (length c.args.points.now), c.count.ensures)
