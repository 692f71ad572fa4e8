-- `run` meets its contract. Assumes nothing.
use Rattle.std.proofs.Common.{arith}
use Rattle.files.proofs.PointsRead.{loads-has}
use Rattle.read_files.proofs.run.Goals as goal

pub print_traverse-requires : goal.print_traverse-requires
print_traverse-requires c = (loads-has _ _ _ _ _ _ c.in_ok-traverse.ensures.loads).1

pub open-storm-requires-clause-room : goal.open-storm-requires-clause-room
open-storm-requires-clause-room c = omega (arith, (loads-has _ _ _ _ _ _ c.in_ok-traverse.ensures.loads).2, c.requires.record_room)
