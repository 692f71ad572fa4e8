-- `begin` meets its contract: the traverse was opened as the definition says, and the line put is that of the answer. Assumes nothing.
use Rattle.std.proofs.Common.{[], ap}
use mathlib.Core.Bool.{not}
use Rattle.records.specs.Shapes.{traverse_of}
use Rattle.hydrograph.specs.Turns.{fresh_run}
use Rattle.hydrograph.proofs.TurnLaws.{turn-full, printed-line, printed-last, begin-printed}
use Rattle.hydrograph.proofs.begin.Goals as goal

pub returns-then-not-has_line_room : goal.returns-then-not-has_line_room
returns-then-not-has_line_room c =
    rw c.fresh.ensures
    (turn-full c.args.used c.args.out.now _ c.has_line_room.ensures _ fresh_run [] [] (ap not c.if-not-has_line_room.true))

pub returns-in-Ok : goal.returns-in-Ok
returns-in-Ok c =
    let put = c.put_line.ensures in
    rw c.fresh.ensures
    (begin-printed (traverse_of c.args.traverse) _ c.open_traverse.ensures c.args.used c.args.out.now _ c.has_line_room.ensures (ap not c.if-not-has_line_room.false) _ c.in-Ok.is _
    (printed-line _ c.args.used c.args.out.now _ put.out_after fresh_run [] [] _ put.place fresh_run []))

pub returns-in-Err : goal.returns-in-Err
returns-in-Err c =
    let last = c.refuse.ensures in
    rw c.fresh.ensures
    (begin-printed (traverse_of c.args.traverse) _ c.open_traverse.ensures c.args.used c.args.out.now _ c.has_line_room.ensures (ap not c.if-not-has_line_room.false) _ c.in-Err.is _
    (printed-last _ c.args.used c.args.out.now _ last.out_after fresh_run [] [] _ last.value))
