-- `storm_turn` meets its contract: the two turns are those of the definition, by the test for room and by the line.
use Rattle.std.proofs.Common.{ap}
use mathlib.Core.Bool.{not}
use Rattle.records.specs.Shapes.{traverse_of}
use Rattle.hydrograph.proofs.TurnLaws.{heard-start, heard-record, start-with, turn-full, turn-printed}
use Rattle.hydrograph.proofs.storm_turn.Goals as goal

pub returns-then-not-has_line_room : goal.returns-then-not-has_line_room
returns-then-not-has_line_room c =
    turn-full c.args.used c.args.out.now _ c.has_line_room.ensures _ c.args.run.now _ _ (ap not c.if-not-has_line_room.true)

pub returns-then-run-eq0 : goal.returns-then-run-eq0
returns-then-run-eq0 c =
    turn-printed c.args.used c.args.out.now _ c.has_line_room.ensures _ c.args.run.now _ _ (ap not c.if-not-has_line_room.false) _
    (heard-start (traverse_of c.args.traverse) _ c.args.window.last _ _ c.args.run.now.state _ _ c.if-run-eq0.true) _
    (start-with _ c.args.window.last _ c.args.run.now _ _ _ _ _ c.args.used c.start_turn.ensures)

pub returns : goal.returns
returns c =
    turn-printed c.args.used c.args.out.now _ c.has_line_room.ensures _ c.args.run.now _ _ (ap not c.if-not-has_line_room.false) _
    (heard-record (traverse_of c.args.traverse) _ c.args.window.last _ _ c.args.run.now.state _ _ c.if-run-eq0.false) _ c.record_turn.ensures
