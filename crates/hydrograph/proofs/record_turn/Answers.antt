-- `record_turn` meets its contract: a record that was read has its place in the lent numbers.
use Rattle.std.proofs.Common.{ap, ◌∙◌, arith, Ok}
use Rattle.hydrograph.proofs.RecordRead.{step_room}
use Rattle.hydrograph.proofs.record_turn.Goals as goal

pub taken-requires : goal.taken-requires
taken-requires c =
    let r = step_room _ c.args.window.last c.count-n.result _ _ c.args.numbers.now _ c.record_step.result _ c.record_step.ensures (c.in-Ok-Some.is ∙ ap Ok c.in-Ok-Some.field-0-is) in
    (c.requires, omega (arith, c.count-n.ensures))
