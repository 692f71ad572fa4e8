-- `taken` meets its contract: the record that it takes is the one that the numbers are, and a refusal leaves the state and the rows. Assumes nothing.
use Rattle.std.proofs.Common.{rules}
use Rattle.records.specs.Shapes.{traverse_of}
use Rattle.listing.specs.Lines.{record_line}
use Rattle.hydrograph.proofs.TurnLaws.{printed-line, printed-last, taken-printed, taken-refused}
use Rattle.hydrograph.proofs.taken.Goals as goal

pub returns-in-Ok : goal.returns-in-Ok
returns-in-Ok c =
    let put = c.put_line.ensures in
    taken-printed (traverse_of c.args.traverse) c.args.c.at c.args.c.line c.args.run.now _ c.args.numbers.now c.args.rows.now _ _ _ _ _ c.count.ensures c.group_at.ensures c.take_record.ensures c.args.out.now c.args.used _ c.in-Ok.is _
    (printed-line (record_line c.take_record.new.state.elapsed c.in-Ok.height.low c.in-Ok.height.high) c.args.used c.args.out.now _ (search (rules, put.out_after)) c.args.run.now c.args.numbers.now c.args.rows.now _ (search (rules, put.place)) _ _)

pub returns-in-Err : goal.returns-in-Err
returns-in-Err c =
    let last = c.refuse.ensures in
    taken-refused (traverse_of c.args.traverse) c.args.c.at c.args.c.line c.args.run.now _ c.args.numbers.now c.args.rows.now _ _ _ _ _ c.count.ensures c.group_at.ensures c.take_record.ensures c.args.out.now c.args.used _ c.in-Err.is _ _
    (printed-last _ c.args.used c.args.out.now _ last.out_after c.args.run.now c.args.numbers.now c.args.rows.now _ last.value)
