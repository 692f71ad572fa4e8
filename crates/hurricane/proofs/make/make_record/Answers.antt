-- `make_record` meets its contract: the table holds the definition's entries. Assumes nothing.
use Rattle.std.proofs.Common.{◌∙◌}
use Rattle.records.specs.Groups.{at}
use Rattle.hurricane.specs.Factor.{factor_entry}
use Rattle.hurricane.proofs.MakeLaws.{make_same, table-in}
use Rattle.hurricane.proofs.make.make_record.Goals as goal

pub make_with-requires : goal.make_with-requires
make_with-requires c = table-in _ c.factor_table.ensures

pub returns : goal.returns
returns c =
    c.make_with.ensures
    ∙ make_same (at c.factor_table.result.now) factor_entry (λ m h. c.factor_table.ensures.holds.entry m h) c.args.h c.args.closing c.args.winds.now c.args.sites.now c.args.room.now
