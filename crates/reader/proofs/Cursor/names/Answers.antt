-- `reader::Cursor::names` meets its contract. Assumes nothing.
use Rattle.std.proofs.Common.{◌≡◌, true, sym, ◌∙◌, arith}
use Rattle.reader.proofs.Names.{spells-fits}
use Rattle.reader.proofs.Cursor.names.Goals as goal

pub overflow_add-result : goal.overflow_add-result
overflow_add-result c =
    let e : c.spells.result ≡ true = grind arith in
    record { fits = omega (arith, spells-fits 18446744073709551615 c.args.s.now c.args.want.now c.args.self.at (omega arith) (omega arith) (sym c.spells.ensures ∙ e)) }
