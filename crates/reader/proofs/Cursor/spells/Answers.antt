-- `reader::Cursor::spells` meets its contract. Assumes nothing.
use Rattle.std.proofs.Common.{◌∙◌}
use Rattle.reader.proofs.Names.{spells-starts}
use Rattle.reader.proofs.Cursor.spells.Goals as goal

pub returns : goal.returns
returns c = c.starts_with.ensures.value ∙ spells-starts _ _ _ _ c.min-here.ensures
