-- `CardCursor::number` meets its contract. Assumes nothing.
use Rattle.std.proofs.Common.{◌∙◌}
use Rattle.deck.proofs.NumberLaws.{number-some}
use Rattle.deck.proofs.CardCursor.number.Goals as goal

pub returns : goal.returns
returns c = c.then_some.ensures ∙ number-some _ _ c.decimal-x.ensures c.count_good.ensures
