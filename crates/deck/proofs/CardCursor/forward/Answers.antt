-- `CardCursor::forward` meets its contract. Assumes nothing.
use Rattle.std.proofs.Common.{◌∙◌, sym, ap, arith}
use Rattle.deck.specs.Number.{cursor}
use Rattle.deck.proofs.TextLaws.{walked-none, walked-more}
use Rattle.deck.proofs.CardCursor.forward.Goals as goal

pub loop-preserved : goal.loop-preserved
loop-preserved c = walked-more _ _ _ _ _ (omega arith) c.step.ensures ∙ c.loop.invariant

pub returns : goal.returns
returns c = ap cursor (sym (walked-none _ _ _ (omega arith)) ∙ c.loop.invariant)
