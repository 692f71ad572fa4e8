-- `CardCursor::first` meets its contract. Assumes nothing.
use Rattle.std.proofs.Common.{◌∙◌, ap}
use Rattle.deck.specs.Number.{cursor}
use Rattle.deck.specs.Walk.{past_space}
use Rattle.deck.specs.declared.CardCursor.{CardCursor}
use Rattle.deck.proofs.TextLaws.{first-twice}
use Rattle.deck.proofs.CardCursor.first.Goals as goal

pub returns : goal.returns
returns c =
    c.past_space.ensures ∙ ap (λ (x : CardCursor). cursor (past_space c.args.s.now x.at)) c.past_space-number.ensures ∙ ap cursor (first-twice c.args.s.now c.args.self.at)
