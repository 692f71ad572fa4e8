-- `text::points_fit` meets its contract. Assumes nothing.
use Rattle.std.proofs.Common.{◌∙◌, ◌-◌, ◌+◌, arith}
use Rattle.deck.proofs.TextLaws.{fit-none, fit-more, fit_short}
use Rattle.deck.proofs.text.points_fit.Goals as goal

pub returns-then-spare-size : goal.returns-then-spare-size
returns-then-spare-size c =
    fit_short c.args.s.now _ (c.args.n - (c.loop.counter + 1)) _ _ (omega arith) c.step.ensures _ _ c.count-size.ensures c.if-spare-size.true ∙ c.loop.invariant

pub loop-preserved : goal.loop-preserved
loop-preserved c = fit-more c.args.s.now _ _ _ _ (omega arith) c.step.ensures _ _ c.count-size.ensures c.if-spare-size.false ∙ c.loop.invariant

pub returns : goal.returns
returns c = fit-none c.args.s.now _ _ _ _ (omega arith) ∙ c.loop.invariant
