-- `CardCursor::numbers` meets its contract. Assumes nothing.
use Rattle.std.proofs.Common.{rules, ◌∙◌}
use Rattle.deck.proofs.NumberLaws.{shape-none, shape-bad, shape-last, shape-open, shape-more}
use Rattle.deck.proofs.CardCursor.numbers.Goals as goal

pub returns-in_err-x : goal.returns-in_err-x
returns-in_err-x c = c.from_residual.ensures ∙ shape-bad _ _ _ _ c.loop-i-test.true c.in_err-x.ensures ∙ c.loop-i.invariant

pub returns-then-close-eq10 : goal.returns-then-close-eq10
returns-then-close-eq10 c =
    shape-last _ _ _ _ c.loop-i-test.true c.in_ok-x.ensures c.byte-close.ensures _ (search rules) _ c.past.ensures c.if-close-eq10.true ∙ c.loop-i.invariant

pub returns-then-close-ne32 : goal.returns-then-close-ne32
returns-then-close-ne32 c = shape-open _ _ _ _ c.loop-i-test.true c.in_ok-x.ensures c.byte-close.ensures c.if-close-eq10.false c.if-close-ne32.true ∙ c.loop-i.invariant

pub loop-i-preserved : goal.loop-i-preserved
loop-i-preserved c =
    shape-more _ _ _ _ c.loop-i-test.true c.in_ok-x.ensures c.byte-close.ensures _ (search rules) _ c.past-c.ensures c.if-close-ne32.false ∙ c.loop-i.invariant

pub returns : goal.returns
returns c = shape-none _ _ _ _ c.loop-i-test.false ∙ c.loop-i.invariant
