-- `Known::step` meets its contract. Assumes nothing.
use Rattle.std.proofs.Common.{Ok, Err, ◌≡◌, sym, ◌∙◌, arith}
use Rattle.reader.proofs.TraverseLaws.{step-more, step_end, step-read, step-refused, step-on}
use Rattle.reader.proofs.traverse.Known.step.Goals as goal

pub returns-then-not-holds : goal.returns-then-not-holds
returns-then-not-holds c = step-more _ _ _ _ _ (sym c.holds.ensures ∙ c.if-not-holds.true) ∙ c.loop-k.invariant

pub returns-then-c-window : goal.returns-then-c-window
returns-then-c-window c = step_end _ _ _ _ _ (sym c.holds.ensures ∙ c.if-not-holds.false) (Ok c.in_ok-traverse.traverse) _ c.if-c-window.true c.count.ensures c.in_ok-traverse.ensures ∙ c.loop-k.invariant

pub returns-in_err-traverse : goal.returns-in_err-traverse
returns-in_err-traverse c =
    let e : c.from_residual.result ≡ Err c.in_err-traverse.field-0.0 = grind arith in
    rw e (step_end _ _ _ _ _ (sym c.holds.ensures ∙ c.if-not-holds.false) (Err c.in_err-traverse.field-0.0) _ c.if-c-window.true c.count.ensures c.in_err-traverse.ensures ∙ c.loop-k.invariant)

pub loop-k-smaller : goal.loop-k-smaller
loop-k-smaller c = omega (arith, step-on _ _ _ _ _ (sym c.holds.ensures ∙ c.if-not-holds.false) c.if-c-window.false _ _ _ c.in_ok-c.ensures)

pub loop-k-preserved : goal.loop-k-preserved
loop-k-preserved c = step-read _ _ _ _ _ (sym c.holds.ensures ∙ c.if-not-holds.false) c.if-c-window.false _ _ _ c.in_ok-c.ensures ∙ c.loop-k.invariant

pub returns-in_err-c : goal.returns-in_err-c
returns-in_err-c c =
    let e : c.from_residual-in_err-c.result ≡ Err c.in_err-c.field-0.0 = grind arith in
    rw e (step-refused _ _ _ _ _ (sym c.holds.ensures ∙ c.if-not-holds.false) c.if-c-window.false _ _ c.in_err-c.ensures ∙ c.loop-k.invariant)
