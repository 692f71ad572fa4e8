-- `each` meets its contract. Assumes nothing.
use Rattle.std.proofs.Common.{arith, sym, ◌∙◌, ap}
use Rattle.records.specs.CheckOrder.{Fail}
use Rattle.records.proofs.FirstBad.{search-start, search-on, search-hit, search-none}
use Rattle.records.proofs.CheckOrderLaws.{each-hit, each-none}
use Rattle.records.proofs.checks.each.Goals as goal

pub loop-i-init : goal.loop-i-init
loop-i-init g c = λ ok a. search-start ok c.args.n

pub loop-i-preserved : goal.loop-i-preserved
loop-i-preserved g c = λ ok a.
    search-on ok c.args.n c.loop-i.i (c.loop-i.invariant ok a) (omega arith) (sym (a c.loop-i.i _ (omega arith) c.rule.ensures) ∙ c.if-not-rule.false)

pub returns-then-not-rule : goal.returns-then-not-rule
returns-then-not-rule g c = λ ok a.
    let h = search-hit ok c.args.n c.loop-i.i (c.loop-i.invariant ok a) (omega arith) (sym (a c.loop-i.i _ (omega arith) c.rule.ensures) ∙ c.if-not-rule.true) in
    ap Fail c.new.ensures ∙ each-hit c.args.kind ok c.args.n c.loop-i.i h

pub returns : goal.returns
returns g c = λ ok a. each-none c.args.kind ok c.args.n (search-none ok c.args.n c.loop-i.i (c.loop-i.invariant ok a) c.loop-i-test.false)
