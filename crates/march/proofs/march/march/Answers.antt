-- `march` meets its contract: the march that is left, after the segments that are done, is the whole march. Assumes nothing.
use mathlib.Core.Path.{◌≡◌, ◌∙◌}
use native.Mathlib.Omega.{arith}
use Rattle.std.proofs.lemmas.Result.{err_from_is_err_and}
use Rattle.march.proofs.MarchFits.{march-between, zero-setup}
use Rattle.march.proofs.MarchLaws.{march-start, march-on, march-stop, march-all}
use Rattle.march.proofs.MarchSteps.{between_at, between_is, between-setup, as-segments}
use Rattle.march.proofs.march.march.Goals as goal
use Rattle.march.proofs.march.march.Goals.{After-segment_between}

-- the answer is the definition's, at the ends and the row that were read
answer-is : (c : After-segment_between) →
    between_at c.setting_of-k.result c.args.traverse.points.now c.args.storm.points.now c.args.rows.now c.loop-i.i c.loop-i.setup ≡ c.segment_between.result
answer-is c =
    between_is _ _ _ _ c.loop-i.i c.loop-i.setup _ _ _ _ c.segment_between.ensures c.loop-i.invariant.sea-is c.end_at-shore.ensures c.group_at.ensures

pub loop-i-init : goal.loop-i-init
loop-i-init c = record { march = march-start _ _; sea-is = c.end_at-sea.ensures; setup-in = zero-setup }

pub segment_between-requires : goal.segment_between-requires
segment_between-requires c =
    let b = march-between _ _ _ _ _ c.requires c.loop-i.i c.loop-i-test.true c.loop-i.setup c.loop-i.invariant.setup-in in
    rw (c.setting_of-k.ensures, c.loop-i.invariant.sea-is, c.end_at-shore.ensures, c.group_at.ensures) b

pub returns-in_err-leg : goal.returns-in_err-leg
returns-in_err-leg c =
    let p = err_from_is_err_and c.from_residual.result c.from_residual.ensures.1 in
    rw (p.1, p.2, ← c.loop-i.auto.legs)
    (march-stop _ c.loop-i.legs c.loop-i.setup c.loop-i.i c.loop-i.invariant.march _ (omega (arith, c.loop-i.auto.legs, c.loop-i-test.true)) (answer-is (goal.at.returns-in_err-leg c).After-segment_between ∙ c.in_err-leg.was)
    ∙ as-segments _ _ _ _ _ _ c.setting_of-k.ensures)

pub loop-i-preserved : goal.loop-i-preserved
loop-i-preserved c =
    let e = answer-is (goal.at.loop-i-preserved c).After-segment_between ∙ c.in_ok-leg.was in
    record {
      march = march-on _ c.loop-i.legs c.loop-i.setup c.loop-i.i c.loop-i.invariant.march _ (omega (arith, c.loop-i.auto.legs, c.loop-i-test.true)) e;
      sea-is = c.end_at-shore.ensures;
      setup-in = between-setup _ _ _ _ c.loop-i.i c.loop-i.setup _ e;
    }

pub returns : goal.returns
returns c =
    rw (← c.loop-i.auto.legs)
    (march-all _ c.loop-i.legs c.loop-i.setup c.loop-i.i c.loop-i.invariant.march (omega (arith, c.loop-i.auto.legs, c.loop-i-test.false)) ∙ as-segments _ _ _ _ _ _ c.setting_of-k.ensures)
