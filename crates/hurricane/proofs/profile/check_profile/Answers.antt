-- `check_profile` meets its contract: what is left of the table is judged behind what was. Assumes nothing.
use Rattle.std.proofs.Common.{◌≡◌, sym, ◌∙◌, Err, rules}
use mir.Facts.{to_z-of_z}
use mir.Syntax.{w64}
use mir.Val.{SFits}
use Rattle.records.specs.Groups.{at}
use Rattle.hurricane.proofs.ProfileLaws.{judged-is, judged-on, judged-off, judged-none}
use Rattle.hurricane.proofs.profile.check_profile.Goals as goal

pub loop-factor-init : goal.loop-factor-init
loop-factor-init c = rw c.none-judged.ensures

pub returns-in_err-judged : goal.returns-in_err-judged
returns-in_err-judged c =
    let e : c.from_residual.result ≡ Err c.in_err-judged.field-0.0 = search rules in
    let fit : SFits w64 (at c.args.table.now c.loop-factor.factor-index) = search rules in
    e ∙ judged-off c.args.table.now c.loop-factor.factor-index _ c.loop-factor.judged c.loop-factor-test.true (to_z-of_z fit) _ (sym c.with.ensures ∙ c.in_err-judged.was)
    ∙ c.loop-factor.invariant ∙ judged-is c.args.table.now

pub loop-factor-preserved : goal.loop-factor-preserved
loop-factor-preserved c =
    let fit : SFits w64 (at c.args.table.now c.loop-factor.factor-index) = search rules in
    judged-on c.args.table.now c.loop-factor.factor-index _ c.loop-factor.judged c.loop-factor-test.true (to_z-of_z fit) _ (sym c.with.ensures ∙ c.in_ok-judged.was)
    ∙ c.loop-factor.invariant

pub returns : goal.returns
returns c =
    c.end.ensures ∙ judged-none c.args.table.now c.loop-factor.factor-index c.loop-factor.judged c.loop-factor-test.false ∙ c.loop-factor.invariant ∙ judged-is c.args.table.now
