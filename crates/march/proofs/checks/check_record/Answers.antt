-- `check_record` meets its contract. Assumes nothing.
use Rattle.std.proofs.Common.{rules, ◌≡◌}
use Rattle.records.specs.declared.Kind.TheVariants.{CalmAngle}
use Rattle.records.specs.CheckOrder.{each, first_of}
use Rattle.records.proofs.CheckOrderLaws.{then-pass}
use Rattle.march.specs.Checks.{points_ok, calms_ok, record_checks}
use Rattle.march.proofs.checks.check_record.Goals as goal

pub returns-in_err-each : goal.returns-in_err-each
unfolding record_checks first_of
returns-in_err-each c =
    let a = c.in_err-each.ensures (points_ok c.args.storm.points.now) (λ i b h p. search rules) in
    search rules

pub returns : goal.returns
unfolding record_checks first_of
returns c =
    let a = c.in_ok-each.ensures (points_ok c.args.storm.points.now) (λ i b h p. search rules) in
    let calms = each CalmAngle (calms_ok c.args.storm.points.now) c.args.n in
    let b : c.each-2.result ≡ calms = c.each-2.ensures (calms_ok c.args.storm.points.now) (λ i b h p. search rules) in
    rw (b, ← then-pass calms) (search rules)
