-- `check_lent` meets its contract. Assumes nothing.
use borrow.Author.Tests.{eqb-true}
use Rattle.std.proofs.Common.{rules, arith, ◌≡◌, sym, ◌∙◌, ◌-◌, ◌*◌, ◌≤◌, length}
use Rattle.records.specs.declared.Kind.TheVariants.{Lent}
use Rattle.records.specs.CheckOrder.{each, first_of}
use Rattle.records.proofs.CheckOrderLaws.{need-passed, then-pass}
use Rattle.records.proofs.GroupLaws.{wholes-fit}
use Rattle.records.proofs.LimitLaws.{and_left}
use Rattle.march.specs.Checks.{rows_ok, lent_checks}
use Rattle.march.proofs.checks.check_lent.Goals as goal

pub each-requires : goal.each-requires
each-requires c =
    let all = sym c.counts_ok-fit.ensures ∙ need-passed _ _ (sym c.in_ok-need.ensures) in
    let n : c.count.result ≡ c.args.points - 1 = eqb-true _ _ (and_left _ _ all) in
    let fit : 3 * (c.args.points - 1) ≤ length c.args.rows.now = omega (arith, wholes-fit 3 (length c.args.rows.now), n, c.count.ensures) in
    search (rules, fit)

pub returns : goal.returns
unfolding lent_checks first_of
returns c =
    let row-checks = each Lent (rows_ok c.args.rows.now) (c.args.points - 1) in
    let b : c.each.result ≡ row-checks = c.each.ensures (rows_ok c.args.rows.now) (λ i b h p. search rules) in
    rw (b, ← then-pass row-checks) (search rules)
