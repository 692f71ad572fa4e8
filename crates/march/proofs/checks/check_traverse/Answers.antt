-- `check_traverse` meets its contract: the first that fails decides. Assumes nothing.
use Rattle.std.proofs.Common.{rules, ◌≡◌, sym, true, ℕ, ◌<◌, ◌*◌, ◌≤◌, length}
use Rattle.records.specs.CheckOrder.{each, first_of}
use Rattle.records.specs.declared.Kind.TheVariants.{TraverseValue, Distance}
use Rattle.records.proofs.GroupLaws.{wholes-fit}
use Rattle.records.proofs.CheckOrderLaws.{each-passed, then-pass}
use Rattle.march.specs.Checks.{stations_ok, spacing_ok, traverse_checks}
use Rattle.march.proofs.checks.check_traverse.Goals as goal
use Rattle.march.proofs.checks.check_traverse.Goals.{After-count-n, After-each, In_ok-each, After-each-2}

fit : (c : After-count-n) → 2 * c.count-n.result ≤ length c.args.traverse.points.now
fit c = rw c.count-n.ensures (wholes-fit 2 (length c.args.traverse.points.now))

points-passed : (c : In_ok-each) → (j : ℕ) → j < c.count-n.result → stations_ok c.args.traverse.points.now j ≡ true
points-passed c = each-passed TraverseValue _ _ (sym (c.in_ok-each.ensures (stations_ok c.args.traverse.points.now) (λ i b h p. search rules)))

pub each-requires : goal.each-requires
each-requires c = search (rules, fit (goal.at.each-requires c).After-count-n)

pub each-requires-2 : goal.each-requires-2
each-requires-2 c =
    search (rules, fit (goal.at.each-requires-2 c).After-count-n, points-passed (goal.at.each-requires-2 c).In_ok-each)

pub returns-in_err-each : goal.returns-in_err-each
unfolding traverse_checks first_of
returns-in_err-each c =
    let a = c.in_err-each.ensures (stations_ok c.args.traverse.points.now) (λ i b h p. search rules) in
    search rules

pub returns : goal.returns
unfolding traverse_checks first_of
returns c =
    let a = c.in_ok-each.ensures (stations_ok c.args.traverse.points.now) (λ i b h p. search rules) in
    let apart = spacing_ok c.count-n.result c.args.traverse.points.now in
    let distances = each Distance apart c.count-n.result in
    let b : c.each-2.result ≡ distances = c.each-2.ensures apart (λ i b h p. search rules) in
    rw (b, ← then-pass distances) (search rules)
