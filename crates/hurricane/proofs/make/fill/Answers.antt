-- `fill` meets its contract: each group is the record's point. Assumes nothing.
use Rattle.std.proofs.Common.{ℕ, ◌+◌, ◌*◌, ◌≤◌, length, arith, rules}
use Rattle.records.specs.Groups.{at}
use Rattle.records.proofs.GroupLaws.{wholes-fit}
use Rattle.hurricane.specs.Bounds.{PlanePointIn}
use Rattle.hurricane.specs.Groups.{plane_point_at}
use Rattle.hurricane.specs.Field.{point_for}
use Rattle.hurricane.proofs.make.fill.Goals as goal

pub fill-requires-clause-callable : goal.fill-requires-clause-callable
fill-requires-clause-callable c = λ i h.
    let fit : 3 * i + 3 ≤ length c.args.sites.now = omega (arith, wholes-fit 3 (length c.args.sites.now), c.count-n.ensures) in
    let in_limits : PlanePointIn (plane_point_at c.args.sites.now i) = search rules in
    search rules

pub returns : goal.returns
returns c =
    let v = c.args.field.now in
    let point = λ (i : ℕ). point_for (at v.table.now) v.hurricane v.winds.now (plane_point_at c.args.sites.now i) in
    rw (← c.count-n.ensures) (c.fill.ensures point (λ i x h p. search rules))
