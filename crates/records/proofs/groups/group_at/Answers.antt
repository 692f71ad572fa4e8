-- `group_at` meets its contract. Assumes nothing.
use Rattle.std.proofs.Common.{◌∙◌, ◌*◌}
use Rattle.records.specs.Groups.{group_at}
use Rattle.records.proofs.GroupLaws.{part-from}
use Rattle.records.proofs.groups.group_at.Goals as goal

pub returns : goal.returns
unfolding group_at
returns g c =
    let e = c.read.ensures in
    (rw (c.NUMBERS.ensures, c.NUMBERS-2.ensures) at e)
    ∙ g.met.G.Group.laws.near _ _ (part-from (g.G.Group.NUMBERS * c.args.i) g.G.Group.NUMBERS c.args.list.now c.requires)
