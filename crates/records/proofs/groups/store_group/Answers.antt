-- `store_group` meets its contract. Assumes nothing.
use Rattle.std.proofs.Common.{◌*◌}
use Rattle.records.specs.Groups.{put_group}
use Rattle.records.proofs.GroupLaws.{part-sets}
use Rattle.records.proofs.groups.store_group.Goals as goal

pub returns : goal.returns
unfolding put_group
returns g c =
    rw (c.NUMBERS.ensures, c.NUMBERS-2.ensures, c.write.ensures)
    (part-sets (g.G.Group.NUMBERS * c.args.i) g.G.Group.NUMBERS c.args.list.now c.requires _ (g.met.G.Group.laws.long c.args.group))
