-- `fill` meets its contract. Assumes nothing.
use Rattle.records.specs.Groups.{put_group}
use Rattle.records.proofs.GroupLaws.{stored-start, stored_on, stored-end}
use Rattle.records.proofs.groups.fill.Goals as goal

pub loop-i-init : goal.loop-i-init
loop-i-init g c = λ view a. stored-start _ _ _ _ _ c.requires.room

pub loop-i-preserved : goal.loop-i-preserved
unfolding put_group
loop-i-preserved g c = λ view a.
    rw (c.store_group.ensures, a c.loop-i.i _ c.loop-i-test.true c.group.ensures)
    (stored_on _ _ _ _ c.loop-i.list c.loop-i.i (c.loop-i.invariant view a) c.loop-i-test.true (g.met.G.Group.laws.long _))

pub returns : goal.returns
returns g c = λ view a. stored-end _ _ _ _ c.loop-i.list c.loop-i.i (c.loop-i.invariant view a) c.loop-i-test.false
