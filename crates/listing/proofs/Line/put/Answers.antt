-- `Line::put` meets its contract. Assumes nothing.
use Rattle.listing.proofs.Answer.{put_full, put_next}
use Rattle.listing.proofs.Line.put.Goals as goal

pub returns-then-has_room-clause-whole : goal.returns-then-has_room-clause-whole
returns-then-has_room-clause-whole c = put_next _ _ _ _ c.count.ensures.value _ c.has_room.ensures c.if-has_room.true c.write.ensures

pub returns-else-has_room-clause-whole : goal.returns-else-has_room-clause-whole
returns-else-has_room-clause-whole c = put_full _ _ _ _ c.count.ensures.value _ c.has_room.ensures c.if-has_room.false
