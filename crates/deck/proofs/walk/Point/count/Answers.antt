-- `Point::count` meets its contract. Assumes nothing.
use Rattle.std.proofs.Common.{arith}
use Rattle.deck.proofs.TextLaws.{point-length}
use Rattle.deck.proofs.walk.Point.count.Goals as goal

pub returns : goal.returns
returns c = omega (arith, point-length c.args.self.distance c.args.self.depth, c.digit_count.ensures.0, c.digit_count-2.ensures.0)
