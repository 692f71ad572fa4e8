-- `Line::count` meets its contract. Assumes nothing.
use Rattle.std.proofs.Common.{arith}
use Rattle.listing.proofs.Lines.{refused-length}
use Rattle.listing.proofs.Line.count.Goals as goal

pub returns-in-Refused-clause-value : goal.returns-in-Refused-clause-value
returns-in-Refused-clause-value c = rw c.in-Refused.is (omega (arith, refused-length c.in-Refused.number c.in-Refused.place))
