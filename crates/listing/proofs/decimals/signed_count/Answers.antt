-- `decimals::signed_count` meets its contract. Assumes nothing.
use Rattle.std.proofs.Common.{arith}
use mir.Facts.{to_z-of_z}
use Rattle.listing.proofs.Lines.{signed-most}
use Rattle.listing.proofs.Signed.{signed-length}
use Rattle.listing.proofs.decimals.signed_count.Goals as goal

pub returns : goal.returns
returns c =
    let minus = simp (to_z-of_z, c.ranges.x) at c.from.ensures in
    let size = simp (to_z-of_z, c.ranges.x) at c.unsigned_abs.ensures.value in
    let e = signed-length c.args.x _ size in
    (omega (arith, e, minus), omega (arith, e, minus, signed-most c.args.x c.ranges.x))
