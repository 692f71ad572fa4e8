-- `decimals::values_count` meets its contract. Assumes nothing.
use Rattle.std.proofs.Common.{arith}
use mir.Facts.{to_z-of_z}
use Rattle.listing.proofs.Lines.{values-length, record-most}
use Rattle.listing.proofs.decimals.values_count.Goals as goal

pub returns : goal.returns
returns c =
    let a = simp (to_z-of_z, c.ranges.a) at c.signed_count.ensures.0 in
    let b = simp (to_z-of_z, c.ranges.b) at c.signed_count-2.ensures.0 in
    let d = simp (to_z-of_z, c.ranges.c) at c.signed_count-3.ensures.0 in
    let l = values-length c.args.a c.args.b c.args.c in
    let m = record-most c.args.a c.args.b c.args.c c.ranges.a c.ranges.b c.ranges.c in
    (omega (arith, l, a, b, d), omega (arith, l, m, a, b, d))
