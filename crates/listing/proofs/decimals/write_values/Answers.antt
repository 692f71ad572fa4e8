-- `decimals::write_values` meets its contract. Assumes nothing.
use Rattle.std.proofs.Common.{arith}
use mir.Facts.{to_z-of_z}
use Rattle.listing.specs.Decimal.{signed_text}
use Rattle.listing.proofs.Written.{wrote-next}
use Rattle.listing.proofs.Lines.{wrote-three, values-length, values-parts}
use Rattle.listing.proofs.decimals.write_values.Goals as goal

pub write_signed-second-requires : goal.write_signed-second-requires
write_signed-second-requires c = simp (to_z-of_z, c.ranges.a) (omega (arith, values-length c.args.a c.args.b c.args.c))

pub write_signed-third-requires : goal.write_signed-third-requires
write_signed-third-requires c =
    let p = simp (to_z-of_z, c.ranges.a) at c.write_signed-second.ensures in
    simp (to_z-of_z, c.ranges.b) (omega (arith, values-length c.args.a c.args.b c.args.c, wrote-next (signed_text c.args.a) 32 p))

pub write_signed-requires : goal.write_signed-requires
write_signed-requires c =
    let p = simp (to_z-of_z, c.ranges.a) at c.write_signed-second.ensures in
    let q = simp (to_z-of_z, c.ranges.b) at c.write_signed-third.ensures in
    simp (to_z-of_z, c.ranges.c)
    (omega (arith, values-length c.args.a c.args.b c.args.c, wrote-next (signed_text c.args.a) 32 p, wrote-next (signed_text c.args.b) 32 q))

pub returns : goal.returns
returns c =
    wrote-three (values-parts c.args.a c.args.b c.args.c) c.requires
    (simp (to_z-of_z, c.ranges.a) at c.write_signed-second.ensures)
    (simp (to_z-of_z, c.ranges.b) at c.write_signed-third.ensures)
    (simp (to_z-of_z, c.ranges.c) at c.write_signed.ensures)
