-- `write_refused` meets its contract. Assumes nothing.
use Rattle.std.proofs.Common.{arith}
use Rattle.listing.specs.Decimal.{decimal_of}
use Rattle.listing.proofs.Written.{wrote-next}
use Rattle.listing.proofs.Lines.{wrote-three, refused-length, refused-parts}
use Rattle.listing.proofs.write_refused.Goals as goal

pub write_bytes-second-requires : goal.write_bytes-second-requires
write_bytes-second-requires c = omega (arith, refused-length c.args.number c.args.place)

pub write_decimal-third-requires : goal.write_decimal-third-requires
write_decimal-third-requires c = omega (arith, refused-length c.args.number c.args.place, c.write_bytes-second.ensures.place)

pub write_decimal-requires : goal.write_decimal-requires
write_decimal-requires c =
    omega (
      arith,
      refused-length c.args.number c.args.place,
      c.write_bytes-second.ensures.place,
      wrote-next (decimal_of c.args.number) 32 c.write_decimal-third.ensures,
    )

pub returns : goal.returns
returns c =
    wrote-three (refused-parts c.args.number c.args.place) c.requires
    c.write_bytes-second.ensures
    c.write_decimal-third.ensures
    c.write_decimal.ensures
