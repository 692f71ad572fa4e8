-- `Point::write` meets its contract. Assumes nothing.
use Rattle.std.proofs.Common.{arith, subst, List, ℕ}
use Rattle.listing.specs.Decimal.{decimal_of}
use Rattle.listing.specs.Put.{Wrote}
use lib.ListN.{length-append}
use Rattle.listing.proofs.Written.{wrote-next, wrote_on}
use Rattle.deck.proofs.TextLaws.{point-length, point-parts}
use Rattle.deck.proofs.walk.Point.write.Goals as goal

pub write_decimal-middle-requires : goal.write_decimal-middle-requires
write_decimal-middle-requires c = omega (arith, point-length c.args.self.distance c.args.self.depth)

pub write_decimal-requires : goal.write_decimal-requires
write_decimal-requires c =
    omega (arith, point-length c.args.self.distance c.args.self.depth, wrote-next (decimal_of c.args.self.distance) 32 c.write_decimal-middle.ensures)

pub returns : goal.returns
returns c =
    subst (λ (l : List ℕ). Wrote l c.args.at c.args.out.now c.write_decimal.result c.write_decimal.new.out) (point-parts c.args.self.distance c.args.self.depth)
    (wrote_on c.write_decimal-middle.ensures c.write_decimal.ensures (simp length-append (omega (arith, point-length c.args.self.distance c.args.self.depth))))
