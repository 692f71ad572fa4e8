-- `decimals::write_decimal` meets its contract: what the library prints are its digits. Assumes nothing.
use Rattle.std.proofs.Common.{◌≡◌, ◌∙◌, sym, arith}
use Rattle.listing.specs.Decimal.{decimal_of}
use Rattle.listing.proofs.Decimal.{decimal-is}
use Rattle.listing.proofs.decimals.write_decimal.Goals as goal
use Rattle.listing.proofs.decimals.write_decimal.Goals.{After-as_bytes}

printed : (c : After-as_bytes) → c.as_bytes.result.now ≡ decimal_of c.args.n
printed c = c.as_bytes.ensures.value ∙ c.format.ensures.text ∙ sym (decimal-is c.args.n (omega arith))

pub write_closed-requires : goal.write_closed-requires
write_closed-requires c = rw (printed (goal.at.write_closed-requires c).After-as_bytes) c.requires

pub returns : goal.returns
returns c = rw (printed (goal.at.returns c).After-as_bytes) at c.write_closed.ensures
