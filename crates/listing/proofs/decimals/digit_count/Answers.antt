-- `decimals::digit_count` meets its contract. Assumes nothing.
use Rattle.std.proofs.Common.{arith}
use Rattle.listing.proofs.Decimal.{length-counted, length_most}
use Rattle.listing.proofs.decimals.digit_count.Goals as goal

pub returns : goal.returns
returns c =
    let r = c.checked_ilog10 in
    let e = length-counted c.args.n r.result r.ensures.none r.ensures.power_le r.ensures.next_power_gt in
    (omega (arith, e, c.unwrap_or.ensures), omega (arith, e, c.unwrap_or.ensures, length_most 19 c.args.n (omega arith)))
