-- `decimals::write_closed` meets its contract. Assumes nothing.
use Rattle.std.proofs.Common.{ap, arith, length}
use Rattle.listing.proofs.Written.{wrote_close, length-written}
use Rattle.listing.proofs.decimals.write_closed.Goals as goal

pub bounds-out-end : goal.bounds-out-end
bounds-out-end c =
    let w = c.write_bytes-end.ensures in
    omega (arith, w.place, c.requires, ap length w.buffer, length-written c.args.bytes.now c.args.at c.args.out.now (omega (arith, c.requires)))

pub returns : goal.returns
returns c = wrote_close c.args.close c.write_bytes-end.ensures c.requires
