-- `put_line` meets its contract: no line is longer than the room. Assumes nothing.
use Rattle.std.proofs.Common.{refl, arith}
use Rattle.listing.proofs.Answer.{next-told, put-some}
use Rattle.hydrograph.proofs.put_line.Goals as goal

pub unwrap-requires : goal.unwrap-requires
unwrap-requires c =
    let put = c.put.ensures in
    rw (put-some _ c.args.used c.args.out.now _ _ put.whole (omega (arith, put.short))) refl

pub returns : goal.returns
returns c =
    let h = next-told _ c.args.used c.args.out.now _ _ (rw c.unwrap.ensures at c.put.ensures.whole) in
    record { place = h.place; within = omega (arith, h.within, h.long); out_after = h.buffer }
