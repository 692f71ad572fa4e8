-- `text::write_points` meets its contract. Assumes nothing.
use Rattle.std.proofs.Common.{◌∙◌, ◌-◌, ◌+◌, arith}
use Rattle.deck.proofs.TextLaws.{lines-length, ends-more, write-none, write-more}
use Rattle.deck.proofs.text.write_points.Goals as goal

pub write-place-requires : goal.write-place-requires
write-place-requires c =
    let i = c.loop.invariant in
    omega (arith, lines-length c.args.s.now (c.args.n - c.loop.counter) (c.args.n - (c.loop.counter + 1)) c.loop.points c.step.result (omega arith) c.step.ensures)

pub loop-preserved : goal.loop-preserved
loop-preserved c =
    let i = c.loop.invariant in
    let w = c.write-place.ensures in
    record {
      size = omega arith;
      ends = ends-more c.args.s.now _ _ _ _ (omega arith) c.step.ensures w (omega arith) ∙ i.ends;
      whole = write-more c.args.s.now _ _ _ _ (omega arith) c.step.ensures w (omega arith) ∙ i.whole;
    }

pub returns : goal.returns
returns c =
    let i = c.loop.invariant in
    write-none c.args.s.now _ _ _ (omega arith) i.ends i.whole
