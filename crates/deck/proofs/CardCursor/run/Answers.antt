-- `CardCursor::run` meets its contract. Assumes nothing.
use Rattle.std.proofs.Common.{ap, arith, rules}
use native.Mathlib.Numerals.{add-one}
use native.Mathlib.Nat.{pow-suc}
use Rattle.reader.proofs.Digits.{within, digit-some, digit-none, scan-more, scan-ended, scan-full}
use Rattle.deck.proofs.NumberLaws.{run-is}
use Rattle.deck.proofs.CardCursor.run.Goals as goal

pub past-requires : goal.past-requires
past-requires c = let w = within c.args.s.now c.loop.run.past.at (digit-some _ _ _ c.in-Some.ensures).1 in search rules

pub loop-preserved : goal.loop-preserved
loop-preserved c =
    let h = c.loop.invariant.scan in
    let d = digit-some c.args.s.now c.loop.run.past.at c.in-Some.d c.in-Some.ensures in
    record {
      turns = omega arith;
      scan = scan-more h _ _ d.0 d.1 (omega arith) (ap (λ x. x.at) c.past.ensures);
      scale = rw (add-one c.loop.run.count, pow-suc) (omega arith);
    }

pub returns-after-loop : goal.returns-after-loop
returns-after-loop c = let h = c.loop.invariant.scan in run-is h (scan-full h (omega arith)) _ c.loop.invariant.scale

pub returns-in_default : goal.returns-in_default
returns-in_default c = let h = c.loop.invariant.scan in run-is h (scan-ended h (digit-none _ _ c.in_default.ensures)) _ c.loop.invariant.scale
