-- `CardCursor::past_space` meets its contract. Assumes nothing.
use Rattle.std.proofs.Common.{◌≡◌, ◌+◌, ◌-◌, ◌∙◌, sym, ap, arith, length}
use Rattle.std.proofs.Math.Nat.{sub-add-eq-max}
use Rattle.deck.specs.Number.{cursor}
use Rattle.deck.specs.Walk.{past_space}
use Rattle.deck.proofs.TextLaws.{space-here, space-on, spaces-ended}
use Rattle.deck.proofs.CardCursor.past_space.Goals as goal

pub loop-at-init : goal.loop-at-init
unfolding past_space
loop-at-init c = let e : length c.args.s.now - (c.args.self.at - c.args.self.at) ≡ length c.args.s.now = omega arith in record { within = omega arith; rest = rw e }

pub returns-then-s-at-eq32 : goal.returns-then-s-at-eq32
returns-then-s-at-eq32 c =
    ap cursor
    (sym (space-here c.args.s.now _ (length c.args.s.now - (c.loop-at.at + 1 - c.args.self.at)) _ (omega arith) c.loop-at-test.true c.if-s-at-eq32.true)
    ∙ c.loop-at.invariant.rest)

pub loop-at-preserved : goal.loop-at-preserved
loop-at-preserved c = record {
  within = omega arith;
  rest = space-on c.args.s.now _ _ _ (omega arith) c.loop-at-test.true c.if-s-at-eq32.false ∙ c.loop-at.invariant.rest;
}

pub returns : goal.returns
returns c =
    let e : c.max.result ≡ c.loop-at.at = omega (arith, c.max.ensures, sub-add-eq-max c.args.self.at (length c.args.s.now)) in
    ap cursor (e ∙ sym (spaces-ended c.args.s.now _ 1 _ c.loop-at-test.false) ∙ c.loop-at.invariant.rest)
