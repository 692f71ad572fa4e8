-- `check_cards`: a card whose word is not closed by a space is malformed; any other is as `Tally::card` says, and the next one begins past it. Assumes nothing.
use Rattle.std.proofs.Common.{ℕ, min, ◌<◌, ◌^◌, ◌-◌, Err, ◌≡◌, ◌+◌, sym, ap, ◌∙◌, arith}
use Rattle.deck.specs.declared.CardCursor.{CardCursor}
use Rattle.deck.specs.Checks.{card_step}
use Rattle.deck.proofs.CheckLaws.{Reads, cards-ended, cards-refused, cards-read, word-on, card-closed, card-cut}
use Rattle.reader.specs.Text.{more}
use Rattle.deck.proofs.cards.check_cards.Goals as goal

pub loop-b-preserved : goal.loop-b-preserved
loop-b-preserved c =
    let e : c.past-c.result.at ≡ c.loop-b.c.at + 1 = ap (λ (x : CardCursor). x.at) c.past-c.ensures in
    record {
      from = omega arith;
      within = omega arith;
      here = c.byte-b-in-loop-b.ensures;
      rest = rw e (word-on _ _ _ _ c.loop-b.invariant.here c.loop-b.invariant.from c.if-c-s-2.false c.loop-b-test.true c.if-b-eq10.false ∙ c.loop-b.invariant.rest);
    }

-- the library's count of one more line is the definition's
counted : (n r : ℕ) → n < 2 ^ 64 → r ≡ min (n + 1) (2 ^ 64 - 1) → r ≡ more n
unfolding more
counted n r h e = grind arith

-- what reading this card does
read-here : (c : goal.In-Ok) → Reads c.args.s.now c.cards.c.at c.cards.line c.saturating_add-line.result c.cards.tally c.in-Ok.next c.in-Ok.past.at
read-here c =
    cards-read _ _ _ _ _ c.if-c-s.false (counted c.cards.line _ c.cards.invariant.line c.saturating_add-line.ensures) _ _
    (ap (card_step c.cards.tally) (card-closed _ _ _ _ c.loop-b.invariant.here _ c.loop-b.invariant.rest c.loop-b-test.false) ∙ sym c.card.ensures ∙ c.in-Ok.is)

pub cards-smaller : goal.cards-smaller
cards-smaller c = let r = read-here c in omega arith

pub cards-preserved : goal.cards-preserved
cards-preserved c = let r = read-here c in record { within = r.within; line = c.saturating_add-line.type_inv; counts = omega arith; rest = r.same ∙ c.cards.invariant.rest }

pub returns-then-c-s : goal.returns-then-c-s
returns-then-c-s c = cards-ended _ _ _ _ _ c.if-c-s.true ∙ c.cards.invariant.rest

pub returns-then-c-s-2 : goal.returns-then-c-s-2
returns-then-c-s-2 c =
    ap Err c.new.ensures
    ∙ cards-refused _ _ _ _ _ c.if-c-s.false (counted c.cards.line _ c.cards.invariant.line c.saturating_add-line.ensures) _
    (ap (card_step c.cards.tally) (card-cut _ _ _ _ c.loop-b.invariant.here _ c.loop-b.invariant.rest c.loop-b-test.true c.then-c-s-2.either))
    ∙ c.cards.invariant.rest

pub returns-in-Err : goal.returns-in-Err
returns-in-Err c =
    ap Err c.new-in-Err.ensures
    ∙ cards-refused _ _ _ _ _ c.if-c-s.false (counted c.cards.line _ c.cards.invariant.line c.saturating_add-line.ensures) _
    (ap (card_step c.cards.tally) (card-closed _ _ _ _ c.loop-b.invariant.here _ c.loop-b.invariant.rest c.loop-b-test.false) ∙ sym c.card.ensures ∙ c.in-Err.is)
    ∙ c.cards.invariant.rest
