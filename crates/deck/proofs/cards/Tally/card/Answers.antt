-- `Tally::card`: a card with no word, or with no card number behind it, has no card's shape; any other is as its numbers say. Assumes nothing.
use Rattle.std.proofs.Common.{Err, Some, None, ◌≡◌, refl, sym, ap, ◌∙◌, arith}
use Rattle.deck.specs.declared.CardCursor.{CardCursor}
use Rattle.deck.specs.Checks.{card_step}
use Rattle.deck.proofs.CheckLaws.{or-none, counted-past, card-wordless, number-space, run-past, step-unnumbered, step-numbered}
use Rattle.deck.proofs.cards.Tally.card.Goals as goal

pub returns-then-end-from : goal.returns-then-end-from
returns-then-end-from c = sym (ap (card_step c.args.self) (card-wordless c.args.s.now c.args.from.at c.args.end.at c.if-end-from.true))

pub returns-then-not-card_number : goal.returns-then-not-card_number
returns-then-not-card_number c =
    step-unnumbered _ _ _ _ _ c.if-end-from.false c.requires.space c.past.ensures c.run-n.ensures _ (sym c.if-not-card_number.ensures)

pub past-requires-2 : goal.past-requires-2
past-requires-2 c = omega (arith, number-space c.args.s.now _ _ (sym c.if-not-card_number.ensures))

pub returns-in_err-x : goal.returns-in_err-x
returns-in_err-x c =
    let e : c.from_residual.result ≡ Err c.in_err-x.field-0.0 = grind arith in
    let f = or-none c.numbers.result c.in_err-x.ensures.value in
    rw (e, f.1)
    (step-numbered _ _ _ _ _ c.if-end-from.false c.requires.space c.past.ensures c.run-n.ensures _ (sym c.if-not-card_number.ensures)
    _ c.past-2.ensures _ refl None (sym f.0 ∙ c.numbers.ensures))

pub returns-in_err-word : goal.returns-in_err-word
returns-in_err-word c =
    let e : c.from_residual-in_err-word.result ≡ Err c.in_err-word.field-0.0 = grind arith in
    let f = or-none c.word.result c.in_err-word.ensures.value in
    rw (e, f.1)
    (step-numbered _ _ _ _ _ c.if-end-from.false c.requires.space c.past.ensures c.run-n.ensures _ (sym c.if-not-card_number.ensures)
    _ c.past-2.ensures None (sym f.0 ∙ c.word.ensures) (Some c.in_ok-x.x) (sym c.in_ok-x.ensures.ok_part ∙ c.numbers.ensures))

pub placed-requires : goal.placed-requires
placed-requires c =
    let r = counted-past c.args.s.now 6 c.past-2.result.at c.in_ok-x.x (sym c.numbers.ensures ∙ c.in_ok-x.ensures.ok_part) in
    omega (
      arith,
      run-past _ _ _ _ _ c.if-end-from.false c.requires.space c.past.ensures c.run-n.ensures,
      ap (λ (x : CardCursor). x.at) c.past-2.ensures,
    )

pub returns : goal.returns
returns c =
    c.placed.ensures
    ∙ step-numbered _ _ _ _ _ c.if-end-from.false c.requires.space c.past.ensures c.run-n.ensures _ (sym c.if-not-card_number.ensures)
    _ c.past-2.ensures (Some c.in_ok-word.word) (sym c.in_ok-word.ensures.ok_part ∙ c.word.ensures) (Some c.in_ok-x.x) (sym c.in_ok-x.ensures.ok_part ∙ c.numbers.ensures)
