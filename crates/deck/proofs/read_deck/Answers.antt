-- `read_deck` meets its contract. Assumes nothing.
use Rattle.std.proofs.Common.{Err, ◌≡◌, ◌∙◌, sym, arith, not, eqb}
use borrow.Author.Tests.{eqb-true, eqb-false, not-false}
use Rattle.records.proofs.CheckOrderLaws.{need-passed, need-failed}
use Rattle.deck.proofs.CallLaws.{values-passed, byte-passed, converts-valued, converts-empty, converts-refused, converts-unequal, converts-equal}
use Rattle.deck.proofs.read_deck.Goals as goal

pub returns-in_err-need : goal.returns-in_err-need
returns-in_err-need c =
    let e : c.from_residual.result ≡ Err c.in_err-need.field-0.0 = grind arith in
    let f = need-failed c.head_ok.result c.in_err-need.ensures in
    rw (e, f.1, c.new.ensures) (converts-valued _ _ _ (sym c.head_ok.ensures ∙ f.0))

pub returns-in_err-need-2 : goal.returns-in_err-need-2
returns-in_err-need-2 c =
    let e : c.from_residual-in_err-need-2.result ≡ Err c.in_err-need-2.field-0.0 = grind arith in
    let f = need-failed (not c.is_empty.result) c.in_err-need-2.ensures in
    rw (e, f.1, c.new-2.ensures)
    (converts-empty _ _ _ (values-passed _ _ c.head_ok.ensures c.in_ok-need.ensures) (eqb-true _ _ (sym c.is_empty.ensures ∙ not-false _ f.0)))

pub returns-in_err-counts : goal.returns-in_err-counts
returns-in_err-counts c =
    let e : c.from_residual-in_err-counts.result ≡ Err c.in_err-counts.field-0.0 = grind arith in
    rw e
    (converts-refused _ _ _ (values-passed _ _ c.head_ok.ensures c.in_ok-need.ensures) (byte-passed _ _ c.is_empty.ensures c.in_ok-need-2.ensures)
    _ c.in_err-counts.ensures)

pub returns-in_err-need-3 : goal.returns-in_err-need-3
returns-in_err-need-3 c =
    let e : c.from_residual-in_err-need-3.result ≡ Err c.in_err-need-3.field-0.0 = grind arith in
    let f = need-failed (eqb c.in_ok-counts.counts.distances c.in_ok-counts.counts.depths) c.in_err-need-3.ensures in
    rw (e, f.1, c.new-3.ensures)
    (converts-unequal _ _ _ (values-passed _ _ c.head_ok.ensures c.in_ok-need.ensures) (byte-passed _ _ c.is_empty.ensures c.in_ok-need-2.ensures)
    _ c.in_ok-counts.ensures (eqb-false _ _ f.0))

pub returns : goal.returns
returns c =
    let f = need-passed (eqb c.in_ok-counts.counts.distances c.in_ok-counts.counts.depths) c.new-3.result (sym c.in_ok-need-3.ensures) in
    converts-equal _ _ _ (values-passed _ _ c.head_ok.ensures c.in_ok-need.ensures) (byte-passed _ _ c.is_empty.ensures c.in_ok-need-2.ensures)
    _ c.in_ok-counts.ensures (eqb-true _ _ f) c.put_text.ensures
