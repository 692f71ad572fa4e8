-- `text::put_text` meets its contract. Assumes nothing.
use Rattle.std.proofs.Common.{Err, ◌≡◌, ◌∙◌, sym, arith}
use Rattle.records.proofs.CheckOrderLaws.{need-passed, need-failed}
use Rattle.deck.specs.Deck.{head_lines}
use Rattle.deck.proofs.TextLaws.{fits-room, put-short, put_whole}
use Rattle.deck.proofs.text.put_text.Goals as goal

pub returns-in_err-need : goal.returns-in_err-need
returns-in_err-need c =
    let e : c.from_residual.result ≡ Err c.in_err-need.field-0.0 = grind arith in
    let f = need-failed c.text_fits.result c.in_err-need.ensures in
    rw (e, f.1, c.new.ensures)
    (put-short c.args.s.now _ _ _ c.first-distance.ensures c.forward-depth.ensures (head_lines c.args.h) _ (sym c.text_fits.ensures ∙ f.0))

pub write_head-at-requires : goal.write_head-at-requires
write_head-at-requires c =
    let r = fits-room (head_lines c.args.h) _ _ (sym c.text_fits.ensures ∙ need-passed c.text_fits.result c.new.result (sym c.in_ok-need.ensures)) in
    omega arith

pub write_points-requires : goal.write_points-requires
write_points-requires c =
    let r = fits-room (head_lines c.args.h) _ _ (sym c.text_fits.ensures ∙ need-passed c.text_fits.result c.new.result (sym c.in_ok-need.ensures)) in
    omega (arith, c.write_head-at.ensures.place)

pub returns : goal.returns
returns c =
    put_whole c.args.s.now _ _ _ c.first-distance.ensures c.forward-depth.ensures (head_lines c.args.h) _ c.write_head-at.ensures c.write_points.ensures
    (sym c.text_fits.ensures ∙ need-passed c.text_fits.result c.new.result (sym c.in_ok-need.ensures))
