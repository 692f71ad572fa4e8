-- `load_profile` meets its contract: the names line, the lines and their entries, the room, and then the table. Assumes nothing.
use Rattle.std.proofs.Common.{◌≡◌, sym, ◌∙◌, Err, length, leb, rules}
use borrow.Author.Tests.{leb-true, leb-false}
use Rattle.records.proofs.CheckOrderLaws.{need-passed, need-failed}
use Rattle.profile.proofs.LoadLaws.{name-refused, entries-refused, room-refused, not-refused, table-loaded}
use Rattle.profile.proofs.load_profile.Goals as goal

pub returns-in_err-first : goal.returns-in_err-first
returns-in_err-first c =
    let e : c.from_residual.result ≡ Err c.in_err-first.field-0.0 = search rules in
    rw e (name-refused c.args.s.now c.args.room.now _ (sym c.names.ensures ∙ c.in_err-first.was))

pub returns-in_err-check_entries : goal.returns-in_err-check_entries
returns-in_err-check_entries c =
    let e : c.from_residual-in_err-check_entries.result ≡ Err c.in_err-check_entries.field-0.0 = search rules in
    rw e
    (entries-refused c.args.s.now c.args.room.now c.in_ok-first.first (sym c.names.ensures ∙ c.in_ok-first.was) _ (sym c.check_entries.ensures ∙ c.in_err-check_entries.was))

pub returns-in_err-need : goal.returns-in_err-need
returns-in_err-need c =
    let e : c.from_residual-in_err-need.result ≡ Err c.in_err-need.field-0.0 = search rules in
    let f = need-failed (leb 1001 (length c.args.room.now)) c.in_err-need.ensures in
    rw (e, f.1, c.new.ensures)
    (room-refused c.args.s.now c.args.room.now c.in_ok-first.first (sym c.names.ensures ∙ c.in_ok-first.was) (sym c.check_entries.ensures ∙ c.in_ok-check_entries.was) (leb-false _ _ f.0))

pub returns-in_err-lines : goal.returns-in_err-lines
returns-in_err-lines c =
    absurd
    (not-refused c.args.s.now c.args.room.now c.in_ok-first.first (sym c.names.ensures ∙ c.in_ok-first.was) (sym c.check_entries.ensures ∙ c.in_ok-check_entries.was) _ _
    c.lines.ensures _ c.in_err-lines.was)

pub returns : goal.returns
returns c =
    let f = need-passed (leb 1001 (length c.args.room.now)) c.new.result (sym c.need.ensures ∙ c.in_ok-need.was) in
    table-loaded c.args.s.now c.args.room.now c.in_ok-first.first (sym c.names.ensures ∙ c.in_ok-first.was) (sym c.check_entries.ensures ∙ c.in_ok-check_entries.was) _ _
    c.lines.ensures (leb-true _ _ f)
