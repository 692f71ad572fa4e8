-- `check_entries` meets its contract: a line more, and the entries from the next on. Assumes nothing.
use Rattle.std.proofs.Common.{◌≡◌, sym, ap, ◌∙◌, Result, Err, rules, arith}
use Rattle.records.specs.declared.Refusal.{Refusal}
use Rattle.hurricane.specs.declared.profile.Judged.{Judged}
use Rattle.hurricane.specs.Profile.{judged_end}
use Rattle.hurricane.proofs.ProfileLaws.{on_judged}
use Rattle.records.specs.Groups.{at}
use Rattle.profile.proofs.EntryLaws.{judged_next, next-is, rest-start, rest-ended, line-read, line-refused}
use Rattle.profile.proofs.check_entries.Goals as goal

pub loop-c-init : goal.loop-c-init
loop-c-init c = rw c.none.ensures (rest-start c.args.s.now c.args.first.at c.args.first.line)

pub returns-in_err-c : goal.returns-in_err-c
returns-in_err-c c =
    let e : c.from_residual.result ≡ Err c.in_err-c.field-0.0 = search rules in
    e ∙ line-refused c.args.s.now c.loop-c.c.at c.loop-c.c.line c.loop-c-test.true _ _ (rw c.in_err-c.was at c.lines.ensures) c.loop-c.judged ∙ c.loop-c.invariant

-- the next entry is judged
next : (c : goal.After-and_then-judged) → c.and_then-judged.result ≡ judged_next c.loop-c.judged (at c.lines.new.out 0)
next c = next-is c.loop-c.judged c.and_then-judged.result (at c.lines.new.out 0) _ c.and_then-judged.ensures (λ j p. search rules)

pub loop-c-smaller : goal.loop-c-smaller
loop-c-smaller c =
    let r = line-read c.args.s.now c.loop-c.c.at c.loop-c.c.line c.loop-c-test.true _ c.in_ok-c.c (rw c.in_ok-c.was at c.lines.ensures) c.loop-c.judged in
    omega (arith, r.0)

pub loop-c-preserved : goal.loop-c-preserved
loop-c-preserved c =
    let r = line-read c.args.s.now c.loop-c.c.at c.loop-c.c.line c.loop-c-test.true _ c.in_ok-c.c (rw c.in_ok-c.was at c.lines.ensures) c.loop-c.judged in
    rw (next c) r.1 ∙ c.loop-c.invariant

pub returns-in_err-judged : goal.returns-in_err-judged
returns-in_err-judged c =
    let e : c.from_residual-in_err-judged.result ≡ Err c.in_err-judged.field-0.0 = search rules in
    e ∙ ap (λ (x : Result Judged Refusal). on_judged x (λ j. judged_end j)) (sym c.in_err-judged.was)
    ∙ rest-ended c.args.s.now c.loop-c.judged c.loop-c.c.at c.loop-c.c.line c.loop-c-test.false ∙ c.loop-c.invariant

pub returns : goal.returns
returns c =
    c.end.ensures ∙ ap (λ (x : Result Judged Refusal). on_judged x (λ j. judged_end j)) (sym c.in_ok-judged.was)
    ∙ rest-ended c.args.s.now c.loop-c.judged c.loop-c.c.at c.loop-c.c.line c.loop-c-test.false ∙ c.loop-c.invariant
