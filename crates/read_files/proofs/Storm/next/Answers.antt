-- `Storm::next` meets its contract. Assumes nothing.
use Rattle.std.proofs.Common.{Option, Result, Ok, Err, ◌≡◌, ◌+◌, length, sym, ap, ◌∙◌, subst, arith}
use lib.Seq.{length-take-le}
use Rattle.reader.specs.Lines.{Leaves}
use Rattle.reader.specs.declared.Cursor.{Cursor}
use Rattle.reader.specs.declared.storm.Halt.{Halt}
use Rattle.reader.specs.declared.storm.Halt.TheVariants.{More}
use Rattle.reader.proofs.Ends.{Answered, record-stands}
use Rattle.files.proofs.Asks.{AsksRecord, record-asks}
use Rattle.read_files.proofs.Storm.next.Goals as goal

pub returns-in_err-past : goal.returns-in_err-past
returns-in_err-past c e =
    let x = c.args.self.now in
    let w = c.window-text.result.bytes.now in
    let d = c.in_ok-self.field-0 in
    let f : c.in_err-past.field-0.0 ≡ More = grind arith in
    let y = subst (AsksRecord (length w) d.at) (ap (λ (y : Leaves (Result (Option Cursor) Halt)). y.answer) (sym c.in_err-past.ensures) ∙ ap (λ (h : Halt). Err h) f)
    (record-asks w c.window-text.result.last x.n d.at d.line x.numbers.now) in
    omega (arith, ap length c.window-text.ensures.bytes ∙ length-take-le x.held.have x.buf.now x.within, x.wide)

pub invariant_of-self-in-Some-clause-place : goal.invariant_of-self-in-Some-clause-place
invariant_of-self-in-Some-clause-place c =
    let x = c.args.self.now in
    let w = c.window-text.result.bytes.now in
    let d = c.in_ok-self.field-0 in
    let e = ap length c.window-text.ensures.bytes ∙ length-take-le x.held.have x.buf.now x.within in
    let y = subst (Answered (d.at + 1) (length w)) (ap (λ (y : Leaves (Result (Option Cursor) Halt)). y.answer) (sym c.in_ok-past.ensures) ∙ ap (λ (o : Option Cursor). Ok o) c.in-Some.is)
    (record-stands w c.window-text.result.last x.n d.at d.line x.numbers.now c.in_ok-self.ensures.inside) in
    omega (arith, y.1)
