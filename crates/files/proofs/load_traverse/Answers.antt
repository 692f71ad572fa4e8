-- `load_traverse` meets its contract. Assumes nothing.
use Rattle.std.proofs.Common.{Ok, Err, Result, ◌≡◌, ◌-◌, Bool, not, List, ℕ, length, ℤ, refl, sym, ap, ◌∙◌, subst, arith}
use lib.Seq.{length-take-le}
use Rattle.records.specs.declared.Refusal.{Refusal}
use Rattle.reader.specs.declared.traverse.Known.{Known}
use Rattle.reader.specs.declared.traverse.Progress.{Progress}
use Rattle.reader.specs.Lines.{Leaves}
use Rattle.reader.specs.Traverse.{Held as Known_held, held, start, traverse_step}
use Rattle.reader.proofs.Ends.{Stands, traverse-stands, Asks, traverse-asks}
use Rattle.files.specs.declared.Held.{Held}
use Rattle.files.specs.declared.Stop.TheVariants as stop
use Rattle.files.specs.Chain.{most_turns}
use Rattle.files.specs.Filled.{InFront}
use Rattle.files.specs.TraverseFile.{file_by, begun, Follows}
use Rattle.files.proofs.Reached.{reading, asked, answered, walked_on, walked-out}
use Rattle.files.proofs.Walked.{Walked, walked_none}
use Rattle.files.proofs.load_traverse.Goals as goal

-- nothing is known, no byte was read, and a file that is not there has ended
begins : {k : Known} {w : Held} (opened : Bool) (buf : List ℕ) (points : List ℤ) → k ≡ start → w ≡ record { have = 0; last = not opened }
    → Walked Follows (begun opened buf points) (reading k points 0 buf w.have w.last) most_turns
begins opened buf points e f = rw (e, f) (walked_none _)

-- a step of the window is one of what the buffer holds
of-held : {w w' : List ℕ} {last last' : Bool} {y : Leaves (Result Progress Refusal)} (h : Known_held) (line : ℕ)
    → w ≡ w' → last ≡ last' → y ≡ traverse_step w last h 0 line → y ≡ traverse_step w' last' h 0 line
of-held h line e f g = rw (sym e, sym f) g

pub loop-init : goal.loop-init
loop-init c = record { within = rw c.before-held.ensures (omega arith); walked = begins _ _ _ c.start-known.ensures c.before-held.ensures }

pub returns-in_err-traverse : goal.returns-in_err-traverse
returns-in_err-traverse c =
    let e : c.from_residual.result ≡ Err (stop.Refused c.in_err-traverse.field-0.0) = grind arith in
    rw e (answered _ _ _ _ _ c.loop.invariant.walked (Err c.in_err-traverse.field-0.0) _ (of-held _ _ c.window.ensures.bytes c.window.ensures.last c.in_err-traverse.ensures) _ _ refl refl)

pub returns-in-Read : goal.returns-in-Read
returns-in-Read c =
    answered _ _ _ _ _ c.loop.invariant.walked (Ok c.in_ok-traverse.field-0) _ (of-held _ _ c.window.ensures.bytes c.window.ensures.last c.in_ok-traverse.ensures) _ _ (sym (ap (λ (p : Progress). file_by (Ok p)) c.in-Read.is)) refl

-- a step stops for more of the text within what the window holds, and where it is short of a line
pub refill-requires : goal.refill-requires
refill-requires c =
    let t = c.loop in
    let w = c.window.result in
    let size = length w.bytes.now in
    let e = ap length c.window.ensures.bytes ∙ length-take-le t.held.have t.buf t.invariant.within in
    let f = ap (λ (y : Leaves (Result Progress Refusal)). y.answer) (sym c.in_ok-traverse.ensures) ∙ ap (λ (p : Progress). Ok p) c.in-More.is in
    let x = subst (Stands 0 size) f (traverse-stands w.bytes.now w.last size (omega arith) (held t.known t.points) 0 t.line (omega arith)) in
    let y = subst (Asks size w.last) f (traverse-asks w.bytes.now w.last (held t.known t.points) 0 t.line) in
    record { place = omega (arith, x.1); held = t.invariant.within; room = omega (arith, y.0) }

pub returns-in_err-held-in-More : goal.returns-in_err-held-in-More
returns-in_err-held-in-More c =
    let t = c.loop in
    let e : c.from_residual-in_err-held-in-More.result ≡ Err stop.Failed = grind arith in
    let s = of-held _ _ c.window.ensures.bytes c.window.ensures.last c.in_ok-traverse.ensures in
    let g = asked (reading t.known t.points t.line t.buf t.held.have t.held.last) (Ok c.in_ok-traverse.field-0) c.step.new.points s c.in-More.c c.in-More.k (ap (λ (p : Progress). Ok p) c.in-More.is) in
    rw e
    (answered _ _ _ _ _ t.invariant.walked (Ok c.in_ok-traverse.field-0) _ s _ _ (sym (ap (λ (p : Progress). file_by (Ok p)) c.in-More.is))
    (subst (λ (a : ℕ). InFront t.buf c.refill.new.buf a t.held.have) (sym g) c.in_err-held-in-More.ensures))

pub loop-preserved : goal.loop-preserved
loop-preserved c =
    let t = c.loop in
    let x = reading t.known t.points t.line t.buf t.held.have t.held.last in
    let s = of-held _ _ c.window.ensures.bytes c.window.ensures.last c.in_ok-traverse.ensures in
    let h = c.in_ok-held-in-More.ensures in
    record {
      within = h.within;
      walked = walked_on x (Ok c.in_ok-traverse.field-0) _ s (most_turns - t.counter) t.invariant.walked c.in-More.c c.in-More.k (ap (λ (p : Progress). Ok p) c.in-More.is) _ _ _ h _ (omega (arith, c.loop-test.true));
    }

pub returns : goal.returns
returns c = walked-out _ _ _ _ _ c.loop.invariant.walked (omega arith) _ refl
