-- `read_traverse` meets its contract. Assumes nothing.
use Rattle.std.proofs.Common.{Ok, Err, ◌≡◌, ap, arith}
use Rattle.reader.specs.declared.traverse.Progress.{Progress}
use Rattle.reader.specs.declared.traverse.Progress.TheVariants as progress
use Rattle.reader.proofs.Steps.{whole_is, whole-ends}
use Rattle.reader.proofs.traverse.read_traverse.Goals as goal

pub returns-in_err-traverse : goal.returns-in_err-traverse
returns-in_err-traverse c =
    let e : c.from_residual.result ≡ Err c.in_err-traverse.field-0.0 = grind arith in
    rw e (whole_is _ _ _ _ (Err c.in_err-traverse.field-0.0) c.in_err-traverse.ensures c.start.ensures)

pub returns : goal.returns
returns c = whole_is _ _ _ _ (Ok (progress.Read c.in-Read.traverse)) (rw c.in-Read.is at c.in_ok-traverse.ensures) c.start.ensures

-- the text ends with the window
pub unreachable-requires : goal.unreachable-requires
unreachable-requires c = whole-ends _ _ _ _ _ c.in_ok-traverse.ensures _ _ (ap (λ (p : Progress). Ok p) c.in-More.is)
