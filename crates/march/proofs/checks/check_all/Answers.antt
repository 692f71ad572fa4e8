-- `check_all` meets its contract: the first refusal decides. Assumes nothing.
use Rattle.std.proofs.Common.{rules, sym, length}
use Rattle.records.specs.Shapes.{traverse_of}
use Rattle.records.proofs.GroupLaws.{wholes-fit}
use Rattle.march.proofs.ChecksPassed.{checks-are, traverse-in, lent-in}
use Rattle.march.proofs.checks.check_all.Goals as goal

pub returns-in_err-check_traverse : goal.returns-in_err-check_traverse
returns-in_err-check_traverse c = rw (checks-are _ _ _ _ _ _) (search rules)

pub check_lent-requires : goal.check_lent-requires
check_lent-requires c = rw c.count-n.ensures (traverse-in _ (traverse_of c.args.traverse) (sym c.in_ok-check_traverse.ensures)).from

pub returns-in_err-check_lent : goal.returns-in_err-check_lent
returns-in_err-check_lent c = rw (checks-are _ _ _ _ _ _) (search rules)

pub check_record-requires : goal.check_record-requires
check_record-requires c =
    let v = lent-in _ _ _ _ (sym c.in_ok-check_lent.ensures) in
    rw (← v.given_is, c.count-given.ensures) (wholes-fit 3 (length c.args.storm.points.now))

pub returns : goal.returns
returns c =
    rw (checks-are _ _ _ _ _ _, ← c.in_ok-check_traverse.ensures, ← c.count-n.ensures, ← c.count-given.ensures, ← c.in_ok-check_lent.ensures) c.check_record.ensures
