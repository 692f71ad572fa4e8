-- `Storm::print` meets its contract. Assumes nothing.
use Rattle.std.proofs.Common.{◌≡◌, ◌-◌, arith}
use Rattle.surge.proofs.Storm.print.Goals as goal

-- nothing waits after a write of what waited
pub returns-in-Ok-clause-printed : goal.returns-in-Ok-clause-printed
returns-in-Ok-clause-printed c =
    let went = rw c.in-Ok.is at c.requires.written in
    let none : c.args.used - c.in-Ok.n ≡ 0 = omega (arith, went) in
    rw c.in-Ok.is (record { opened = _; marches = rw none at c.march.ensures.marched })
