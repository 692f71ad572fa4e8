-- `take_numbers` meets its contract. Assumes nothing.
use Rattle.std.proofs.Common.{rules, arith}
use Rattle.lent.specs.Numbers.{buffers_ok}
use Rattle.lent.specs.Calls.{take_numbers}
use Rattle.lent.proofs.CallLaws.{size-rows, refused-numbers}
use Rattle.lent.proofs.taking.take_numbers.Goals as goal

-- there is scratch for as many segments as there can be
pub take_with-requires : goal.take_with-requires
take_with-requires c g =
    let few = size-rows g.args.n g.args.numbers.now in
    rw g.rows_size-size.ensures (omega (arith, few, g.requires.0), g.requires.1)

-- a refused record leaves the numbers
pub returns-in-Err : goal.returns-in-Err
unfolding take_numbers buffers_ok
returns-in-Err c g =
    rw (refused-numbers _ _ _ _ g.rows_size-size.result g.args.numbers.now g.args.setup.now g.in-Err.refusal _ _ _ g.in-Err.ensures) (search rules)
