-- `CardCursor::decimal` meets its contract. Assumes nothing.
use Rattle.std.proofs.Common.{arith}
use Rattle.deck.proofs.NumberLaws.{run-small, part-run, both-tenths, decimal-is}
use Rattle.deck.proofs.CardCursor.decimal.Goals as goal

pub overflow_mul-tenfold : goal.overflow_mul-tenfold
overflow_mul-tenfold c = let p = part-run _ _ c.part-part.ensures in omega arith

pub overflow_add-result : goal.overflow_add-result
overflow_add-result c = let f = run-small _ _ c.run-front.ensures in let p = part-run _ _ c.part-part.ensures in omega arith

pub overflow_mul-result : goal.overflow_mul-result
overflow_mul-result c = let f = run-small _ _ c.run-front.ensures in omega arith

pub nonzero_div-result : goal.nonzero_div-result
nonzero_div-result c = let p = part-run _ _ c.part-part.ensures in omega arith

pub overflow_add-result-2 : goal.overflow_add-result-2
overflow_add-result-2 c = omega (arith, both-tenths _ _ (run-small _ _ c.run-front.ensures) (part-run _ _ c.part-part.ensures))

pub nonzero_rem-result : goal.nonzero_rem-result
nonzero_rem-result c = let p = part-run _ _ c.part-part.ensures in omega arith

pub returns : goal.returns
returns c = decimal-is _ _ c.run-front.ensures c.part-part.ensures
