-- `text::head_count` meets its contract. Assumes nothing.
use Rattle.std.proofs.Common.{arith, rules}
use Rattle.deck.proofs.TextLaws.{bits-short, head-length}
use Rattle.deck.proofs.text.head_count.Goals as goal

pub overflow_add-result : goal.overflow_add-result
overflow_add-result c = omega (arith, c.values_count.ensures, bits-short c.args.h (search rules))

pub overflow_add-result-2 : goal.overflow_add-result-2
overflow_add-result-2 c = omega (arith, c.values_count.ensures, bits-short c.args.h (search rules))

pub returns : goal.returns
returns c = omega (arith, c.values_count.ensures, head-length c.args.h (search rules))
