-- `stress` meets its contract: a calm apart, and k times w². Assumes nothing.
use Rattle.std.proofs.Common.{rules}
use Rattle.forcing.proofs.StressLaws.{calm-is, times}
use Rattle.forcing.proofs.winds.Wind.stress.Goals as goal

pub returns-in-0 : goal.returns-in-0
returns-in-0 c = search (rules, calm-is)

pub overflow_mul-result-in-1-to-2000 : goal.overflow_mul-result-in-1-to-2000
overflow_mul-result-in-1-to-2000 c = search (rules, times)

pub returns-in-1-to-2000 : goal.returns-in-1-to-2000
returns-in-1-to-2000 c = search (rules, times)
