-- `Angle::cosine` meets its contract: the sine a quarter turn on. Assumes nothing.
use Rattle.std.proofs.Common.{rules}
use Rattle.forcing.proofs.QuadrantLaws.{angle-fits, cosine-is}
use Rattle.forcing.proofs.sines.Angle.cosine.Goals as goal

pub returns-then-angle-lt2700 : goal.returns-then-angle-lt2700
returns-then-angle-lt2700 c = search (rules, angle-fits, cosine-is)

pub returns : goal.returns
returns c = search (rules, angle-fits, cosine-is)
