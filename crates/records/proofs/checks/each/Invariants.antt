-- What the search for a bad place keeps: what is left of it gives what the whole search gives.
use Rattle.std.proofs.Common.{ℕ, Bool}
use Rattle.records.specs.Places.{Gives}
use Rattle.records.proofs.FirstBad.{SearchInv}
use Rattle.records.proofs.checks.each.Given as goal

abbrev pub invariant-loop-i : goal.invariant-loop-i
invariant-loop-i g l = (ok : ℕ → Bool) → Gives (goal.F-post g l.rule) l.n ok → SearchInv ok l.n l.i
