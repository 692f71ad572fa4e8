-- What the laws of an end give the proofs: what holds of both ends of a range holds of the end's own and of the other. Assumes nothing.
use mathlib.Core.Path.{sym, subst}
use mathlib.Core.Logic.{⊎_elim}
use lib.IntN.{ℤ}
use Rattle.ranges.specs.declared.Range.{Range}
use Rattle.ranges.specs.Ends.{EndRule, EndLaws}

module _ {e : EndRule} (laws : EndLaws e) (P : ℤ → Type 0) (r : Range) (low : P r.low) (high : P r.high) where
  pub of_own : P (e.own r)
  of_own = ⊎_elim (λ k. subst P (sym k.0) low) (λ k. subst P (sym k.0) high) (laws.ends r)

  pub of_other : P (e.other r)
  of_other = ⊎_elim (λ k. subst P (sym k.1) high) (λ k. subst P (sym k.1) low) (laws.ends r)
