-- A traverse that was read has 2 to 65 points, and all of them have their place in the lent numbers. Assumes nothing.
use Rattle.std.specs.Prelude.{Result, Ok, Err}
use mathlib.Core.Path.{◌≡◌, refl, sym, subst}
use mathlib.Core.Bool.{Bool}
use mathlib.Core.List.{List}
use native.Mathlib.Omega.{arith}
use Prim.Native.Nat.{ℕ}
use lib.ListN.{length, take}
use lib.IntN.{ℤ}
use Rattle.records.proofs.GroupLaws.{wholes-fit}
use Rattle.records.specs.declared.Refusal.{Refusal}
use Rattle.reader.specs.declared.traverse.TraverseRead.{TraverseRead}
use Rattle.reader.specs.declared.traverse.Progress.{Progress}
use Rattle.reader.specs.declared.traverse.Progress.TheVariants as progress
use Rattle.reader.specs.Lent.{HasTraverse}
use Rattle.records.proofs.LimitLaws.{counts-in}
use Rattle.reader.proofs.TraverseLent.{step-has-traverse}
use Rattle.files.specs.declared.Stop.{Stop}
use Rattle.files.specs.TraverseFile.{file_by, Reading, step_of, Loads, HasPoints}

-- of what a step answered and left
read_has : (x : Reading) (t : TraverseRead) → (step_of x).answer ≡ Ok (progress.Read t) → HasPoints (Ok t) (length (step_of x).numbers)
unfolding step_of
read_has x t e =
    let s = step_of x in
    let has : HasTraverse t.count s.numbers = step-has-traverse (take x.have x.window) x.last x.held 0 x.line t e in
    let n = counts-in t.count has.counted in
    (n.0, omega (arith, has.room, wholes-fit 2 (length s.numbers)), n.1)

-- and so of what the call answers
pub loads-has : (opened : Bool) (window : List ℕ) (points : List ℤ) (r : Result TraverseRead Stop) (window' : List ℕ) (points' : List ℤ) → Loads opened window points r window' points' → HasPoints r (length points')
loads-has opened window points r window' points' l =
    subst (λ (f : Result TraverseRead Stop). HasPoints f (length points')) (sym l.file)
    (subst (λ (p : List ℤ). HasPoints (file_by (step_of l.at).answer) (length p)) (sym l.points-left) (go (step_of l.at).answer refl))
  where
    go : (p : Result Progress Refusal) → (step_of l.at).answer ≡ p → HasPoints (file_by p) (length (step_of l.at).numbers)
    go (Ok (progress.Read t)) e = read_has l.at t e
    go (Ok (progress.More c k)) e = tt
    go (Err q) e = tt
