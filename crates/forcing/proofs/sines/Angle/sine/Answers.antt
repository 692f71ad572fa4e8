-- `sine` meets its contract: the entry at the angle's place, with its sign. Assumes nothing.
use mathlib.Core.Path.{◌≡◌, sym, subst}
use mathlib.Core.List.{[], ◌∷◌}
use native.Mathlib.Omega.{arith}
use Prim.Native.Nat.{◌<◌}
use lib.IntN.{ℤ, pos, neg_ℤ, +ℤ_idl}
use mir.Syntax.{w64}
use mir.Val.{SFits}
use Rattle.std.proofs.Common.{rules}
use Rattle.ranges.specs.Bounds.{Sized}
use Rattle.ranges.proofs.LinearSolver.{zomega, says, ◌&◌}
use Rattle.forcing.specs.declared.sines.Place.{Place}
use Rattle.forcing.specs.Quadrant.{Angle, place_of, sine_of}
use Rattle.forcing.specs.Sine.{sine_entry}
use Rattle.forcing.proofs.QuadrantLaws.{place_in, entry-sized}
use Rattle.forcing.proofs.sines.Angle.sine.Goals as goal

-- the entry's negative fits
minus-fits : (a : ℤ) (p : Place) (x : ℤ) → Angle a → p ≡ place_of a → x ≡ sine_entry p.at → SFits w64 (neg_ℤ x)
minus-fits a p x h e f =
    let l : p.at < 901 = subst (λ (p : Place). p.at < 901) (sym e) (place_in a h) in
    let s : Sized (pos 10000) x = subst (Sized (pos 10000)) (sym f) (entry-sized p.at l) in
    zomega (x ∷ []) (s.low & s.high) (search says depth 20) (omega arith)

pub overflow_sub-result : goal.overflow_sub-result
overflow_sub-result c = search (rules, minus-fits, +ℤ_idl)

pub returns-then-place : goal.returns-then-place
unfolding sine_of
returns-then-place c =
    let f : SFits w64 (neg_ℤ c.entry-size.result) = search (rules, minus-fits) in
    search (rules, +ℤ_idl)

pub returns-else-place : goal.returns-else-place
unfolding sine_of
returns-else-place c = search rules
