-- A chain as a loop keeps it, with the turns that are left. For the two files alike. Assumes nothing.
use mathlib.Core.Path.{◌≡◌, refl}
use mathlib.Core.Bool.{true, false}
use mathlib.Core.List.{List, [], ◌∷◌}
use native.Mathlib.Omega.{arith}
use Prim.Native.Nat.{ℕ, ◌+◌}
use lib.ListN.{length}
use Rattle.files.specs.Chain.{Chain, most_turns}

pub never : true ≡ false → ⊥
never e = let z : ◌≡◌ {A = ℕ} 0 1 = cc in omega arith

-- from a to x, with so many turns left
pub record Walked {A : Type 0} (R : A → A → Type 0) (a x : A) (turns : ℕ) : Type 0 where
  pub earlier : List A
  pub reached : Chain R a earlier x
  pub spent : turns + length earlier ≡ most_turns

pub walked_none : {A : Type 0} {R : A → A → Type 0} (a : A) → Walked R a a most_turns
unfolding Chain
walked_none a = record { earlier = []; reached = refl; spent = refl }

pub walked_more : {A : Type 0} {R : A → A → Type 0} {a : A} (w x : A) (turns turns' : ℕ) → Walked R a w turns → R w x → turns ≡ turns' + 1 → Walked R a x turns'
unfolding Chain
walked_more w x turns turns' k r e = record { earlier = w ∷ k.earlier; reached = (r, k.reached); spent = omega (arith, k.spent) }
