-- Loading a pressure profile: what was loaded is made records by, the statement of `specs/Profiles.antt`. Assumes nothing.
use mathlib.Core.Path.{◌≡◌, refl, sym, ap, subst, ◌∙◌}
use mathlib.Core.Bool.{Bool, true, false, cond}
use mathlib.Core.List.{List}
use native.Mathlib.Omega.{arith}
use lib.Dec.{eqb}
use lib.ListN.{length}
use lib.IntN.{ℤ}
use Prim.Native.Nat.{ℕ}
use Rattle.std.specs.Prelude.{Ok, Err}
use Rattle.records.specs.CheckOrder.{Check}
use Rattle.records.proofs.RefusalLaws.{number-above}
use Rattle.hurricane.proofs.ProfileLaws.{make-by-passed}
use Rattle.profile.specs.Load.{load_of, Loaded}
use Rattle.profile.proofs.LoadLaws.{loaded-is-profile}
use Rattle.lent.specs.Numbers.{wrong_buffer}
use Rattle.lent.specs.Profiles.{LeftProfile, left_profile, after_loaded, load_call, LoadsProfile, factors_loaded, LoadThenMake}

-- 0 is returned only where the table was loaded
loaded-it : (text : List ℕ) (factors answer : List ℤ) (left : LeftProfile) → LoadsProfile text factors answer left → left.number ≡ 0 → Loaded text left.factors
unfolding load_call
loaded-it text factors answer left k z = subst (λ (l : LeftProfile). Loaded text l.factors) (sym k) (by (eqb (length answer) 3) (load_of text factors).answer refl (sym (ap (λ (l : LeftProfile). l.number) k) ∙ z))
  where
    by : (t : Bool) (c : Check) → (load_of text factors).answer ≡ c
        → (cond t (after_loaded c (load_of text factors).numbers) (left_profile wrong_buffer factors answer)).number ≡ 0
        → Loaded text (cond t (after_loaded c (load_of text factors).numbers) (left_profile wrong_buffer factors answer)).factors
    by true (Ok u) e z = loaded-is-profile text factors e
    by true (Err refusal) e z = let n = number-above refusal.kind in absurd (omega arith)
    by false c e z = absurd (omega arith)

pub load-then-make : LoadThenMake
load-then-make text x =
    let v = loaded-it text x.factors x.answer x.left x.kept x.accepted in
    record { entries-are = v.entries-are; makes = λ h closing winds sites room. make-by-passed (factors_loaded x.left) h closing winds sites room v.passes }
