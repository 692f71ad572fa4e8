-- What checks one after the other let pass, and that what is as it should be passes. Assumes nothing.
use mathlib.Core.Path.{◌≡◌, refl, sym, ap, ◌∙◌}
use mathlib.Core.Bool.{Bool, true, false}
use mathlib.Core.List.{List, [], ◌∷◌, ◌++◌}
use mathlib.Core.Logic.{◌⊎◌, inl, inr}
use native.Mathlib.Omega.{arith}
use borrow.Author.Tests.{eqb-true, ne_eqb}
use Prim.Native.Nat.{ℕ, ◌+◌, ◌<◌}
use Rattle.records.specs.declared.Kind.{Kind}
use Rattle.records.specs.declared.Refusal.{Refusal}
use Rattle.records.specs.Refusals.{refusal}
use Rattle.std.specs.Prelude.{Ok, Err}
use Rattle.records.specs.CheckOrder.{Check, Pass, Fail, need, ◌then◌, first_bad, each, first_of, AllPass, FirstFails}
use Rattle.records.proofs.FirstBad.{none-bad, all-ok}

never : (refusal : Refusal) → Fail refusal ≡ Pass → ⊥
never refusal e = let z : ◌≡◌ {A = ℕ} 0 1 = cc in omega arith

pub need-passed : (b : Bool) (refusal : Refusal) → need b refusal ≡ Pass → b ≡ true
need-passed true refusal e = refl
need-passed false refusal e = absurd (never refusal e)

-- what a condition refused with is its refusal
pub need-failed : (b : Bool) {q r : Refusal} → Fail r ≡ need b q → (b ≡ false) × (r ≡ q)
need-failed false e = (refl, cc)
need-failed true e = absurd cc

pub then-left : (a b : Check) → (a then b) ≡ Pass → a ≡ Pass
then-left (Ok u) b e = refl
then-left (Err refusal) b e = e

pub then-right : (a b : Check) → (a then b) ≡ Pass → b ≡ Pass
then-right (Ok u) b e = e
then-right (Err refusal) b e = absurd (never refusal e)

pub each-passed : (kind : Kind) (ok : ℕ → Bool) (n : ℕ) → each kind ok n ≡ Pass → (i : ℕ) → i < n → ok i ≡ true
each-passed kind ok n e i h = none-bad ok n 0 (eqb-true _ 0 (need-passed _ (refusal kind (first_bad ok n 0)) e)) i (omega arith) (omega arith)

-- where each of n places is as it should be, there is no bad one
pub none_first : (ok : ℕ → Bool) (n : ℕ) → ((i : ℕ) → i < n → ok i ≡ true) → first_bad ok n 0 ≡ 0
none_first ok n f = all-ok ok n 0 (λ j h l. f j (omega arith))

-- what the search says, as the check says it
pub each-hit : (kind : Kind) (ok : ℕ → Bool) (n i : ℕ) → i + 1 ≡ first_bad ok n 0 → Fail (refusal kind (i + 1)) ≡ each kind ok n
each-hit kind ok n i e = rw (← e, ne_eqb (i + 1) 0 (λ z. omega arith)) refl

pub each-none : (kind : Kind) (ok : ℕ → Bool) (n : ℕ) → 0 ≡ first_bad ok n 0 → Pass ≡ each kind ok n
each-none kind ok n e = rw (← e) refl

pub each-pass : (kind : Kind) (ok : ℕ → Bool) (n : ℕ) → ((i : ℕ) → i < n → ok i ≡ true) → each kind ok n ≡ Pass
each-pass kind ok n f = rw (none_first ok n f)

-- what passes adds nothing behind it
pub then-pass : (c : Check) → (c then Pass) ≡ c
then-pass (Ok u) = refl
then-pass (Err refusal) = refl

-- ---- a list of checks

-- where the list passes, each of it does
pub first-passed : (l : List Check) → first_of l ≡ Pass → AllPass l
unfolding first_of AllPass
first-passed [] e = tt
first-passed (c ∷ l) e = (then-left c (first_of l) e, first-passed l (then-right c (first_of l) e))

-- and where each of it does, the list passes
pub first-pass : (l : List Check) → AllPass l → first_of l ≡ Pass
unfolding first_of AllPass
first-pass [] v = refl
first-pass (c ∷ l) v = rw v.0 (first-pass l v.1)

-- one list behind the other
pub first-append : (k l : List Check) → first_of (k ++ l) ≡ (first_of k then first_of l)
unfolding first_of
first-append [] l = refl
first-append (Ok u ∷ k) l = first-append k l
first-append (Err refusal ∷ k) l = refl

pub first-left : (k l : List Check) → first_of (k ++ l) ≡ Pass → first_of k ≡ Pass
first-left k l e = then-left (first_of k) (first_of l) (sym (first-append k l) ∙ e)

pub first-right : (k l : List Check) → first_of (k ++ l) ≡ Pass → first_of l ≡ Pass
first-right k l e = then-right (first_of k) (first_of l) (sym (first-append k l) ∙ e)

-- the first that fails is what is answered
pub first-fails : (l : List Check) (f : FirstFails l) → first_of l ≡ Fail f.refusal
unfolding first_of
first-fails l f = ap first_of f.is ∙ first-append f.before (Fail f.refusal ∷ f.after) ∙ rw (first-pass f.before f.passed)

-- all pass, or one is the first that fails
pub all-or-first : (l : List Check) → AllPass l ⊎ FirstFails l
unfolding AllPass
all-or-first [] = inl tt
all-or-first (Err refusal ∷ l) = inr (record { refusal = refusal; before = []; after = l; is = refl; passed = tt })
all-or-first (Ok u ∷ l) = on (all-or-first l)
  where
    on : AllPass l ⊎ FirstFails l → AllPass (Pass ∷ l) ⊎ FirstFails (Pass ∷ l)
    on (inl v) = inl (refl, v)
    on (inr f) = inr (record { refusal = f.refusal; before = Pass ∷ f.before; after = f.after; is = ap (λ (k : List Check). Pass ∷ k) f.is; passed = (refl, f.passed) })
