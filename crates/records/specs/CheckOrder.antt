-- The order of checks: the first that fails decides, and within it the first bad place. Every call checks what it is given by
-- these, a row of the paper's table to a line.
use Rattle.std.specs.Prelude.{◌≡◌, Bool, true, false, cond, List, [], ◌∷◌, ◌++◌, ℕ, zero, suc, ◌+◌, eqb, Result, Ok, Err}
use Rattle.records.specs.declared.Kind.{Kind}
use Rattle.records.specs.declared.Refusal.{Refusal}
use Rattle.records.specs.Refusals.{refusal}

-- passed, or the refusal
abbrev pub Check : Type 0
Check = Result Unit Refusal

abbrev pub Pass : Check
Pass = Ok tt

abbrev pub Fail : Refusal → Check
Fail refusal = Err refusal

-- a condition, or its refusal
abbrev pub need : Bool → Refusal → Check
need true refusal = Pass
need false refusal = Fail refusal

-- the first that fails decides
infixr 20 ◌then◌
abbrev pub ◌then◌ : Check → Check → Check
Ok _ then c = c
Err refusal then c = Fail refusal

-- the first of n places from i on that is bad, counted from 1; 0 where there is none
unfoldable pub first_bad : (ℕ → Bool) → ℕ → ℕ → ℕ
first_bad ok zero i = 0
first_bad ok (suc n) i = cond (ok i) (first_bad ok n (i + 1)) (i + 1)

-- each of n places, or the refusal of a kind at the first bad one
abbrev pub each : Kind → (ℕ → Bool) → ℕ → Check
each kind ok n = need (eqb (first_bad ok n 0) 0) (refusal kind (first_bad ok n 0))

-- ---- a list of checks, in their order

unfoldable pub first_of : List Check → Check
first_of [] = Pass
first_of (c ∷ l) = c then first_of l

unfoldable pub AllPass : List Check → Type 0
AllPass [] = Unit {0}
AllPass (c ∷ l) = (c ≡ Pass) × AllPass l

-- one of a list fails, and all before it pass
pub record FirstFails (l : List Check) : Type 0 where
  pub refusal : Refusal
  pub before : List Check
  pub after : List Check
  pub is : l ≡ before ++ (Fail refusal ∷ after)
  pub passed : AllPass before
