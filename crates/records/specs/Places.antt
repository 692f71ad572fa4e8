-- What a closure is asked at each of n places, and what it answers there.
use Rattle.std.specs.Prelude.{◌≡◌, ◌<◌, ℕ}

-- each answer at one of n places is the definition's
abbrev pub Gives : {A : Type 0} → (ℕ → A → Type 0) → ℕ → (ℕ → A) → Type 0
Gives {A} answers n view = (i : ℕ) (x : A) → i < n → answers i x → x ≡ view i
