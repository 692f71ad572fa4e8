-- A state as two numbers: elapsed seconds, and whether a first record was accepted, any number but 0 for yes.
use Rattle.std.specs.Prelude.{Bool, cond, ◌||◌, List, [], ◌∷◌, ℕ, ℤ, pos}
use Rattle.std.specs.Int.Signed.{lt_z}
use Rattle.march.specs.declared.State.{State}

unfoldable pub not_zero : ℤ → Bool
not_zero x = lt_z x (pos 0) || lt_z (pos 0) x

abbrev pub state_of : (ℕ → ℤ) → State
state_of f = record { elapsed = f 0; started = not_zero (f 1) }

abbrev pub started_number : Bool → ℤ
started_number started = cond started (pos 1) (pos 0)

abbrev pub of_state : State → List ℤ
of_state st = st.elapsed ∷ started_number st.started ∷ []
