-- A state keeps the laws of groups. Assumes nothing.
use Rattle.std.specs.Prelude.{◌≡◌, refl, Bool, true, false, ℤ}
use Rattle.records.specs.Groups.{GroupLaws, at}
use Rattle.records.specs.GroupsLaws.{laws-of-two}
use Rattle.march.specs.declared.State.{State}
use Rattle.march.specs.Groups.{not_zero, state_of, of_state}

state_back : (elapsed : ℤ) (started : Bool) → let st : State = record { elapsed = elapsed; started = started } in state_of (at (of_state st)) ≡ st
unfolding not_zero
state_back elapsed true = refl
state_back elapsed false = refl

pub state-laws : GroupLaws State 2 state_of of_state
state-laws = laws-of-two of_state (λ a b. record { elapsed = a; started = not_zero b }) (λ st. state_back st.elapsed st.started) (λ st. refl)
