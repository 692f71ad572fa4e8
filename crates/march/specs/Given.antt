-- What a call of the march is given: the numbers that the caller lends, and the small structs beside them. A new argument comes in here.
use Rattle.std.specs.Prelude.{List, ℕ, ◌-◌, ℤ}
use Rattle.records.specs.Shapes.{Traverse, Record, count}
use Rattle.march.specs.declared.State.{State}

-- how many segments a traverse has
abbrev pub segments : Traverse → ℕ
segments t = count t - 1

pub record Given : Type 0 where
  -- how many points the traverse may have in this build: 65, and on the harbour panel 17
  pub most : ℕ
  -- opening is given these two
  pub traverse : Traverse
  -- the record that closes the interval, and the state, the rows and the setup places
  pub storm : Record
  pub state : State
  pub rows : List ℤ
  pub setup : List ℤ

-- by the code's arguments
abbrev pub given : ℕ → Traverse → Record → State → List ℤ → List ℤ → Given
given most t r st rows setup = record { most = most; traverse = t; storm = r; state = st; rows = rows; setup = setup }
