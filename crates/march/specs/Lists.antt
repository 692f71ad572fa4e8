-- What a reader will ask beside demand 3: what the elapsed time is after a list of calls. A statement; `proofs/Lists.antt` has its proof.
use Rattle.std.specs.Prelude.{◌≡◌, cond, List, [], ◌∷◌, ℕ, ℤ, pos, ◌+ℤ◌}
use Rattle.records.specs.Shapes.{Traverse}
use Rattle.march.specs.declared.State.{State}
use Rattle.march.specs.Exact.{is_accepted}
use Rattle.march.specs.Demand3.{Brought, called}

-- the state after a list of calls
unfoldable pub state_after : ℕ → Traverse → State → List ℤ → List Brought → State
state_after most t st rows [] = st
state_after most t st rows (c ∷ calls) = state_after most t (called most t st rows c).state (called most t st rows c).rows calls

-- the sum of the accepted records' seconds
unfoldable pub accepted_seconds : ℕ → Traverse → State → List ℤ → List Brought → ℤ
accepted_seconds most t st rows [] = pos 0
accepted_seconds most t st rows (c ∷ calls) =
    cond (is_accepted (called most t st rows c).answer) c.storm.closing.seconds (pos 0)
    +ℤ accepted_seconds most t (called most t st rows c).state (called most t st rows c).rows calls

abbrev pub ElapsedIsSumIn : ℕ → Type 0
ElapsedIsSumIn most = (t : Traverse) (st : State) (rows : List ℤ) (calls : List Brought) → (state_after most t st rows calls).elapsed ≡ st.elapsed +ℤ accepted_seconds most t st rows calls

abbrev pub ElapsedIsSum : Type 0
ElapsedIsSum = (most : ℕ) → ElapsedIsSumIn most
