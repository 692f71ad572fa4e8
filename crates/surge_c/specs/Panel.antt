-- Document 02, Q-5, for the exported calls: of a traverse that the harbour panel takes, its calls promise just what our own promise, to every number that
-- is lent. So a storm may go from one pair of calls to the other between two records. Stated for any two limits on points; `proofs/Panel.antt` has the
-- proof, `same-calls`.
use Rattle.std.specs.Prelude.{◌≡◌, List, ℕ, ◌≤◌, ℤ}
use Rattle.records.specs.declared.Row.{Row}
use Rattle.records.specs.Groups.{station_count}
use Rattle.lent.specs.Calls.{open_call}
use Rattle.surge_c.specs.Calls.{take_call}

pub record SameCalls (a b : ℕ) : Type 0 where
  pub opening : (latitude friction initial : ℤ) (points state answer : List ℤ) → station_count points ≤ a → station_count points ≤ b
      → open_call a latitude friction initial points state answer ≡ open_call b latitude friction initial points state answer
  pub taking : (latitude friction initial : ℤ) (points : List ℤ) (seconds tide : ℤ) (storm state : List ℤ) (rows : List Row) (setup answer : List ℤ)
      → station_count points ≤ a → station_count points ≤ b
      → take_call a latitude friction initial points seconds tide storm state rows setup answer ≡ take_call b latitude friction initial points seconds tide storm state rows setup answer

abbrev pub CallsAgree : Type 0
CallsAgree = (a b : ℕ) → SameCalls a b
