-- A call finds what the call before it left: rows and state that are written are read back as they were. So a list of these calls, each lent what
-- the one before left, is a list of the march's own calls. And the place in an answer is the refusal's own. Statements; the proofs are in
-- `proofs/Again.antt`.
use Rattle.std.specs.Prelude.{◌≡◌, List, ℕ, ◌*◌, ◌<◌, ◌^◌, length, ℤ, pos}
use Rattle.records.specs.declared.Head.{Head}
use Rattle.records.specs.declared.Row.{Row}
use Rattle.records.specs.Groups.{row_count}
use Rattle.records.specs.Shapes.{Traverse, traverse, Record}
use Rattle.march.specs.declared.State.{State}
use Rattle.march.specs.Answers.{refused, not_opened}
use Rattle.march.specs.Checks.{open_of}
use Rattle.lent.specs.Numbers.{state_of, state_numbers, place_number}
use Rattle.surge_c.specs.Rows.{numbers_from, rows_from}
use Rattle.lent.specs.Calls.{march_left}

-- the numbers of rows are as many rows, and these; and where numbers are whole rows, these rows are those numbers
pub record RowsAgain : Type 0 where
  pub count : (rows : List Row) → row_count (numbers_from rows) ≡ length rows
  pub same : (rows : List Row) → rows_from (numbers_from rows) ≡ rows
  pub back : (l : List ℤ) (n : ℕ) → length l ≡ 3 * n → numbers_from (rows_from l) ≡ l

abbrev pub StateAgain : Type 0
StateAgain = (st : State) → state_of (state_numbers st) ≡ st

-- ---- no place is past the greatest number with sign, since no slice has so many points

-- a slice's length fits 64 bits
abbrev pub Fitting : List ℤ → Type 0
Fitting l = length l < 2 ^ 64

abbrev pub OpenPlaceWhole : Type 0
OpenPlaceWhole = (most : ℕ) (head : Head) (points : List ℤ) (number place : ℕ) → Fitting points → (open_of most (traverse head points)).answer ≡ not_opened number place → place_number place ≡ pos place

abbrev pub TakePlaceWhole : Type 0
TakePlaceWhole = (most : ℕ) (t : Traverse) (r : Record) (st : State) (rows setup : List ℤ) (number place : ℕ) → Fitting t.points → (march_left most t r st rows setup).answer ≡ refused number place → place_number place ≡ pos place
