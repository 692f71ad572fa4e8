-- The calls of the march on lent numbers, whatever they are given: what is returned, and everything that was lent. Each is the march's own definition
-- (`open_of`, `take_of`), with numbers for its values, for any limit on points: `most` is 65 in our own library's calls and 17 in the harbour panel's.
-- `Opens` is the promise itself: the code's `ensures` and the statements over lists of calls are both of it.
use Rattle.std.specs.Prelude.{◌≡◌, cond, ◌&&◌, List, ◌++◌, ℕ, ◌*◌, leb, length, take, drop, ℤ, pos}
use Rattle.records.specs.Shapes.{Traverse, traverse, Record, storm}
use Rattle.march.specs.declared.State.{State}
use Rattle.march.specs.Answers.{Told, accepted, refused, ToldOpen, opened, not_opened}
use Rattle.march.specs.Given.{given}
use Rattle.march.specs.Checks.{open_of}
use Rattle.march.specs.Take.{take_of}
use Rattle.march.specs.Take as march
use Rattle.lent.specs.Numbers.{state_of, state_numbers, answer_numbers, refused_answer, buffers_ok, wrong_buffer}

-- ---- what the march is given of the numbers lent

abbrev pub traverse_given : ℤ → ℤ → ℤ → List ℤ → Traverse
traverse_given latitude friction initial points = traverse (record { latitude = latitude; friction = friction; initial = initial }) points

abbrev pub storm_given : ℤ → ℤ → List ℤ → Record
storm_given seconds tide points = storm (record { seconds = seconds; tide = tide }) points

-- ---- opening a traverse

pub record LeftOpen : Type 0 where
  pub number : ℕ
  pub state : List ℤ
  pub answer : List ℤ

abbrev pub left_open : ℕ → List ℤ → List ℤ → LeftOpen
left_open number state answer = record { number = number; state = state; answer = answer }

-- the state is written where the traverse is accepted
abbrev pub after_open : ToldOpen → State → List ℤ → LeftOpen
after_open opened fresh state = left_open 0 (state_numbers fresh) (answer_numbers (pos 0) (pos 0) (pos 0))
after_open (not_opened number place) fresh state = left_open number state (refused_answer place)

abbrev pub open_with : ℕ → Traverse → List ℤ → List ℤ → LeftOpen
open_with most t state answer =
    cond (buffers_ok (length state) (length answer)) (after_open (open_of most t).answer (open_of most t).state state) (left_open wrong_buffer state answer)

unfoldable pub open_call : ℕ → ℤ → ℤ → ℤ → List ℤ → List ℤ → List ℤ → LeftOpen
open_call most latitude friction initial points = open_with most (traverse_given latitude friction initial points)

-- the promise of the call, on these and with this left
abbrev pub Opens : ℕ → ℤ → ℤ → ℤ → List ℤ → List ℤ → List ℤ → LeftOpen → Type 0
Opens most latitude friction initial points state answer left = left ≡ open_call most latitude friction initial points state answer

-- ---- taking a record

-- what the march makes of the numbers lent, with these for the rows
abbrev pub march_left : ℕ → Traverse → Record → State → List ℤ → List ℤ → march.Left
march_left most t r st rows setup = take_of (given most t r st rows setup)

-- how many of so many numbers n rows are, where so many may be lent and are there
unfoldable pub rows_size : ℕ → ℕ → ℕ
rows_size n len = cond (leb n 64 && leb (3 * n) len) (3 * n) 0

pub record LeftNumbers : Type 0 where
  pub number : ℕ
  pub state : List ℤ
  pub numbers : List ℤ
  pub setup : List ℤ
  pub answer : List ℤ

abbrev pub left_numbers : ℕ → List ℤ → List ℤ → List ℤ → List ℤ → LeftNumbers
left_numbers number state numbers setup answer = record { number = number; state = state; numbers = numbers; setup = setup; answer = answer }

-- the rows are the first `size` numbers, and what lies past them stays. "A refused record leaves rows, setup buffer and the whole state as before
-- it"; the setup places are `take_of`'s in either case
abbrev pub after_numbers : Told → march.Left → ℕ → List ℤ → List ℤ → LeftNumbers
after_numbers (accepted elapsed low high) x size state numbers = left_numbers 0 (state_numbers x.state) (x.rows ++ drop size numbers) x.setup (answer_numbers (pos 0) low high)
after_numbers (refused number place) x size state numbers = left_numbers number state numbers x.setup (refused_answer place)

abbrev pub numbers_with : march.Left → ℕ → List ℤ → List ℤ → List ℤ → List ℤ → LeftNumbers
numbers_with x size state numbers setup answer =
    cond (buffers_ok (length state) (length answer)) (after_numbers x.answer x size state numbers) (left_numbers wrong_buffer state numbers setup answer)

abbrev pub numbers_left : ℕ → Traverse → Record → ℕ → List ℤ → List ℤ → List ℤ → List ℤ → LeftNumbers
numbers_left most t r size state numbers setup answer = numbers_with (march_left most t r (state_of state) (take size numbers) setup) size state numbers setup answer

unfoldable pub take_numbers : ℕ → Traverse → Record → List ℤ → ℕ → List ℤ → List ℤ → List ℤ → LeftNumbers
take_numbers most t r state n numbers setup answer = numbers_left most t r (rows_size n (length numbers)) state numbers setup answer
