-- The exported call that takes a record, on row structs, whatever it is given: what is returned, and everything that was lent. It is the march's own
-- definition (`take_of`) of the rows' numbers, for any limit on points. `Takes` is the promise itself: the `ensures` of `fennhop_take_record`, with 65
-- points, and of `fennhop_panel_take_record`, with 17, and the statement over lists of calls are all of it. The other calls are `lent`'s own.
use Rattle.std.specs.Prelude.{◌≡◌, cond, List, ℕ, length, ℤ, pos}
use Rattle.records.specs.declared.Row.{Row}
use Rattle.records.specs.Shapes.{Traverse, Record}
use Rattle.march.specs.Answers.{Told, accepted, refused}
use Rattle.march.specs.Take as march
use Rattle.lent.specs.Numbers.{state_of, state_numbers, answer_numbers, refused_answer, buffers_ok, wrong_buffer}
use Rattle.lent.specs.Calls.{traverse_given, storm_given, march_left}
use Rattle.surge_c.specs.Rows.{numbers_from, rows_from}

pub record LeftRows : Type 0 where
  pub number : ℕ
  pub state : List ℤ
  pub rows : List Row
  pub setup : List ℤ
  pub answer : List ℤ

abbrev pub left_rows : ℕ → List ℤ → List Row → List ℤ → List ℤ → LeftRows
left_rows number state rows setup answer = record { number = number; state = state; rows = rows; setup = setup; answer = answer }

-- "A refused record leaves rows, setup buffer and the whole state as before it"; the setup places are `take_of`'s in either case
abbrev pub after_taken : Told → march.Left → List ℤ → List Row → LeftRows
after_taken (accepted elapsed low high) x state rows = left_rows 0 (state_numbers x.state) (rows_from x.rows) x.setup (answer_numbers (pos 0) low high)
after_taken (refused number place) x state rows = left_rows number state rows x.setup (refused_answer place)

abbrev pub take_with : march.Left → List ℤ → List Row → List ℤ → List ℤ → LeftRows
take_with x state rows setup answer =
    cond (buffers_ok (length state) (length answer)) (after_taken x.answer x state rows) (left_rows wrong_buffer state rows setup answer)

abbrev pub take_rows : ℕ → Traverse → Record → List ℤ → List Row → List ℤ → List ℤ → LeftRows
take_rows most t r state rows setup answer = take_with (march_left most t r (state_of state) (numbers_from rows) setup) state rows setup answer

unfoldable pub take_call : ℕ → ℤ → ℤ → ℤ → List ℤ → ℤ → ℤ → List ℤ → List ℤ → List Row → List ℤ → List ℤ → LeftRows
take_call most latitude friction initial points seconds tide storm = take_rows most (traverse_given latitude friction initial points) (storm_given seconds tide storm)

-- the promise of the call, on these and with this left
abbrev pub Takes : ℕ → ℤ → ℤ → ℤ → List ℤ → ℤ → ℤ → List ℤ → List ℤ → List Row → List ℤ → List ℤ → LeftRows → Type 0
Takes most latitude friction initial points seconds tide storm state rows setup answer left = left ≡ take_call most latitude friction initial points seconds tide storm state rows setup answer
