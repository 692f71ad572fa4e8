-- What a caller's numbers stand for beside points and rows, and what a call leaves in them.
use Rattle.std.specs.Prelude.{Bool, cond, ◌&&◌, List, [], ◌∷◌, ℕ, eqb, leb, ℤ, pos, Result, Ok, Err}
use Rattle.records.specs.declared.Refusal.{Refusal}
use Rattle.records.specs.Refusals.{number_of}
use Rattle.records.specs.Groups.{at}
use Rattle.march.specs.declared.State.{State}
use Rattle.march.specs.Groups as march

-- ---- the state: elapsed seconds, and whether a first record was accepted, any number but 0 for yes

abbrev pub state_of : List ℤ → State
state_of l = march.state_of (at l)

abbrev pub state_numbers : State → List ℤ
state_numbers = march.of_state

-- ---- the answer: the place of a refusal, and low and high of the shore height

-- a place with sign: no place is past the greatest such number
abbrev pub place_number : ℕ → ℤ
place_number p = pos (cond (leb p 9223372036854775807) p 9223372036854775807)

abbrev pub answer_numbers : ℤ → ℤ → ℤ → List ℤ
answer_numbers place low high = place ∷ low ∷ high ∷ []

-- that of a refused call: the place, and no height
abbrev pub refused_answer : ℕ → List ℤ
refused_answer place = answer_numbers (place_number place) (pos 0) (pos 0)

-- what a call that found the answer's numbers, or a refusal, returns and answers
abbrev pub told_number : Result (List ℤ) Refusal → ℕ
told_number (Ok numbers) = 0
told_number (Err refusal) = number_of refusal.kind

abbrev pub told_answer : Result (List ℤ) Refusal → List ℤ
told_answer (Ok numbers) = numbers
told_answer (Err refusal) = refused_answer refusal.place

-- ---- `state` has 2 numbers, `answer` 3

unfoldable pub buffers_ok : ℕ → ℕ → Bool
buffers_ok state answer = eqb state 2 && eqb answer 3

-- returned where a slice of a fixed length has another; then nothing is touched
abbrev pub wrong_buffer : ℕ
wrong_buffer = 255
