-- The calls that make a storm record, by our own table and by one that is lent, whatever they are given: what is returned, and everything that was
-- lent. They are `hurricane`'s own definitions (`make_of`, `make_by`), with numbers for their values. `Makes` and `MakesBy` are the promises themselves.
-- And the statements that what they made passes the march's checks 9 and 18, and that by our own table both are the same.
use Rattle.std.specs.Prelude.{◌≡◌, true, cond, List, ℕ, ◌*◌, ◌<◌, eqb, length, take, ℤ, pos, Result, Ok, Err}
use Rattle.records.specs.declared.Closing.{Closing}
use Rattle.records.specs.declared.Kind.TheVariants.{RecordValue}
use Rattle.records.specs.declared.Refusal.{Refusal}
use Rattle.records.specs.CheckOrder.{need}
use Rattle.records.specs.Groups.{point_count, point_at}
use Rattle.records.specs.Limits.{point_ok, calm_ok}
use Rattle.records.specs.Refusals.{refusal}
use Rattle.records.specs.Shapes.{Record, storm}
use Rattle.hurricane.specs.declared.Hurricane.{Hurricane}
use Rattle.hurricane.specs.Factor.{factor_entry, TableRight}
use Rattle.hurricane.specs.Groups.{site_count}
use Rattle.hurricane.specs.Make.{ToldMade, made, not_made, LeftMade, asked, make_of, make_by}
use Rattle.march.specs.declared.State.{State}
use Rattle.march.specs.Checks.{times_ok, record_check}
use Rattle.lent.specs.Numbers.{answer_numbers, refused_answer, wrong_buffer}

pub record LeftMake : Type 0 where
  pub number : ℕ
  pub storm : List ℤ
  pub answer : List ℤ

abbrev pub left_make : ℕ → List ℤ → List ℤ → LeftMake
left_make number storm answer = record { number = number; storm = storm; answer = answer }

-- the room is `make_of`'s in either case; the answer has the seconds and the tide, or the place
abbrev pub after_made : ToldMade → List ℤ → LeftMake
after_made (made closing) room = left_make 0 room (answer_numbers (pos 0) closing.seconds closing.tide)
after_made (not_made number place) room = left_make number room (refused_answer place)

abbrev pub make_with : LeftMade → List ℤ → List ℤ → LeftMake
make_with x storm answer = cond (eqb (length answer) 3) (after_made x.answer x.room) (left_make wrong_buffer storm answer)

-- the numbers lent, in `hurricane`'s terms
abbrev pub hurricane_given : ℤ → ℤ → ℤ → ℤ → ℤ → Hurricane
hurricane_given central edge radius x y = record { central = central; edge = edge; radius = radius; x = x; y = y }

abbrev pub closing_given : ℤ → ℤ → Closing
closing_given seconds tide = record { seconds = seconds; tide = tide }

unfoldable pub make_call : ℤ → ℤ → ℤ → ℤ → ℤ → ℤ → ℤ → List ℤ → List ℤ → List ℤ → List ℤ → LeftMake
make_call central edge radius x y seconds tide winds sites storm answer =
    make_with (make_of (asked factor_entry (hurricane_given central edge radius x y) (closing_given seconds tide) winds sites storm)) storm answer

-- by the table in `factors`
unfoldable pub make_by_call : List ℤ → ℤ → ℤ → ℤ → ℤ → ℤ → ℤ → ℤ → List ℤ → List ℤ → List ℤ → List ℤ → LeftMake
make_by_call factors central edge radius x y seconds tide winds sites storm answer =
    make_with (make_by factors (hurricane_given central edge radius x y) (closing_given seconds tide) winds sites storm) storm answer

-- the promise of each call, on these and with this left
abbrev pub Makes : ℤ → ℤ → ℤ → ℤ → ℤ → ℤ → ℤ → List ℤ → List ℤ → List ℤ → List ℤ → LeftMake → Type 0
Makes central edge radius x y seconds tide winds sites storm answer left = left ≡ make_call central edge radius x y seconds tide winds sites storm answer

abbrev pub MakesBy : List ℤ → ℤ → ℤ → ℤ → ℤ → ℤ → ℤ → ℤ → List ℤ → List ℤ → List ℤ → List ℤ → LeftMake → Type 0
MakesBy factors central edge radius x y seconds tide winds sites storm answer left =
    left ≡ make_by_call factors central edge radius x y seconds tide winds sites storm answer

-- our own table lent is the call that needs none
abbrev pub OwnTable : Type 0
OwnTable =
    (factors : List ℤ) → TableRight factors → (central edge radius x y seconds tide : ℤ) (winds sites storm answer : List ℤ) (left : LeftMake)
    → MakesBy factors central edge radius x y seconds tide winds sites storm answer left
    → Makes central edge radius x y seconds tide winds sites storm answer left

-- in the code's terms: what a call that made a record answers
abbrev pub made_told : Result Closing Refusal → Result (List ℤ) Refusal
made_told (Ok closing) = Ok (answer_numbers (pos 0) closing.seconds closing.tide)
made_told (Err refusal) = Err refusal

-- ---- what it made, as a record to be taken: the first numbers of the room

abbrev pub record_made : ℤ → ℤ → List ℤ → LeftMake → Record
record_made seconds tide sites left = storm (closing_given seconds tide) (take (3 * site_count sites) left.storm)

-- what it makes passes checks 9 and 18 but for seconds, tide and elapsed time: of the march's own checks of a record, place 0 of 9 is left
pub record Takeable (n : ℕ) (r : Record) : Type 0 where
  pub count : point_count r.points ≡ n
  pub points : (i : ℕ) → i < n → point_ok (point_at r.points i) ≡ true
  pub calms : (i : ℕ) → i < n → calm_ok (point_at r.points i) ≡ true
  pub check : (st : State) → record_check n r st ≡ need (times_ok r.closing st) (refusal RecordValue 0)

-- of every call that keeps a promise and made a record
abbrev pub TakeableBy : (ℤ → ℤ → ℤ → ℤ → ℤ → ℤ → ℤ → List ℤ → List ℤ → List ℤ → List ℤ → LeftMake → Type 0) → Type 0
TakeableBy Promise =
    (central edge radius x y seconds tide : ℤ) (winds sites storm answer : List ℤ) (left : LeftMake)
    → Promise central edge radius x y seconds tide winds sites storm answer left → left.number ≡ 0
    → Takeable (site_count sites) (record_made seconds tide sites left) × (left.answer ≡ answer_numbers (pos 0) seconds tide)

-- by our own table, and by any
pub record MadeTakeable : Type 0 where
  pub own : TakeableBy Makes
  pub lent : (factors : List ℤ) → TakeableBy (MakesBy factors)
