-- The calls that read texts, whatever they are given: what is returned, and everything that was lent. Each is the reader's own definition
-- (`traverse_left`, `storm_start`, `next_left`), with numbers for its values. `ReadsTraverse` and `ReadsRecord` are the promises themselves.
use Rattle.std.specs.Prelude.{◌≡◌, Bool, cond, ◌&&◌, List, [], ◌∷◌, ℕ, eqb, length, take, drop, replicate, ℤ, pos, negsuc, Option, Some, None, Result, Ok, Err}
use Rattle.records.specs.declared.Head.{Head}
use Rattle.records.specs.declared.Refusal.{Refusal}
use Rattle.records.specs.Refusals.{number_of}
use Rattle.records.specs.Groups.{at}
use Rattle.reader.specs.declared.Cursor.{Cursor}
use Rattle.reader.specs.declared.traverse.TraverseRead.{TraverseRead}
use Rattle.reader.specs.Lines.{Leaves, leaves}
use Rattle.reader.specs.Traverse.{no_points, traverse_left}
use Rattle.reader.specs.Storm.{storm_start, next_left}
use Rattle.lent.specs.Numbers.{place_number, answer_numbers, refused_answer, wrong_buffer}

-- ---- a traverse text

-- `head` has 3 numbers, `points` 130, `answer` 3
unfoldable pub traverse_buffers : ℕ → ℕ → ℕ → Bool
traverse_buffers head points answer = eqb head 3 && (eqb points 130 && eqb answer 3)

pub record LeftTraverse : Type 0 where
  pub number : ℕ
  pub head : List ℤ
  pub points : List ℤ
  pub answer : List ℤ

abbrev pub left_traverse : ℕ → List ℤ → List ℤ → List ℤ → LeftTraverse
left_traverse number head points answer = record { number = number; head = head; points = points; answer = answer }

abbrev pub head_numbers : Head → List ℤ
head_numbers h = answer_numbers h.latitude h.friction h.initial

-- a traverse that was read, with the count of its points in the answer; those past it are all zero. A refused text leaves `head` and `points` as
-- they were
abbrev pub after_traverse : Result TraverseRead Refusal → List ℤ → List ℤ → List ℤ → LeftTraverse
after_traverse (Ok found) numbers head points = left_traverse 0 (head_numbers found.head) numbers (answer_numbers (pos 0) (place_number found.count) (pos 0))
after_traverse (Err refusal) numbers head points = left_traverse (number_of refusal.kind) head points (refused_answer refusal.place)

abbrev pub read_traverse_with : Leaves (Result TraverseRead Refusal) → List ℤ → List ℤ → List ℤ → LeftTraverse
read_traverse_with x head points answer =
    cond (traverse_buffers (length head) (length points) (length answer)) (after_traverse x.answer x.numbers head points) (left_traverse wrong_buffer head points answer)

unfoldable pub read_traverse_call : List ℕ → List ℤ → List ℤ → List ℤ → LeftTraverse
read_traverse_call text = read_traverse_with (traverse_left text no_points)

-- the promise of the call, on these and with this left
abbrev pub ReadsTraverse : List ℕ → List ℤ → List ℤ → List ℤ → LeftTraverse → Type 0
ReadsTraverse text head points answer left = left ≡ read_traverse_call text head points answer

-- ---- a storm text, record by record

-- what a record is read into: seconds, tide, and three numbers for each of 65 points
abbrev pub no_numbers : List ℤ
no_numbers = replicate 197 (pos 0)

-- the cursor: bytes and lines that were read so far, a negative number for 0
abbrev pub lent_place : ℤ → ℕ
lent_place (pos n) = n
lent_place (negsuc n) = 0

abbrev pub cursor_of : List ℤ → Cursor
cursor_of l = record { at = lent_place (at l 0); line = lent_place (at l 1) }

abbrev pub cursor_numbers : Cursor → List ℤ
cursor_numbers c = place_number c.at ∷ place_number c.line ∷ []

-- where nothing was read so far the names line is read first
unfoldable pub start_of : List ℕ → Cursor → Result Cursor Refusal
start_of text c = cond (eqb c.at 0 && eqb c.line 0) (storm_start text) (Ok c)

-- the next record from there on, in the code's terms
abbrev pub record_from : Result Cursor Refusal → List ℕ → ℕ → List ℤ → Leaves (Result (Option Cursor) Refusal)
record_from (Ok c) text count numbers = next_left text count c.at c.line numbers
record_from (Err refusal) text count numbers = leaves (Err refusal) numbers

-- `cursor` has 2 numbers, `values` 2, `storm` 195, `answer` 3
unfoldable pub record_buffers : ℕ → ℕ → ℕ → ℕ → Bool
record_buffers cursor values storm answer = eqb cursor 2 && (eqb values 2 && (eqb storm 195 && eqb answer 3))

pub record RecordIn (cursor values storm answer : List ℤ) : Type 0 where
  pub cursor-is : length cursor ≡ 2
  pub values-are : length values ≡ 2
  pub storm-is : length storm ≡ 195
  pub answer-is : length answer ≡ 3

pub record LeftRecord : Type 0 where
  pub number : ℕ
  pub cursor : List ℤ
  pub values : List ℤ
  pub storm : List ℤ
  pub answer : List ℤ

abbrev pub left_record : ℕ → List ℤ → List ℤ → List ℤ → List ℤ → LeftRecord
left_record number cursor values storm answer = record { number = number; cursor = cursor; values = values; storm = storm; answer = answer }

-- a record that was read, with the cursor past it, and 1 in the answer; the points past the traverse's are all zero
abbrev pub kept_record : Cursor → List ℤ → LeftRecord
kept_record c numbers = left_record 0 (cursor_numbers c) (take 2 numbers) (drop 2 numbers) (answer_numbers (pos 0) (pos 1) (pos 0))

-- the end of the text and a refusal leave `cursor`, `values` and `storm` as they were
abbrev pub after_answer : Result (Option Cursor) Refusal → List ℤ → List ℤ → List ℤ → List ℤ → LeftRecord
after_answer (Ok (Some c)) numbers cursor values storm = kept_record c numbers
after_answer (Ok None) numbers cursor values storm = left_record 0 cursor values storm (answer_numbers (pos 0) (pos 0) (pos 0))
after_answer (Err refusal) numbers cursor values storm = left_record (number_of refusal.kind) cursor values storm (refused_answer refusal.place)

abbrev pub after_next : Leaves (Result (Option Cursor) Refusal) → List ℤ → List ℤ → List ℤ → LeftRecord
after_next x cursor values storm = after_answer x.answer x.numbers cursor values storm

abbrev pub after_start : Result Cursor Refusal → List ℕ → ℕ → List ℤ → List ℤ → List ℤ → LeftRecord
after_start (Ok c) text count cursor values storm = after_next (next_left text count c.at c.line no_numbers) cursor values storm
after_start (Err refusal) text count cursor values storm = left_record (number_of refusal.kind) cursor values storm (refused_answer refusal.place)

abbrev pub read_record_with : Result Cursor Refusal → List ℕ → ℕ → List ℤ → List ℤ → List ℤ → List ℤ → LeftRecord
read_record_with x text count cursor values storm answer =
    cond (record_buffers (length cursor) (length values) (length storm) (length answer))
    (after_start x text count cursor values storm)
    (left_record wrong_buffer cursor values storm answer)

unfoldable pub read_record_call : List ℕ → ℕ → List ℤ → List ℤ → List ℤ → List ℤ → LeftRecord
read_record_call text count cursor values storm answer = read_record_with (start_of text (cursor_of cursor)) text count cursor values storm answer

-- the promise of the call, on these and with this left
abbrev pub ReadsRecord : List ℕ → ℕ → List ℤ → List ℤ → List ℤ → List ℤ → LeftRecord → Type 0
ReadsRecord text count cursor values storm answer left = left ≡ read_record_call text count cursor values storm answer
