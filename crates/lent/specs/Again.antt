-- The calls one after the other: what opening writes is the march's own state, what reading texts writes is what the texts have (`traverse_of`,
-- `storm_of`), and the next call takes it. A call is spoken of by its promise alone: `Opens`, `ReadsTraverse`, `ReadsRecord`. Statements; the proofs are
-- in `proofs/Again.antt`.
use Rattle.std.specs.Prelude.{◌≡◌, List, [], ◌∷◌, map, ℕ, ◌*◌, ◌<◌, ◌≤◌, ◌^◌, length, take, ℤ, pos, Result, Ok, Err}
use Rattle.records.specs.declared.Head.{Head}
use Rattle.records.specs.declared.Refusal.{Refusal}
use Rattle.records.specs.Refusals.{number_of}
use Rattle.records.specs.Groups.{at}
use Rattle.records.specs.Shapes.{Traverse, traverse, count, Record, storm}
use Rattle.march.specs.Answers.{opened}
use Rattle.march.specs.Checks.{open_of}
use Rattle.reader.specs.declared.Cursor.{Cursor}
use Rattle.reader.specs.Lines.{Outcome, read, refused}
use Rattle.reader.specs.Traverse.{traverse_of}
use Rattle.reader.specs.Storm.{Further, one, none, next_at, Stop, ended, stopped, paused, unread, Storm, storm_of}
use Rattle.lent.specs.Numbers.{state_numbers, answer_numbers, refused_answer}
use Rattle.lent.specs.Calls.{LeftOpen, open_call, open_with, Opens}
use Rattle.lent.specs.Texts.{LeftTraverse, ReadsTraverse, lent_place, cursor_of, cursor_numbers, start_of, RecordIn, LeftRecord, ReadsRecord}

-- ---- opening a traverse

-- a call of `open_traverse` that kept its promise and returned 0, with a limit on points
pub record Opening (most : ℕ) (head : Head) (points : List ℤ) : Type 0 where
  pub state : List ℤ
  pub answer : List ℤ
  pub left : LeftOpen
  pub state-is : length state ≡ 2
  pub answer-is : length answer ≡ 3
  pub kept : Opens most head.latitude head.friction head.initial points state answer left
  pub accepted : left.number ≡ 0

-- the traverse is one that the march accepts, and the state that was written is the one that it starts from
abbrev pub OpenAgain : Type 0
OpenAgain =
    (most : ℕ) (head : Head) (points : List ℤ) (x : Opening most head points) → let o = open_of most (traverse head points) in
    (o.answer ≡ opened) × (x.left.state ≡ state_numbers o.state)

-- ---- a traverse text

-- what a call returned and answered tells this refusal
abbrev pub RefusalTold : ℕ → List ℤ → Refusal → Type 0
RefusalTold number answer r = (number ≡ number_of r.kind) × (answer ≡ refused_answer r.place)

-- what opening is given of it: the head, and as many points as the answer says
abbrev pub head_left : LeftTraverse → Head
head_left x = record { latitude = at x.head 0; friction = at x.head 1; initial = at x.head 2 }

abbrev pub points_left : LeftTraverse → List ℤ
points_left x = take (2 * lent_place (at x.answer 1)) x.points

-- the call tells what the text has: its traverse, with the count of its points, which is then the one that opening opens; or its refusal
abbrev pub TraverseTold : LeftTraverse → Outcome Traverse → Type 0
TraverseTold x (read t place line) =
    (x.number ≡ 0)
    × (x.answer ≡ answer_numbers (pos 0) (pos (count t)) (pos 0))
    × (traverse (head_left x) (points_left x) ≡ t)
    × ((most : ℕ) (state answer : List ℤ) → open_call most (at x.head 0) (at x.head 1) (at x.head 2) (points_left x) state answer ≡ open_with most t state answer)
TraverseTold x (refused r) = RefusalTold x.number x.answer r

-- a call of `read_traverse` that kept its promise, on numbers of the right lengths
pub record TraverseReading (text : List ℕ) : Type 0 where
  pub head : List ℤ
  pub points : List ℤ
  pub answer : List ℤ
  pub left : LeftTraverse
  pub head-is : length head ≡ 3
  pub points-are : length points ≡ 130
  pub answer-is : length answer ≡ 3
  pub kept : ReadsTraverse text head points answer left

-- whatever it returns; and where that is 0, which no refusal's number is, the text has the traverse that was written
pub record TraverseAgain (text : List ℕ) (x : TraverseReading text) : Type 0 where
  pub told : TraverseTold x.left (traverse_of text)
  pub accepted : x.left.number ≡ 0 → (place : ℕ) × (line : ℕ) × (traverse_of text ≡ read (traverse (head_left x.left) (points_left x.left)) place line)

-- ---- a cursor is read back as it was written

-- a cursor in a text, with no more lines before it than bytes. The one to begin with is of this kind, and so is each that a call leaves (`RecordTold`)
pub record On (text : List ℕ) (c : Cursor) : Type 0 where
  pub place : c.at ≤ length text
  pub lines : c.line ≤ c.at

-- where both its numbers are below 2^63, as the numbers with sign are; in a text of fewer bytes they are, and no slice has more
pub record CursorAgain : Type 0 where
  pub small : (c : Cursor) → c.at < 2 ^ 63 → c.line < 2 ^ 63 → cursor_of (cursor_numbers c) ≡ c
  pub in-text : (text : List ℕ) → length text < 2 ^ 63 → (c : Cursor) → On text c → cursor_of (cursor_numbers c) ≡ c

-- ---- a record of a storm text

-- what taking a record is given of it: two values, and three numbers for each of n points
abbrev pub record_left : ℕ → LeftRecord → Record
record_left n x = storm (record { seconds = at x.values 0; tide = at x.values 1 }) (take (3 * n) x.storm)

-- the call tells what the text has next: a record, with the cursor past it, the end, or a refusal
abbrev pub RecordTold : List ℕ → ℕ → LeftRecord → Outcome Further → Type 0
RecordTold text n x (read (one r) place line) =
    let c : Cursor = record { at = place; line = line } in
    (x.number ≡ 0) × (x.answer ≡ answer_numbers (pos 0) (pos 1) (pos 0)) × (record_left n x ≡ r) × (x.cursor ≡ cursor_numbers c) × On text c
RecordTold text n x (read none place line) = (x.number ≡ 0) × (x.answer ≡ answer_numbers (pos 0) (pos 0) (pos 0))
RecordTold text n x (refused r) = RefusalTold x.number x.answer r

-- what the text has next, once its names line was read
abbrev pub next_from : List ℕ → ℕ → Result Cursor Refusal → Outcome Further
next_from text n (Ok c) = next_at text n c.at c.line
next_from text n (Err r) = refused r

abbrev pub RecordAgain : Type 0
RecordAgain =
    (text : List ℕ) → length text < 2 ^ 63 → (n : ℕ) (c : Cursor) → On text c
    → (values storm answer : List ℤ) (x : LeftRecord) → RecordIn (cursor_numbers c) values storm answer → ReadsRecord text n (cursor_numbers c) values storm answer x
    → RecordTold text n x (next_from text n (start_of text c))

-- ---- a whole storm text

-- a call: what it was lent beside the text and the cursor, and what it answered and left
pub record ReadCall : Type 0 where
  pub values : List ℤ
  pub storm : List ℤ
  pub answer : List ℤ
  pub left : LeftRecord

module _ (text : List ℕ) (n : ℕ) where
  -- the call keeps the promise of `fennhop_read_record` on this cursor, and what it was lent has its lengths
  abbrev pub ReadKept : List ℤ → ReadCall → Type 0
  ReadKept cursor c = RecordIn cursor c.values c.storm c.answer × ReadsRecord text n cursor c.values c.storm c.answer c.left

  -- each says that it read a record, and the next is called on the cursor that it left
  unfoldable pub AllRead : List ℤ → List ReadCall → Type 0
  AllRead cursor [] = Unit {0}
  AllRead cursor (c ∷ calls) = ReadKept cursor c × (at c.left.answer 1 ≡ pos 1) × AllRead c.left.cursor calls

-- the cursor to begin with, and the one that calls leave
abbrev pub no_cursor : List ℤ
no_cursor = pos 0 ∷ pos 0 ∷ []

abbrev pub cursor_after : List ℤ → List ReadCall → List ℤ
cursor_after cursor [] = cursor
cursor_after cursor (c ∷ calls) = cursor_after c.left.cursor calls

-- how a call tells the end of the text, or the refusal; a whole text ends in no other way
abbrev pub StopTold : LeftRecord → Stop → Type 0
StopTold x ended = (x.number ≡ 0) × (x.answer ≡ answer_numbers (pos 0) (pos 0) (pos 0))
StopTold x (stopped r) = RefusalTold x.number x.answer r
StopTold x (paused place line) = ⊥
StopTold x unread = ⊥

-- what calls from a cursor on have read, where the text has these records from there and ends so
pub record StormRead (text : List ℕ) (n : ℕ) (cursor : List ℤ) (calls : List ReadCall) (s : Storm) : Type 0 where
  -- the records that they wrote are the text's first, in order
  pub begun : map (λ c. record_left n c.left) calls ≡ take (length calls) s.records
  -- and where one call more says that it read none, they are all, and that call tells how the text ends
  pub whole : (last : ReadCall) → ReadKept text n (cursor_after cursor calls) last → at last.left.answer 1 ≡ pos 0
      → (map (λ c. record_left n c.left) calls ≡ s.records) × StopTold last.left s.stop

-- from the start of a text on it is the whole storm that is read
abbrev pub StormAgain : Type 0
StormAgain = (text : List ℕ) → length text < 2 ^ 63 → (n : ℕ) (calls : List ReadCall) → AllRead text n no_cursor calls → StormRead text n no_cursor calls (storm_of text n)
