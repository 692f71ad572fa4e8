-- Document 01, "Files": the text of `storm.txt`, record after record. What the text has is said of the text alone (`next_at`, `storm_of`), and
-- what a call leaves in the numbers that it was lent by `next_left` and `record_step_left`. Assumes nothing.
use Rattle.std.specs.Prelude.{Option, Some, None, Result, Ok, Err, ℕ, zero, suc, ◌+◌, ◌*◌, List, [], ◌∷◌, Bool, true, cond, ◌&&◌, length, take, drop, ℤ, ltb}
use Rattle.records.specs.declared.Kind.TheVariants.{Ended, Points, Lent}
use Rattle.records.specs.declared.Refusal.{Refusal}
use Rattle.records.specs.Refusals.{refusal}
use Rattle.records.specs.Groups.{at as number_at}
use Rattle.records.specs.Limits.{count_ok}
use Rattle.records.specs.Shapes.{Record, storm}
use Rattle.reader.specs.Lines.{Outcome, read, refused, found, Leaves, leaves, laid, LinesRead, lines_at, names_at, holds}
use Rattle.reader.specs.declared.Cursor.{Cursor}
use Rattle.reader.specs.declared.storm.Halt.{Halt}
use Rattle.reader.specs.declared.storm.Halt.TheVariants as halt

-- the names line `seconds tide wind angle deficit`, with its line feed
abbrev pub storm_names : List ℕ
storm_names = 115 ∷ 101 ∷ 99 ∷ 111 ∷ 110 ∷ 100 ∷ 115 ∷ 32 ∷ 116 ∷ 105 ∷ 100 ∷ 101 ∷ 32 ∷ 119 ∷ 105 ∷ 110 ∷ 100 ∷ 32 ∷ 97 ∷ 110 ∷ 103 ∷ 108 ∷ 101 ∷ 32 ∷ 100 ∷ 101 ∷ 102 ∷ 105 ∷ 99 ∷ 105 ∷ 116 ∷ 10 ∷ []

-- the first line of a storm text
unfoldable pub storm_start : List ℕ → Result Cursor Refusal
storm_start s = names_at s storm_names 0 0

-- ---- a record

-- the record that numbers are: seconds, tide, and then three for each point
unfoldable pub record_of : List ℤ → Record
record_of l = storm (record { seconds = number_at l 0; tide = number_at l 1 }) (drop 2 l)

-- how many numbers a record of n points is
abbrev pub record_size : ℕ → ℕ
record_size n = 2 + 3 * n

-- the record of n points that the first of a slice's numbers are
abbrev pub record_in : ℕ → List ℤ → Record
record_in n l = storm (record { seconds = number_at l 0; tide = number_at l 1 }) (take (3 * n) (drop 2 l))

-- what a storm text has next: a record, or no more
pub data Further : Type 0 where
  one : Record → Further
  none : Further

-- the lines of a record of n points: five values each, of which seconds and tide are those of the first line
abbrev pub record_lines : List ℕ → ℕ → ℕ → ℕ → LinesRead
record_lines s n at line = lines_at s 5 2 n 0 at line []

-- the next record, for a traverse of n points. Where the text has ended there is none; 3 where that would be the first, which has one line, the
-- names, before it
unfoldable pub next_at : List ℕ → ℕ → ℕ → ℕ → Outcome Further
next_at s n at line =
    cond (count_ok n)
    (cond (ltb at (length s))
    (found (record_lines s n at line).answer (one (record_of (record_lines s n at line).kept)))
    (cond (ltb 1 line) (read none at line) (refused (refusal Ended line))))
    (refused (refusal Points n))

-- the numbers that are kept of it, whatever is found
unfoldable pub kept_at : List ℕ → ℕ → ℕ → ℕ → List ℤ
kept_at s n at line = cond (count_ok n) (cond (ltb at (length s)) (record_lines s n at line).kept []) []

-- the answer for each case: the cursor past the record, the end of the text, or the refusal
unfoldable pub next_of : Outcome Further → Result (Option Cursor) Refusal
next_of (read (one r) at line) = Ok (Some (record { at = at; line = line }))
next_of (read none at line) = Ok None
next_of (refused r) = Err r

-- whether a record of n points has no place in so many lent numbers; a count that is refused needs none
unfoldable pub too_few : ℕ → ℕ → Bool
too_few n size = count_ok n && ltb size (record_size n)

-- what the call leaves: the numbers as lent where they are too few, otherwise what was kept laid into them
unfoldable pub next_left : List ℕ → ℕ → ℕ → ℕ → List ℤ → Leaves (Result (Option Cursor) Refusal)
next_left s n at line lent =
    cond (too_few n (length lent))
    (leaves (Err (refusal Lent 0)) lent)
    (leaves (next_of (next_at s n at line)) (laid (kept_at s n at line) lent))

-- ---- the whole text

-- how reading a storm ends: with the text, or with a refusal. By windows alone: no more of them, with the place and the lines before it, or
-- before the names line was read
pub data Stop : Type 0 where
  ended : Stop
  stopped : Refusal → Stop
  paused : ℕ → ℕ → Stop
  unread : Stop

-- the records in their order, and how reading ends
pub record Storm : Type 0 where
  pub records : List Record
  pub stop : Stop

abbrev pub none_more : Stop → Storm
none_more e = record { records = []; stop = e }

abbrev pub with : Record → Storm → Storm
with r x = record { records = r ∷ x.records; stop = x.stop }

abbrev pub storm_by : Outcome Further → (ℕ → ℕ → Storm) → Storm
storm_by (read (one r) a l) next = with r (next a l)
storm_by (read none a l) next = none_more ended
storm_by (refused r) next = none_more (stopped r)

-- the records from a place on, k at most; a text has no more records than bytes
unfoldable pub records_by : List ℕ → ℕ → ℕ → ℕ → ℕ → Storm
records_by s n zero at line = none_more ended
records_by s n (suc k) at line = storm_by (next_at s n at line) (records_by s n k)

unfoldable pub storm_rest : List ℕ → ℕ → ℕ → ℕ → Storm
storm_rest s n at line = records_by s n (suc (length s)) at line

-- the whole text, for a traverse of n points: the names line, and record after record
abbrev pub storm_from : Result Cursor Refusal → (ℕ → ℕ → Storm) → Storm
storm_from (Ok c) next = next c.at c.line
storm_from (Err r) next = none_more (stopped r)

unfoldable pub storm_of : List ℕ → ℕ → Storm
storm_of s n = storm_from (storm_start s) (storm_rest s n)

-- ---- windows: w is a part of the text, and `last` says whether the text ends with it

-- what reading the whole text answers, as reading in a window answers it
abbrev pub answered : {A : Type 0} → Result A Refusal → Result A Halt
answered (Ok x) = Ok x
answered (Err r) = Err (halt.Refused r)

-- the first line in a window, or that more of the text is needed
unfoldable pub start_step : List ℕ → Bool → Result Cursor Halt
start_step w last = cond (holds (length w) last 0 32) (answered (storm_start w)) (Err halt.More)

-- the bytes of the longest record, of 65 lines
abbrev pub longest_record : ℕ
longest_record = 3575

-- whether a window of so many bytes is enough for the next record: 55 bytes for each line, eleven for each value
unfoldable pub holds_record : ℕ → Bool → ℕ → ℕ → Bool
holds_record size last n at = cond (count_ok n) (holds size last at (n * 55)) true

-- what a window shows: that more of the text is needed, or what the text has next
pub data Seen : Type 0 where
  needs-more : Seen
  seen : Outcome Further → Seen

unfoldable pub record_step : List ℕ → Bool → ℕ → ℕ → ℕ → Seen
record_step w last n at line = cond (holds_record (length w) last n at) (seen (next_at w n at line)) needs-more

-- what the call leaves
unfoldable pub record_step_left : List ℕ → Bool → ℕ → ℕ → ℕ → List ℤ → Leaves (Result (Option Cursor) Halt)
record_step_left w last n at line lent =
    cond (holds_record (length w) last n at)
    (leaves (answered (next_left w n at line lent).answer) (next_left w n at line lent).numbers)
    (leaves (Err halt.More) lent)
