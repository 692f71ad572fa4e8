-- The driver's turns: what one turn on a window of `storm.txt` says, how it goes into the output buffer, and what turn after turn prints.
use Rattle.std.specs.Prelude.{◌≡◌, Bool, true, false, cond, List, [], ◌∷◌, ◌++◌, ℕ, ◌+◌, ◌-◌, ◌*◌, ◌<◌, ◌≤◌, eqb, leb, length, take, ℤ, Option, Some, None, Result, Ok, Err}
use Rattle.records.specs.declared.Refusal.{Refusal}
use Rattle.records.specs.Limits.{most_points}
use Rattle.records.specs.Shapes.{Traverse, Record, traverse, count}
use Rattle.listing.specs.Lines.{names_line, record_line, refused_line}
use Rattle.listing.specs.Put.{written}
use Rattle.reader.specs.declared.Cursor.{Cursor}
use Rattle.reader.specs.declared.storm.Halt.{Halt}
use Rattle.reader.specs.declared.storm.Halt.TheVariants as halt
use Rattle.reader.specs.Lines.{Leaves, read, refused}
use Rattle.reader.specs.Storm.{Seen, needs-more, seen, one, none, record_in, storm_rest, storm_of, start_step, record_step, record_step_left, longest_record}
use Rattle.reader.specs.declared.traverse.TraverseRead.{TraverseRead}
use Rattle.reader.specs.Traverse.{held, start, no_points}
use Rattle.reader.specs.Window.{Shows, Cut, from_of, window_of, last_of, enough, TraverseRun, done, going, traverse_run}
use Rattle.march.specs.declared.State.{State}
use Rattle.march.specs.Checks.{fresh_state, open_of}
use Rattle.march.specs.Answers.{Told, ToldOpen, opened, not_opened}
use Rattle.march.specs.Answers as answers
use Rattle.march.specs.Demand3.{fresh_rows}
use Rattle.hydrograph.specs.declared.Turn.{Turn}
use Rattle.hydrograph.specs.declared.Turn.TheVariants as turn
use Rattle.hydrograph.specs.declared.Run.{Run}
use Rattle.hydrograph.specs.Listing.{refusal_line, taken_by, storm_lines, listing_of}

-- ---- one turn, without a buffer. The cursor stands at a place of the window, with so many lines before it

pub data Said : Type 0 where
  -- more of the text is needed
  more : Said
  -- the names line was read, up to a place and a line
  reads : ℕ → ℕ → Said
  -- these bytes, and on from there with the state and the rows
  says : List ℕ → ℕ → ℕ → State → List ℤ → Said
  -- these bytes, and no more
  ends : List ℕ → Said
  -- the text has ended
  quiet : Said

-- a record that was read, up to a place and a line
abbrev pub said_taken : Told → ℕ → ℕ → State → List ℤ → Said
said_taken (answers.accepted elapsed low high) at line st rows = says (record_line elapsed low high) at line st rows
said_taken (answers.refused number place) at line st rows = ends (refused_line number place)

abbrev pub taken_said : Traverse → Record → ℕ → ℕ → State → List ℤ → Said
taken_said t r at line st rows = said_taken (taken_by t r st rows).answer at line (taken_by t r st rows).state (taken_by t r st rows).rows

-- what a window shows
abbrev pub said_seen : Seen → Traverse → State → List ℤ → Said
said_seen needs-more t st rows = more
said_seen (seen (read (one r) at line)) t st rows = taken_said t r at line st rows
said_seen (seen (read none at line)) t st rows = quiet
said_seen (seen (refused r)) t st rows = ends (refusal_line r)

abbrev pub said_start : Result Cursor Halt → Said
said_start (Err halt.More) = more
said_start (Ok c) = reads c.at c.line
said_start (Err (halt.Refused r)) = ends (refusal_line r)

-- the names line, where none was read yet, and a record
abbrev pub start_turn : List ℕ → Bool → Said
start_turn w last = said_start (start_step w last)

abbrev pub record_turn : Traverse → List ℕ → Bool → ℕ → ℕ → State → List ℤ → Said
record_turn t w last at line st rows = said_seen (record_step w last (count t) at line) t st rows

unfoldable pub turn_of : Traverse → List ℕ → Bool → ℕ → ℕ → State → List ℤ → Said
turn_of t w last at line st rows = cond (eqb line 0) (start_turn w last) (record_turn t w last at line st rows)

-- the lines still to come from a place of the text s on: all the storm's where its names line was not read yet
abbrev pub lines_from : List ℕ → Traverse → ℕ → ℕ → State → List ℤ → List ℕ
lines_from s t at line st rows = cond (eqb line 0) (storm_lines t st rows (storm_of s (count t))) (storm_lines t st rows (storm_rest s (count t) at line))

-- what a turn said on a window that begins at o, and the lines still to come after it
abbrev pub said_then : List ℕ → Traverse → ℕ → ℕ → ℕ → State → List ℤ → Said → List ℕ
said_then s t o at line st rows more = lines_from s t (o + at) line st rows
said_then s t o at line st rows (reads a l) = lines_from s t (o + a) l st rows
said_then s t o at line st rows (says bytes a l st' rows') = bytes ++ lines_from s t (o + a) l st' rows'
said_then s t o at line st rows (ends bytes) = bytes
said_then s t o at line st rows quiet = []

-- the statement, proved in `proofs/Tells.antt`: a turn on any window of a text, whatever its size, says the lines that come next
abbrev pub TurnTells : Type 0
TurnTells =
    (s w : List ℕ) (t : Traverse) (o : ℕ) (last : Bool) → Shows s w o last → (at line : ℕ) (st : State) (rows : List ℤ) → at ≤ length w → (line ≡ 0 → o ≡ 0)
    → said_then s t o at line st rows (turn_of t w last at line st rows) ≡ lines_from s t (o + at) line st rows

-- ---- the same by the numbers that a record is read into: they are the record where there is room for it (`proofs/RecordRead.antt`, `turn-seen`)

abbrev pub said_step : Result (Option Cursor) Halt → List ℤ → Traverse → State → List ℤ → Said
said_step (Err halt.More) numbers t st rows = more
said_step (Ok (Some c)) numbers t st rows = taken_said t (record_in (count t) numbers) c.at c.line st rows
said_step (Ok None) numbers t st rows = quiet
said_step (Err (halt.Refused r)) numbers t st rows = ends (refusal_line r)

-- what is said, and the lent numbers then
pub record Heard : Type 0 where
  pub said : Said
  pub numbers : List ℤ

abbrev pub heard_step : Leaves (Result (Option Cursor) Halt) → Traverse → State → List ℤ → Heard
heard_step x t st rows = record { said = said_step x.answer x.numbers t st rows; numbers = x.numbers }

abbrev pub record_heard : Traverse → List ℕ → Bool → ℕ → ℕ → State → List ℤ → List ℤ → Heard
record_heard t w last at line st rows numbers = heard_step (record_step_left w last (count t) at line numbers) t st rows

unfoldable pub turn_heard : Traverse → List ℕ → Bool → ℕ → ℕ → State → List ℤ → List ℤ → Heard
turn_heard t w last at line st rows numbers =
    cond (eqb line 0) (record { said = start_turn w last; numbers = numbers }) (record_heard t w last at line st rows numbers)

-- ---- with the buffer `out`, of which `used` bytes are taken: where there is no room for a line, nothing is done

-- the most bytes of a line: three numbers of 21 with what closes them
abbrev pub line_room : ℕ
line_room = 66

pub record LeftTurn : Type 0 where
  pub turn : Turn
  pub run : Run
  pub numbers : List ℤ
  pub rows : List ℤ
  pub out : List ℕ

abbrev pub left_turn : Turn → Run → List ℤ → List ℤ → List ℕ → LeftTurn
left_turn turn run numbers rows out = record { turn = turn; run = run; numbers = numbers; rows = rows; out = out }

abbrev pub left_with : Turn → ℕ → ℕ → State → List ℤ → List ℤ → List ℕ → LeftTurn
left_with turn at line st numbers rows out = record { turn = turn; run = record { cursor = record { at = at; line = line }; state = st }; numbers = numbers; rows = rows; out = out }

-- what is said, printed
abbrev pub printed : Said → Run → List ℤ → List ℤ → List ℕ → ℕ → LeftTurn
printed more run numbers rows out used = record { turn = turn.More; run = run; numbers = numbers; rows = rows; out = out }
printed (reads at line) run numbers rows out used = left_with (turn.Line used) at line run.state numbers rows out
printed (says bytes at line st rows') run numbers rows out used = left_with (turn.Line (used + length bytes)) at line st numbers rows' (written bytes used out)
printed (ends bytes) run numbers rows out used = record { turn = turn.End (used + length bytes); run = run; numbers = numbers; rows = rows; out = written bytes used out }
printed quiet run numbers rows out used = record { turn = turn.End used; run = run; numbers = numbers; rows = rows; out = out }

-- a turn: `run`, `numbers`, `rows` and `out` are as lent
unfoldable pub turn_left : Heard → Run → List ℤ → List ℤ → List ℕ → ℕ → LeftTurn
turn_left heard run numbers rows out used =
    cond (leb (used + line_room) (length out))
    (printed heard.said run heard.numbers rows out used)
    (record { turn = turn.Full; run = run; numbers = numbers; rows = rows; out = out })

-- ---- opening: the names line and a fresh run, or the refusal. The rows are the caller's to make fresh

abbrev pub fresh_run : Run
fresh_run = record { cursor = record { at = 0; line = 0 }; state = fresh_state }

abbrev pub said_open : ToldOpen → State → List ℤ → Said
said_open opened st rows = says names_line 0 0 st rows
said_open (not_opened number place) st rows = ends (refused_line number place)

unfoldable pub begin_of : Traverse → List ℤ → Said
begin_of t rows = said_open (open_of most_points t).answer (open_of most_points t).state rows

-- ---- turn after turn, on any windows of the storm text s

-- all the bytes that are said, and whether the last was said
pub record Driven : Type 0 where
  pub bytes : List ℕ
  pub finished : Bool

abbrev pub also : List ℕ → Driven → Driven
also bytes d = record { bytes = bytes ++ d.bytes; finished = d.finished }

abbrev pub drive_on : Said → ℕ → ℕ → ℕ → State → List ℤ → (ℕ → ℕ → State → List ℤ → Driven) → Driven
drive_on more o at line st rows next = next at line st rows
drive_on (reads at' line') o at line st rows next = next (o + at') line' st rows
drive_on (says bytes at' line' st' rows') o at line st rows next = also bytes (next (o + at') line' st' rows')
drive_on (ends bytes) o at line st rows next = record { bytes = bytes; finished = true }
drive_on quiet o at line st rows next = record { bytes = []; finished = true }

unfoldable pub drive_from : List ℕ → Traverse → List Cut → ℕ → ℕ → State → List ℤ → Driven
drive_from s t [] at line st rows = record { bytes = []; finished = false }
drive_from s t (c ∷ cuts) at line st rows =
    drive_on (turn_of t (window_of s c at) (last_of s c at) (at - from_of c at) line st rows) (from_of c at) at line st rows (drive_from s t cuts)

-- ---- both files: the traverse text tt by its windows, then the storm text s by its own

abbrev pub after_opened : Said → Traverse → List ℕ → List Cut → Driven
after_opened more t s cuts = record { bytes = []; finished = false }
after_opened (reads at line) t s cuts = record { bytes = []; finished = false }
after_opened (says bytes at line st rows) t s cuts = also bytes (drive_from s t cuts at line st rows)
after_opened (ends bytes) t s cuts = record { bytes = bytes; finished = true }
after_opened quiet t s cuts = record { bytes = []; finished = false }

-- the traverse that was read into so many numbers
abbrev pub read_traverse : TraverseRead → List ℤ → Traverse
read_traverse x points = traverse x.head (take (2 * x.count) points)

abbrev pub after_whole : Result TraverseRead Refusal → List ℤ → List ℕ → List Cut → Driven
after_whole (Ok x) points s cuts = after_opened (begin_of (read_traverse x points) (fresh_rows (read_traverse x points))) (read_traverse x points) s cuts
after_whole (Err r) points s cuts = record { bytes = refusal_line r; finished = true }

abbrev pub after_run : TraverseRun → List ℕ → List Cut → Driven
after_run (done x) s cuts = after_whole x.answer x.numbers s cuts
after_run (going h at line) s cuts = record { bytes = []; finished = false }

unfoldable pub drive_all : List ℕ → List Cut → List ℕ → List Cut → Driven
drive_all tt cuts_t s cuts = after_run (traverse_run tt cuts_t (held start no_points) 0 0) s cuts

-- ---- the statements, proved in `proofs/Driven.antt`: for any windows of the texts, whatever their sizes

-- bytes that lines begin with
pub record Begins (bytes lines : List ℕ) : Type 0 where
  pub rest : List ℕ
  pub joined : bytes ++ rest ≡ lines

-- what the turns on a storm text said begins the storm's lines, as far as they went
abbrev pub StormBegins : Type 0
StormBegins =
    (s : List ℕ) (t : Traverse) (cuts : List Cut) (st : State) (rows : List ℤ) →
    Begins (drive_from s t cuts 0 0 st rows).bytes (storm_lines t st rows (storm_of s (count t)))

-- and is all of them once it is finished
abbrev pub StormDriven : Type 0
StormDriven =
    (s : List ℕ) (t : Traverse) (cuts : List Cut) (st : State) (rows : List ℤ) →
    (drive_from s t cuts 0 0 st rows).finished ≡ true → (drive_from s t cuts 0 0 st rows).bytes ≡ storm_lines t st rows (storm_of s (count t))

-- which it is where enough of the windows show a record, of 3,575 bytes at most, or the end and that it is the end
abbrev pub StormEnds : Type 0
StormEnds =
    (s : List ℕ) (t : Traverse) (cuts : List Cut) (st : State) (rows : List ℤ) → length s + 1 < enough longest_record cuts →
    (drive_from s t cuts 0 0 st rows).finished ≡ true

-- the same of both files and the listing
abbrev pub ListingBegins : Type 0
ListingBegins = (tt : List ℕ) (cuts_t : List Cut) (s : List ℕ) (cuts : List Cut) → Begins (drive_all tt cuts_t s cuts).bytes (listing_of tt s)

abbrev pub ListingDriven : Type 0
ListingDriven =
    (tt : List ℕ) (cuts_t : List Cut) (s : List ℕ) (cuts : List Cut) →
    (drive_all tt cuts_t s cuts).finished ≡ true → (drive_all tt cuts_t s cuts).bytes ≡ listing_of tt s

abbrev pub ListingEnds : Type 0
ListingEnds =
    (tt : List ℕ) (cuts_t : List Cut) (s : List ℕ) (cuts : List Cut) → length tt < enough 33 cuts_t → length s + 1 < enough longest_record cuts →
    (drive_all tt cuts_t s cuts).finished ≡ true

-- so enough such windows print just the listing
abbrev pub ListingWhole : Type 0
ListingWhole =
    (tt : List ℕ) (cuts_t : List Cut) (s : List ℕ) (cuts : List Cut) → length tt < enough 33 cuts_t → length s + 1 < enough longest_record cuts →
    drive_all tt cuts_t s cuts ≡ record { bytes = listing_of tt s; finished = true }
