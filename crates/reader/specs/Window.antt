-- Reading through windows. A window is a part of the text; `last` says whether the text ends with it.
-- What a step finds in a window is said of the whole text, and reading by any windows is defined. Assumes nothing.
use Rattle.std.specs.Prelude.{Result, Ok, Err, ◌≡◌, Bool, true, false, cond, List, [], ◌∷◌, ◌++◌, ℕ, suc, ◌+◌, ◌-◌, ◌*◌, ◌<◌, ◌≤◌, length, take, drop, leb, ℤ}
use Rattle.records.specs.declared.Refusal.{Refusal}
use Rattle.records.specs.Shapes.{Record}
use Rattle.reader.specs.Text.{byte}
use Rattle.reader.specs.Lines.{Outcome, read, refused, Leaves, leaves, holds}
use Rattle.reader.specs.Storm.{Stop, ended, stopped, paused, unread, Storm, none_more, storm_start, storm_by, storm_rest, storm_of, answered, start_step, Seen, needs-more, seen, record_step}
use Rattle.reader.specs.Traverse.{Held, held, start, rest_at, read_left, traverse_left, traverse_step}
use Rattle.reader.specs.declared.Cursor.{Cursor}
use Rattle.reader.specs.declared.storm.Halt.{Halt}
use Rattle.reader.specs.declared.storm.Halt.TheVariants as halt
use Rattle.reader.specs.declared.traverse.TraverseRead.{TraverseRead}
use Rattle.reader.specs.declared.traverse.Progress.{Progress}
use Rattle.reader.specs.declared.traverse.Progress.TheVariants as progress

-- w is the part of the text s from o on, and s ends with it where it is the last
pub record Shows (s w : List ℕ) (o : ℕ) (last : Bool) : Type 0 where
  pub within : o + length w ≤ length s
  pub bytes : (j : ℕ) → j < length w → byte s (o + j) ≡ byte w j
  pub ends : last ≡ true → length s ≡ o + length w

-- what was read at a place of the window, said of the text
abbrev pub moved : {A : Type 0} → ℕ → Outcome A → Outcome A
moved o (read x at line) = read x (o + at) line
moved o (refused r) = refused r

-- what a step on a traverse text comes to: what it leaves, or what the rest of the text from where it stopped leaves
abbrev pub carried_by : List ℕ → ℕ → Result Progress Refusal → List ℤ → Leaves (Result TraverseRead Refusal)
carried_by s o (Ok (progress.Read t)) l = leaves (Ok t) l
carried_by s o (Ok (progress.More c k)) l = read_left (rest_at s (held k l) (o + c.at) c.line)
carried_by s o (Err r) l = leaves (Err r) l

abbrev pub carried : List ℕ → ℕ → Leaves (Result Progress Refusal) → Leaves (Result TraverseRead Refusal)
carried s o x = carried_by s o x.answer x.numbers

-- ---- any windows, one after another

-- a window by how far it reaches back before the place where reading stands, by its size at most, and by whether the text's end is shown
-- where it reaches that far: a program sees that a file has ended only by reading once more
pub record Cut : Type 0 where
  pub back : ℕ
  pub size : ℕ
  pub shown : Bool

abbrev pub from_of : Cut → ℕ → ℕ
from_of c at = at - c.back

abbrev pub window_of : List ℕ → Cut → ℕ → List ℕ
window_of s c at = take c.size (drop (from_of c at) s)

abbrev pub last_of : List ℕ → Cut → ℕ → Bool
last_of s c at = cond c.shown (leb (length s) (from_of c at + c.size)) false

-- ---- a traverse text

-- reading by windows: what it leaves, or how far it came when there are no more windows
pub data TraverseRun : Type 0 where
  done : Leaves (Result TraverseRead Refusal) → TraverseRun
  going : Held → ℕ → ℕ → TraverseRun

-- after a step: what it leaves, or on with the next window
abbrev pub run_on : ℕ → Result Progress Refusal → List ℤ → (Held → ℕ → ℕ → TraverseRun) → TraverseRun
run_on o (Ok (progress.Read t)) l next = done (leaves (Ok t) l)
run_on o (Ok (progress.More c k)) l next = next (held k l) (o + c.at) c.line
run_on o (Err r) l next = done (leaves (Err r) l)

abbrev pub step_in : List ℕ → Cut → Held → ℕ → ℕ → Leaves (Result Progress Refusal)
step_in s c h at line = traverse_step (window_of s c at) (last_of s c at) h (at - from_of c at) line

unfoldable pub traverse_run : List ℕ → List Cut → Held → ℕ → ℕ → TraverseRun
traverse_run s [] h at line = going h at line
traverse_run s (c ∷ cuts) h at line =
    run_on (from_of c at) (step_in s c h at line).answer (step_in s c h at line).numbers (traverse_run s cuts)

-- ---- a storm text

-- the records by windows, from a place on
abbrev pub storm_on : ℕ → ℕ → ℕ → Seen → (ℕ → ℕ → Storm) → Storm
storm_on o at line needs-more next = next at line
storm_on o at line (seen r) next = storm_by (moved o r) next

unfoldable pub storm_run : List ℕ → ℕ → List Cut → ℕ → ℕ → Storm
storm_run s n [] at line = none_more (paused at line)
storm_run s n (c ∷ cuts) at line =
    storm_on (from_of c at) at line (record_step (window_of s c at) (last_of s c at) n (at - from_of c at) line) (storm_run s n cuts)

-- the whole text by windows: its names line first
abbrev pub start_on : Result Cursor Halt → Storm → (ℕ → ℕ → Storm) → Storm
start_on (Err halt.More) again next = again
start_on (Ok c) again next = next c.at c.line
start_on (Err (halt.Refused r)) again next = none_more (stopped r)

unfoldable pub storm_text_run : List ℕ → ℕ → List Cut → Storm
storm_text_run s n [] = none_more unread
storm_text_run s n (c ∷ cuts) = start_on (start_step (window_of s c 0) (last_of s c 0)) (storm_text_run s n cuts) (storm_run s n cuts)

-- ---- what reading by windows comes to: its answer, and where the windows end before it, the rest of the text read whole

abbrev pub traverse_done : List ℕ → TraverseRun → Leaves (Result TraverseRead Refusal)
traverse_done s (done x) = x
traverse_done s (going h at line) = read_left (rest_at s h at line)

abbrev pub storm_done_by : List ℕ → ℕ → List Record → Stop → Storm
storm_done_by s n records ended = record { records = records; stop = ended }
storm_done_by s n records (stopped r) = record { records = records; stop = stopped r }
storm_done_by s n records unread = record { records = records ++ (storm_of s n).records; stop = (storm_of s n).stop }
storm_done_by s n records (paused at line) = record { records = records ++ (storm_rest s n at line).records; stop = (storm_rest s n at line).stop }

abbrev pub storm_done : List ℕ → ℕ → Storm → Storm
storm_done s n x = storm_done_by s n x.records x.stop

-- ---- the statements on one step, proved in proofs/Steps.antt: for every text and every window of it

-- reading on from a step's answer is reading on from where the step began
abbrev pub TraverseStepHolds : Type 0
TraverseStepHolds =
    (s w : List ℕ) (o : ℕ) (last : Bool) → Shows s w o last → (h : Held) (at line : ℕ) → carried s o (traverse_step w last h at line) ≡ read_left (rest_at s h (o + at) line)

abbrev pub StartStepHolds : Type 0
StartStepHolds = (s w : List ℕ) (last : Bool) → Shows s w 0 last → holds (length w) last 0 32 ≡ true → start_step w last ≡ answered (storm_start s)

abbrev pub RecordStepHolds : Type 0
RecordStepHolds =
    (s w : List ℕ) (o : ℕ) (last : Bool) (n at line : ℕ) → Shows s w o last → o + at ≤ length s
    → storm_on o (o + at) line (record_step w last n at line) (storm_rest s n) ≡ storm_rest s n (o + at) line

-- ---- the statements on windows one after another, proved in proofs/Windows.antt: for every text and all windows, whatever their sizes

-- reading a traverse text by windows leaves what reading it whole leaves, whatever is lent
abbrev pub TraverseByWindows : Type 0
TraverseByWindows = (s : List ℕ) (cuts : List Cut) (lent : List ℤ) → traverse_done s (traverse_run s cuts (held start lent) 0 0) ≡ traverse_left s lent

-- and so does reading a storm text, and its records from any place of it on
abbrev pub StormByWindows : Type 0
StormByWindows = (s : List ℕ) (n : ℕ) (cuts : List Cut) (at line : ℕ) → at ≤ length s → storm_done s n (storm_run s n cuts at line) ≡ storm_rest s n at line

abbrev pub StormTextByWindows : Type 0
StormTextByWindows = (s : List ℕ) (n : ℕ) (cuts : List Cut) → storm_done s n (storm_text_run s n cuts) ≡ storm_of s n

-- how many of the windows show so many bytes from the place on, or the end and that it is the end; the others may be of any kind
abbrev pub shown_by : ℕ → Cut → Bool
shown_by need c = cond c.shown (leb (c.back + need) c.size) false

unfoldable pub enough : ℕ → List Cut → ℕ
enough need [] = 0
enough need (c ∷ cuts) = cond (shown_by need c) (suc (enough need cuts)) (enough need cuts)

-- as many windows that show a line as the text has bytes, and one more, finish it
abbrev pub TraverseFinishes : Type 0
TraverseFinishes = (s : List ℕ) (cuts : List Cut) (lent : List ℤ) → length s < enough 33 cuts → traverse_run s cuts (held start lent) 0 0 ≡ done (traverse_left s lent)

-- and a storm where they show a record
abbrev pub StormFinishes : Type 0
StormFinishes = (s : List ℕ) (n : ℕ) (cuts : List Cut) (at line : ℕ) → at ≤ length s → length s < at + enough (n * 55) cuts → storm_run s n cuts at line ≡ storm_rest s n at line
