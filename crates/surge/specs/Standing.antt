-- How the program stands between two turns, with all that is lent, and what a turn does. Assumes nothing.
use Rattle.std.specs.Prelude.{◌≡◌, Bool, true, false, List, ℕ, ◌+◌, ◌<◌, ◌≤◌, length, take, replicate, ℤ, pos, Result, Ok, Err}
use Rattle.std.specs.declared.ops.ControlFlow.{ControlFlow}
use Rattle.std.specs.declared.ops.ControlFlow.TheVariants.{Continue, Break}
use Rattle.records.specs.Limits.{most_points}
use Rattle.records.specs.Shapes.{Traverse, count}
use Rattle.listing.specs.Lines.{failed_line}
use Rattle.listing.specs.Put.{written}
use Rattle.reader.specs.Traverse.{no_points}
use Rattle.reader.specs.Storm.{record_size, longest_record}
use Rattle.files.specs.declared.Failed.{Failed}
use Rattle.files.specs.declared.Held.{Held}
use Rattle.files.specs.Filled.{InFront, HeldWindow}
use Rattle.hydrograph.specs.declared.Run.{Run}
use Rattle.hydrograph.specs.declared.Turn.{Turn}
use Rattle.hydrograph.specs.declared.Turn.TheVariants as turn
use Rattle.hydrograph.specs.Turns.{LeftTurn, turn_heard, turn_left, line_room}
use Rattle.surge.specs.declared.Standing.{Standing}

-- ---- what `main` lends

-- the rows of 64 segments, all zero: those of a fresh traverse
abbrev pub no_rows : List ℤ
no_rows = replicate 192 (pos 0)

-- a window that holds the longest record, fresh points and rows, room for a record of 65 points, and for a line
pub record Lent (window : ℕ) (points numbers rows : List ℤ) (out : ℕ) : Type 0 where
  pub window-holds : longest_record ≤ window
  pub points-fresh : points ≡ no_points
  pub record-holds : record_size most_points ≤ length numbers
  pub rows-fresh : rows ≡ no_rows
  pub out-holds : line_room ≤ out

-- ---- lines of the program's own

-- a line is put behind so many bytes, and so many wait then
pub record PutsAt (line : List ℕ) (used : ℕ) (out : List ℕ) (waits : ℕ) (out' : List ℕ) : Type 0 where
  pub waits-are : waits ≡ used + length line
  pub within : waits ≤ length out'
  pub out-is : out' ≡ written line used out

-- ---- how it stands

-- the cursor within what the window holds, that within the window, and no more bytes waiting than there is room for
pub record Stands (x : Standing) (window room : ℕ) : Type 0 where
  pub place : x.run.cursor.at ≤ x.window.have
  pub held : x.window.have ≤ window
  pub waits : x.used ≤ room

-- room in all that is lent: for the longest record in the window, a record in the numbers, and a line in the output
pub record Room (window : List ℕ) (t : Traverse) (numbers : List ℤ) (out : List ℕ) : Type 0 where
  pub window-holds : longest_record ≤ length window
  pub record-holds : record_size (count t) ≤ length numbers
  pub out-holds : line_room ≤ length out

-- a run with its cursor at the front of the window
abbrev pub front_of : Run → Run
front_of run = record { cursor = record { at = 0; line = run.cursor.line }; state = run.state }

-- the window as it is, with another run, and so many bytes waiting
abbrev pub standing_with : Standing → Run → ℕ → Standing
standing_with x run used = record { run = run; window = x.window; used = used }

-- what a turn leaves of x and its run: how the program goes on; or, where it does not, the window as it is, and so many bytes waiting
abbrev pub left_by : ControlFlow ℕ Standing → Standing → Run → Standing
left_by (Continue y) x run = y
left_by (Break used) x run = standing_with x run used

-- whether it goes on
abbrev pub goes_on : ControlFlow ℕ Standing → Bool
goes_on (Continue y) = true
goes_on (Break used) = false

-- what a refill's answer makes of x and its run, and of the output: the run is at the window's front and goes on; or, where the read failed, the line
-- that says so waits behind the others and no more comes
abbrev pub AfterRefill : Result Held Failed → Run → Standing → ControlFlow ℕ Standing → List ℕ → List ℕ → Type 0
AfterRefill (Ok window) run x flow out out' = (flow ≡ Continue (record { run = front_of run; window = window; used = x.used })) × (out' ≡ out)
AfterRefill (Err failed) run x flow out out' = (flow ≡ Break (x.used + length failed_line)) × (out' ≡ written failed_line x.used out)

-- whether a write went out, and the program goes on
abbrev pub went_out : Result ℕ Failed → Bool
went_out (Ok n) = true
went_out (Err failed) = false

-- the program's memory between two turns: how it stands, whether it goes on, the window's bytes, the numbers of a record, the rows, and the output's
-- bytes
pub record Memory : Type 0 where
  pub standing : Standing
  pub on : Bool
  pub window : List ℕ
  pub numbers : List ℤ
  pub rows : List ℤ
  pub out : List ℕ

abbrev pub memory : Standing → Bool → List ℕ → List ℤ → List ℤ → List ℕ → Memory
memory x on window numbers rows out = record { standing = x; on = on; window = window; numbers = numbers; rows = rows; out = out }

-- ---- one turn: a is the memory before it, b after it

-- what `hydrograph` answers for the window's bytes, and leaves of what is lent
unfoldable pub turn_on : Traverse → Memory → LeftTurn
turn_on t a =
    let x = a.standing in
    turn_left (turn_heard t (take x.window.have a.window) x.window.last x.run.cursor.at x.run.cursor.line x.run.state a.rows a.numbers) x.run a.numbers a.rows a.out x.used

-- more of the text was read: the run stands at the front of the window b, which begins with the bytes that were left of the window a
pub record Follows (run : Run) (x y : Standing) (a b : List ℕ) : Type 0 where
  pub same : y.run ≡ front_of run
  pub waits : y.used ≡ x.used
  pub window : HeldWindow a b run.cursor.at x.window.have y.window.have y.window.last

-- the read failed: the line that says so waits behind the others, and no more comes
pub record Fails (run : Run) (x y : Standing) (a b out out' : List ℕ) : Type 0 where
  pub same : y ≡ standing_with x run (x.used + length failed_line)
  pub window : InFront a b run.cursor.at x.window.have
  pub line : out' ≡ written failed_line x.used out

-- by whether it goes on
abbrev pub ReadBy : Bool → Run → Standing → Standing → List ℕ → List ℕ → List ℕ → List ℕ → Type 0
ReadBy true run x y a b out out' = Follows run x y a b × (out' ≡ out)
ReadBy false run x y a b out out' = Fails run x y a b out out'

-- and by what is answered
abbrev pub ReadFrom : Run → Standing → ControlFlow ℕ Standing → List ℕ → List ℕ → List ℕ → List ℕ → Type 0
ReadFrom run x flow a b out out' = ReadBy (goes_on flow) run x (left_by flow x run) a b out out'

-- a line waits, or the last line does and no more comes: the window is as it was
pub record Waits (k : ℕ) (on : Bool) (l : LeftTurn) (a b : Memory) : Type 0 where
  pub same : b.standing ≡ standing_with a.standing l.run k
  pub goes : b.on ≡ on
  pub window : b.window ≡ a.window
  pub out : b.out ≡ l.out

-- what is done, by the answer. Where there was no room for a line something waited; nothing waits then, and the same turn comes again unless the
-- write failed
abbrev pub Moves : Turn → LeftTurn → Memory → Memory → Type 0
Moves (turn.Line k) l a b = Waits k true l a b
Moves (turn.End k) l a b = Waits k false l a b
Moves turn.Full l a b = (0 < a.standing.used) × Waits 0 b.on l a b
Moves turn.More l a b = ReadBy b.on l.run a.standing b.standing a.window b.window l.out b.out

pub record Moved (t : Traverse) (a b : Memory) : Type 0 where
  pub record-left : b.numbers ≡ (turn_on t a).numbers
  pub rows_left : b.rows ≡ (turn_on t a).rows
  pub moves : Moves (turn_on t a).turn (turn_on t a) a b

-- what `turn` promises: the memory that a turn from a leaves, by what it answers, and how the program stands then
abbrev pub after_turn : Traverse → Memory → ControlFlow ℕ Standing → List ℕ → List ℤ → List ℤ → List ℕ → Memory
after_turn t a flow window numbers rows out = memory (left_by flow a.standing (turn_on t a).run) (goes_on flow) window numbers rows out

pub record AfterTurn (t : Traverse) (a : Memory) (flow : ControlFlow ℕ Standing) (window : List ℕ) (numbers rows : List ℤ) (out : List ℕ) : Type 0 where
  pub stands : Stands (left_by flow a.standing (turn_on t a).run) (length window) (length out)
  pub moved : Moved t a (after_turn t a flow window numbers rows out)
