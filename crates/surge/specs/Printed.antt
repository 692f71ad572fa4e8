-- The program turn after turn, and what it prints. No contract says what the system reads or writes, so what was read is whatever the refills brought
-- into the window, and what is printed is what was handed over to `flush`. Everything else of a run is said here: the turns one after another
-- (`Reached`), the storm (`Marches`), a traverse that was read (`Prints`), and the run (`Runs`, the promise of `surge::run`). Assumes nothing.
use Rattle.std.specs.Prelude.{◌≡◌, Bool, true, false, cond, List, [], ◌∷◌, ◌++◌, ℕ, ◌-◌, ◌*◌, length, take, drop, not, ℤ, Result, Ok, Err}
use Rattle.records.specs.Shapes.{Traverse, traverse}
use Rattle.listing.specs.Lines.{failed_line}
use Rattle.reader.specs.declared.traverse.TraverseRead.{TraverseRead}
use Rattle.files.specs.declared.Failed.{Failed}
use Rattle.files.specs.declared.Stop.{Stop}
use Rattle.files.specs.declared.Stop.TheVariants as stop
use Rattle.files.specs.Chain.{Chain, most_turns}
use Rattle.files.specs.Filled.{read_behind, Flushes}
use Rattle.files.specs.TraverseFile.{LoadsSome}
use Rattle.hydrograph.specs.declared.Run.{Run}
use Rattle.hydrograph.specs.declared.Turn.{Turn}
use Rattle.hydrograph.specs.declared.Turn.TheVariants as turn
use Rattle.hydrograph.specs.Listing.{refusal_line}
use Rattle.hydrograph.specs.Turns.{LeftTurn, turn_left, fresh_run, begin_of}
use Rattle.surge.specs.declared.Standing.{Standing}
use Rattle.surge.specs.Standing.{PutsAt, Memory, memory, turn_on, Moved}

-- ---- turn after turn

-- a turn, made while the program goes on
abbrev pub TurnMade : Traverse → Memory → Memory → Type 0
TurnMade t a b = (a.on ≡ true) × Moved t a b

-- from a to b by turns; the memories before them, the newest first
abbrev pub Reached : Traverse → Memory → List Memory → Memory → Type 0
Reached t = Chain (TurnMade t)

-- the bytes that a turn read, and the text read on the way
abbrev pub read_by : Turn → LeftTurn → Memory → Memory → List ℕ
read_by turn.More l a b = cond b.on (read_behind (a.standing.window.have - l.run.cursor.at) b.standing.window.have b.window) []
read_by (turn.Line k) l a b = []
read_by (turn.End k) l a b = []
read_by turn.Full l a b = []

unfoldable pub text_read : Traverse → List Memory → Memory → List ℕ
text_read t [] b = []
text_read t (w ∷ earlier) b = text_read t earlier w ++ read_by (turn_on t w).turn (turn_on t w) w b

-- the bytes that a turn handed over to be written, and all that were on the way: where there was no room for a line, all that waited. A write
-- that failed was the last: no turn comes after it, and nothing waits then (`Moves`)
abbrev pub handed_by : Turn → Memory → List ℕ
handed_by turn.Full a = take a.standing.used a.out
handed_by turn.More a = []
handed_by (turn.Line k) a = []
handed_by (turn.End k) a = []

unfoldable pub handed_on : Traverse → List Memory → List ℕ
handed_on t [] = []
handed_on t (w ∷ earlier) = handed_on t earlier ++ handed_by (turn_on t w).turn w

-- ---- a storm, from an empty window on

-- a file that could not be opened has ended before a byte was read
abbrev pub begun_at : Bool → Run → ℕ → Standing
begun_at opened run used = record { run = run; window = record { have = 0; last = not opened }; used = used }

-- `waits` bytes wait at the end of the turns, which come to their end, or are 2⁵⁶, and the program would go on
pub record Marches (opened : Bool) (t : Traverse) (run : Run) (used : ℕ) (window : List ℕ) (numbers rows : List ℤ) (out : List ℕ) (waits : ℕ) (window' : List ℕ) (numbers' rows' : List ℤ) (out' : List ℕ) : Type 0 where
  pub earlier : List Memory
  pub standing : Standing
  pub on : Bool
  pub reached : Reached t (memory (begun_at opened run used) true window numbers rows out) earlier (memory standing on window' numbers' rows' out')
  pub ended : on ≡ true → length earlier ≡ most_turns
  pub waits-are : waits ≡ standing.used

-- the same of a file by its name: whether it opens is the system's
pub record MarchesSome (t : Traverse) (run : Run) (used : ℕ) (window : List ℕ) (numbers rows : List ℤ) (out : List ℕ) (waits : ℕ) (window' : List ℕ) (numbers' rows' : List ℤ) (out' : List ℕ) : Type 0 where
  pub opened : Bool
  pub marches : Marches opened t run used window numbers rows out waits window' numbers' rows' out'

-- ---- a traverse that was read

-- what `hydrograph` answers for it, and puts at the start of the output
unfoldable pub begin_on : Traverse → List ℕ → LeftTurn
begin_on t out = turn_left (record { said = begin_of t []; numbers = [] }) fresh_run [] [] out 0

-- the output alone was touched
pub record Untouched (window : List ℕ) (numbers rows : List ℤ) (window' : List ℕ) (numbers' rows' : List ℤ) : Type 0 where
  pub window_same : window' ≡ window
  pub numbers-same : numbers' ≡ numbers
  pub rows_same : rows' ≡ rows

-- by the answer: the names line was written and the storm marched with nothing waiting, or the write failed; or the refusal waits
module _ (t : Traverse) (window : List ℕ) (numbers rows : List ℤ) (waits : ℕ) (window' : List ℕ) (numbers' rows' : List ℤ) (out' : List ℕ) where
  abbrev pub AfterNames : Bool → Run → List ℕ → Type 0
  AfterNames true run out = MarchesSome t run 0 window numbers rows out waits window' numbers' rows' out'
  AfterNames false run out = (waits ≡ 0) × (out' ≡ out) × Untouched window numbers rows window' numbers' rows'

  abbrev pub AfterBegin : Turn → Bool → LeftTurn → Type 0
  AfterBegin (turn.Line k) wrote l = AfterNames wrote l.run l.out
  AfterBegin (turn.End k) wrote l = (waits ≡ k) × (out' ≡ l.out) × Untouched window numbers rows window' numbers' rows'
  AfterBegin turn.More wrote l = ⊥
  AfterBegin turn.Full wrote l = ⊥

pub record Prints (t : Traverse) (window : List ℕ) (numbers rows : List ℤ) (out : List ℕ) (waits : ℕ) (window' : List ℕ) (numbers' rows' : List ℤ) (out' : List ℕ) : Type 0 where
  pub wrote : Bool
  pub after : AfterBegin t window numbers rows waits window' numbers' rows' out' (begin_on t out).turn wrote (begin_on t out)

-- ---- the run

-- the traverse of a file that was read, its rows, and these put back before the rows that it has not
abbrev pub traverse_in : TraverseRead → List ℤ → Traverse
traverse_in file points = traverse file.head (take (2 * file.count) points)

abbrev pub rows_in : TraverseRead → ℕ
rows_in file = 3 * (file.count - 1)

-- what waits at the end, by how reading the traverse ended
module _ (points : List ℤ) (window : List ℕ) (numbers rows : List ℤ) (out : List ℕ) (waits : ℕ) (window' : List ℕ) (numbers' rows' : List ℤ) (out' : List ℕ) where
  abbrev pub AfterFile : Result TraverseRead Stop → List ℤ → Type 0
  AfterFile (Err stop.Failed) rows₁ = PutsAt failed_line 0 out waits out' × Untouched window numbers rows window' numbers' rows'
  AfterFile (Err (stop.Refused refusal)) rows₁ = PutsAt (refusal_line refusal) 0 out waits out' × Untouched window numbers rows window' numbers' rows'
  AfterFile (Ok file) rows₁ = Prints (traverse_in file points) window numbers (take (rows_in file) rows) out waits window' numbers' rows₁ out' × (rows' ≡ rows₁ ++ drop (rows_in file) rows)

-- the answer r is that of writing what waits at the end
pub record Runs (window : List ℕ) (points numbers rows : List ℤ) (out : List ℕ) (r : Result ℕ Failed) (window' : List ℕ) (points' numbers' rows' : List ℤ) (out' : List ℕ) : Type 0 where
  pub file : Result TraverseRead Stop
  pub window₁ : List ℕ
  pub rows₁ : List ℤ
  pub waits : ℕ
  pub loads : LoadsSome window points file window₁ points'
  pub after : AfterFile points' window₁ numbers rows out waits window' numbers' rows' out' file rows₁
  pub flushes : Flushes r waits
