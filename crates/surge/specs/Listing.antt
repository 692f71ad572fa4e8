-- Demand 2 as far as the program's edge: what a run handed over to be written is the listing of the texts that it read (`RunPrints`, proved in
-- `proofs/Listing.antt`, of every run that keeps the promise of `surge::run`), by way of the turns (`TurnsTell`, proved in `proofs/Turns.antt`, of every
-- list of turns that keep the promise of `surge::turn`). Where every write went out, that is what was printed; a write that failed was the last, and
-- what was printed is a beginning. A text that was not read to its end may go on in any way: what was handed over is said of each. Assumes nothing.
use Rattle.std.specs.Prelude.{◌≡◌, Bool, true, false, List, [], ◌∷◌, ◌++◌, ℕ, ◌+◌, ◌*◌, ◌<◌, ◌≤◌, ◌^◌, length, take, ℤ, Result, Ok, Err}
use Rattle.records.specs.Shapes.{Traverse, count}
use Rattle.listing.specs.Lines.{failed_line}
use Rattle.reader.specs.Storm.{record_size, storm_of}
use Rattle.reader.specs.declared.traverse.TraverseRead.{TraverseRead}
use Rattle.files.specs.declared.Failed.{Failed}
use Rattle.files.specs.declared.Stop.{Stop}
use Rattle.files.specs.declared.Stop.TheVariants as stop
use Rattle.files.specs.TraverseFile.{Continues}
use Rattle.files.specs.TraverseFile as files
use Rattle.hydrograph.specs.declared.Run.{Run}
use Rattle.hydrograph.specs.declared.Turn.{Turn}
use Rattle.hydrograph.specs.declared.Turn.TheVariants as turn
use Rattle.hydrograph.specs.Listing.{storm_lines, listing_of}
use Rattle.hydrograph.specs.Turns.{Begins, LeftTurn}
use Rattle.surge.specs.Standing.{Lent, Memory, memory, turn_on}
use Rattle.surge.specs.Printed.{Reached, text_read, handed_on, begun_at, Marches, MarchesSome, begin_on, AfterBegin, traverse_in, rows_in, AfterFile, Runs}

-- ---- how a run ended, and what it printed of a listing

-- with the listing's last line; by a read that failed; or short of it: a write failed, or all turns are used up
pub data How : Type 0 where
  whole : How
  read-failed : How
  cut_short : How

-- sound lines, and the line `failed`
pub record FailedAfter (printed listing : List ℕ) : Type 0 where
  pub sound : List ℕ
  pub line : printed ≡ sound ++ failed_line
  pub begins : Begins sound listing

abbrev pub PrintedOf : How → List ℕ → List ℕ → Type 0
PrintedOf whole printed listing = printed ≡ listing
PrintedOf read-failed printed listing = FailedAfter printed listing
PrintedOf cut_short printed listing = Begins printed listing

-- ---- turn after turn

-- by the last turn, and whether the program would go on
abbrev pub ended_by : Turn → Bool → How
ended_by k true = cut_short
ended_by turn.More false = read-failed
ended_by (turn.Line k) false = cut_short
ended_by (turn.End k) false = whole
ended_by turn.Full false = cut_short

abbrev pub how_marched : Traverse → List Memory → Memory → How
how_marched t [] b = cut_short
how_marched t (w ∷ earlier) b = ended_by (turn_on t w).turn b.on

-- before the first turn: nothing was read, and there is room for a record
pub record Fresh (t : Traverse) (a : Memory) : Type 0 where
  pub place : a.standing.run.cursor.at ≡ 0
  pub line : a.standing.run.cursor.line ≡ 0
  pub none : a.standing.window.have ≡ 0
  pub waits : a.standing.used ≤ length a.out
  pub room : record_size (count t) ≤ length a.numbers

-- what waited at first, and then the storm's lines
abbrev pub marched_lines : Traverse → Memory → List ℕ → List ℕ
marched_lines t a storm = take a.standing.used a.out ++ storm_lines t a.standing.run.state a.rows (storm_of storm (count t))

-- what was handed over on the way, and what waits, is these lines of the text that was read, by how the turns ended
abbrev pub TurnsTell : Type 0
TurnsTell =
    (t : Traverse) (a : Memory) → Fresh t a → (earlier : List Memory) (b : Memory) → Reached t a earlier b → (e : List ℕ) → Continues b.standing.window.last e
    → PrintedOf (how_marched t earlier b) (handed_on t earlier ++ take b.standing.used b.out) (marched_lines t a (text_read t earlier b ++ e))

-- turns that go on are no more than four for each byte of the text that was read, and five
abbrev pub TurnsEnd : Type 0
TurnsEnd =
    (t : Traverse) (a : Memory) → Fresh t a → (earlier : List Memory) (b : Memory) → Reached t a earlier b → b.on ≡ true
    → length earlier ≤ 4 * length (text_read t earlier b) + 5

-- so a march comes to its end by itself, and not by its count of turns, wherever fewer than 2⁵³ bytes were read
abbrev pub MarchEnds : Type 0
MarchEnds =
    (opened : Bool) (t : Traverse) (run : Run) (used : ℕ) (window : List ℕ) (numbers rows : List ℤ) (out : List ℕ) (waits : ℕ) (window' : List ℕ) (numbers' rows' : List ℤ) (out' : List ℕ)
    → Fresh t (memory (begun_at opened run used) true window numbers rows out) → (m : Marches opened t run used window numbers rows out waits window' numbers' rows' out')
    → length (text_read t m.earlier (memory m.standing m.on window' numbers' rows' out')) < 2 ^ 53 → m.on ≡ false

-- ---- a run

-- what a run read of the storm, whether to its end, how the run ended, and what it handed over before its last write
pub record Came : Type 0 where
  pub text : List ℕ
  pub last : Bool
  pub how : How
  pub handed : List ℕ

-- no storm was read
abbrev pub came_to : How → List ℕ → Came
came_to how handed = record { text = []; last = false; how = how; handed = handed }

module _ (t : Traverse) (window : List ℕ) (numbers rows : List ℤ) (waits : ℕ) (window' : List ℕ) (numbers' rows' : List ℤ) (out' : List ℕ) where
  -- by the turns, with the names line before them
  abbrev pub came_by : (names : List ℕ) (l : LeftTurn) → MarchesSome t l.run 0 window numbers rows l.out waits window' numbers' rows' out' → Came
  came_by names l m =
      let b = memory m.marches.standing m.marches.on window' numbers' rows' out' in
      record {
        text = text_read t m.marches.earlier b;
        last = m.marches.standing.window.last;
        how = how_marched t m.marches.earlier b;
        handed = names ++ handed_on t m.marches.earlier;
      }

  abbrev pub came_after : (k : Turn) (wrote : Bool) (l : LeftTurn) → AfterBegin t window numbers rows waits window' numbers' rows' out' k wrote l → Came
  came_after (turn.Line k) true l m = came_by (take k l.out) l m
  came_after (turn.Line k) false l m = came_to cut_short (take k l.out)
  came_after (turn.End k) wrote l m = came_to whole []
  came_after turn.More wrote l m = came_to cut_short []
  came_after turn.Full wrote l m = came_to cut_short []

module _ (points : List ℤ) (window : List ℕ) (numbers rows : List ℤ) (out : List ℕ) (waits : ℕ) (window' : List ℕ) (numbers' rows' : List ℤ) (out' : List ℕ) where
  abbrev pub came_from : (file : Result TraverseRead Stop) (rows₁ : List ℤ) → AfterFile points window numbers rows out waits window' numbers' rows' out' file rows₁ → Came
  came_from (Err stop.Failed) rows₁ a = came_to read-failed []
  came_from (Err (stop.Refused refusal)) rows₁ a = came_to whole []
  came_from (Ok file) rows₁ a =
      let t = traverse_in file points in
      came_after t window numbers (take (rows_in file) rows) waits window' numbers' rows₁ out' (begin_on t out).turn a.0.wrote (begin_on t out) a.0.after

-- every run of `main`'s, on whatever was read
abbrev pub RunPrints : Type 0
RunPrints =
    (window : List ℕ) (points numbers rows : List ℤ) (out : List ℕ) (r : Result ℕ Failed) (window' : List ℕ) (points' numbers' rows' : List ℤ) (out' : List ℕ)
    → Lent (length window) points numbers rows (length out) → (x : Runs window points numbers rows out r window' points' numbers' rows' out')
    → let c = came_from points' x.window₁ numbers rows out x.waits window' numbers' rows' out' x.file x.rows₁ x.after in
    let f = x.loads.loads in
    (e₁ e₂ : List ℕ) → Continues f.at.last e₁ → Continues c.last e₂
    → PrintedOf c.how (c.handed ++ take x.waits out') (listing_of (files.text_read f.earlier f.at ++ e₁) (c.text ++ e₂))
