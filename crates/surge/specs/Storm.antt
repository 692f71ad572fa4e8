-- What a storm's methods leave of what it was lent: the promises of `specs/Standing.antt` and `specs/Printed.antt`, said of the struct. Assumes nothing.
use Rattle.std.specs.Prelude.{◌≡◌, Bool, true, ℕ, List, length, Result, is_some}
use Rattle.std.specs.Borrow.{MutBor}
use Rattle.std.specs.declared.ops.ControlFlow.{ControlFlow}
use Rattle.records.specs.Shapes.{traverse_of}
use Rattle.files.specs.declared.Failed.{Failed}
use Rattle.hydrograph.specs.declared.Run.{Run}
use Rattle.surge.specs.declared.Standing.{Standing}
use Rattle.surge.specs.declared.Storm.{Storm}
use Rattle.surge.specs.Standing.{Memory, memory, went_out, AfterTurn}
use Rattle.surge.specs.Printed.{Marches, AfterNames}

-- the same slice is lent, and is as long as it was
pub record SameSlice {A : Type 0} (a b : MutBor (List A)) : Type 0 where
  pub reference : b.ghost_name ≡ a.ghost_name
  pub long : length b.now ≡ length a.now

-- what every method leaves as it was
pub record Keeps (a b : Storm) : Type 0 where
  pub traverse_same : traverse_of b.traverse ≡ traverse_of a.traverse
  pub window : SameSlice a.buf b.buf
  pub numbers : SameSlice a.numbers b.numbers
  pub rows : SameSlice a.rows b.rows
  pub out : SameSlice a.out b.out

-- the memory between two turns, of what the storm is lent
abbrev pub memory_of : Standing → Bool → Storm → Memory
memory_of x on s = memory x on s.buf.now s.numbers.now s.rows.now s.out.now

-- what a turn does to the storm a, by what it answers
abbrev pub TurnOf : Standing → Storm → ControlFlow ℕ Standing → Storm → Type 0
TurnOf x a flow b = AfterTurn (traverse_of a.traverse) (memory_of x true a) flow b.buf.now b.numbers.now b.rows.now b.out.now

-- what the turns do to it
abbrev pub MarchOf : Run → ℕ → Storm → ℕ → Storm → Type 0
MarchOf run used a waits b = Marches (is_some a.source.now.file) (traverse_of a.traverse) run used a.buf.now a.numbers.now a.rows.now a.out.now waits b.buf.now b.numbers.now b.rows.now b.out.now

-- and what is done with it after the names line, which was written or not
abbrev pub PrintOf : Run → Result ℕ Failed → Storm → ℕ → Storm → Type 0
PrintOf run named a waits b = AfterNames (traverse_of a.traverse) a.buf.now a.numbers.now a.rows.now waits b.buf.now b.numbers.now b.rows.now b.out.now (went_out named) run a.out.now
