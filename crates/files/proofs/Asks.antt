-- A step on a storm text asks for more of it only where its window is short of what comes next, so that a window of 3,575 bytes has room for more.
-- For the callers of `refill`. Assumes nothing.
use Rattle.std.specs.Prelude.{Option, Result, Ok, Err}
use mathlib.Core.Path.{◌≡◌, refl}
use mathlib.Core.Bool.{Bool, true, false, cond}
use mathlib.Core.List.{List}
use native.Mathlib.Omega.{arith}
use Prim.Native.Nat.{ℕ, ◌+◌, ◌*◌, ◌<◌}
use lib.ListN.{length}
use lib.IntN.{ℤ}
use Rattle.records.specs.Limits.{count_ok}
use Rattle.records.specs.declared.Refusal.{Refusal}
use Rattle.reader.specs.declared.Cursor.{Cursor}
use Rattle.reader.specs.declared.storm.Halt.{Halt}
use Rattle.reader.specs.declared.storm.Halt.TheVariants as halt
use Rattle.reader.specs.Lines.{Leaves, leaves, holds}
use Rattle.reader.specs.Storm.{storm_start, answered, next_left, start_step, holds_record, record_step_left, longest_record}
use Rattle.records.proofs.LimitLaws.{counts-in}
pub use Rattle.reader.proofs.Ends.{holds_not}

-- ---- a storm text

-- at its names line, which takes 32 bytes
abbrev pub AsksStart : ℕ → Result Cursor Halt → Type 0
AsksStart size (Err halt.More) = size < 32
AsksStart size (Ok c) = Unit {0}
AsksStart size (Err (halt.Refused r)) = Unit {0}

pub start-asks : (w : List ℕ) (last : Bool) → AsksStart (length w) (start_step w last)
unfolding start_step
start-asks w last = go (holds (length w) last 0 32) refl
  where
    whole : (r : Result Cursor Refusal) → AsksStart (length w) (answered r)
    whole (Ok c) = tt
    whole (Err q) = tt

    go : (b : Bool) → holds (length w) last 0 32 ≡ b → AsksStart (length w) (cond b (answered (storm_start w)) (Err halt.More))
    go true e = whole (storm_start w)
    go false e = (holds_not (length w) last 0 32 e).0

-- at a record, which takes 55 bytes for each of 65 lines at most
abbrev pub AsksRecord : ℕ → ℕ → Result (Option Cursor) Halt → Type 0
AsksRecord size at (Err halt.More) = size < at + longest_record
AsksRecord size at (Ok next) = Unit {0}
AsksRecord size at (Err (halt.Refused r)) = Unit {0}

pub record-asks : (w : List ℕ) (last : Bool) (n at line : ℕ) (lent : List ℤ) → AsksRecord (length w) at (record_step_left w last n at line lent).answer
unfolding record_step_left holds_record
record-asks w last n at line lent = go (count_ok n) refl (holds (length w) last at (n * 55)) refl
  where
    stepped : Bool → Leaves (Result (Option Cursor) Halt)
    stepped b = cond b (leaves (answered (next_left w n at line lent).answer) (next_left w n at line lent).numbers) (leaves (Err halt.More) lent)

    whole : (r : Result (Option Cursor) Refusal) → AsksRecord (length w) at (answered r)
    whole (Ok c) = tt
    whole (Err q) = tt

    go : (b : Bool) → count_ok n ≡ b → (c : Bool) → holds (length w) last at (n * 55) ≡ c → AsksRecord (length w) at (stepped (cond b c true)).answer
    go true e true f = whole (next_left w n at line lent).answer
    go true e false f = let k = counts-in n e in omega (arith, (holds_not (length w) last at (n * 55) f).0)
    go false e c f = whole (next_left w n at line lent).answer
