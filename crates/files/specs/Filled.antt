-- When a window may be refilled, and what it then holds: the bytes that were left of it at its front, and no more than it has room for; and when
-- the text counts as ended. And what writing the output answers. Assumes nothing.
use Rattle.std.specs.Prelude.{◌≡◌, Bool, true, false, List, ℕ, ◌+◌, ◌-◌, ◌<◌, ◌≤◌, eqb, length, take, drop, Result, Ok, Err}
use Rattle.reader.specs.Text.{byte}
use Rattle.std.specs.IoError.{error_kind}
use Rattle.std.specs.declared.io.Error.{Error}
use Rattle.std.specs.declared.io.ErrorKind.{ErrorKind}
use Rattle.std.specs.declared.io.ErrorKind.TheVariants.{Interrupted}
use Rattle.files.specs.declared.Failed.{Failed}
use Rattle.files.specs.declared.Held.{Held}

-- of a window of so many bytes, `have` hold text; those from `at` on are left, and there is room for more
pub record Refills (at have window : ℕ) : Type 0 where
  pub place : at ≤ have
  pub held : have ≤ window
  pub room : have - at < window

-- the window b begins with the bytes of the window a from `at` up to `have`
abbrev pub InFront : List ℕ → List ℕ → ℕ → ℕ → Type 0
InFront a b at have = (j : ℕ) → j < have - at → byte b j ≡ byte a (at + j)

-- n bytes of the window b hold text, and `last` says whether the text ends with them: it does where the read gave no byte, and only there
pub record HeldWindow (a b : List ℕ) (at have n : ℕ) (last : Bool) : Type 0 where
  pub within : n ≤ length b
  pub least : have - at ≤ n
  pub left : InFront a b at have
  pub ended : last ≡ eqb n (have - at)

-- what the system answers: a failure is told, and what it was is not handed on
abbrev pub told : {A : Type 0} → Result A Error → Result A Failed
told (Ok x) = Ok x
told (Err error) = Err (record {})

-- a read that a signal interrupted before a byte came is no failure; any other error is one
abbrev pub interrupted_by : ErrorKind → Bool
interrupted_by Interrupted = true
interrupted_by _ = false

abbrev pub interrupted : Result ℕ Error → Bool
interrupted (Ok n) = false
interrupted (Err error) = interrupted_by (error_kind error)

-- a read into a room of so many bytes gives no more than these
abbrev pub Gives : {E : Type 0} → Result ℕ E → ℕ → Type 0
Gives (Ok n) room = n ≤ room
Gives (Err e) room = Unit {0}

-- what a read makes of a window of which so many bytes were left
abbrev pub after_read : Result ℕ Failed → ℕ → Result Held Failed
after_read (Ok n) rest = Ok (record { have = rest + n; last = eqb n 0 })
after_read (Err failed) rest = Err failed

-- b is the window after, a the one before, of which the bytes from `at` up to `have` were left. They are at its front though the read failed
abbrev pub Refilled : Result Held Failed → List ℕ → List ℕ → ℕ → ℕ → Type 0
Refilled (Ok w) a b at have = HeldWindow a b at have w.have w.last
Refilled (Err failed) a b at have = InFront a b at have

-- the bytes that were read into the window b, of which n hold text and so many were left before
abbrev pub read_behind : ℕ → ℕ → List ℕ → List ℕ
read_behind rest n b = drop rest (take n b)

-- ---- the output

-- what went out is all that was to go, or the write failed
abbrev pub Flushes : Result ℕ Failed → ℕ → Type 0
Flushes (Ok n) used = n ≡ used
Flushes (Err failed) used = Unit {0}
