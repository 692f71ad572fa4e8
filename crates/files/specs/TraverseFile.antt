-- What reading a traverse file answers, and leaves in the lent numbers and the window: step by step from an empty window, with a refill after each
-- step that asked for more. What the refills read is anything, since no contract says what the system reads; together it is a text, and the answer
-- is this text's (`FileTells`, proved in `proofs/Reached.antt`). Assumes nothing.
use Rattle.std.specs.Prelude.{Result, Ok, Err, ◌≡◌, Bool, true, List, [], ◌∷◌, ◌++◌, ℕ, ◌-◌, ◌*◌, ◌≤◌, take, not, ℤ}
use Rattle.records.specs.declared.Refusal.{Refusal}
use Rattle.records.specs.Limits.{most_points}
use Rattle.reader.specs.declared.traverse.Progress.{Progress}
use Rattle.reader.specs.declared.traverse.Progress.TheVariants as progress
use Rattle.reader.specs.declared.traverse.TraverseRead.{TraverseRead}
use Rattle.reader.specs.Lines.{Leaves, leaves}
use Rattle.reader.specs.Traverse.{Held, held, start, traverse_left, traverse_step}
use Rattle.files.specs.declared.Stop.{Stop}
use Rattle.files.specs.declared.Stop.TheVariants.{Refused, Failed}
use Rattle.files.specs.Chain.{Chain}
use Rattle.files.specs.Filled.{InFront, HeldWindow, read_behind}

-- what a step's answer is for the file: where more of the text was needed and did not come, reading has failed
abbrev pub file_by : Result Progress Refusal → Result TraverseRead Stop
file_by (Ok (progress.Read t)) = Ok t
file_by (Ok (progress.More c k)) = Err Failed
file_by (Err refusal) = Err (Refused refusal)

-- ---- the steps

-- how reading stands before a step: what is known, with the lent numbers; the lines before the window; the window's bytes, how many of them hold
-- text, and whether the text ends with them
pub record Reading : Type 0 where
  pub held : Held
  pub line : ℕ
  pub window : List ℕ
  pub have : ℕ
  pub last : Bool

-- before the first: nothing is known, and no byte was read. A file that could not be opened has ended
abbrev pub begun : Bool → List ℕ → List ℤ → Reading
begun opened window points = record { held = held start points; line = 0; window = window; have = 0; last = not opened }

unfoldable pub step_of : Reading → Leaves (Result Progress Refusal)
step_of x = traverse_step (take x.have x.window) x.last x.held 0 x.line

-- where a step stopped that asked for more
abbrev pub asked_at : Result Progress Refusal → ℕ
asked_at (Ok (progress.More c k)) = c.at
asked_at (Ok (progress.Read t)) = 0
asked_at (Err refusal) = 0

abbrev pub left_from : Reading → ℕ
left_from x = asked_at (step_of x).answer

-- the step from x asked for more, and y is how reading stands after the refill
pub record Follows (x y : Reading) : Type 0 where
  pub asked : (step_of x).answer ≡ Ok (progress.More (record { at = left_from x; line = y.line }) y.held.known)
  pub points : y.held.points ≡ (step_of x).numbers
  pub window : HeldWindow x.window y.window (left_from x) x.have y.have y.last

-- from a to x by steps; the standings before them, the newest first
abbrev pub Reached : Reading → List Reading → Reading → Type 0
Reached = Chain Follows

-- the text that was read on the way
unfoldable pub text_read : List Reading → Reading → List ℕ
text_read [] x = []
text_read (w ∷ earlier) x = text_read earlier w ++ read_behind (w.have - left_from w) x.have x.window

-- ---- what a call answers and leaves

-- the window is as the last step had it; where it asked for more, the bytes that it left are at the window's front, as a refill has them
abbrev pub KeptWindow : Result TraverseRead Stop → Reading → List ℕ → Type 0
KeptWindow (Ok t) x b = b ≡ x.window
KeptWindow (Err (Refused refusal)) x b = b ≡ x.window
KeptWindow (Err Failed) x b = InFront x.window b (left_from x) x.have

-- the answer r is that of the step from `at`, which came after the `earlier` ones
pub record Loads (opened : Bool) (window : List ℕ) (points : List ℤ) (r : Result TraverseRead Stop) (window' : List ℕ) (points' : List ℤ) : Type 0 where
  pub earlier : List Reading
  pub at : Reading
  pub reached : Reached (begun opened window points) earlier at
  pub file : r ≡ file_by (step_of at).answer
  pub points-left : points' ≡ (step_of at).numbers
  pub window-left : KeptWindow r at window'

-- the same of a file by its name: whether it opens is the system's
pub record LoadsSome (window : List ℕ) (points : List ℤ) (r : Result TraverseRead Stop) (window' : List ℕ) (points' : List ℤ) : Type 0 where
  pub opened : Bool
  pub loads : Loads opened window points r window' points'

-- ---- the statement: the answer is the text's

-- a text that begins with what was read, and is it where its end was seen
abbrev pub Continues : Bool → List ℕ → Type 0
Continues last e = last ≡ true → e ≡ []

-- what `traverse_left` says of the text
abbrev pub Tells : Result TraverseRead Stop → List ℕ → List ℤ → List ℤ → Type 0
Tells (Ok t) s points points' = traverse_left s points ≡ leaves (Ok t) points'
Tells (Err (Refused refusal)) s points points' = traverse_left s points ≡ leaves (Err refusal) points'
Tells (Err Failed) s points points' = Unit {0}

abbrev pub FileTells : Type 0
FileTells =
    (opened : Bool) (window : List ℕ) (points : List ℤ) (r : Result TraverseRead Stop) (window' : List ℕ) (points' : List ℤ) (l : Loads opened window points r window' points') (e : List ℕ)
    → Continues l.at.last e → Tells r (text_read l.earlier l.at ++ e) points points'

-- a traverse that was read has 2 to 65 points, and all of them have their place in so many numbers
abbrev pub HasPoints : Result TraverseRead Stop → ℕ → Type 0
HasPoints (Ok t) size = (2 ≤ t.count) × (2 * t.count ≤ size) × (t.count ≤ most_points)
HasPoints (Err (Refused refusal)) size = Unit {0}
HasPoints (Err Failed) size = Unit {0}
