-- What a caller knows of the numbers that it lent: statements, proved in proofs/LentLaws.antt and proofs/TraverseLent.antt. Assumes nothing.
use Rattle.std.specs.Prelude.{Option, Some, Result, Ok, Err, ◌≡◌, Bool, true, false, List, ℕ, ◌*◌, ◌≤◌, length, take, drop, ℤ}
use Rattle.records.specs.declared.Refusal.{Refusal}
use Rattle.records.specs.Groups.{station_count, point_count}
use Rattle.records.specs.Limits.{count_ok, most_points}
use Rattle.records.specs.Shapes.{Traverse, count}
use Rattle.reader.specs.Lines.{read, refused}
use Rattle.reader.specs.Storm.{record_size, record_in, one, next_at, next_of, too_few, next_left, Seen, needs-more, seen, answered, record_step, record_step_left}
use Rattle.reader.specs.Traverse.{traverse_left, traverse_of, Held, traverse_step}
use Rattle.reader.specs.declared.Cursor.{Cursor}
use Rattle.reader.specs.declared.storm.Halt.{Halt}
use Rattle.reader.specs.declared.storm.Halt.TheVariants as halt
use Rattle.reader.specs.declared.traverse.TraverseRead.{TraverseRead}
use Rattle.reader.specs.declared.traverse.Progress.TheVariants as progress

-- ---- a record

-- numbers past those of a record of n points stay as lent, and there are as many as before
pub record Spared (n : ℕ) (lent left : List ℤ) : Type 0 where
  pub size : length left ≡ length lent
  pub spare : drop (record_size n) left ≡ drop (record_size n) lent

abbrev pub NextSpares : Type 0
NextSpares = (s : List ℕ) (n at line : ℕ) (lent : List ℤ) → Spared n lent (next_left s n at line lent).numbers

-- a record of n points stands in numbers: there are that many points, and as many numbers as they take
pub record HasRecord (n : ℕ) (l : List ℤ) : Type 0 where
  pub counted : count_ok n ≡ true
  pub room : record_size n ≤ length l
  pub numbers : length (record_in n l).points ≡ 3 * n
  pub points : point_count (record_in n l).points ≡ n

-- where the call answers a record, it is the one that the text has, and the lent numbers hold it
abbrev pub NextHasRecord : Type 0
NextHasRecord =
    (s : List ℕ) (n at line : ℕ) (lent : List ℤ) (c : Cursor) → (next_left s n at line lent).answer ≡ Ok (Some c)
    → HasRecord n (next_left s n at line lent).numbers × (next_at s n at line ≡ read (one (record_in n (next_left s n at line lent).numbers)) c.at c.line)

-- the same of a step; the numbers that are enough change nothing of its answer
abbrev pub seen_answer : Seen → Result (Option Cursor) Halt
seen_answer needs-more = Err halt.More
seen_answer (seen r) = answered (next_of r)

abbrev pub StepAnswers : Type 0
StepAnswers =
    (w : List ℕ) (last : Bool) (n at line : ℕ) (lent : List ℤ) → too_few n (length lent) ≡ false
    → (record_step_left w last n at line lent).answer ≡ seen_answer (record_step w last n at line)

abbrev pub StepSpares : Type 0
StepSpares = (w : List ℕ) (last : Bool) (n at line : ℕ) (lent : List ℤ) → Spared n lent (record_step_left w last n at line lent).numbers

abbrev pub StepHasRecord : Type 0
StepHasRecord =
    (w : List ℕ) (last : Bool) (n at line : ℕ) (lent : List ℤ) (c : Cursor) → (record_step_left w last n at line lent).answer ≡ Ok (Some c)
    → HasRecord n (record_step_left w last n at line lent).numbers
    × (record_step w last n at line ≡ seen (read (one (record_in n (record_step_left w last n at line lent).numbers)) c.at c.line))

-- ---- a traverse

-- a traverse of so many points stands in numbers
pub record HasTraverse (n : ℕ) (l : List ℤ) : Type 0 where
  pub counted : count_ok n ≡ true
  pub room : n ≤ station_count l
  pub numbers : length (take (2 * n) l) ≡ 2 * n
  pub points : station_count (take (2 * n) l) ≡ n

-- the lent numbers are as many as before
abbrev pub TraverseSize : Type 0
TraverseSize = (w : List ℕ) (last : Bool) (h : Held) (at line : ℕ) → length (traverse_step w last h at line).numbers ≡ length h.points

-- where a step answers that the traverse was read, the lent numbers hold it
abbrev pub StepHasTraverse : Type 0
StepHasTraverse =
    (w : List ℕ) (last : Bool) (h : Held) (at line : ℕ) (t : TraverseRead) → (traverse_step w last h at line).answer ≡ Ok (progress.Read t)
    → HasTraverse t.count (traverse_step w last h at line).numbers

-- numbers that have room for the most points: whatever stood in them, the answer and the points are those of the text
abbrev pub TraverseIsRead : Type 0
TraverseIsRead =
    (s : List ℕ) (lent : List ℤ) → most_points ≤ station_count lent → (t : Traverse) (at line : ℕ) → traverse_of s ≡ read t at line
    → ((traverse_left s lent).answer ≡ Ok (record { head = t.head; count = count t }))
    × (take (2 * count t) (traverse_left s lent).numbers ≡ t.points)
    × (count_ok (count t) ≡ true)

abbrev pub TraverseIsRefused : Type 0
TraverseIsRefused =
    (s : List ℕ) (lent : List ℤ) → most_points ≤ station_count lent → (r : Refusal) → traverse_of s ≡ refused r
    → (traverse_left s lent).answer ≡ Err r
