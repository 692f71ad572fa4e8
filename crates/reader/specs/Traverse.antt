-- Document 01, "Files": the text of `traverse.txt`. Its points go into a slice that the caller lends, two numbers each: what is known of a
-- traverse is a small value and that slice's numbers, and reading on is said of both. Assumes nothing.
use Rattle.std.specs.Prelude.{Result, Ok, Err, ℕ, zero, suc, ◌*◌, List, [], ◌∷◌, Bool, cond, length, take, replicate, ℤ, pos, ltb, eqb}
use Rattle.records.specs.declared.Station.{Station}
use Rattle.records.specs.declared.Kind.TheVariants as kind
use Rattle.records.specs.declared.Refusal.{Refusal}
use Rattle.records.specs.Refusals.{refusal}
use Rattle.records.specs.Groups.{at as number_at, station_at, station_count, put_station}
use Rattle.records.specs.Limits.{count_ok}
use Rattle.records.specs.Shapes.{Traverse, traverse}
use Rattle.reader.specs.Text.{more}
use Rattle.reader.specs.Lines.{Outcome, read, refused, found, Leaves, leaves, LinesRead, lines_at, names_at, holds}
use Rattle.reader.specs.declared.Cursor.{Cursor}
use Rattle.reader.specs.declared.traverse.Known.{Known}
use Rattle.reader.specs.declared.traverse.Known.TheVariants.{Names, Values, Columns, Points}
use Rattle.reader.specs.declared.traverse.TraverseRead.{TraverseRead}
use Rattle.reader.specs.declared.traverse.Progress.{Progress}
use Rattle.reader.specs.declared.traverse.Progress.TheVariants as progress

-- the names lines `latitude friction initial` and `distance depth`, with their line feeds
abbrev pub head_names : List ℕ
head_names = 108 ∷ 97 ∷ 116 ∷ 105 ∷ 116 ∷ 117 ∷ 100 ∷ 101 ∷ 32 ∷ 102 ∷ 114 ∷ 105 ∷ 99 ∷ 116 ∷ 105 ∷ 111 ∷ 110 ∷ 32 ∷ 105 ∷ 110 ∷ 105 ∷ 116 ∷ 105 ∷ 97 ∷ 108 ∷ 10 ∷ []

abbrev pub point_names : List ℕ
point_names = 100 ∷ 105 ∷ 115 ∷ 116 ∷ 97 ∷ 110 ∷ 99 ∷ 101 ∷ 32 ∷ 100 ∷ 101 ∷ 112 ∷ 116 ∷ 104 ∷ 10 ∷ []

-- ---- what is known

-- what the lines so far said, and the lent numbers with the points that were kept
pub record Held : Type 0 where
  pub known : Known
  pub points : List ℤ

abbrev pub held : Known → List ℤ → Held
held k l = record { known = k; points = l }

-- before the first line: nothing is known, and the first names line comes next
unfoldable pub start : Known
start = Names

-- after the value line
unfoldable pub with_values : List ℤ → Known
with_values v = Columns (record { latitude = number_at v 0; friction = number_at v 1; initial = number_at v 2 })

-- after a point: it is stored where the lent numbers have room for it, otherwise it is only counted
unfoldable pub stored_at : List ℤ → ℕ → Station → List ℤ
stored_at l i x = cond (ltb i (station_count l)) (put_station l i x) l

abbrev pub one_more : TraverseRead → TraverseRead
one_more t = record { head = t.head; count = more t.count }

unfoldable pub with_point : List ℤ → TraverseRead → List ℤ → Held
with_point v t l = held (Points (one_more t)) (stored_at l t.count (station_at v 0))

-- ---- a line

-- the line at a place, by what comes next: the names, three values, the names of the points, a point's two values
abbrev pub value_line : List ℕ → ℕ → ℕ → ℕ → LinesRead
value_line s width at line = lines_at s width 0 1 0 at line []

abbrev pub line_by : List ℕ → Known → List ℤ → ℕ → ℕ → Outcome Held
line_by s Names l at line = found (names_at s head_names at line) (held Values l)
line_by s Values l at line = found (value_line s 3 at line).answer (held (with_values (value_line s 3 at line).kept) l)
line_by s (Columns h) l at line = found (names_at s point_names at line) (held (Points (record { head = h; count = 0 })) l)
line_by s (Points t) l at line = found (value_line s 2 at line).answer (with_point (value_line s 2 at line).kept t l)

unfoldable pub line_at : List ℕ → Held → ℕ → ℕ → Outcome Held
line_at s h at line = line_by s h.known h.points at line

-- in the code's terms: what the line makes of what is known
abbrev pub line_step : Result Cursor Refusal → Known → Result (Cursor × Known) Refusal
line_step (Ok c) k = Ok (c, k)
line_step (Err r) k = Err r

-- what the call leaves: a refused line stores nothing
unfoldable pub line_left : Held → Outcome Held → Leaves (Result (Cursor × Known) Refusal)
line_left h (read x at line) = leaves (Ok (record { at = at; line = line }, x.known)) x.points
line_left h (refused r) = leaves (Err r) h.points

-- ---- the end of the text

-- after the points' names line: 3 if there was no point, 5 if there were too few or too many, 8 if they have no place in so many lent numbers
unfoldable pub counted_by : ℕ → TraverseRead → ℕ → ℕ → Outcome TraverseRead
counted_by room t at line =
    cond (eqb t.count 0)
    (refused (refusal kind.Ended line))
    (cond (count_ok t.count)
    (cond (ltb room t.count) (refused (refusal kind.Lent 0)) (read t at line))
    (refused (refusal kind.Points t.count)))

-- 1 if the text is empty, the traverse once its points were read, else 3 with the last line
unfoldable pub end_at : ℕ → Known → ℕ → ℕ → Outcome TraverseRead
end_at room Names at line = refused (refusal kind.Names (more line))
end_at room Values at line = refused (refusal kind.Ended line)
end_at room (Columns h) at line = refused (refusal kind.Ended line)
end_at room (Points t) at line = counted_by room t at line

abbrev pub end_of : Held → ℕ → ℕ → Leaves (Outcome TraverseRead)
end_of h at line = leaves (end_at (station_count h.points) h.known at line) h.points

-- ---- the whole text

-- after a line: the refusal, with the numbers as they are, or what follows
abbrev pub on_rest : Held → Outcome Held → (Held → ℕ → ℕ → Leaves (Outcome TraverseRead)) → Leaves (Outcome TraverseRead)
on_rest h (read x at line) next = next x at line
on_rest h (refused r) next = leaves (refused r) h.points

-- what is left of the text, line by line from a place on; n lines are enough where no more bytes are left
unfoldable pub rest_by : List ℕ → ℕ → Held → ℕ → ℕ → Leaves (Outcome TraverseRead)
rest_by s zero h at line = end_of h at line
rest_by s (suc n) h at line = cond (ltb at (length s)) (on_rest h (line_at s h at line) (rest_by s n)) (end_of h at line)

unfoldable pub rest_at : List ℕ → Held → ℕ → ℕ → Leaves (Outcome TraverseRead)
rest_at s h at line = rest_by s (length s) h at line

-- the answer for each case: what was read, or the refusal
unfoldable pub traverse_read : Outcome TraverseRead → Result TraverseRead Refusal
traverse_read (read t at line) = Ok t
traverse_read (refused r) = Err r

-- what a call leaves that reads the rest, and what one leaves that reads the whole text
abbrev pub read_left : Leaves (Outcome TraverseRead) → Leaves (Result TraverseRead Refusal)
read_left x = leaves (traverse_read x.answer) x.numbers

unfoldable pub traverse_left : List ℕ → List ℤ → Leaves (Result TraverseRead Refusal)
traverse_left s lent = read_left (rest_at s (held start lent) 0 0)

-- the traverse that the text alone gives: its head and the numbers of its points, of which 65 have a place
abbrev pub no_points : List ℤ
no_points = replicate 130 (pos 0)

abbrev pub traverse_by : Outcome TraverseRead → List ℤ → Outcome Traverse
traverse_by (read t at line) points = read (traverse t.head (take (2 * t.count) points)) at line
traverse_by (refused r) points = refused r

unfoldable pub traverse_of : List ℕ → Outcome Traverse
traverse_of s = traverse_by (rest_at s (held start no_points) 0 0).answer (rest_at s (held start no_points) 0 0).numbers

-- ---- windows: w is a part of the text, and `last` says whether the text ends with it

-- the step's answer where the text has ended or a line is refused
unfoldable pub end_step : Outcome TraverseRead → Result Progress Refusal
end_step (read t at line) = Ok (progress.Read t)
end_step (refused r) = Err r

abbrev pub end_left : Leaves (Outcome TraverseRead) → Leaves (Result Progress Refusal)
end_left x = leaves (end_step x.answer) x.numbers

-- after a line: the refusal, or what follows
abbrev pub on_step : Held → Outcome Held → (Held → ℕ → ℕ → Leaves (Result Progress Refusal)) → Leaves (Result Progress Refusal)
on_step h (read x at line) next = next x at line
on_step h (refused r) next = leaves (end_step (refused r)) h.points

-- where the next line may not be whole in the window: what is known, and the cursor
abbrev pub more_step : Held → ℕ → ℕ → Leaves (Result Progress Refusal)
more_step h at line = leaves (Ok (progress.More (record { at = at; line = line }) h.known)) h.points

-- the lines that the window holds, from a place on, each where 33 bytes are left, which three values can take; n of them are enough where no
-- more bytes are left
unfoldable pub step_at : List ℕ → Bool → ℕ → Held → ℕ → ℕ → Leaves (Result Progress Refusal)
step_at w last zero h at line = cond last (end_left (end_of h at line)) (more_step h at line)
step_at w last (suc n) h at line =
    cond (holds (length w) last at 33)
    (cond (ltb at (length w)) (on_step h (line_at w h at line) (step_at w last n)) (end_left (end_of h at line)))
    (more_step h at line)

unfoldable pub traverse_step : List ℕ → Bool → Held → ℕ → ℕ → Leaves (Result Progress Refusal)
traverse_step w last h at line = step_at w last (length w) h at line
