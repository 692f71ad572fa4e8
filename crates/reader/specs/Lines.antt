-- Document 01, "Files": lines of values and lines of names, and checks 1 to 4 on them.
-- A line is read from its place on; `line` counts the lines before it, so a fault in it stands at `more line`.
-- The numbers that are kept go one after the other into the slice that a caller lends. Assumes nothing.
use Rattle.std.specs.Prelude.{Result, Ok, Err, ℕ, zero, suc, ◌+◌, List, [], ◌∷◌, ◌++◌, Bool, true, false, cond, ◌&&◌, length, get_or, drop, set, ℤ, pos, ltb, leb, eqb}
use Rattle.records.specs.declared.Kind.TheVariants.{Names, Malformed, Ended, Differs}
use Rattle.records.specs.declared.Refusal.{Refusal}
use Rattle.records.specs.Refusals.{refusal}
use Rattle.reader.specs.Text.{more, byte, good_at, value_at, past_at, close_of, eq_z}
use Rattle.reader.specs.declared.Cursor.{Cursor}
use Rattle.reader.specs.declared.Kept.{Kept}

-- what reading finds: something, with the place past it and the count of lines before that place; or a refusal
pub data Outcome (A : Type 0) : Type 0 where
  read : A → ℕ → ℕ → Outcome A
  refused : Refusal → Outcome A

-- what an answer of the code says, with what was read beside it
abbrev pub found : {A : Type 0} → Result Cursor Refusal → A → Outcome A
found (Ok c) x = read x c.at c.line
found (Err r) x = refused r

-- ---- the lent numbers

-- what a call answers, and the lent numbers as it leaves them
pub record Leaves (A : Type 0) : Type 0 where
  pub answer : A
  pub numbers : List ℤ

abbrev pub leaves : {A : Type 0} → A → List ℤ → Leaves A
leaves a l = record { answer = a; numbers = l }

-- the first of the lent numbers give way to those that were kept
abbrev pub laid : List ℤ → List ℤ → List ℤ
laid kept lent = kept ++ drop (length kept) lent

-- ---- a value line

-- whether value k of line i is one that every line shares with the first, so that it is compared and not kept
unfoldable pub repeated : ℕ → ℕ → ℕ → Bool
repeated shared zero k = false
repeated shared (suc i) k = ltb k shared

-- what is kept after the value v, and whether all shared values so far are those of the first line
unfoldable pub kept_with : Bool → ℤ → List ℤ → List ℤ
kept_with again v kept = cond again kept (kept ++ (v ∷ []))

unfoldable pub same_with : Bool → ℕ → ℤ → List ℤ → Bool → Bool
same_with again k v kept same = cond again (eq_z (get_or kept k (pos 0)) v && same) same

-- the same in the code's terms, where the next free place is counted: before the first value, and after one
abbrev pub none_kept : Kept
none_kept = record { next = 0; same = true }

unfoldable pub kept_left : Bool → ℕ → ℤ → Kept → List ℤ → Leaves Kept
kept_left again k v x lent =
    cond again
    (leaves (record { next = x.next; same = same_with true k v lent x.same }) lent)
    (leaves (record { next = x.next + 1; same = x.same }) (set lent x.next v))

-- the rest of a value line: the place past its line feed, what is kept and whether the shared values are the same; or malformed
pub data Line : Type 0 where
  full : ℕ → List ℤ → Bool → Line
  bad : List ℤ → Line

-- whether the value at a place is one, and the byte past it closes it with n more behind it
abbrev pub closed_at : List ℕ → ℕ → ℕ → Bool
closed_at s n at = good_at s at && eqb (byte s (past_at s at)) (close_of n)

-- n more values of line i, from value k on; one space between two, the line feed after the last
unfoldable pub values_at : List ℕ → ℕ → ℕ → ℕ → ℕ → ℕ → List ℤ → Bool → Line
values_at s shared i zero k at kept same = full at kept same
values_at s shared i (suc n) k at kept same =
    cond (closed_at s n at)
    (values_at s shared i n (k + 1) (past_at s at + 1)
    (kept_with (repeated shared i k) (value_at s at) kept)
    (same_with (repeated shared i k) k (value_at s at) kept same))
    (bad kept)

-- ---- lines of values

-- what reading lines finds, and the numbers that were kept, whatever it finds
pub record LinesRead : Type 0 where
  pub answer : Result Cursor Refusal
  pub kept : List ℤ

abbrev pub lines_read : Result Cursor Refusal → List ℤ → LinesRead
lines_read a l = record { answer = a; kept = l }

-- after a value line: 2 if it is malformed, 4 if its shared values differ, otherwise what follows
abbrev pub after : Line → ℕ → (ℕ → List ℤ → LinesRead) → LinesRead
after (full at kept true) line next = next at kept
after (full at kept false) line next = lines_read (Err (refusal Differs line)) kept
after (bad kept) line next = lines_read (Err (refusal Malformed line)) kept

-- n more lines of so many values, from line i on, of which each shares the first `shared` with line 0: 3 with the last line where the text has
-- ended, then 2, then 4, line by line
unfoldable pub lines_at : List ℕ → ℕ → ℕ → ℕ → ℕ → ℕ → ℕ → List ℤ → LinesRead
lines_at s width shared zero i at line kept = lines_read (Ok (record { at = at; line = line })) kept
lines_at s width shared (suc n) i at line kept =
    cond (ltb at (length s))
    (after (values_at s shared i width 0 at kept true) (more line) (λ a l. lines_at s width shared n (i + 1) a (more line) l))
    (lines_read (Err (refusal Ended line)) kept)

-- in the code's terms: the answer, and what was kept laid into the lent numbers
abbrev pub lines_left : LinesRead → List ℤ → Leaves (Result Cursor Refusal)
lines_left x lent = leaves x.answer (laid x.kept lent)

-- ---- a line of names

-- whether a text has these bytes from a place on
unfoldable pub spells : List ℕ → ℕ → List ℕ → Bool
spells s at [] = true
spells s at (b ∷ want) = cond (ltb at (length s)) (cond (eqb (byte s at) b) (spells s (at + 1) want) false) false

-- a line of names, which are given with their line feed: 1 where it is different, or where the text ends in it
unfoldable pub names_at : List ℕ → List ℕ → ℕ → ℕ → Result Cursor Refusal
names_at s want at line = cond (spells s at want) (Ok (record { at = at + length want; line = more line })) (Err (refusal Names (more line)))

-- ---- windows

-- whether a window of so many bytes has this many more from a place on, or is the text's last, so that nothing is missing
unfoldable pub holds : ℕ → Bool → ℕ → ℕ → Bool
holds size last at need = cond last true (leb (at + need) size)
