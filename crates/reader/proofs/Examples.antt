-- Document 01's "Files" and checks 1 to 5 run on small texts, and what calls leave in lent numbers: the definitions compute each answer. Assumes nothing.
use Rattle.std.proofs.Common.{Result, Ok, Err, Option}
use mathlib.Core.Path.{◌≡◌, refl}
use mathlib.Core.Bool.{Bool, true, false, cond}
use mathlib.Core.List.{List, [], ◌∷◌, ◌++◌}
use Prim.Native.Nat.{ℕ}
use lib.IntN.{ℤ, pos, negsuc}
use lib.ListN.{replicate}
use Rattle.records.specs.declared.Refusal.{Refusal}
use Rattle.records.specs.Refusals.{number_of}
use Rattle.records.specs.Groups.{wholes, point_count, group_at, put_group}
use Rattle.records.specs.Limits.{count_ok}
use Rattle.records.specs.Shapes.{Traverse, Record, count}
use Rattle.reader.specs.Text.{more, digit_at, digits, worth, good_of, signed_value, start_at, good_at, value_at, past_at, close_of, eq_z}
use Rattle.reader.specs.Lines.{Outcome, read, refused, Leaves, repeated, kept_with, same_with, values_at, lines_at, spells, names_at}
use Rattle.reader.specs.Storm.{storm_names, storm_start, next_at, kept_at, next_of, too_few, next_left, record_of, Stop, ended, stopped, paused, unread, records_by, storm_rest, storm_of}
use Rattle.reader.specs.Traverse.{head_names, point_names, start, with_values, stored_at, with_point, line_at, counted_by, end_at, rest_by, rest_at, traverse_read, traverse_left, traverse_of}
use Rattle.reader.specs.declared.traverse.TraverseRead.{TraverseRead}
use Rattle.reader.specs.declared.Cursor.{Cursor}

-- ---- lines

-- `300 25 -5`
abbrev settings : List ℕ
settings = 51 ∷ 48 ∷ 48 ∷ 32 ∷ 50 ∷ 53 ∷ 32 ∷ 45 ∷ 53 ∷ 10 ∷ []

-- `300 25`
abbrev settings-short : List ℕ
settings-short = 51 ∷ 48 ∷ 48 ∷ 32 ∷ 50 ∷ 53 ∷ 10 ∷ []

-- `300 25 -5`, without its line feed
abbrev settings-open : List ℕ
settings-open = 51 ∷ 48 ∷ 48 ∷ 32 ∷ 50 ∷ 53 ∷ 32 ∷ 45 ∷ 53 ∷ []

-- `10 5`
abbrev far : List ℕ
far = 49 ∷ 48 ∷ 32 ∷ 53 ∷ 10 ∷ []

-- `0 7`
abbrev shore : List ℕ
shore = 48 ∷ 32 ∷ 55 ∷ 10 ∷ []

-- `0 05`
abbrev zero-led : List ℕ
zero-led = 48 ∷ 32 ∷ 48 ∷ 53 ∷ 10 ∷ []

-- `0 -0`
abbrev minus-zero : List ℕ
minus-zero = 48 ∷ 32 ∷ 45 ∷ 48 ∷ 10 ∷ []

-- `0`
abbrev lone : List ℕ
lone = 48 ∷ 10 ∷ []

-- a line of no bytes
abbrev empty : List ℕ
empty = 10 ∷ []

-- `distance`
abbrev other-names : List ℕ
other-names = 100 ∷ 105 ∷ 115 ∷ 116 ∷ 97 ∷ 110 ∷ 99 ∷ 101 ∷ 10 ∷ []

-- `0 1 2 3 4`
abbrev calm : List ℕ
calm = 48 ∷ 32 ∷ 49 ∷ 32 ∷ 50 ∷ 32 ∷ 51 ∷ 32 ∷ 52 ∷ 10 ∷ []

-- `0 1 2 3 4`, without its line feed
abbrev calm-open : List ℕ
calm-open = 48 ∷ 32 ∷ 49 ∷ 32 ∷ 50 ∷ 32 ∷ 51 ∷ 32 ∷ 52 ∷ []

-- `0 1 -6 7 999999999`
abbrev gale : List ℕ
gale = 48 ∷ 32 ∷ 49 ∷ 32 ∷ 45 ∷ 54 ∷ 32 ∷ 55 ∷ 32 ∷ 57 ∷ 57 ∷ 57 ∷ 57 ∷ 57 ∷ 57 ∷ 57 ∷ 57 ∷ 57 ∷ 10 ∷ []

-- `0 1 2 3`
abbrev four : List ℕ
four = 48 ∷ 32 ∷ 49 ∷ 32 ∷ 50 ∷ 32 ∷ 51 ∷ 10 ∷ []

-- `0 2 2 3 4`
abbrev tide : List ℕ
tide = 48 ∷ 32 ∷ 50 ∷ 32 ∷ 50 ∷ 32 ∷ 51 ∷ 32 ∷ 52 ∷ 10 ∷ []

-- `0 2 2 3 +4`
abbrev tide-plus : List ℕ
tide-plus = 48 ∷ 32 ∷ 50 ∷ 32 ∷ 50 ∷ 32 ∷ 51 ∷ 32 ∷ 43 ∷ 52 ∷ 10 ∷ []

-- `0 1 2 3 1234567890`
abbrev ten : List ℕ
ten = 48 ∷ 32 ∷ 49 ∷ 32 ∷ 50 ∷ 32 ∷ 51 ∷ 32 ∷ 49 ∷ 50 ∷ 51 ∷ 52 ∷ 53 ∷ 54 ∷ 55 ∷ 56 ∷ 57 ∷ 48 ∷ 10 ∷ []

-- `7 1 2 3 4`
abbrev later : List ℕ
later = 55 ∷ 32 ∷ 49 ∷ 32 ∷ 50 ∷ 32 ∷ 51 ∷ 32 ∷ 52 ∷ 10 ∷ []

-- `seconds tide wind angle deficits`
abbrev nearly : List ℕ
nearly = 115 ∷ 101 ∷ 99 ∷ 111 ∷ 110 ∷ 100 ∷ 115 ∷ 32 ∷ 116 ∷ 105 ∷ 100 ∷ 101 ∷ 32 ∷ 119 ∷ 105 ∷ 110 ∷ 100 ∷ 32 ∷ 97 ∷ 110 ∷ 103 ∷ 108 ∷ 101 ∷ 32 ∷ 100 ∷ 101 ∷ 102 ∷ 105 ∷ 99 ∷ 105 ∷ 116 ∷ 115 ∷ 10 ∷ []

-- `seconds tide wind angle deficit`, without its line feed
abbrev names-open : List ℕ
names-open = 115 ∷ 101 ∷ 99 ∷ 111 ∷ 110 ∷ 100 ∷ 115 ∷ 32 ∷ 116 ∷ 105 ∷ 100 ∷ 101 ∷ 32 ∷ 119 ∷ 105 ∷ 110 ∷ 100 ∷ 32 ∷ 97 ∷ 110 ∷ 103 ∷ 108 ∷ 101 ∷ 32 ∷ 100 ∷ 101 ∷ 102 ∷ 105 ∷ 99 ∷ 105 ∷ 116 ∷ []

-- ---- texts, each with what it gives: the number and place of its refusal, or the numbers that are read

pub record Example : Type 0 where
  pub lines : List (List ℕ)
  pub gives : List ℤ

abbrev joined : List (List ℕ) → List ℕ
joined [] = []
joined (l ∷ ls) = l ++ joined ls

abbrev refusal : ℕ → ℕ → List ℤ
refusal n p = pos n ∷ pos p ∷ []

abbrev refusal_numbers : Refusal → List ℤ
refusal_numbers r = refusal (number_of r.kind) r.place

abbrev traverse_numbers : Outcome Traverse → List ℤ
traverse_numbers (read t at line) = t.head.latitude ∷ t.head.friction ∷ t.head.initial ∷ pos (count t) ∷ t.points
traverse_numbers (refused r) = refusal_numbers r

abbrev record_numbers : List Record → List ℤ
record_numbers [] = []
record_numbers (r ∷ rs) = r.closing.seconds ∷ r.closing.tide ∷ pos (point_count r.points) ∷ (r.points ++ record_numbers rs)

abbrev storm_numbers : List Record → Stop → List ℤ
storm_numbers rs ended = record_numbers rs
storm_numbers rs (stopped r) = refusal_numbers r
storm_numbers rs (paused at line) = []
storm_numbers rs unread = []

abbrev same : List ℤ → List ℤ → Bool
same [] [] = true
same [] (b ∷ ys) = false
same (a ∷ xs) [] = false
same (a ∷ xs) (b ∷ ys) = cond (eq_z a b) (same xs ys) false

-- whether every text of a list gives what it is said to give
abbrev hold : (List ℕ → List ℤ) → List Example → Bool
hold f [] = true
hold f (e ∷ es) = cond (same (f (joined e.lines)) e.gives) (hold f es) false

abbrev traverses : List Example
traverses =
    -- no text
    record { lines = []; gives = refusal 1 1 } ∷
    -- the names line alone
    record { lines = head_names ∷ []; gives = refusal 3 1 } ∷
    -- no line of point names
    record { lines = head_names ∷ settings ∷ []; gives = refusal 3 2 } ∷
    -- two values for three
    record { lines = head_names ∷ settings-short ∷ []; gives = refusal 2 2 } ∷
    -- no line feed after the last value
    record { lines = head_names ∷ settings-open ∷ []; gives = refusal 2 2 } ∷
    -- no point
    record { lines = head_names ∷ settings ∷ point_names ∷ []; gives = refusal 3 3 } ∷
    -- other names
    record { lines = head_names ∷ settings ∷ other-names ∷ []; gives = refusal 1 3 } ∷
    -- a leading zero
    record { lines = head_names ∷ settings ∷ point_names ∷ far ∷ zero-led ∷ []; gives = refusal 2 5 } ∷
    -- an empty line
    record { lines = head_names ∷ settings ∷ point_names ∷ far ∷ empty ∷ []; gives = refusal 2 5 } ∷
    -- two faulty lines: the earlier
    record { lines = head_names ∷ settings ∷ point_names ∷ far ∷ minus-zero ∷ lone ∷ []; gives = refusal 2 5 } ∷
    -- one point
    record { lines = head_names ∷ settings ∷ point_names ∷ far ∷ []; gives = refusal 5 1 } ∷
    -- two points are read
    record { lines = head_names ∷ settings ∷ point_names ∷ far ∷ shore ∷ []; gives = pos 300 ∷ pos 25 ∷ negsuc 4 ∷ pos 2 ∷ pos 10 ∷ pos 5 ∷ pos 0 ∷ pos 7 ∷ [] } ∷ []

-- for a traverse of two points
abbrev storms : List Example
storms =
    -- no text
    record { lines = []; gives = refusal 1 1 } ∷
    -- no line feed after the names
    record { lines = names-open ∷ []; gives = refusal 1 1 } ∷
    -- other names
    record { lines = nearly ∷ []; gives = refusal 1 1 } ∷
    -- no record
    record { lines = storm_names ∷ []; gives = refusal 3 1 } ∷
    -- the text ends inside a record
    record { lines = storm_names ∷ calm ∷ []; gives = refusal 3 2 } ∷
    -- four values for five
    record { lines = storm_names ∷ calm ∷ four ∷ []; gives = refusal 2 3 } ∷
    -- another tide
    record { lines = storm_names ∷ calm ∷ tide ∷ []; gives = refusal 4 3 } ∷
    -- another tide and a plus: the lower number
    record { lines = storm_names ∷ calm ∷ tide-plus ∷ []; gives = refusal 2 3 } ∷
    -- ten digits
    record { lines = storm_names ∷ calm ∷ ten ∷ []; gives = refusal 2 3 } ∷
    -- no line feed after the last value
    record { lines = storm_names ∷ calm ∷ calm ∷ calm-open ∷ []; gives = refusal 2 4 } ∷
    -- the text ends inside the second record
    record { lines = storm_names ∷ calm ∷ calm ∷ later ∷ []; gives = refusal 3 4 } ∷
    -- one record is read
    record { lines = storm_names ∷ calm ∷ gale ∷ []; gives = pos 0 ∷ pos 1 ∷ pos 2 ∷ pos 2 ∷ pos 3 ∷ pos 4 ∷ negsuc 5 ∷ pos 7 ∷ pos 999999999 ∷ [] } ∷ []

-- ---- what a call leaves in the numbers that it was lent, here nines

pub record LentExample : Type 0 where
  pub lines : List (List ℕ)
  pub lent : ℕ
  pub gives : List ℤ

abbrev nines : ℕ → List ℤ
nines n = replicate n (pos 9)

abbrev hold_lent : (List ℕ → List ℤ → List ℤ) → List LentExample → Bool
hold_lent f [] = true
hold_lent f (e ∷ es) = cond (same (f (joined e.lines) (nines e.lent)) e.gives) (hold_lent f es) false

-- the refusal, if there is one, and then the numbers
abbrev next_numbers : Leaves (Result (Option Cursor) Refusal) → List ℤ
next_numbers x = by x.answer ++ x.numbers
  where
    by : Result (Option Cursor) Refusal → List ℤ
    by (Ok c) = []
    by (Err r) = refusal_numbers r

abbrev whole_numbers : Leaves (Result TraverseRead Refusal) → List ℤ
whole_numbers x = by x.answer ++ x.numbers
  where
    by : Result TraverseRead Refusal → List ℤ
    by (Ok t) = []
    by (Err r) = refusal_numbers r

-- the first record of two points, past a names line of one byte
abbrev records-lent : List LentExample
records-lent =
    -- the record, and the spare number as lent
    record { lines = empty ∷ calm ∷ gale ∷ []; lent = 9; gives = pos 0 ∷ pos 1 ∷ pos 2 ∷ pos 3 ∷ pos 4 ∷ negsuc 5 ∷ pos 7 ∷ pos 999999999 ∷ pos 9 ∷ [] } ∷
    -- another tide is found at the end of its line
    record { lines = empty ∷ calm ∷ tide ∷ []; lent = 9; gives = pos 4 ∷ pos 3 ∷ pos 0 ∷ pos 1 ∷ pos 2 ∷ pos 3 ∷ pos 4 ∷ pos 2 ∷ pos 3 ∷ pos 4 ∷ pos 9 ∷ [] } ∷
    -- a value that is none is left where it stands
    record { lines = empty ∷ calm ∷ tide-plus ∷ []; lent = 9; gives = pos 2 ∷ pos 3 ∷ pos 0 ∷ pos 1 ∷ pos 2 ∷ pos 3 ∷ pos 4 ∷ pos 2 ∷ pos 3 ∷ pos 9 ∷ pos 9 ∷ [] } ∷
    -- too few numbers for two points
    record { lines = empty ∷ calm ∷ gale ∷ []; lent = 7; gives = pos 8 ∷ pos 0 ∷ nines 7 } ∷ []

abbrev traverses-lent : List LentExample
traverses-lent =
    -- two points, and a spare place
    record { lines = head_names ∷ settings ∷ point_names ∷ far ∷ shore ∷ []; lent = 6; gives = pos 10 ∷ pos 5 ∷ pos 0 ∷ pos 7 ∷ pos 9 ∷ pos 9 ∷ [] } ∷
    -- room for the first of them
    record { lines = head_names ∷ settings ∷ point_names ∷ far ∷ shore ∷ []; lent = 2; gives = pos 8 ∷ pos 0 ∷ pos 10 ∷ pos 5 ∷ [] } ∷
    -- an odd number of numbers has no room
    record { lines = head_names ∷ settings ∷ point_names ∷ far ∷ shore ∷ []; lent = 5; gives = pos 8 ∷ pos 0 ∷ nines 5 } ∷
    -- too few points come before too little room
    record { lines = head_names ∷ settings ∷ point_names ∷ far ∷ []; lent = 0; gives = refusal 5 1 } ∷
    -- a line that is refused stores nothing, the one before it did
    record { lines = head_names ∷ settings ∷ point_names ∷ far ∷ zero-led ∷ []; lent = 4; gives = pos 2 ∷ pos 5 ∷ pos 10 ∷ pos 5 ∷ pos 9 ∷ pos 9 ∷ [] } ∷ []

pub traverse-examples : hold (λ s. traverse_numbers (traverse_of s)) traverses ≡ true
unfolding traverse_of rest_at rest_by line_at end_at counted_by count_ok start with_values with_point stored_at put_group group_at wholes lines_at values_at repeated kept_with same_with names_at spells good_at good_of value_at signed_value worth past_at start_at digits digit_at close_of more
traverse-examples = refl

pub storm-examples : hold (λ s. storm_numbers (storm_of s 2).records (storm_of s 2).stop) storms ≡ true
unfolding storm_of storm_rest records_by storm_start next_at count_ok record_of wholes lines_at values_at repeated kept_with same_with names_at spells good_at good_of value_at signed_value worth past_at start_at digits digit_at close_of more
storm-examples = refl

pub record-lent-examples : hold_lent (λ s lent. next_numbers (next_left s 2 1 1 lent)) records-lent ≡ true
unfolding next_left too_few next_of next_at kept_at count_ok record_of lines_at values_at repeated kept_with same_with good_at good_of value_at signed_value worth past_at start_at digits digit_at close_of more
record-lent-examples = refl

pub traverse-lent-examples : hold_lent (λ s lent. whole_numbers (traverse_left s lent)) traverses-lent ≡ true
unfolding traverse_left traverse_read rest_at rest_by line_at end_at counted_by count_ok start with_values with_point stored_at put_group group_at wholes lines_at values_at repeated kept_with same_with names_at spells good_at good_of value_at signed_value worth past_at start_at digits digit_at close_of more
traverse-lent-examples = refl
