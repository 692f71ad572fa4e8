-- Document 02, Q-7: "our file style, name line `factor`" and a value a line. "Over the whole text come first check 1 for the name line and check 2 for the
-- value lines; 3 is not used." Lines and values are the reader's.
use Rattle.std.specs.Prelude.{ℕ, zero, suc, List, [], ◌∷◌, ◌++◌, cond, length, ltb, ℤ, Result, Ok, Err}
use Rattle.records.specs.declared.Refusal.{Refusal}
use Rattle.reader.specs.Lines.{names_at}
use Rattle.reader.specs.Traverse.{value_line}
use Rattle.reader.specs.declared.Cursor.{Cursor}

-- the names line `factor`, with its line feed
abbrev pub factor_name : List ℕ
factor_name = 102 ∷ 97 ∷ 99 ∷ 116 ∷ 111 ∷ 114 ∷ 10 ∷ []

-- the entries that lines have, or the refusal of the first that has none
abbrev pub Entries : Type 0
Entries = Result (List ℤ) Refusal

-- a line's entry in front of those behind it
abbrev pub in_front : List ℤ → Entries → Entries
in_front kept (Ok l) = Ok (kept ++ l)
in_front kept (Err r) = Err r

-- after a line, of which so much was kept: its refusal, or what follows
abbrev pub after_line : Result Cursor Refusal → List ℤ → (ℕ → ℕ → Entries) → Entries
after_line (Ok c) kept next = in_front kept (next c.at c.line)
after_line (Err r) kept next = Err r

-- line by line from a place on, behind `line` lines; n lines are enough where no more bytes are left
unfoldable pub entries_by : List ℕ → ℕ → ℕ → ℕ → Entries
entries_by s zero at line = Ok []
entries_by s (suc n) at line = cond (ltb at (length s)) (after_line (value_line s 1 at line).answer (value_line s 1 at line).kept (entries_by s n)) (Ok [])

-- the whole text
abbrev pub after_name : List ℕ → Result Cursor Refusal → Entries
after_name s (Ok c) = entries_by s (length s) c.at c.line
after_name s (Err r) = Err r

unfoldable pub entries_of : List ℕ → Entries
entries_of s = after_name s (names_at s factor_name 0 0)
