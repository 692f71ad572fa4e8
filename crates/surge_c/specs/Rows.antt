-- Rows as plain numbers, three to a row, and back.
use Rattle.std.specs.Prelude.{List, [], ◌∷◌, ℕ, zero, suc, drop, ℤ}
use Rattle.records.specs.declared.Row.{Row}
use Rattle.records.specs.Groups.{row_at}

abbrev pub numbers_from : List Row → List ℤ
numbers_from [] = []
numbers_from (v ∷ rows) = v.low ∷ v.high ∷ v.cross ∷ numbers_from rows

-- one or two numbers at the end make no row
abbrev pub rows_from : List ℤ → List Row
rows_from [] = []
rows_from (a ∷ []) = []
rows_from (a ∷ b ∷ []) = []
rows_from (a ∷ b ∷ c ∷ l) = record { low = a; high = b; cross = c } ∷ rows_from l

-- ---- the code's own

-- the numbers of the first i rows in place of those that lay below
abbrev pub laid : ℕ → List Row → List ℤ → List ℤ
laid zero rows below = below
laid (suc i) [] below = below
laid (suc i) (v ∷ rows) below = v.low ∷ v.high ∷ v.cross ∷ laid i rows (drop 3 below)

-- the rows, with the first i of the numbers l in place of their own
abbrev pub backed : ℕ → List ℤ → List Row → List Row
backed zero l rows = rows
backed (suc i) l [] = []
backed (suc i) l (v ∷ rows) = row_at l 0 ∷ backed i (drop 3 l) rows
