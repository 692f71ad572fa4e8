-- Rows moved to plain numbers, three to a row, and back, as far as a loop of i turns has come. Assumes nothing.
use mathlib.Core.Path.{◌≡◌, refl, ap}
use mathlib.Core.List.{List, [], ◌∷◌, ◌++◌}
use native.Mathlib.Omega.{arith}
use native.Mathlib.Nat.{not-suc-le-zero, le_of_suc-le-suc}
use Prim.Native.Nat.{ℕ, zero, suc, ◌+◌, ◌*◌, ◌<◌, ◌≤◌}
use lib.ListN.{length, get_or, set, take, drop}
use lib.IntN.{ℤ, pos}
use Rattle.records.specs.declared.Row.{Row}
use Rattle.records.specs.Groups.{at, group_at, row_at, put_group, put_row, row_count}
use Rattle.records.proofs.GroupLaws.{wholes-times}
use Rattle.surge_c.specs.Rows.{numbers_from, rows_from, laid, backed}

abbrev pub no_row : Row
no_row = record { low = pos 0; high = pos 0; cross = pos 0 }

-- ---- one turn more

three : (i : ℕ) → 3 * suc i ≡ suc (suc (suc (3 * i)))
three i = omega arith

three-one : (i : ℕ) → suc (suc (suc (3 * i))) + 1 ≡ suc (suc (suc (3 * i + 1)))
three-one i = omega arith

three-two : (i : ℕ) → suc (suc (suc (3 * i))) + 2 ≡ suc (suc (suc (3 * i + 2)))
three-two i = omega arith

one_more : (i : ℕ) → suc i + 1 ≡ suc (i + 1)
one_more i = omega arith

later : (l : List ℤ) (k : ℕ) → at l (suc (suc (suc k))) ≡ at (drop 3 l) k
later [] k = refl
later (a ∷ []) k = refl
later (a ∷ b ∷ []) k = refl
later (a ∷ b ∷ c ∷ l) k = refl

pub laid_next : (i : ℕ) (rows : List Row) (below : List ℤ) → i < length rows → 3 * i + 3 ≤ length below → put_row (laid i rows below) i (get_or rows i no_row) ≡ laid (i + 1) rows below
unfolding put_group
laid_next i [] below h k = absurd (not-suc-le-zero h)
laid_next i (v ∷ rows) [] h k = absurd (omega (arith, k))
laid_next i (v ∷ rows) (a ∷ []) h k = absurd (omega (arith, k))
laid_next i (v ∷ rows) (a ∷ b ∷ []) h k = absurd (omega (arith, k))
laid_next zero (v ∷ rows) (a ∷ b ∷ c ∷ l) h k = refl
laid_next (suc i) (v ∷ rows) (a ∷ b ∷ c ∷ l) h k = rw (three i, one_more i) (ap (λ (m : List ℤ). v.low ∷ v.high ∷ v.cross ∷ m) (laid_next i rows l (le_of_suc-le-suc h) (omega (arith, k))))

pub backed-next : (i : ℕ) (l : List ℤ) (rows : List Row) → i < length rows → set (backed i l rows) i (row_at l i) ≡ backed (i + 1) l rows
unfolding group_at
backed-next i l [] h = absurd (not-suc-le-zero h)
backed-next zero l (v ∷ rows) h = refl
backed-next (suc i) l (v ∷ rows) h =
    rw (three i, three-one i, three-two i, one_more i, later l (3 * i), later l (3 * i + 1), later l (3 * i + 2)) (ap (λ (r : List Row). row_at l 0 ∷ r) (backed-next i (drop 3 l) rows (le_of_suc-le-suc h)))

-- ---- both loops

-- the first m rows by themselves
pub laid-front : (m : ℕ) (rows : List Row) (below : List ℤ) → laid (length (take m rows)) (take m rows) below ≡ laid m rows below
laid-front zero [] below = refl
laid-front zero (v ∷ rows) below = refl
laid-front (suc m) [] below = refl
laid-front (suc m) (v ∷ rows) below = ap (λ (l : List ℤ). v.low ∷ v.high ∷ v.cross ∷ l) (laid-front m rows (drop 3 below))

pub backed-front : (m : ℕ) (l : List ℤ) (rows : List Row) → backed (length (take m rows)) l (take m rows) ++ drop m rows ≡ backed m l rows
backed-front zero l [] = refl
backed-front zero l (v ∷ rows) = refl
backed-front (suc m) l [] = refl
backed-front (suc m) l (v ∷ rows) = ap (λ (r : List Row). row_at l 0 ∷ r) (backed-front m (drop 3 l) rows)

-- what was not changed comes back as it was
pub backed-laid : (i : ℕ) (rows : List Row) (below : List ℤ) → backed i (laid i rows below) rows ≡ rows
unfolding group_at
backed-laid zero rows below = refl
backed-laid (suc i) [] below = refl
backed-laid (suc i) (v ∷ rows) below = ap (λ (l : List Row). v ∷ l) (backed-laid i rows (drop 3 below))

-- what lies past the numbers of all the rows
abbrev pub past : List Row → List ℤ → List ℤ
past [] below = below
past (v ∷ rows) below = past rows (drop 3 below)

pub laid-all : (rows : List Row) (below : List ℤ) → laid (length rows) rows below ≡ numbers_from rows ++ past rows below
laid-all [] below = refl
laid-all (v ∷ rows) below = ap (λ (l : List ℤ). v.low ∷ v.high ∷ v.cross ∷ l) (laid-all rows (drop 3 below))

pub backed-all : (rows : List Row) (l more : List ℤ) → length l ≡ 3 * length rows → backed (length rows) (l ++ more) rows ≡ rows_from l
unfolding group_at
backed-all [] [] more e = refl
backed-all [] (a ∷ l) more e = absurd (omega (arith, e))
backed-all (v ∷ rows) [] more e = absurd (omega (arith, e))
backed-all (v ∷ rows) (a ∷ []) more e = absurd (omega (arith, e))
backed-all (v ∷ rows) (a ∷ b ∷ []) more e = absurd (omega (arith, e))
backed-all (v ∷ rows) (a ∷ b ∷ c ∷ l) more e = ap (λ (r : List Row). record { low = a; high = b; cross = c } ∷ r) (backed-all rows l more (omega (arith, e)))

pub numbers-length : (rows : List Row) → length (numbers_from rows) ≡ 3 * length rows
numbers-length [] = refl
numbers-length (v ∷ rows) = let h = numbers-length rows in omega (arith, h)

pub rows_back : (rows : List Row) → rows_from (numbers_from rows) ≡ rows
rows_back [] = refl
rows_back (v ∷ rows) = ap (λ (l : List Row). v ∷ l) (rows_back rows)

pub count-is : (rows : List Row) → row_count (numbers_from rows) ≡ length rows
count-is rows = rw (numbers-length rows) (wholes-times 3 (length rows) (omega arith))
