-- Rows and state are read back as they were written, and no place is past the greatest number with sign. Assumes nothing.
use mathlib.Core.Path.{◌≡◌, refl}
use mathlib.Core.List.{List, [], ◌∷◌}
use native.Mathlib.Omega.{arith}
use Prim.Native.Nat.{ℕ, zero, suc, ◌*◌, ◌≤◌}
use lib.ListN.{length}
use lib.IntN.{ℤ}
use Rattle.records.specs.Groups.{station_count}
use Rattle.records.specs.Shapes.{traverse}
use Rattle.records.proofs.GroupLaws.{wholes-fit}
use Rattle.march.specs.Given.{given}
use Rattle.march.specs.GroupsLaws.{state-laws}
use Rattle.march.proofs.Refused.{open-place, take-place}
use Rattle.lent.proofs.Again.{whole-place}
use Rattle.surge_c.specs.Rows.{numbers_from, rows_from}
use Rattle.surge_c.specs.Again.{RowsAgain, StateAgain, Fitting, OpenPlaceWhole, TakePlaceWhole}
use Rattle.surge_c.proofs.RowLaws.{rows_back, count-is}

numbers-back : (l : List ℤ) (n : ℕ) → length l ≡ 3 * n → numbers_from (rows_from l) ≡ l
numbers-back [] n e = refl
numbers-back (a ∷ []) n e = absurd (omega arith)
numbers-back (a ∷ b ∷ []) n e = absurd (omega arith)
numbers-back (a ∷ b ∷ c ∷ l) zero e = absurd (omega arith)
numbers-back (a ∷ b ∷ c ∷ l) (suc n) e = let h : length l ≡ 3 * n = omega arith in rw (numbers-back l n h)

pub rows-again : RowsAgain
rows-again = record { count = count-is; same = rows_back; back = numbers-back }

pub state-again : StateAgain
state-again = state-laws.back

-- points of two numbers are no more than half of 2^64
count_at : (l : List ℤ) → Fitting l → station_count l ≤ 9223372036854775807
count_at l h = let f : 2 * station_count l ≤ length l = wholes-fit 2 (length l) in omega arith

below : {a b c : ℕ} → a ≤ b → b ≤ c → a ≤ c
below h g = omega (arith, h, g)

pub open-place-whole : OpenPlaceWhole
open-place-whole most head points number place h e = whole-place place (below (open-place most (traverse head points) number place e) (count_at points h))

pub take-place-whole : TakePlaceWhole
take-place-whole most t r st rows setup number place h e = whole-place place (below (take-place (given most t r st rows setup) number place e) (count_at t.points h))
