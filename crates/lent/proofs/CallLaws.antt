-- Taking a record: the numbers of rows that may be lent, and a refused record leaves them. Assumes nothing.
use mathlib.Core.Path.{◌≡◌, refl, sym, ap, ◌∙◌}
use mathlib.Core.Bool.{Bool, true, false, cond, ◌&&◌}
use mathlib.Core.List.{List, ◌++◌}
use native.Mathlib.Omega.{arith}
use borrow.Author.Tests.{le-leb, lt-leb}
use Prim.Native.Nat.{ℕ, ◌*◌, ◌≤◌, ◌<◌}
use lib.Dec.{leb}
use lib.ListN.{length, take, drop, take-append-drop}
use Rattle.std.proofs.lemmas.List.{length-take}
use lib.IntN.{ℤ}
use Rattle.std.specs.Prelude.{Err}
use Rattle.records.specs.declared.Refusal.{Refusal}
use Rattle.records.specs.Groups.{row_count}
use Rattle.records.proofs.GroupLaws.{wholes-fit}
use Rattle.records.specs.Shapes.{Traverse, Record}
use Rattle.march.specs.declared.State.{State}
use Rattle.march.specs.Take as march
use Rattle.march.specs.Given.{given}
use Rattle.march.proofs.TakeLaws.{refused-rows}
use Rattle.lent.specs.Calls.{march_left, rows_size}

pub size_few : (n len : ℕ) → n ≤ 64 → 3 * n ≤ len → rows_size n len ≡ 3 * n
unfolding rows_size
size_few n len h k = rw (le-leb n 64 h, le-leb (3 * n) len k)

-- more rows than there is room for
pub size-many : (n len : ℕ) → len < 3 * n → rows_size n len ≡ 0
unfolding rows_size
size-many n len h = rw (lt-leb (3 * n) len h) (by (leb n 64))
  where
    by : (b : Bool) → cond (b && false) (3 * n) 0 ≡ 0
    by true = refl
    by false = refl

-- no more rows than were said
pub size-rows : (n : ℕ) (numbers : List ℤ) → row_count (take (rows_size n (length numbers)) numbers) ≤ n
unfolding rows_size
size-rows n numbers = by (leb n 64 && leb (3 * n) (length numbers))
  where
    fit : (k : ℕ) → k ≤ 3 * n → row_count (take k numbers) ≤ n
    fit k h = omega (arith, length-take k numbers, wholes-fit 3 (length (take k numbers)), h)

    by : (b : Bool) → row_count (take (cond b (3 * n) 0) numbers) ≤ n
    by true = fit (3 * n) (omega arith)
    by false = fit 0 (omega arith)

-- the rows, and so the numbers, are as they were
pub refused-numbers : (most : ℕ) (t : Traverse) (r : Record) (st : State) (size : ℕ) (numbers setup : List ℤ) (refusal : Refusal) (st' : State) (rows' setup' : List ℤ)
    → march.left (Err refusal) st' rows' setup' ≡ march_left most t r st (take size numbers) setup → rows' ++ drop size numbers ≡ numbers
refused-numbers most t r st size numbers setup refusal st' rows' setup' e =
    let q = sym (ap (λ (x : march.Left). x.answer) e) in
    let same : rows' ≡ take size numbers = ap (λ (x : march.Left). x.rows) e ∙ refused-rows (given most t r st (take size numbers) setup) _ _ q in
    ap (λ (l : List ℤ). l ++ drop size numbers) same ∙ take-append-drop size numbers
