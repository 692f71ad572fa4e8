-- `take_numbers` on the numbers of rows is the call on the rows, though it moves no more than k of them, by way of 3k numbers, and a traverse may have
-- more rows lent than it has segments. Assumes nothing.
use mathlib.Core.Path.{◌≡◌, refl, sym, ap, ◌∙◌}
use mathlib.Core.Bool.{Bool, true, false, cond}
use mathlib.Core.List.{List, [], ◌∷◌}
use borrow.Author.Tests.{leb-true, leb-false}
use native.Mathlib.Omega.{arith}
use Prim.Native.Nat.{ℕ, ◌-◌, ◌*◌, ◌≤◌, ◌<◌}
use lib.Dec.{leb}
use lib.ListN.{length, take, drop}
use lib.Seq.{take_at}
use lib.IntN.{ℤ}
use Rattle.records.specs.declared.Row.{Row}
use Rattle.records.specs.declared.Kind.TheVariants.{Lent}
use Rattle.records.specs.Refusals.{refusal}
use Rattle.records.specs.Groups.{wholes, row_count}
use Rattle.records.specs.Shapes.{Traverse, Record}
use Rattle.std.specs.Prelude.{Ok, Err}
use Rattle.records.specs.CheckOrder.{Check, Pass, Fail, ◌then◌}
use Rattle.march.specs.Answers.{Told, accepted, refused}
use Rattle.march.specs.Given.{Given, given, segments}
use Rattle.march.specs.Checks.{traverse_check}
use Rattle.march.specs.Take.{after_checks, take_of}
use Rattle.march.specs.Take as march
use Rattle.march.specs.TakeBounds.{lesser}
use Rattle.march.proofs.ChecksPassed.{traverse-in}
use Rattle.march.proofs.Refused.{wrong-rows}
use Rattle.march.proofs.TakeLaws.{rows_long}
use Rattle.lent.specs.Numbers.{state_of, buffers_ok, wrong_buffer}
use Rattle.lent.specs.Calls.{rows_size, march_left, LeftNumbers, left_numbers, after_numbers, take_numbers}
use Rattle.lent.proofs.CallLaws.{size_few, size-many}
use Rattle.surge_c.specs.Rows.{numbers_from, laid, backed}
use Rattle.surge_c.specs.Calls.{LeftRows, left_rows, after_taken, take_rows}
use Rattle.surge_c.proofs.RowLaws.{past, laid-all, backed-all, backed-laid, numbers-length, count-is}

take_none : (l : List ℤ) → take 0 l ≡ []
take_none [] = refl
take_none (x ∷ l) = refl

none-held : row_count [] ≡ 0
unfolding wholes
none-held = refl

-- with k rows moved at the most
module _ (most k : ℕ) (t : Traverse) (r : Record) (state : List ℤ) (rows : List Row) (setup answer below : List ℤ)
    (room : lesser (most - 1) (length rows) ≤ k) (small : k ≤ 64) where
  abbrev n : ℕ
  n = length rows

  -- what the march is given, with these for the rows
  abbrev with_rows : List ℤ → Given
  with_rows l = given most t r (state_of state) l setup

  abbrev on_rows : List ℤ → march.Left
  on_rows l = march_left most t r (state_of state) l setup

  -- the numbers that are lent for m rows
  abbrev numbers : ℕ → List ℤ
  numbers m = laid m rows below

  -- what was left as numbers, with m rows made of them
  abbrev in_rows : ℕ → LeftNumbers → LeftRows
  in_rows m x = left_rows x.number x.state (backed m x.numbers rows) x.setup x.answer

  -- ---- all the rows are moved: they are what the numbers are

  rows-are : take (3 * n) (numbers n) ≡ numbers_from rows
  rows-are = rw (laid-all rows below) (take_at (numbers_from rows) (past rows below) (3 * n) (numbers-length rows))

  as-many : length (on_rows (numbers_from rows)).rows ≡ 3 * n
  as-many = rows_long (with_rows (numbers_from rows)) ∙ numbers-length rows

  few-by : (ok : Bool) (told : Told) → let x = on_rows (numbers_from rows) in
      in_rows n (cond ok (after_numbers told x (3 * n) state (numbers n)) (left_numbers wrong_buffer state (numbers n) setup answer))
      ≡ cond ok (after_taken told x state rows) (left_rows wrong_buffer state rows setup answer)
  few-by true (accepted elapsed low high) = rw (backed-all rows (on_rows (numbers_from rows)).rows (drop (3 * n) (numbers n)) as-many)
  few-by true (refused number place) = rw (backed-laid n rows below)
  few-by false told = rw (backed-laid n rows below)

  few : length (numbers n) ≡ 3 * k → n ≤ k → in_rows n (take_numbers most t r state n (numbers n) setup answer) ≡ take_rows most t r state rows setup answer
  unfolding take_numbers
  few e h =
      rw (size_few n (length (numbers n)) (omega (arith, small)) (omega (arith, e)), rows-are)
      (few-by (buffers_ok (length state) (length answer)) (on_rows (numbers_from rows)).answer)

  -- ---- there are more: no traverse has so many segments, and the call is refused whatever they are

  alike : (l : List ℤ) → (traverse_check most t ≡ Pass → row_count l ≡ segments t → ⊥) → on_rows l ≡ after_checks (traverse_check most t then Fail (refusal Lent 0)) (with_rows l)
  unfolding take_of
  alike l h = ap (λ (c : Check). after_checks c (with_rows l)) (wrong-rows most t _ _ l (length setup) h)

  none : traverse_check most t ≡ Pass → row_count [] ≡ segments t → ⊥
  none p q = let v = traverse-in most t p in omega (arith, none-held, q, v.from)

  too-many : k < n → traverse_check most t ≡ Pass → row_count (numbers_from rows) ≡ segments t → ⊥
  too-many h p q = let v = traverse-in most t p in omega (arith, h, room, count-is rows, q, v.build, v.from)

  many-by : (m : ℕ) (ok : Bool) (c : Check) → let none-left = after_checks (c then Fail (refusal Lent 0)) (with_rows []) in let left = after_checks (c then Fail (refusal Lent 0)) (with_rows (numbers_from rows)) in
      in_rows m (cond ok (after_numbers none-left.answer none-left 0 state (numbers m)) (left_numbers wrong_buffer state (numbers m) setup answer))
      ≡ cond ok (after_taken left.answer left state rows) (left_rows wrong_buffer state rows setup answer)
  many-by m true (Ok u) = rw (backed-laid m rows below)
  many-by m true (Err refusal) = rw (backed-laid m rows below)
  many-by m false c = rw (backed-laid m rows below)

  many : (m : ℕ) → length (numbers m) ≡ 3 * k → k < n → in_rows m (take_numbers most t r state n (numbers m) setup answer) ≡ take_rows most t r state rows setup answer
  unfolding take_numbers
  many m e h =
      rw (size-many n (length (numbers m)) (omega (arith, e, h)), take_none (numbers m), alike [] none, alike (numbers_from rows) (too-many h))
      (many-by m (buffers_ok (length state) (length answer)) (traverse_check most t))

  moved : length (numbers (lesser n k)) ≡ 3 * k → in_rows (lesser n k) (take_numbers most t r state n (numbers (lesser n k)) setup answer) ≡ take_rows most t r state rows setup answer
  moved e = by (leb n k) refl
    where
      by : (b : Bool) → leb n k ≡ b → in_rows (lesser n k) (take_numbers most t r state n (numbers (lesser n k)) setup answer) ≡ take_rows most t r state rows setup answer
      by true q =
          let h : n ≤ k = leb-true n k q in
          let all : lesser n k ≡ n = omega (arith, h) in
          rw all (few (rw all at e) h)
      by false q = many (lesser n k) e (leb-false n k q)

  -- a call that is not accepted leaves the numbers
  kept-by : (l : List ℤ) (ok : Bool) (told : Told) (x : march.Left) (size : ℕ) → let left = cond ok (after_numbers told x size state l) (left_numbers wrong_buffer state l setup answer) in (left.number ≡ 0 → ⊥) → left.numbers ≡ l
  kept-by l true (accepted elapsed low high) x size h = absurd (h refl)
  kept-by l true (refused number place) x size h = refl
  kept-by l false told x size h = refl

  kept : (l : List ℤ) → ((take_numbers most t r state n l setup answer).number ≡ 0 → ⊥) → (take_numbers most t r state n l setup answer).numbers ≡ l
  unfolding take_numbers
  kept l =
      let size = rows_size n (length l) in
      let x = on_rows (take size l) in
      kept-by l (buffers_ok (length state) (length answer)) x.answer x size

  -- ---- what the code does: m rows moved, and what the call on their numbers answered and left

  module _ (m : ℕ) (m-is : m ≡ lesser n k) (lent : List ℤ) (lent-is : lent ≡ numbers m) (size : length lent ≡ 3 * k)
      (number : ℕ) (state' numbers' setup' answer' : List ℤ) (e : left_numbers number state' numbers' setup' answer' ≡ take_numbers most t r state n lent setup answer) where
    -- with rows made of what was left
    pub rows-taken : left_rows number state' (backed m numbers' rows) setup' answer' ≡ take_rows most t r state rows setup answer
    rows-taken = ap (in_rows m) e ∙ rw lent-is ((rw (← m-is) at moved) (rw lent-is at size))

    -- with the rows as they were, where the call is not accepted
    pub rows-kept : (number ≡ 0 → ⊥) → left_rows number state' rows setup' answer' ≡ take_rows most t r state rows setup answer
    rows-kept other =
        let same : numbers' ≡ numbers m = ap (λ (x : LeftNumbers). x.numbers) e ∙ kept lent (λ z. other (ap (λ (x : LeftNumbers). x.number) e ∙ z)) ∙ lent-is in
        let back : rows ≡ backed m numbers' rows = sym (ap (λ (l : List ℤ). backed m l rows) same ∙ backed-laid m rows below) in
        ap (λ (l : List Row). left_rows number state' l setup' answer') back ∙ rows-taken
