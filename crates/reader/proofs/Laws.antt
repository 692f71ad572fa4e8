-- What one value and one line more do to what is yet to read and to the numbers that are kept. Assumes nothing.
use Rattle.std.proofs.Common.{Result, Ok, Err}
use mathlib.Core.Path.{◌≡◌, refl, sym, ap, subst, ◌∙◌}
use mathlib.Core.Bool.{Bool, true, false, cond, ◌&&◌}
use mathlib.Core.List.{List, [], ◌∷◌}
use Prim.Native.Nat.{ℕ, zero, suc, ◌+◌, ◌-◌, ◌*◌, ◌<◌, ◌≤◌}
use native.Mathlib.Omega.{arith}
use native.Mathlib.Numerals.{add-one}
use native.Mathlib.Nat.{suc-mul, mul-le-mul_right}
use lib.ListN.{length, take, drop, length-set, take-append-drop}
use lib.Seq.{length-take-le, drop-drop, take-suc-set, drop-set-lt, get_or-take}
use lib.Dec.{leb, eqb, eqb-suc-zero}
use lib.IntN.{ℤ, pos}
use borrow.Author.Tests.{lt-ltb, le-ltb, ltb-true, ltb-false, ne_eqb, eqb-true, le-leb, lt-leb, leb-true, leb-false}
use Rattle.records.specs.declared.Kind.TheVariants.{Malformed, Ended, Differs}
use Rattle.records.specs.Refusals.{refusal}
use Rattle.records.proofs.LimitLaws.{and_right}
use Rattle.reader.proofs.Digits.{Scan, scan-ended, scan-count, scan-value}
use Rattle.reader.specs.Text.{more, byte, digit_at, digits, good_of, signed_value, negative_at, start_at, good_at, value_at, past_at, close_of}
use Rattle.reader.specs.Lines.{Leaves, leaves, laid, repeated, kept_with, same_with, kept_left, full, bad, closed_at, values_at, LinesRead, lines_read, lines_at, lines_left}
use Rattle.reader.specs.declared.Kept.{Kept}
use Rattle.reader.specs.declared.Cursor.{Cursor}
use Rattle.records.specs.declared.Refusal.{Refusal}

pub never : false ≡ true → ⊥
never e = cc

-- a byte that is not nought stands within the text
pub present : (s : List ℕ) (i b : ℕ) → 0 < b → byte s i ≡ b → i < length s
present [] i b p h = omega arith
present (x ∷ s) zero b p h = omega arith
present (x ∷ s) (suc i) b p h = let r = present s i b p h in omega arith

pub close-pos : (n : ℕ) → 0 < close_of n
unfolding close_of
close-pos zero = omega arith
close-pos (suc n) = simp eqb-suc-zero (omega arith)

-- ---- a value: at `at`, with its digits from `start_at s at` on

module _ (s : List ℕ) (at : ℕ) where
  pub too_long : 9 < digits s 10 (start_at s at) → good_at s at ≡ false
  unfolding good_at good_of
  too_long h = simp (ne_eqb (digits s 10 (start_at s at)) 0 (omega arith), lt-ltb _ _ h)

  module _ {to count value : ℕ} (h : Scan 10 s (start_at s at) to count value) (e : 10 ≤ digit_at s to) where
    pub good-is : (negative : Bool) (first : ℕ) → negative ≡ negative_at s at → first ≡ byte s (start_at s at) → good_at s at ≡ good_of negative count first
    unfolding good_at
    good-is negative first p q = rw (scan-count h (scan-ended h e), p, q)

    pub value-is : (negative : Bool) → negative ≡ negative_at s at → value_at s at ≡ signed_value negative value
    unfolding value_at
    value-is negative p = rw (scan-value h (scan-ended h e), p)

    pub past_is : past_at s at ≡ to
    unfolding past_at
    past_is = omega (arith, h.place, scan-count h (scan-ended h e))

-- the value at hand is closed where its digits are good and the byte past them closes it
pub closed_is : (s : List ℕ) (n at to count : ℕ) (negative : Bool) (first : ℕ) → good_at s at ≡ good_of negative count first → past_at s at ≡ to
    → closed_at s n at ≡ (good_of negative count first && eqb (byte s to) (close_of n))
closed_is s n at to count negative first g p = rw (g, p)

-- and then that byte is there
pub closed-present : (s : List ℕ) (n at to : ℕ) → past_at s at ≡ to → closed_at s n at ≡ true → to < length s
closed-present s n at to p e =
    let h : past_at s at < length s = present s (past_at s at) (close_of n) (close-pos n) (eqb-true _ _ (and_right (good_at s at) (eqb (byte s (past_at s at)) (close_of n)) e)) in
    omega arith

-- ---- the numbers that are kept

-- `out` was lent as `lent`: the numbers before place p were written from p₀ on, those from p on stand as lent
pub record Keeping (lent : List ℤ) (p₀ : ℕ) (out : List ℤ) (p : ℕ) : Type 0 where
  pub from : p₀ ≤ p
  pub within : p ≤ length out
  pub size : length out ≡ length lent
  pub rest : drop p out ≡ drop p lent

pub keeping_none : (lent : List ℤ) (p : ℕ) → p ≤ length lent → Keeping lent p lent p
keeping_none lent p h = record { from = omega arith; within = h; size = refl; rest = refl }

pub keeping-on : {l m o : List ℤ} {p q r : ℕ} → Keeping l p m q → Keeping m q o r → Keeping l p o r
keeping-on {l} {m} {o} {p} {q} {r} h g =
    let a = h.from in
    let b = g.from in
    record {
      from = omega arith;
      within = g.within;
      size = g.size ∙ h.size;
      rest = g.rest ∙ further (r - q) (omega arith);
    }
  where
    further : (d : ℕ) → q + d ≡ r → drop r m ≡ drop r l
    further d e = rw (← e, ← drop-drop d q m, h.rest, drop-drop d q l)

pub laid-is : {lent out : List ℤ} {p₀ p : ℕ} → Keeping lent p₀ out p → laid (take p out) lent ≡ out
laid-is {lent} {out} {p₀} {p} h = rw (length-take-le p out h.within, ← h.rest) (take-append-drop p out)

-- where value k of line i is kept: those that lines share only of the first line
abbrev pub number_place : ℕ → ℕ → ℕ → ℕ → ℕ
number_place width shared zero k = k
number_place width shared (suc i) k = shared + suc i * (width - shared) + (k - shared)

module _ (width shared : ℕ) where
  pub place-line : (i : ℕ) → shared ≤ width → number_place width shared (i + 1) 0 ≡ number_place width shared i width
  place-line zero h = omega arith
  place-line (suc i) h = rw (add-one (suc i)) (omega (arith, suc-mul (suc i) (width - shared)))

  pub place_kept : (i k : ℕ) → repeated shared i k ≡ false → number_place width shared i (k + 1) ≡ number_place width shared i k + 1
  unfolding repeated
  place_kept zero k e = refl
  place_kept (suc i) k e = omega (arith, ltb-false k shared e)

  pub place-again : (i k : ℕ) → repeated shared i k ≡ true → number_place width shared i (k + 1) ≡ number_place width shared i k
  unfolding repeated
  place-again zero k e = absurd cc
  place-again (suc i) k e = omega (arith, ltb-true k shared e)

  pub place-past : (i k : ℕ) → repeated shared i k ≡ true → k < number_place width shared i k
  unfolding repeated
  place-past zero k e = absurd cc
  place-past (suc i) k e = omega (arith, ltb-true k shared e)

  pub place-room : (n i k : ℕ) → shared ≤ width → i < n → k < width → repeated shared i k ≡ false → number_place width shared i k < shared + n * (width - shared)
  unfolding repeated
  place-room n zero k h l q e = let m : 1 * (width - shared) ≤ n * (width - shared) = mul-le-mul_right (width - shared) (omega arith) in omega arith
  place-room n (suc i) k h l q e =
      let m : suc (suc i) * (width - shared) ≤ n * (width - shared) = mul-le-mul_right (width - shared) (omega arith) in
      omega (arith, ltb-false k shared e, suc-mul (suc i) (width - shared))

-- what one value more, value k of line i, which is z, makes of what is kept
pub record KeepsOne (width shared i k : ℕ) (z : ℤ) (x : Kept) (lent : List ℤ) (r : Kept) (out : List ℤ) : Type 0 where
  pub place : r.next ≡ number_place width shared i (k + 1)
  pub kept : take r.next out ≡ kept_with (repeated shared i k) z (take x.next lent)
  pub same : r.same ≡ same_with (repeated shared i k) k z (take x.next lent) x.same
  pub keeping : Keeping lent x.next out r.next

module _ (width shared n i k : ℕ) (v z : ℤ) (again : Bool) (x : Kept) (lent out : List ℤ) (r : Kept) (e : leaves r out ≡ kept_left again k v x lent)
    (q : again ≡ repeated shared i k) (u : v ≡ z) (place : x.next ≡ number_place width shared i k) (fit : shared + n * (width - shared) ≤ length lent)
    (near : x.next ≤ length lent) (h : shared ≤ width) (l : i < n) (m : k < width) where
  kept-so : leaves r out ≡ kept_left (repeated shared i k) k z x lent
  kept-so = e ∙ rw (q, u)

  behind : repeated shared i k ≡ true → k < x.next
  behind t = omega (arith, place-past width shared i k t)

  room : repeated shared i k ≡ false → x.next < length lent
  room t = omega (arith, place-room width shared n i k h l m t)

  keep-place : r.next ≡ number_place width shared i (k + 1)
  unfolding kept_left
  keep-place = go (repeated shared i k) refl kept-so
    where
      go : (b : Bool) → repeated shared i k ≡ b → leaves r out ≡ kept_left b k z x lent → r.next ≡ number_place width shared i (k + 1)
      go true t e = ap (λ (y : Leaves Kept). y.answer.next) e ∙ place ∙ sym (place-again width shared i k t)
      go false t e = ap (λ (y : Leaves Kept). y.answer.next) e ∙ ap (λ (y : ℕ). y + 1) place ∙ sym (place_kept width shared i k t)

  keep-kept : take r.next out ≡ kept_with (repeated shared i k) z (take x.next lent)
  unfolding kept_left kept_with
  keep-kept = go (repeated shared i k) kept-so room
    where
      go : (b : Bool) → leaves r out ≡ kept_left b k z x lent → (b ≡ false → x.next < length lent) → take r.next out ≡ kept_with b z (take x.next lent)
      go true e f = ap (λ (y : Leaves Kept). take y.answer.next y.numbers) e
      go false e f = ap (λ (y : Leaves Kept). take y.answer.next y.numbers) e ∙ rw (add-one x.next) (take-suc-set lent x.next z (f refl))

  keep_same : r.same ≡ same_with (repeated shared i k) k z (take x.next lent) x.same
  unfolding kept_left same_with
  keep_same = go (repeated shared i k) kept-so behind
    where
      go : (b : Bool) → leaves r out ≡ kept_left b k z x lent → (b ≡ true → k < x.next) → r.same ≡ same_with b k z (take x.next lent) x.same
      go true e f = ap (λ (y : Leaves Kept). y.answer.same) e ∙ sym (rw (get_or-take x.next lent k (pos 0) (f refl)))
      go false e f = ap (λ (y : Leaves Kept). y.answer.same) e

  keep-keeping : Keeping lent x.next out r.next
  unfolding kept_left
  keep-keeping = go (repeated shared i k) kept-so behind room
    where
      go : (b : Bool) → leaves r out ≡ kept_left b k z x lent → (b ≡ true → k < x.next) → (b ≡ false → x.next < length lent) → Keeping lent x.next out r.next
      go true e g f = subst (λ (y : Leaves Kept). Keeping lent x.next y.numbers y.answer.next) (sym e) (keeping_none lent x.next near)
      go false e g f =
          subst (λ (y : Leaves Kept). Keeping lent x.next y.numbers y.answer.next) (sym e)
          (record { from = omega arith; within = simp length-set (omega (arith, f refl)); size = length-set lent x.next z; rest = drop-set-lt (x.next + 1) lent x.next z (omega arith) })

  pub keeps-one : KeepsOne width shared i k z x lent r out
  keeps-one = record { place = keep-place; kept = keep-kept; same = keep_same; keeping = keep-keeping }

-- the place that it takes, or that it is compared with, is one of the lent
pub keep-room : (width shared n i k p size : ℕ) (again : Bool) → again ≡ repeated shared i k → p ≡ number_place width shared i k → p ≤ size
    → shared + n * (width - shared) ≤ size → shared ≤ width → i < n → k < width → cond again k p < size
keep-room width shared n i k p size again q e near fit h l m = go again q
  where
    go : (b : Bool) → b ≡ repeated shared i k → cond b k p < size
    go true t = omega (arith, place-past width shared i k (sym t))
    go false t = omega (arith, place-room width shared n i k h l m (sym t))

-- ---- a line

module _ (s : List ℕ) (shared i n m k at : ℕ) (kept : List ℤ) (same : Bool) (e : n ≡ suc m) where
  pub values-bad : closed_at s m at ≡ false → values_at s shared i n k at kept same ≡ bad kept
  unfolding values_at
  values-bad g = rw (e, g)

  pub values-more : closed_at s m at ≡ true → (k' next : ℕ) (l : List ℤ) (b : Bool) → k' ≡ k + 1 → next ≡ past_at s at + 1
      → l ≡ kept_with (repeated shared i k) (value_at s at) kept → b ≡ same_with (repeated shared i k) k (value_at s at) kept same
      → values_at s shared i m k' next l b ≡ values_at s shared i n k at kept same
  unfolding values_at
  values-more g k' next l b u x y z = rw (u, x, y, z, e, g)

pub values-done : (s : List ℕ) (shared i n k at : ℕ) (kept : List ℤ) (same : Bool) → n ≡ 0 → values_at s shared i n k at kept same ≡ full at kept same
unfolding values_at
values-done s shared i n k at kept same e = rw e

-- ---- the lines

pub lines-done : (s : List ℕ) (width shared n i at line : ℕ) (kept : List ℤ) → n ≡ 0
    → lines_at s width shared n i at line kept ≡ lines_read (Ok (record { at = at; line = line })) kept
unfolding lines_at
lines-done s width shared n i at line kept e = rw e

module _ (s : List ℕ) (width shared n m i at line : ℕ) (kept : List ℤ) (e : n ≡ suc m) where
  pub lines-ended : length s ≤ at → lines_at s width shared n i at line kept ≡ lines_read (Err (refusal Ended line)) kept
  unfolding lines_at
  lines-ended h = rw (e, le-ltb _ _ h)

  module _ (l : ℕ) (o : List ℤ) (h : at < length s) (t : l ≡ more line) where
    pub lines-bad : values_at s shared i width 0 at kept true ≡ bad o → lines_at s width shared n i at line kept ≡ lines_read (Err (refusal Malformed l)) o
    unfolding lines_at
    lines-bad v = rw (t, e, lt-ltb _ _ h, v)

    pub lines-differ : (a : ℕ) → values_at s shared i width 0 at kept true ≡ full a o false → lines_at s width shared n i at line kept ≡ lines_read (Err (refusal Differs l)) o
    unfolding lines_at
    lines-differ a v = rw (t, e, lt-ltb _ _ h, v)

    pub lines_more : (a : ℕ) → values_at s shared i width 0 at kept true ≡ full a o true → lines_at s width shared m (i + 1) a l o ≡ lines_at s width shared n i at line kept
    unfolding lines_at
    lines_more a v = rw (t, e, lt-ltb _ _ h, v)

-- what the call leaves, from what it kept
pub left_is : (x : LinesRead) (r : Result Cursor Refusal) {lent out : List ℤ} {p₀ p : ℕ} → x ≡ lines_read r (take p out) → Keeping lent p₀ out p → leaves r out ≡ lines_left x lent
left_is x r {lent} {out} {p₀} {p} e h = rw (e, laid-is h)

-- ---- room in a window

pub fits-leb : (at size need : ℕ) → need ≤ size → leb at (size - need) ≡ leb (at + need) size
fits-leb at size need h = go (leb (at + need) size) refl
  where
    go : (b : Bool) → leb (at + need) size ≡ b → leb at (size - need) ≡ b
    go true e = le-leb at (size - need) (omega (arith, leb-true (at + need) size e))
    go false e = lt-leb at (size - need) (omega (arith, leb-false (at + need) size e))

pub short-leb : (at size need : ℕ) → size < need → false ≡ leb (at + need) size
short-leb at size need h = sym (lt-leb (at + need) size (omega arith))
