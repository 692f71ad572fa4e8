-- How many numbers are kept: of lines that were read as many as they have places, of others no more. Assumes nothing.
use Rattle.std.proofs.Common.{Result, Ok, Err}
use mathlib.Core.Path.{◌≡◌, refl, sym, ap, ◌∙◌}
use mathlib.Core.Bool.{Bool, true, false, cond}
use mathlib.Core.List.{List, [], ◌∷◌}
use Prim.Native.Nat.{ℕ, zero, suc, ◌+◌, ◌-◌, ◌*◌, ◌≤◌}
use native.Mathlib.Nat.{mul-le-mul_right}
use native.Mathlib.Omega.{arith}
use lib.ListN.{length, length-append}
use lib.Dec.{ltb}
use lib.IntN.{ℤ}
use Rattle.records.specs.declared.Kind.TheVariants.{Ended}
use Rattle.records.specs.Refusals.{refusal}
use Rattle.reader.specs.Text.{more, value_at, past_at}
use Rattle.reader.specs.Lines.{repeated, kept_with, same_with, Line, full, bad, closed_at, values_at, LinesRead, lines_read, after, lines_at}
use Rattle.reader.proofs.Laws.{number_place, place-line, place_kept, place-again}
use Rattle.reader.specs.declared.Cursor.{Cursor}
use Rattle.records.specs.declared.Refusal.{Refusal}

abbrev LineSize : ℕ → Line → Type 0
LineSize m (full a l e) = length l ≡ m
LineSize m (bad l) = length l ≤ m

abbrev pub AnswerSize : ℕ → Result Cursor Refusal → List ℤ → Type 0
AnswerSize m (Ok c) l = length l ≡ m
AnswerSize m (Err q) l = length l ≤ m

abbrev pub LinesSize : ℕ → LinesRead → Type 0
LinesSize m x = AnswerSize m x.answer x.kept

-- places grow along a line and from line to line
module _ (width shared : ℕ) where
  place-along : (i k m : ℕ) → k ≤ m → number_place width shared i k ≤ number_place width shared i m
  place-along zero k m h = h
  place-along (suc i) k m h = omega arith

  place_down : (i j : ℕ) → i ≤ j → number_place width shared i 0 ≤ number_place width shared j 0
  place_down zero j h = omega arith
  place_down (suc i) zero h = absurd (omega arith)
  place_down (suc i) (suc j) h =
      let m : suc i * (width - shared) ≤ suc j * (width - shared) = mul-le-mul_right (width - shared) h in
      omega arith

  kept-size : (i k : ℕ) (v : ℤ) (kept : List ℤ) → length kept ≡ number_place width shared i k → length (kept_with (repeated shared i k) v kept) ≡ number_place width shared i (k + 1)
  unfolding kept_with
  kept-size i k v kept e = go (repeated shared i k) refl
    where
      go : (b : Bool) → repeated shared i k ≡ b → length (kept_with b v kept) ≡ number_place width shared i (k + 1)
      go true q = e ∙ sym (place-again width shared i k q)
      go false q = length-append kept (v ∷ []) ∙ ap (λ (x : ℕ). x + 1) e ∙ sym (place_kept width shared i k q)

  module _ (s : List ℕ) where
    values-size : (i n k m at : ℕ) (kept : List ℤ) (same : Bool) → m ≡ k + n → length kept ≡ number_place width shared i k
        → LineSize (number_place width shared i m) (values_at s shared i n k at kept same)
    unfolding values_at
    values-size i zero k m at kept same e h = let q : k ≡ m = omega arith in h ∙ ap (number_place width shared i) q
    values-size i (suc n) k m at kept same e h =
        go (closed_at s n at) _ (values-size i n (k + 1) m (past_at s at + 1) (kept_with (repeated shared i k) (value_at s at) kept) (same_with (repeated shared i k) k (value_at s at) kept same) (omega arith) (kept-size i k (value_at s at) kept h))
      where
        go : (b : Bool) (l : Line) → LineSize (number_place width shared i m) l → LineSize (number_place width shared i m) (cond b l (bad kept))
        go true l r = r
        go false l r = omega (arith, place-along i k m (omega arith))

    pub lines-size : (n i m at line : ℕ) (kept : List ℤ) → shared ≤ width → m ≡ i + n → length kept ≡ number_place width shared i 0
        → LinesSize (number_place width shared m 0) (lines_at s width shared n i at line kept)
    unfolding lines_at
    lines-size zero i m at line kept z e h = let q : i ≡ m = omega arith in h ∙ ap (λ (x : ℕ). number_place width shared x 0) q
    lines-size (suc n) i m at line kept z e h =
        go (ltb at (length s)) (values_at s shared i width 0 at kept true) (values-size i width 0 width at kept true (omega arith) h) (λ a l p. lines-size n (i + 1) m a (more line) l z (omega arith) p)
      where
        down : number_place width shared i width ≤ number_place width shared m 0
        down = omega (arith, place-line width shared i z, place_down (i + 1) m (omega arith))

        go : (b : Bool) (l : Line) → LineSize (number_place width shared i width) l
            → ((a : ℕ) (o : List ℤ) → length o ≡ number_place width shared (i + 1) 0 → LinesSize (number_place width shared m 0) (lines_at s width shared n (i + 1) a (more line) o))
            → LinesSize (number_place width shared m 0) (cond b (after l (more line) (λ a o. lines_at s width shared n (i + 1) a (more line) o)) (lines_read (Err (refusal Ended line)) kept))
        go true (full a o true) p r = r a o (p ∙ sym (place-line width shared i z))
        go true (full a o false) p r = omega (arith, down)
        go true (bad o) p r = omega (arith, down)
        go false l p r = omega (arith, place_down i m (omega arith))
