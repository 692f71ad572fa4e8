-- One line more of a traverse text, where a line ends, and reading on without counting lines. Assumes nothing.
use Rattle.std.proofs.Common.{Result, Ok, Err}
use mathlib.Core.Path.{◌≡◌, refl, sym, ap, ◌∙◌}
use mathlib.Core.Bool.{Bool, true, false, cond}
use mathlib.Core.List.{List, []}
use Prim.Native.Nat.{ℕ, zero, suc, ◌+◌, ◌<◌, ◌≤◌}
use native.Mathlib.Omega.{arith}
use lib.ListN.{length}
use lib.IntN.{ℤ}
use lib.Dec.{ltb, leb}
use borrow.Author.Tests.{lt-ltb, le-ltb, lt-leb}
use Rattle.records.specs.declared.Refusal.{Refusal}
use Rattle.records.specs.declared.Kind.TheVariants as kind
use Rattle.records.specs.Refusals.{refusal}
use Rattle.records.specs.Groups.{station_count}
use Rattle.reader.specs.Text.{more, digits, negative_at, start_at, value_at, past_at}
use Rattle.reader.specs.Lines.{Outcome, read, refused, found, Leaves, leaves, repeated, kept_with, same_with, Line, full, bad, closed_at, values_at, lines_read, after, lines_at, spells, names_at, holds}
use Rattle.reader.specs.Traverse.{head_names, point_names, Held, held, value_line, line_by, line_at, line_left, end_at, end_of, on_rest, rest_by, rest_at, traverse_read, end_step, end_left, on_step, more_step, step_at, traverse_step}
use Rattle.reader.specs.declared.Cursor.{Cursor}
use Rattle.reader.specs.declared.traverse.Known.{Known}
use Rattle.reader.specs.declared.traverse.Known.TheVariants.{Names, Values, Columns, Points}
use Rattle.reader.specs.declared.traverse.TraverseRead.{TraverseRead}
use Rattle.reader.specs.declared.traverse.Progress.TheVariants as progress
use Rattle.reader.specs.declared.traverse.Progress.{Progress}

-- ---- where a line ends: past where it began

abbrev Beyond : ℕ → Line → Type 0
Beyond b (full a kept same) = b ≤ a
Beyond b (bad kept) = Unit {0}

abbrev pub PastLines : ℕ → Result Cursor Refusal → Type 0
PastLines b (Ok c) = b ≤ c.at
PastLines b (Err q) = Unit {0}

abbrev pub Past : {A : Type 0} → ℕ → Outcome A → Type 0
Past b (read x a l) = b ≤ a
Past b (refused q) = Unit {0}

pub found-past : {A : Type 0} (b : ℕ) (r : Result Cursor Refusal) (x : A) → PastLines b r → Past b (found r x)
found-past b (Ok c) x h = h
found-past b (Err q) x h = tt

past-lines-few : (b c : ℕ) (r : Result Cursor Refusal) → c ≤ b → PastLines b r → PastLines c r
past-lines-few b c (Ok d) h p = omega arith
past-lines-few b c (Err q) h p = tt

pub past-on : (s : List ℕ) (at : ℕ) → at ≤ past_at s at
unfolding past_at start_at
past-on s at = go (negative_at s at)
  where
    go : (b : Bool) → at ≤ cond b (at + 1) at + digits s 10 (cond b (at + 1) at)
    go true = omega arith
    go false = omega arith

module _ (s : List ℕ) (shared i : ℕ) where
  values-on : (n k at : ℕ) (kept : List ℤ) (same : Bool) → Beyond (at + n) (values_at s shared i n k at kept same)
  unfolding values_at
  values-on zero k at kept same = omega arith
  values-on (suc n) k at kept same = go (closed_at s n at) _ (values-on n (k + 1) (past_at s at + 1) (kept_with (repeated shared i k) (value_at s at) kept) (same_with (repeated shared i k) k (value_at s at) kept same))
    where
      wider : (b c : ℕ) (l : Line) → c ≤ b → Beyond b l → Beyond c l
      wider b c (full a o e) h r = omega arith
      wider b c (bad o) h r = tt

      go : (b : Bool) (l : Line) → Beyond (past_at s at + 1 + n) l → Beyond (at + suc n) (cond b l (bad kept))
      go true l r = wider _ _ l (omega (arith, past-on s at)) r
      go false l r = tt

-- n lines of so many values
pub lines-on : (s : List ℕ) (width shared n i at line : ℕ) (kept : List ℤ) → 0 < width → PastLines (at + n) (lines_at s width shared n i at line kept).answer
unfolding lines_at
lines-on s width shared zero i at line kept z = omega arith
lines-on s width shared (suc n) i at line kept z =
    go (ltb at (length s)) (values_at s shared i width 0 at kept true) (values-on s shared i width 0 at kept true) (λ a l. lines-on s width shared n (i + 1) a (more line) l z)
  where
    go : (b : Bool) (l : Line) → Beyond (at + width) l → ((a : ℕ) (o : List ℤ) → PastLines (a + n) (lines_at s width shared n (i + 1) a (more line) o).answer)
        → PastLines (at + suc n) (cond b (after l (more line) (λ a o. lines_at s width shared n (i + 1) a (more line) o)) (lines_read (Err (refusal kind.Ended line)) kept)).answer
    go true (full a o true) h r = past-lines-few _ _ (lines_at s width shared n (i + 1) a (more line) o).answer (omega arith) (r a o)
    go true (full a o false) h r = tt
    go true (bad o) h r = tt
    go false l h r = tt

names-on : (s want : List ℕ) (at line : ℕ) → PastLines (at + length want) (names_at s want at line)
unfolding names_at
names-on s want at line = go (spells s at want)
  where
    go : (b : Bool) → PastLines (at + length want) (cond b (Ok (record { at = at + length want; line = more line })) (Err (refusal kind.Names (more line))))
    go true = omega arith
    go false = tt

pub line_on : (s : List ℕ) (h : Held) (at line : ℕ) → Past (at + 1) (line_at s h at line)
unfolding line_at
line_on s h at line = go h.known
  where
    one : (width : ℕ) → 0 < width → PastLines (at + 1) (value_line s width at line).answer
    one width z = lines-on s width 0 1 0 at line [] z

    go : (k : Known) → Past (at + 1) (line_by s k h.points at line)
    go Names = found-past _ (names_at s head_names at line) _ (past-lines-few _ _ (names_at s head_names at line) (omega arith) (names-on s head_names at line))
    go Values = found-past _ (value_line s 3 at line).answer _ (one 3 (omega arith))
    go (Columns d) = found-past _ (names_at s point_names at line) _ (past-lines-few _ _ (names_at s point_names at line) (omega arith) (names-on s point_names at line))
    go (Points t) = found-past _ (value_line s 2 at line).answer _ (one 2 (omega arith))

-- ---- the rest of a whole text, without its count of lines

module _ (s : List ℕ) where
  rest-by-end : (f : ℕ) (h : Held) (at line : ℕ) → length s ≤ at → rest_by s f h at line ≡ end_of h at line
  unfolding rest_by
  rest-by-end zero h at line e = refl
  rest-by-end (suc f) h at line e = rw (le-ltb _ _ e)

  rest-fuel : (f g : ℕ) (h : Held) (at line : ℕ) → length s ≤ at + f → length s ≤ at + g → rest_by s f h at line ≡ rest_by s g h at line
  unfolding rest_by
  rest-fuel zero g h at line e j = rest-by-end zero h at line (omega arith) ∙ sym (rest-by-end g h at line (omega arith))
  rest-fuel (suc f) zero h at line e j = rest-by-end (suc f) h at line (omega arith) ∙ sym (rest-by-end zero h at line (omega arith))
  rest-fuel (suc f) (suc g) h at line e j = ap (λ (x : Leaves (Outcome TraverseRead)). cond (ltb at (length s)) x (end_of h at line)) (go (line_at s h at line) (line_on s h at line) (λ k a l. rest-fuel f g k a l))
    where
      go : (r : Outcome Held) → Past (at + 1) r → ((k : Held) (a l : ℕ) → length s ≤ a + f → length s ≤ a + g → rest_by s f k a l ≡ rest_by s g k a l) → on_rest h r (rest_by s f) ≡ on_rest h r (rest_by s g)
      go (read k a l) p ih = ih k a l (omega arith) (omega arith)
      go (refused q) p ih = refl

  pub rest_end : (h : Held) (at line : ℕ) → length s ≤ at → rest_at s h at line ≡ end_of h at line
  unfolding rest_at
  rest_end h at line e = rest-by-end (length s) h at line e

  pub rest-line : (h : Held) (at line : ℕ) → at < length s → rest_at s h at line ≡ on_rest h (line_at s h at line) (rest_at s)
  unfolding rest_at rest_by
  rest-line h at line e = rest-fuel (length s) (suc (length s)) h at line (omega arith) (omega arith) ∙ once
    where
      once : rest_by s (suc (length s)) h at line ≡ on_rest h (line_at s h at line) (rest_by s (length s))
      once = rw (lt-ltb _ _ e)

-- ---- the same for the lines that a window holds

-- at the end of the text
abbrev pub progressed : Result TraverseRead Refusal → Result Progress Refusal
progressed (Ok t) = Ok (progress.Read t)
progressed (Err q) = Err q

progressed_end : (o : Outcome TraverseRead) → progressed (traverse_read o) ≡ end_step o
unfolding traverse_read end_step
progressed_end (read t a l) = refl
progressed_end (refused q) = refl

-- after a line, by the answer of the code
module _ (h : Held) (out : List ℤ) (next : Held → ℕ → ℕ → Leaves (Result Progress Refusal)) where
  on_read : (o : Outcome Held) (c : Cursor) (k : Known) → leaves (Ok (c, k)) out ≡ line_left h o → next (held k out) c.at c.line ≡ on_step h o next
  unfolding line_left
  on_read (read y a l) c k f =
      let u : ◌≡◌ {A = Result (Cursor × Known) Refusal} (Ok (c, k)) (Ok (record { at = a; line = l }, y.known)) = ap (λ (z : Leaves (Result (Cursor × Known) Refusal)). z.answer) f in
      let v : ◌≡◌ {A = Cursor × Known} (c, k) (record { at = a; line = l }, y.known) = cc in
      rw (ap (λ (z : Cursor × Known). z.0) v, ap (λ (z : Cursor × Known). z.1) v, ap (λ (z : Leaves (Result (Cursor × Known) Refusal)). z.numbers) f)
  on_read (refused q) c k f =
      let u : ◌≡◌ {A = Result (Cursor × Known) Refusal} (Ok (c, k)) (Err q) = ap (λ (z : Leaves (Result (Cursor × Known) Refusal)). z.answer) f in
      absurd cc

  on-refused : (o : Outcome Held) (q : Refusal) → leaves (Err q) out ≡ line_left h o → leaves (Err q) out ≡ on_step h o next
  unfolding line_left end_step
  on-refused (read y a l) q f =
      let u : ◌≡◌ {A = Result (Cursor × Known) Refusal} (Err q) (Ok (record { at = a; line = l }, y.known)) = ap (λ (z : Leaves (Result (Cursor × Known) Refusal)). z.answer) f in
      absurd cc
  on-refused (refused t) q f =
      let u : ◌≡◌ {A = Result (Cursor × Known) Refusal} (Err q) (Err t) = ap (λ (z : Leaves (Result (Cursor × Known) Refusal)). z.answer) f in
      let v : q ≡ t = cc in
      rw (v, ap (λ (z : Leaves (Result (Cursor × Known) Refusal)). z.numbers) f)

  on-past : (at : ℕ) (o : Outcome Held) → Past (at + 1) o → (c : Cursor) (k : Known) → leaves (Ok (c, k)) out ≡ line_left h o → at < c.at
  unfolding line_left
  on-past at (read y a l) b c k f =
      let u : ◌≡◌ {A = Result (Cursor × Known) Refusal} (Ok (c, k)) (Ok (record { at = a; line = l }, y.known)) = ap (λ (z : Leaves (Result (Cursor × Known) Refusal)). z.answer) f in
      let v : ◌≡◌ {A = Cursor × Known} (c, k) (record { at = a; line = l }, y.known) = cc in
      omega (arith, ap (λ (z : Cursor × Known). z.0.at) v)
  on-past at (refused q) b c k f =
      let u : ◌≡◌ {A = Result (Cursor × Known) Refusal} (Ok (c, k)) (Err q) = ap (λ (z : Leaves (Result (Cursor × Known) Refusal)). z.answer) f in
      absurd cc

module _ (w : List ℕ) (last : Bool) where
  step-base : (f : ℕ) (h : Held) (at line : ℕ) → length w ≤ at → step_at w last f h at line ≡ cond last (end_left (end_of h at line)) (more_step h at line)
  unfolding step_at holds
  step-base zero h at line e = refl
  step-base (suc f) h at line e = go last
    where
      go : (b : Bool) → cond (cond b true (leb (at + 33) (length w))) (cond (ltb at (length w)) (on_step h (line_at w h at line) (step_at w last f)) (end_left (end_of h at line))) (more_step h at line) ≡ cond b (end_left (end_of h at line)) (more_step h at line)
      go true = rw (le-ltb at (length w) e)
      go false = rw (lt-leb (at + 33) (length w) (omega arith))

  step-fuel : (f g : ℕ) (h : Held) (at line : ℕ) → length w ≤ at + f → length w ≤ at + g → step_at w last f h at line ≡ step_at w last g h at line
  unfolding step_at
  step-fuel zero g h at line e j = step-base zero h at line (omega arith) ∙ sym (step-base g h at line (omega arith))
  step-fuel (suc f) zero h at line e j = step-base (suc f) h at line (omega arith) ∙ sym (step-base zero h at line (omega arith))
  step-fuel (suc f) (suc g) h at line e j =
      ap (λ (x : Leaves (Result Progress Refusal)). cond (holds (length w) last at 33) (cond (ltb at (length w)) x (end_left (end_of h at line))) (more_step h at line))
      (go (line_at w h at line) (line_on w h at line) (λ k a l. step-fuel f g k a l))
    where
      go : (r : Outcome Held) → Past (at + 1) r → ((k : Held) (a l : ℕ) → length w ≤ a + f → length w ≤ a + g → step_at w last f k a l ≡ step_at w last g k a l) → on_step h r (step_at w last f) ≡ on_step h r (step_at w last g)
      go (read k a l) p ih = ih k a l (omega arith) (omega arith)
      go (refused q) p ih = refl

  pub step-once : (h : Held) (at line : ℕ)
      → traverse_step w last h at line
      ≡ cond (holds (length w) last at 33) (cond (ltb at (length w)) (on_step h (line_at w h at line) (traverse_step w last)) (end_left (end_of h at line))) (more_step h at line)
  unfolding traverse_step step_at
  step-once h at line = step-fuel (length w) (suc (length w)) h at line (omega arith) (omega arith) ∙ once
    where
      once : step_at w last (suc (length w)) h at line
          ≡ cond (holds (length w) last at 33) (cond (ltb at (length w)) (on_step h (line_at w h at line) (step_at w last (length w))) (end_left (end_of h at line))) (more_step h at line)
      once = refl

  module _ (h : Held) (at line : ℕ) where
    pub step-more : holds (length w) last at 33 ≡ false → more_step h at line ≡ traverse_step w last h at line
    step-more e = sym (step-once h at line ∙ rw e)

    module _ (e : holds (length w) last at 33 ≡ true) where
      pub step_end : (r : Result TraverseRead Refusal) (room : ℕ) → length w ≤ at → room ≡ station_count h.points → r ≡ traverse_read (end_at room h.known at line) → leaves (progressed r) h.points ≡ traverse_step w last h at line
      step_end r room f g i = rw (i, g, progressed_end (end_at (station_count h.points) h.known at line)) (sym (step-once h at line ∙ rw (e, le-ltb _ _ f)))

      module _ (f : at < length w) where
        step_line : on_step h (line_at w h at line) (traverse_step w last) ≡ traverse_step w last h at line
        step_line = sym (step-once h at line ∙ rw (e, lt-ltb _ _ f))

        -- by the answer of the code
        module _ (out : List ℤ) where
          pub step-read : (c : Cursor) (k : Known) → leaves (Ok (c, k)) out ≡ line_left h (line_at w h at line) → traverse_step w last (held k out) c.at c.line ≡ traverse_step w last h at line
          step-read c k q = on_read h out (traverse_step w last) (line_at w h at line) c k q ∙ step_line

          pub step-refused : (t : Refusal) → leaves (Err t) out ≡ line_left h (line_at w h at line) → leaves (Err t) out ≡ traverse_step w last h at line
          step-refused t q = on-refused h out (traverse_step w last) (line_at w h at line) t q ∙ step_line

          pub step-on : (c : Cursor) (k : Known) → leaves (Ok (c, k)) out ≡ line_left h (line_at w h at line) → at < c.at
          step-on c k q = on-past h out (traverse_step w last) at (line_at w h at line) (line_on w h at line) c k q
