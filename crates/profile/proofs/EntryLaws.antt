-- The lines of a profile's text: what one line more does to the entries that are judged, and that reading them at once keeps just the entries. Assumes
-- nothing.
use mathlib.Core.Path.{◌≡◌, refl, sym, ap, subst, ◌∙◌}
use mathlib.Core.Bool.{Bool, true, false, cond}
use mathlib.Core.List.{List, [], ◌∷◌, ◌++◌, append_assoc, append-nil}
use native.Mathlib.Omega.{arith}
use borrow.Author.Tests.{lt-ltb, le-ltb, ltb-true, ltb-false}
use Prim.Native.Nat.{ℕ, zero, suc, ◌+◌, ◌-◌, ◌≤◌, ◌<◌}
use lib.Dec.{ltb}
use lib.ListN.{length}
use lib.IntN.{ℤ, pos}
use Rattle.std.specs.Prelude.{Result, Ok, Err}
use Rattle.std.specs.Result.{MatchResult}
use Rattle.records.specs.declared.Kind.TheVariants.{Malformed}
use Rattle.records.specs.declared.Refusal.{Refusal}
use Rattle.records.specs.CheckOrder.{Check, Fail}
use Rattle.records.specs.Groups.{at as number_at}
use Rattle.records.specs.Refusals.{refusal}
use Rattle.reader.specs.Text.{more, value_at, past_at}
use Rattle.reader.specs.Lines.{Leaves, leaves, repeated, kept_with, same_with, full, bad, closed_at, values_at, LinesRead, lines_read, after, lines_at, lines_left}
use Rattle.reader.specs.Traverse.{value_line}
use Rattle.reader.specs.declared.Cursor.{Cursor}
use Rattle.reader.proofs.TraverseLaws.{PastLines, past-on, lines-on}
use Rattle.hurricane.specs.declared.profile.Judged.{Judged}
use Rattle.hurricane.specs.Profile.{none_judged, judged_with, judged_end}
use Rattle.hurricane.proofs.ProfileLaws.{on_judged, judged_from, judged-is}
use Rattle.profile.specs.Entries.{Entries, in_front, after_line, entries_by}
use Rattle.profile.specs.Load.{entries_check}

-- ---- a line of one value

abbrev past_line : List ℕ → ℕ → ℕ
past_line s at = past_at s at + 1

-- a value that lines do not share is kept
not-again : (i k : ℕ) → repeated 0 i k ≡ false
unfolding repeated
not-again zero k = refl
not-again (suc i) k = le-ltb k 0 (omega arith)

module _ (s : List ℕ) (at line : ℕ) (h : at < length s) where
  -- the next of n lines: its value is kept behind the others, or it is malformed
  one-value : (n i : ℕ) (kept : List ℤ) → lines_at s 1 0 (suc n) i at line kept
      ≡ cond (closed_at s 0 at) (lines_at s 1 0 n (i + 1) (past_line s at) (more line) (kept ++ (value_at s at ∷ []))) (lines_read (Err (refusal Malformed (more line))) kept)
  unfolding lines_at values_at kept_with same_with
  one-value n i kept = rw (lt-ltb at (length s) h, not-again i 0) (go (closed_at s 0 at))
    where
      next : ℕ → List ℤ → LinesRead
      next a l = lines_at s 1 0 n (i + 1) a (more line) l

      go : (t : Bool) → after (cond t (full (past_line s at) (kept ++ (value_at s at ∷ [])) true) (bad kept)) (more line) next
          ≡ cond t (next (past_line s at) (kept ++ (value_at s at ∷ []))) (lines_read (Err (refusal Malformed (more line))) kept)
      go true = refl
      go false = refl

  -- a line by itself
  value-is : value_line s 1 at line ≡ cond (closed_at s 0 at) (lines_read (Ok (record { at = past_line s at; line = more line })) (value_at s at ∷ [])) (lines_read (Err (refusal Malformed (more line))) [])
  unfolding lines_at
  value-is = one-value 0 0 []

  -- and the entries from it on
  entries-on : (n : ℕ) → entries_by s (suc n) at line ≡ cond (closed_at s 0 at) (in_front (value_at s at ∷ []) (entries_by s n (past_line s at) (more line))) (Err (refusal Malformed (more line)))
  unfolding entries_by
  entries-on n = rw (lt-ltb at (length s) h, value-is) (go (closed_at s 0 at))
    where
      line_by : Bool → LinesRead
      line_by t = cond t (lines_read (Ok (record { at = past_line s at; line = more line })) (value_at s at ∷ [])) (lines_read (Err (refusal Malformed (more line))) [])

      go : (t : Bool) → after_line (line_by t).answer (line_by t).kept (entries_by s n)
          ≡ cond t (in_front (value_at s at ∷ []) (entries_by s n (past_line s at) (more line))) (Err (refusal Malformed (more line)))
      go true = refl
      go false = refl

-- ---- at the end of the text, and whatever number of lines is enough

pub entries-ended : (s : List ℕ) (n at line : ℕ) → length s ≤ at → entries_by s n at line ≡ Ok []
unfolding entries_by
entries-ended s zero at line h = refl
entries-ended s (suc n) at line h = rw (le-ltb at (length s) h)

entries-fuel : (s : List ℕ) (n m at line : ℕ) → length s ≤ at + n → length s ≤ at + m → entries_by s n at line ≡ entries_by s m at line
unfolding entries_by
entries-fuel s zero m at line h k = sym (entries-ended s m at line (omega arith))
entries-fuel s (suc n) zero at line h k = entries-ended s (suc n) at line (omega arith)
entries-fuel s (suc n) (suc m) at line h k =
    ap (λ (x : Entries). cond (ltb at (length s)) x (Ok [])) (go (value_line s 1 at line).answer (value_line s 1 at line).kept (lines-on s 1 0 1 0 at line [] (omega arith)) (λ a l. entries-fuel s n m a l))
  where
    go : (r : Result Cursor Refusal) (kept : List ℤ) → PastLines (at + 1) r → ((a l : ℕ) → length s ≤ a + n → length s ≤ a + m → entries_by s n a l ≡ entries_by s m a l)
        → after_line r kept (entries_by s n) ≡ after_line r kept (entries_by s m)
    go (Ok c) kept p same = ap (in_front kept) (same c.at c.line (omega arith) (omega arith))
    go (Err r) kept p same = refl

-- ---- judging them

-- the entry of a line, where none before it was refused
abbrev pub judged_next : Result Judged Refusal → ℤ → Result Judged Refusal
judged_next (Ok j) x = judged_with j x
judged_next (Err r) x = Err r

-- what the library promises of `and_then`, as the entry judged next
pub next-is : (x r : Result Judged Refusal) (v : ℤ) (P : Judged → Type 0) → MatchResult x P (λ e. r ≡ Err e) → ((j : Judged) → P j → r ≡ judged_with j v) → r ≡ judged_next x v
next-is (Ok j) r v P m f = f j m
next-is (Err q) r v P m f = m

-- what is left of the entries, behind those that were judged; a line that has none comes first
abbrev pub judged_rest : Result Judged Refusal → Entries → Check
judged_rest x (Ok l) = on_judged x (λ j. judged_from j l)
judged_rest x (Err r) = Fail r

rest-front : (x : Result Judged Refusal) (v : ℤ) (l : Entries) → judged_rest (judged_next x v) l ≡ judged_rest x (in_front (v ∷ []) l)
unfolding judged_from
rest-front (Ok j) v (Ok l) = refl
rest-front (Ok j) v (Err r) = refl
rest-front (Err q) v (Ok l) = refl
rest-front (Err q) v (Err r) = refl

-- from the first entry on it is what is asked of them all
pub rest-all : (l : Entries) → judged_rest (Ok none_judged) l ≡ entries_check l
rest-all (Ok l) = judged-is l
rest-all (Err r) = refl

-- what is left of the text from a place on
abbrev pub rest_at : List ℕ → Result Judged Refusal → ℕ → ℕ → Check
rest_at s x at line = judged_rest x (entries_by s (length s - at) at line)

pub rest-start : (s : List ℕ) (at line : ℕ) → rest_at s (Ok none_judged) at line ≡ entries_check (entries_by s (length s) at line)
rest-start s at line = ap (judged_rest (Ok none_judged)) (entries-fuel s (length s - at) (length s) at line (omega arith) (omega arith)) ∙ rest-all (entries_by s (length s) at line)

pub rest-ended : (s : List ℕ) (x : Result Judged Refusal) (at line : ℕ) → length s ≤ at → on_judged x (λ j. judged_end j) ≡ rest_at s x at line
unfolding judged_from
rest-ended s x at line h = rw (entries-ended s (length s - at) at line h)

-- a line that the code read into room for one number
module _ (s : List ℕ) (at line : ℕ) (h : at < length s) (out : List ℤ) where
  abbrev lent : List ℤ
  lent = pos 0 ∷ []

  suc-left : length s - at ≡ suc (length s - (at + 1))
  suc-left = omega arith

  pub line-read : (c : Cursor) → leaves (Ok c) out ≡ lines_left (value_line s 1 at line) lent → (x : Result Judged Refusal)
      → (at < c.at) × (rest_at s (judged_next x (number_at out 0)) c.at c.line ≡ rest_at s x at line)
  line-read c e x = go (closed_at s 0 at) refl (rw (value-is s at line h) at e)
    where
      go : (t : Bool) → closed_at s 0 at ≡ t
          → leaves (Ok c) out ≡ lines_left (cond t (lines_read (Ok (record { at = past_line s at; line = more line })) (value_at s at ∷ [])) (lines_read (Err (refusal Malformed (more line))) [])) lent
          → (at < c.at) × (rest_at s (judged_next x (number_at out 0)) c.at c.line ≡ rest_at s x at line)
      go true t e =
          let q : ◌≡◌ {A = Result Cursor Refusal} (Ok c) (Ok (record { at = past_line s at; line = more line })) = ap (λ (z : Leaves (Result Cursor Refusal)). z.answer) e in
          let k : c ≡ record { at = past_line s at; line = more line } = cc in
          let o : out ≡ value_at s at ∷ [] = ap (λ (z : Leaves (Result Cursor Refusal)). z.numbers) e in
          let f = entries-fuel s (length s - past_line s at) (length s - (at + 1)) (past_line s at) (more line) (omega arith) (omega (arith, past-on s at)) in
          let p = past-on s at in
          rw (k, o) (
            omega arith,
            ap (judged_rest (judged_next x (value_at s at))) f
                ∙ rest-front x (value_at s at) (entries_by s (length s - (at + 1)) (past_line s at) (more line))
                ∙ ap (judged_rest x) (sym (rw suc-left (entries-on s at line h (length s - (at + 1)) ∙ rw t))),
          )
      go false t e =
          let q : ◌≡◌ {A = Result Cursor Refusal} (Ok c) (Err (refusal Malformed (more line))) = ap (λ (z : Leaves (Result Cursor Refusal)). z.answer) e in
          absurd cc

  pub line-refused : (r : Refusal) → leaves (Err r) out ≡ lines_left (value_line s 1 at line) lent → (x : Result Judged Refusal) → Fail r ≡ rest_at s x at line
  line-refused r e x = go (closed_at s 0 at) refl (rw (value-is s at line h) at e)
    where
      go : (t : Bool) → closed_at s 0 at ≡ t
          → leaves (Err r) out ≡ lines_left (cond t (lines_read (Ok (record { at = past_line s at; line = more line })) (value_at s at ∷ [])) (lines_read (Err (refusal Malformed (more line))) [])) lent
          → Fail r ≡ rest_at s x at line
      go true t e =
          let q : ◌≡◌ {A = Result Cursor Refusal} (Err r) (Ok (record { at = past_line s at; line = more line })) = ap (λ (z : Leaves (Result Cursor Refusal)). z.answer) e in
          absurd cc
      go false t e =
          let q : ◌≡◌ {A = Result Cursor Refusal} (Err r) (Err (refusal Malformed (more line))) = ap (λ (z : Leaves (Result Cursor Refusal)). z.answer) e in
          let k : r ≡ refusal Malformed (more line) = cc in
          rw (suc-left, entries-on s at line h (length s - (at + 1)), t, k)

-- ---- all lines at once

-- as many lines as there are entries keep just these, behind what was kept
pub record KeepsAll (s : List ℕ) (i at line : ℕ) (kept l : List ℤ) : Type 0 where
  pub past : Cursor
  pub is : lines_at s 1 0 (length l) i at line kept ≡ lines_read (Ok past) (kept ++ l)

no-entries : (s : List ℕ) (i at line : ℕ) (kept l : List ℤ) → ◌≡◌ {A = Entries} (Ok []) (Ok l) → KeepsAll s i at line kept l
unfolding lines_at
no-entries s i at line kept [] e = record { past = record { at = at; line = line }; is = rw append-nil refl }
no-entries s i at line kept (x ∷ l) e = absurd cc

-- the next line's entry first
entry-first : (s : List ℕ) (n i at line : ℕ) (kept l : List ℤ) → at < length s → entries_by s (suc n) at line ≡ Ok l
    → ((m : List ℤ) → entries_by s n (past_line s at) (more line) ≡ Ok m → KeepsAll s (i + 1) (past_line s at) (more line) (kept ++ (value_at s at ∷ [])) m)
    → KeepsAll s i at line kept l
entry-first s n i at line kept l h e next = go (closed_at s 0 at) refl (entries_by s n (past_line s at) (more line)) refl (sym (entries-on s at line h n) ∙ e)
  where
    keeps : closed_at s 0 at ≡ true → (m : List ℤ) → KeepsAll s (i + 1) (past_line s at) (more line) (kept ++ (value_at s at ∷ [])) m → KeepsAll s i at line kept (value_at s at ∷ m)
    keeps t m k = record { past = k.past; is = one-value s at line h (length m) i kept ∙ rw t (k.is ∙ ap (lines_read (Ok k.past)) (append_assoc kept (value_at s at ∷ []) m)) }

    go : (t : Bool) → closed_at s 0 at ≡ t → (x : Entries) → entries_by s n (past_line s at) (more line) ≡ x
        → cond t (in_front (value_at s at ∷ []) x) (Err (refusal Malformed (more line))) ≡ Ok l → KeepsAll s i at line kept l
    go true t (Ok m) q f = let k : value_at s at ∷ m ≡ l = cc in subst (KeepsAll s i at line kept) k (keeps t m (next m q))
    go true t (Err r) q f = absurd cc
    go false t x q f = absurd cc

pub entries-kept : (s : List ℕ) (n i at line : ℕ) (kept l : List ℤ) → entries_by s n at line ≡ Ok l → KeepsAll s i at line kept l
unfolding entries_by
entries-kept s zero i at line kept l e = no-entries s i at line kept l e
entries-kept s (suc n) i at line kept l e = by (λ m. entries-kept s n (i + 1) (past_line s at) (more line) (kept ++ (value_at s at ∷ [])) m) (ltb at (length s)) refl
  where
    by : ((m : List ℤ) → entries_by s n (past_line s at) (more line) ≡ Ok m → KeepsAll s (i + 1) (past_line s at) (more line) (kept ++ (value_at s at ∷ [])) m)
        → (t : Bool) → ltb at (length s) ≡ t → KeepsAll s i at line kept l
    by next true h = entry-first s n i at line kept l (ltb-true at (length s) h) e next
    by next false h = no-entries s i at line kept l (sym (entries-ended s (suc n) at line (ltb-false at (length s) h)) ∙ e)
