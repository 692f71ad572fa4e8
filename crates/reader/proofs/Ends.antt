-- What is read ends within the text, or within the window; and a step on a traverse text asks for more of it only where its window is short of what
-- comes next. Assumes nothing.
use Rattle.std.proofs.Common.{Result, Ok, Err, Option, Some, None}
use mathlib.Core.Path.{◌≡◌, refl, sym, ◌∙◌, subst}
use mathlib.Core.Bool.{Bool, true, false, cond}
use mathlib.Core.List.{List, [], ◌∷◌}
use Prim.Native.Nat.{ℕ, zero, suc, ◌+◌, ◌<◌, ◌≤◌}
use native.Mathlib.Omega.{arith}
use lib.ListN.{length}
use lib.Dec.{ltb, eqb}
use lib.IntN.{ℤ}
use borrow.Author.Tests.{ltb-true, leb-false}
use Rattle.records.specs.declared.Kind.TheVariants as kind
use Rattle.records.specs.Refusals.{refusal}
use Rattle.records.specs.Limits.{count_ok}
use Rattle.reader.specs.Text.{more, byte, value_at, past_at}
use Rattle.reader.specs.Lines.{Outcome, read, refused, found, Leaves, leaves, laid, repeated, kept_with, same_with, Line, full, bad, closed_at, values_at, lines_read, after, lines_at, spells, names_at, holds}
use Rattle.reader.specs.Storm.{storm_names, storm_start, record_of, record_lines, Further, one, none, next_at, kept_at, next_of, too_few, next_left, start_step, answered, holds_record, Seen, needs-more, seen, record_step, record_step_left}
use Rattle.reader.specs.Traverse.{head_names, point_names, Held, value_line, line_by, line_at, end_of, end_step, end_left, on_step, more_step, step_at, traverse_step}
use Rattle.reader.specs.declared.traverse.Known.{Known}
use Rattle.reader.specs.declared.traverse.Known.TheVariants.{Names, Values, Columns, Points}
use Rattle.reader.specs.declared.traverse.TraverseRead.{TraverseRead}
use Rattle.reader.specs.declared.traverse.Progress.{Progress}
use Rattle.reader.specs.declared.traverse.Progress.TheVariants as progress
use Rattle.reader.proofs.Laws.{closed-present}
use Rattle.records.proofs.LimitLaws.{counts-in}
use Rattle.reader.proofs.TraverseLaws.{PastLines, Past, lines-on, line_on, step-once}
use Rattle.reader.specs.declared.Cursor.{Cursor}
use Rattle.records.specs.declared.Refusal.{Refusal}
use Rattle.reader.specs.declared.storm.Halt.{Halt}
use Rattle.reader.specs.declared.storm.Halt.TheVariants as halt

abbrev Ended : ℕ → Line → Type 0
Ended b (full a kept same) = a ≤ b
Ended b (bad kept) = Unit {0}

module _ (s : List ℕ) (shared i : ℕ) where
  values-end : (n k at : ℕ) (kept : List ℤ) (same : Bool) → at ≤ length s → Ended (length s) (values_at s shared i n k at kept same)
  unfolding values_at
  values-end zero k at kept same h = h
  values-end (suc n) k at kept same h = go (closed_at s n at) refl _ (values-end n (k + 1) (past_at s at + 1) (kept_with (repeated shared i k) (value_at s at) kept) (same_with (repeated shared i k) k (value_at s at) kept same))
    where
      go : (b : Bool) → closed_at s n at ≡ b → (l : Line) → (past_at s at + 1 ≤ length s → Ended (length s) l) → Ended (length s) (cond b l (bad kept))
      go true e l r = r (omega (arith, closed-present s n at (past_at s at) refl e))
      go false e l r = tt

-- what was read ends by b
abbrev pub Stays : ℕ → Result Cursor Refusal → Type 0
Stays b (Ok c) = c.at ≤ b
Stays b (Err q) = Unit {0}

abbrev pub Inside : {A : Type 0} → ℕ → Outcome A → Type 0
Inside b (read x a l) = a ≤ b
Inside b (refused q) = Unit {0}

found_inside : {A : Type 0} (b : ℕ) (r : Result Cursor Refusal) (x : A) → Stays b r → Inside b (found r x)
found_inside b (Ok c) x h = h
found_inside b (Err q) x h = tt

lines_end : (s : List ℕ) (width shared n i at line : ℕ) (kept : List ℤ) → at ≤ length s → Stays (length s) (lines_at s width shared n i at line kept).answer
unfolding lines_at
lines_end s width shared zero i at line kept h = h
lines_end s width shared (suc n) i at line kept h =
    go (ltb at (length s)) (values_at s shared i width 0 at kept true) (values-end s shared i width 0 at kept true h) (λ a o p. lines_end s width shared n (i + 1) a (more line) o p)
  where
    go : (b : Bool) (l : Line) → Ended (length s) l → ((a : ℕ) (o : List ℤ) → a ≤ length s → Stays (length s) (lines_at s width shared n (i + 1) a (more line) o).answer)
        → Stays (length s) (cond b (after l (more line) (λ a o. lines_at s width shared n (i + 1) a (more line) o)) (lines_read (Err (refusal kind.Ended line)) kept)).answer
    go true (full a o true) e r = r a o e
    go true (full a o false) e r = tt
    go true (bad o) e r = tt
    go false l e r = tt

spells-end : (s want : List ℕ) (at : ℕ) → at ≤ length s → spells s at want ≡ true → at + length want ≤ length s
unfolding spells
spells-end s [] at h e = omega arith
spells-end s (b ∷ want) at h e = go (ltb at (length s)) refl (eqb (byte s at) b) (spells-end s want (at + 1)) e
  where
    go : (p : Bool) → ltb at (length s) ≡ p → (q : Bool) → (at + 1 ≤ length s → spells s (at + 1) want ≡ true → at + 1 + length want ≤ length s)
        → cond p (cond q (spells s (at + 1) want) false) false ≡ true → at + suc (length want) ≤ length s
    go true f true r e = let x : at < length s = ltb-true _ _ f in omega (arith, r (omega arith) e)
    go true f false r e = absurd cc
    go false f q r e = absurd cc

names-end : (s want : List ℕ) (at line : ℕ) → at ≤ length s → Stays (length s) (names_at s want at line)
unfolding names_at
names-end s want at line h = go (spells s at want) refl
  where
    go : (b : Bool) → spells s at want ≡ b → Stays (length s) (cond b (Ok (record { at = at + length want; line = more line })) (Err (refusal kind.Names (more line))))
    go true e = spells-end s want at h e
    go false e = tt

-- a window that does not hold so many bytes from a place on
pub holds_not : (size : ℕ) (last : Bool) (at need : ℕ) → holds size last at need ≡ false → (size < at + need) × (last ≡ false)
unfolding holds
holds_not size true at need e = let z : ◌≡◌ {A = ℕ} 0 1 = cc in absurd (omega arith)
holds_not size false at need e = (leb-false (at + need) size e, refl)

-- ---- a traverse text

line-end : (s : List ℕ) (h : Held) (at line : ℕ) → at ≤ length s → Inside (length s) (line_at s h at line)
unfolding line_at
line-end s h at line e = go h.known
  where
    go : (k : Known) → Inside (length s) (line_by s k h.points at line)
    go Names = found_inside _ (names_at s head_names at line) _ (names-end s head_names at line e)
    go Values = found_inside _ (value_line s 3 at line).answer _ (lines_end s 3 0 1 0 at line [] e)
    go (Columns d) = found_inside _ (names_at s point_names at line) _ (names-end s point_names at line e)
    go (Points t) = found_inside _ (value_line s 2 at line).answer _ (lines_end s 2 0 1 0 at line [] e)

-- where a step stops for more of the text
abbrev pub Stands : ℕ → ℕ → Result Progress Refusal → Type 0
Stands from to (Ok (progress.Read t)) = Unit {0}
Stands from to (Ok (progress.More c k)) = (from ≤ c.at) × (c.at ≤ to)
Stands from to (Err q) = Unit {0}

stands-end : (from to : ℕ) (o : Outcome TraverseRead) → Stands from to (end_step o)
unfolding end_step
stands-end from to (read k a l) = tt
stands-end from to (refused q) = tt

stands-wider : (from from' to : ℕ) (p : Result Progress Refusal) → from ≤ from' → Stands from' to p → Stands from to p
stands-wider from from' to (Ok (progress.Read t)) h s = tt
stands-wider from from' to (Ok (progress.More c k)) h s = (omega arith, s.1)
stands-wider from from' to (Err q) h s = tt

module _ (w : List ℕ) (last : Bool) (to : ℕ) (n : length w ≤ to) where
  after_line : (f at : ℕ) (h : Held) (r : Outcome Held) → Past (at + 1) r → Inside (length w) r
      → ((k : Held) (a l : ℕ) → a ≤ to → Stands a to (step_at w last f k a l).answer) → Stands (at + 1) to (on_step h r (step_at w last f)).answer
  after_line f at h (read k a l) p q ih = stands-wider (at + 1) a to (step_at w last f k a l).answer p (ih k a l (omega arith))
  after_line f at h (refused q) p r ih = stands-end (at + 1) to (refused q)

  -- at a line, or at the end of the text
  at-line : (f : ℕ) (h : Held) (at line : ℕ) → ((k : Held) (a l : ℕ) → a ≤ to → Stands a to (step_at w last f k a l).answer)
      → Stands (at + 1) to (cond (ltb at (length w)) (on_step h (line_at w h at line) (step_at w last f)) (end_left (end_of h at line))).answer
  at-line f h at line ih = go (ltb at (length w)) refl
    where
      go : (c : Bool) → ltb at (length w) ≡ c → Stands (at + 1) to (cond c (on_step h (line_at w h at line) (step_at w last f)) (end_left (end_of h at line))).answer
      go true e = let p : at < length w = ltb-true _ _ e in after_line f at h (line_at w h at line) (line_on w h at line) (line-end w h at line (omega arith)) ih
      go false e = stands-end (at + 1) to (end_of h at line).answer

  step-stands : (f : ℕ) (h : Held) (at line : ℕ) → at ≤ to → Stands at to (step_at w last f h at line).answer
  unfolding step_at
  step-stands zero h at line e = go last
    where
      go : (b : Bool) → Stands at to (cond b (end_left (end_of h at line)) (more_step h at line)).answer
      go true = stands-end at to (end_of h at line).answer
      go false = (omega arith, e)
  step-stands (suc f) h at line e = go (holds (length w) last at 33) (cond (ltb at (length w)) (on_step h (line_at w h at line) (step_at w last f)) (end_left (end_of h at line))) (at-line f h at line (λ k a l p. step-stands f k a l p))
    where
      go : (b : Bool) (r : Leaves (Result Progress Refusal)) → Stands (at + 1) to r.answer → Stands at to (cond b r (more_step h at line)).answer
      go true r q = stands-wider at (at + 1) to r.answer (omega arith) q
      go false r q = (omega arith, e)

  -- a step stays in its window
  pub traverse-stands : (h : Held) (at line : ℕ) → at ≤ to → Stands at to (traverse_step w last h at line).answer
  unfolding traverse_step
  traverse-stands h at line e = step-stands (length w) h at line e

  -- and moves on where the window holds a line
  pub traverse-moves : (h : Held) (at line : ℕ) → holds (length w) last at 33 ≡ true → Stands (at + 1) to (traverse_step w last h at line).answer
  traverse-moves h at line e =
      let q : cond (ltb at (length w)) (on_step h (line_at w h at line) (traverse_step w last)) (end_left (end_of h at line)) ≡ traverse_step w last h at line = sym (step-once w last h at line ∙ rw e) in
      subst (λ (x : Leaves (Result Progress Refusal)). Stands (at + 1) to x.answer) q (go (ltb at (length w)) refl)
    where
      onto : (r : Outcome Held) → Past (at + 1) r → Inside (length w) r → Stands (at + 1) to (on_step h r (traverse_step w last)).answer
      onto (read k a l) p q = stands-wider (at + 1) a to (traverse_step w last k a l).answer p (traverse-stands k a l (omega arith))
      onto (refused q) p r = stands-end (at + 1) to (refused q)

      go : (c : Bool) → ltb at (length w) ≡ c → Stands (at + 1) to (cond c (on_step h (line_at w h at line) (traverse_step w last)) (end_left (end_of h at line))).answer
      go true e = let p : at < length w = ltb-true _ _ e in onto (line_at w h at line) (line_on w h at line) (line-end w h at line (omega arith))
      go false e = stands-end (at + 1) to (end_of h at line).answer

-- a step asks for more of the text only where its window is short of a line, which takes 33 bytes at most, and not where the text ends with it
abbrev pub Asks : ℕ → Bool → Result Progress Refusal → Type 0
Asks size last (Ok (progress.Read t)) = Unit {0}
Asks size last (Ok (progress.More c k)) = (size < c.at + 33) × (last ≡ false)
Asks size last (Err r) = Unit {0}

asks-end : (size : ℕ) (last : Bool) (o : Outcome TraverseRead) → Asks size last (end_step o)
unfolding end_step
asks-end size last (read k a l) = tt
asks-end size last (refused r) = tt

module _ (w : List ℕ) (last : Bool) where
  -- f lines are enough where no more bytes are left
  step-asks : (f : ℕ) (h : Held) (at line : ℕ) → length w ≤ at + f → Asks (length w) last (step_at w last f h at line).answer
  unfolding step_at
  step-asks zero h at line g = go last refl
    where
      go : (b : Bool) → last ≡ b → Asks (length w) last (cond b (end_left (end_of h at line)) (more_step h at line)).answer
      go true e = asks-end (length w) last (end_of h at line).answer
      go false e = (omega arith, e)
  step-asks (suc f) h at line g = go (holds (length w) last at 33) refl (ltb at (length w)) (line_at w h at line) (line_on w h at line) (λ k a l p. step-asks f k a l p)
    where
      onto : (r : Outcome Held) → Past (at + 1) r → ((k : Held) (a l : ℕ) → length w ≤ a + f → Asks (length w) last (step_at w last f k a l).answer)
          → Asks (length w) last (on_step h r (step_at w last f)).answer
      onto (read k a l) p ih = ih k a l (omega arith)
      onto (refused q) p ih = asks-end (length w) last (refused q)

      go : (b : Bool) → holds (length w) last at 33 ≡ b → (c : Bool) (r : Outcome Held) → Past (at + 1) r
          → ((k : Held) (a l : ℕ) → length w ≤ a + f → Asks (length w) last (step_at w last f k a l).answer)
          → Asks (length w) last (cond b (cond c (on_step h r (step_at w last f)) (end_left (end_of h at line))) (more_step h at line)).answer
      go true e true r p ih = onto r p ih
      go true e false r p ih = asks-end (length w) last (end_of h at line).answer
      go false e c r p ih = holds_not (length w) last at 33 e

  pub traverse-asks : (h : Held) (at line : ℕ) → Asks (length w) last (traverse_step w last h at line).answer
  unfolding traverse_step
  traverse-asks h at line = step-asks (length w) h at line (omega arith)

-- ---- a storm text

-- the names line ends within the text
pub start-stays : (s : List ℕ) → Stays (length s) (storm_start s)
unfolding storm_start
start-stays s = names-end s storm_names 0 0 (omega arith)

-- a record ends past where it begins, and within the text
abbrev pub Read-on : ℕ → ℕ → Outcome Further → Type 0
Read-on from to (read (one r) a l) = (from ≤ a) × (a ≤ to)
Read-on from to (read none a l) = Unit {0}
Read-on from to (refused q) = Unit {0}

pub next-on : (s : List ℕ) (n at line : ℕ) → at ≤ length s → Read-on (at + 1) (length s) (next_at s n at line)
unfolding next_at
next-on s n at line h = go (count_ok n) refl (ltb at (length s)) (record_lines s n at line).answer (lines-on s 5 2 n 0 at line [] (omega arith)) (lines_end s 5 2 n 0 at line [] h)
  where
    rest : (b : Bool) → Read-on (at + 1) (length s) (cond b (read none at line) (refused (refusal kind.Ended line)))
    rest true = tt
    rest false = tt

    go : (b : Bool) → count_ok n ≡ b → (c : Bool) (r : Result Cursor Refusal) → PastLines (at + n) r → Stays (length s) r
        → Read-on (at + 1) (length s) (cond b (cond c (found r (one (record_of (record_lines s n at line).kept))) (cond (ltb 1 line) (read none at line) (refused (refusal kind.Ended line)))) (refused (refusal kind.Points n)))
    go true e true (Ok d) p q = let k = counts-in n e in (omega arith, q)
    go true e true (Err t) p q = tt
    go true e false r p q = rest (ltb 1 line)
    go false e c r p q = tt

-- the same of what a window shows, and of a step's answer
abbrev pub SeenOn : ℕ → ℕ → Seen → Type 0
SeenOn from to needs-more = Unit {0}
SeenOn from to (seen r) = Read-on from to r

pub seen-stands : (w : List ℕ) (last : Bool) (n at line : ℕ) → at ≤ length w → SeenOn (at + 1) (length w) (record_step w last n at line)
unfolding record_step
seen-stands w last n at line h = go (holds_record (length w) last n at)
  where
    go : (b : Bool) → SeenOn (at + 1) (length w) (cond b (seen (next_at w n at line)) needs-more)
    go true = next-on w n at line h
    go false = tt

abbrev pub Answered : ℕ → ℕ → Result (Option Cursor) Halt → Type 0
Answered from to (Err halt.More) = Unit {0}
Answered from to (Ok (Some c)) = (from ≤ c.at) × (c.at ≤ to)
Answered from to (Ok None) = Unit {0}
Answered from to (Err (halt.Refused q)) = Unit {0}

pub record-stands : (w : List ℕ) (last : Bool) (n at line : ℕ) (lent : List ℤ) → at ≤ length w → Answered (at + 1) (length w) (record_step_left w last n at line lent).answer
unfolding record_step_left next_left next_of
record-stands w last n at line lent h = go (holds_record (length w) last n at) (too_few n (length lent)) (next_at w n at line) (next-on w n at line h)
  where
    by : (t : Bool) (r : Outcome Further) → Read-on (at + 1) (length w) r
        → Answered (at + 1) (length w) (answered (cond t (leaves (Err (refusal kind.Lent 0)) lent) (leaves (next_of r) (laid (kept_at w n at line) lent))).answer)
    by true r p = tt
    by false (read (one r) a l) p = p
    by false (read none a l) p = tt
    by false (refused q) p = tt

    go : (b t : Bool) (r : Outcome Further) → Read-on (at + 1) (length w) r
        → Answered (at + 1) (length w)
        (cond {A = Leaves (Result (Option Cursor) Halt)} b
        (leaves (answered (cond t (leaves (Err (refusal kind.Lent 0)) lent) (leaves (next_of r) (laid (kept_at w n at line) lent))).answer) (cond t (leaves (Err (refusal kind.Lent 0)) lent) (leaves (next_of r) (laid (kept_at w n at line) lent))).numbers)
        (leaves (Err halt.More) lent)).answer
    go true t r p = by t r p
    go false t r p = tt

-- and the names line of a window's answer within the window
abbrev pub Begun : ℕ → Result Cursor Halt → Type 0
Begun to (Err halt.More) = Unit {0}
Begun to (Ok c) = c.at ≤ to
Begun to (Err (halt.Refused q)) = Unit {0}

pub start-begun : (w : List ℕ) (last : Bool) → Begun (length w) (start_step w last)
unfolding start_step
start-begun w last = go (holds (length w) last 0 32) (storm_start w) (start-stays w)
  where
    go : (b : Bool) (r : Result Cursor Refusal) → Stays (length w) r → Begun (length w) (cond b (answered r) (Err halt.More))
    go true (Ok c) h = h
    go true (Err q) h = tt
    go false r h = tt
