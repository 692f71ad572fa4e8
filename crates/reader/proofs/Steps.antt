-- What one step finds in a window of a text is what the whole text has there. Assumes nothing.
use Rattle.std.proofs.Common.{Result, Ok}
use mathlib.Core.Path.{◌≡◌, refl, sym, ap, ◌∙◌, subst}
use mathlib.Core.Bool.{Bool, true, false, cond}
use mathlib.Core.List.{List, []}
use Prim.Native.Nat.{ℕ, zero, suc, ◌+◌, ◌*◌, ◌<◌, ◌≤◌}
use native.Mathlib.Omega.{arith}
use lib.ListN.{length}
use lib.Dec.{ltb, leb, eqb}
use lib.IntN.{ℤ}
use borrow.Author.Tests.{ltb-true, ltb-false, leb-true}
use Rattle.records.specs.declared.Kind.TheVariants as kind
use Rattle.records.specs.Refusals.{refusal}
use Rattle.records.specs.Groups.{station_count}
use Rattle.records.specs.Limits.{count_ok}
use Rattle.reader.specs.Text.{byte}
use Rattle.reader.specs.Lines.{Outcome, read, refused, found, Leaves, leaves, LinesRead, names_at, holds}
use Rattle.reader.specs.Storm.{storm_names, storm_start, record_of, record_lines, Further, one, none, next_at, Storm, with, storm_by, records_by, storm_rest, start_step, holds_record, seen, needs-more, record_step}
use Rattle.reader.specs.Traverse.{head_names, point_names, Held, held, start, with_values, with_point, value_line, line_by, line_at, counted_by, end_at, end_of, on_rest, rest_at, traverse_read, read_left, traverse_left, end_step, end_left, on_step, more_step, step_at, traverse_step}
use Rattle.reader.specs.Window.{Shows, moved, carried_by, carried, storm_on, TraverseStepHolds, StartStepHolds, RecordStepHolds}
use Rattle.reader.specs.declared.traverse.Known.{Known}
use Rattle.reader.specs.declared.traverse.Known.TheVariants.{Names, Values, Columns, Points}
use Rattle.reader.specs.declared.traverse.TraverseRead.{TraverseRead}
use Rattle.reader.specs.declared.traverse.Progress.{Progress}
use Rattle.reader.specs.declared.traverse.Progress.TheVariants as progress
use Rattle.reader.specs.declared.Cursor.{Cursor}
use Rattle.records.specs.declared.Refusal.{Refusal}
use Rattle.reader.proofs.Laws.{never}
use Rattle.records.proofs.LimitLaws.{counts-in}
use Rattle.reader.proofs.TraverseLaws.{Past, line_on, rest_end, rest-line}
use Rattle.reader.proofs.WindowLaws.{Window, shows-far, moved_lines, found-moved, lines-local, names-local, names_same}
use Rattle.reader.proofs.Ends.{Asks, traverse-asks, Read-on, next-on}

-- a window that holds so many bytes from a place on, or is the last, shows that far
far : {s w : List ℕ} {o : ℕ} (last : Bool) (at need : ℕ) → Shows s w o last → holds (length w) last at need ≡ true → Window s w o (at + need)
unfolding holds
far {s} {w} {o} last at need h e = shows-far last h (at + need) (by last e)
  where
    by : (b : Bool) → cond b true (leb (at + need) (length w)) ≡ true → b ≡ false → at + need ≤ length w
    by true e f = absurd cc
    by false e f = leb-true (at + need) (length w) e

-- ---- a storm text

module _ (s w : List ℕ) (o : ℕ) (last : Bool) (h : Shows s w o last) where
  -- its first line
  pub start-window : o ≡ 0 → holds (length w) last 0 32 ≡ true → storm_start s ≡ storm_start w
  unfolding storm_start
  start-window z e = names_same (far last 0 32 h e) storm_names 0 z (omega arith)

  -- its next record
  pub next-window : (n at line : ℕ) → holds_record (length w) last n at ≡ true → next_at s n (o + at) line ≡ moved o (next_at w n at line)
  unfolding next_at holds_record
  next-window n at line e = go (count_ok n) refl e
    where
      rest : (b : Bool) → cond b (read none (o + at) line) (refused (refusal kind.Ended line)) ≡ moved o (cond b (read none at line) (refused (refusal kind.Ended line)))
      rest true = refl
      rest false = refl

      by : (b : Bool) (x y : LinesRead) → x ≡ moved_lines o y
          → cond b (found x.answer (one (record_of x.kept))) (cond (ltb 1 line) (read none (o + at) line) (refused (refusal kind.Ended line)))
          ≡ moved o (cond b (found y.answer (one (record_of y.kept))) (cond (ltb 1 line) (read none at line) (refused (refusal kind.Ended line))))
      by true x y e = rw e (found-moved o y.answer (one (record_of y.kept)))
      by false x y e = rest (ltb 1 line)

      in_all : 2 ≤ n → Window s w o (at + n * 55)
          → cond (ltb (o + at) (length s)) (found (record_lines s n (o + at) line).answer (one (record_of (record_lines s n (o + at) line).kept))) (cond (ltb 1 line) (read none (o + at) line) (refused (refusal kind.Ended line)))
          ≡ moved o (cond (ltb at (length w)) (found (record_lines w n at line).answer (one (record_of (record_lines w n at line).kept))) (cond (ltb 1 line) (read none at line) (refused (refusal kind.Ended line))))
      in_all k v = rw (v.ends at (omega arith)) (by (ltb at (length w)) (record_lines s n (o + at) line) (record_lines w n at line) (lines-local v 5 2 n 0 at line [] (omega arith) (omega arith)))

      go : (b : Bool) → count_ok n ≡ b → cond b (holds (length w) last at (n * 55)) true ≡ true
          → cond b (cond (ltb (o + at) (length s)) (found (record_lines s n (o + at) line).answer (one (record_of (record_lines s n (o + at) line).kept))) (cond (ltb 1 line) (read none (o + at) line) (refused (refusal kind.Ended line)))) (refused (refusal kind.Points n))
          ≡ moved o (cond b (cond (ltb at (length w)) (found (record_lines w n at line).answer (one (record_of (record_lines w n at line).kept))) (cond (ltb 1 line) (read none at line) (refused (refusal kind.Ended line)))) (refused (refusal kind.Points n)))
      go true c f = in_all (counts-in n c).0 (far last at (n * 55) h f)
      go false c f = refl

-- ---- a traverse text

pub line-window : {s w : List ℕ} {o : ℕ} (h : Held) (at line : ℕ) → Window s w o (at + 33) → line_at s h (o + at) line ≡ moved o (line_at w h at line)
unfolding line_at
line-window {s} {w} {o} h at line v = go h.known
  where
    -- the values of a line, and what they make of what is known
    one_line : (width : ℕ) (f : List ℤ → Held) → value_line s width (o + at) line ≡ moved_lines o (value_line w width at line)
        → found (value_line s width (o + at) line).answer (f (value_line s width (o + at) line).kept) ≡ moved o (found (value_line w width at line).answer (f (value_line w width at line).kept))
    one_line width f e = rw e (found-moved o (value_line w width at line).answer (f (value_line w width at line).kept))

    go : (k : Known) → line_by s k h.points (o + at) line ≡ moved o (line_by w k h.points at line)
    go Names = rw (names-local v head_names at line (omega arith)) (found-moved o (names_at w head_names at line) (held Values h.points))
    go Values = one_line 3 (λ l. held (with_values l) h.points) (lines-local v 3 0 1 0 at line [] (omega arith) (omega arith))
    go (Columns d) = rw (names-local v point_names at line (omega arith)) (found-moved o (names_at w point_names at line) (held (Points (record { head = d; count = 0 })) h.points))
    go (Points t) = one_line 2 (λ l. with_point l t h.points) (lines-local v 2 0 1 0 at line [] (omega arith) (omega arith))

end-window : (s : List ℕ) (o : ℕ) (h : Held) (at line : ℕ) → carried s o (end_left (end_of h at line)) ≡ read_left (end_of h (o + at) line)
unfolding end_at end_step traverse_read
end-window s o h at line = go h.known
  where
    counted : (t : TraverseRead) (a b c : Bool) → carried s o (end_left (leaves (cond a (refused (refusal kind.Ended line)) (cond b (cond c (refused (refusal kind.Lent 0)) (read t at line)) (refused (refusal kind.Points t.count)))) h.points))
        ≡ read_left (leaves (cond a (refused (refusal kind.Ended line)) (cond b (cond c (refused (refusal kind.Lent 0)) (read t (o + at) line)) (refused (refusal kind.Points t.count)))) h.points)
    counted t true b c = refl
    counted t false true true = refl
    counted t false true false = refl
    counted t false false c = refl

    go : (k : Known) → carried s o (end_left (leaves (end_at (station_count h.points) k at line) h.points)) ≡ read_left (leaves (end_at (station_count h.points) k (o + at) line) h.points)
    go Names = refl
    go Values = refl
    go (Columns d) = refl
    go (Points t) = unfold counted_by in counted t (eqb t.count 0) (count_ok t.count) (ltb (station_count h.points) t.count)

module _ (s w : List ℕ) (o : ℕ) (last : Bool) (sh : Shows s w o last) where
  -- at the end of the last window, and of the text
  at-end : (h : Held) (at line : ℕ) → last ≡ true → length w ≤ at → carried s o (end_left (end_of h at line)) ≡ read_left (rest_at s h (o + at) line)
  at-end h at line l e = end-window s o h at line ∙ ap read_left (sym (rest_end s h (o + at) line (omega (arith, sh.ends l))))

  is_last : (b : Bool) (at : ℕ) → cond b true (leb (at + 33) (length w)) ≡ true → length w ≤ at → b ≡ true
  is_last true at f e = refl
  is_last false at f e = absurd (omega (arith, leb-true (at + 33) (length w) f))

  step-window : (f : ℕ) (h : Held) (at line : ℕ) → length w ≤ at + f → carried s o (step_at w last f h at line) ≡ read_left (rest_at s h (o + at) line)
  unfolding step_at
  step-window zero h at line g = go last refl
    where
      go : (b : Bool) → last ≡ b → carried s o (cond b (end_left (end_of h at line)) (more_step h at line)) ≡ read_left (rest_at s h (o + at) line)
      go true l = at-end h at line l (omega arith)
      go false l = refl
  step-window (suc f) h at line g = go (holds (length w) last at 33) refl (ltb at (length w)) refl (λ k a l p. step-window f k a l p)
    where
      one_line : (r : Outcome Held) → Past (at + 1) r → ((k : Held) (a l : ℕ) → length w ≤ a + f → carried s o (step_at w last f k a l) ≡ read_left (rest_at s k (o + a) l))
          → carried s o (on_step h r (step_at w last f)) ≡ read_left (on_rest h (moved o r) (rest_at s))
      one_line (read k a l) p ih = ih k a l (omega arith)
      one_line (refused q) p ih = unfold end_step traverse_read in refl

      go : (b : Bool) → holds (length w) last at 33 ≡ b → (c : Bool) → ltb at (length w) ≡ c
          → ((k : Held) (a l : ℕ) → length w ≤ a + f → carried s o (step_at w last f k a l) ≡ read_left (rest_at s k (o + a) l))
          → carried s o (cond b (cond c (on_step h (line_at w h at line) (step_at w last f)) (end_left (end_of h at line))) (more_step h at line)) ≡ read_left (rest_at s h (o + at) line)
      go true e true l ih =
          let p : at < length w = ltb-true _ _ l in
          one_line (line_at w h at line) (line_on w h at line) ih
          ∙ ap (λ (x : Outcome Held). read_left (on_rest h x (rest_at s))) (sym (line-window h at line (far last at 33 sh e)))
          ∙ ap read_left (sym (rest-line s h (o + at) line (omega (arith, sh.within))))
      go true e false l ih = at-end h at line (is_last last at (unfold holds in e) (ltb-false _ _ l)) (ltb-false _ _ l)
      go false e c l ih = refl

  -- reading on from a step's answer is reading on from where it began
  pub traverse-window : (h : Held) (at line : ℕ) → carried s o (traverse_step w last h at line) ≡ read_left (rest_at s h (o + at) line)
  unfolding traverse_step
  traverse-window h at line = step-window (length w) h at line (omega arith)

-- ---- a traverse text that is held whole: it is its own last window

shows-whole : (s : List ℕ) → Shows s s 0 true
shows-whole s = record { within = omega arith; bytes = λ j h. let z : 0 + j ≡ j = omega arith in ap (byte s) z; ends = λ e. omega arith }

module _ (s : List ℕ) (lent out : List ℤ) (k : Known) (p : Result Progress Refusal) (e : leaves p out ≡ traverse_step s true (held k lent) 0 0) where
  pub whole_is : k ≡ start → carried_by s 0 p out ≡ traverse_left s lent
  unfolding traverse_left
  whole_is f = ap (carried s 0) e ∙ traverse-window s s 0 true (shows-whole s) (held k lent) 0 0 ∙ ap (λ (k : Known). read_left (rest_at s (held k lent) 0 0)) f

  -- more of it is never asked for
  pub whole-ends : (c : Cursor) (j : Known) → p ≡ Ok (progress.More c j) → ⊥
  whole-ends c j f =
      let g = ap (λ (y : Leaves (Result Progress Refusal)). y.answer) (sym e) ∙ f in
      never (sym (subst (Asks (length s) true) g (traverse-asks s true (held k lent) 0 0)).1)

-- ---- the rest of a storm text, without its count of records

module _ (s : List ℕ) (n : ℕ) where
  storm-fuel : (f g at line : ℕ) → at ≤ length s → length s < at + f → length s < at + g → records_by s n f at line ≡ records_by s n g at line
  unfolding records_by
  storm-fuel zero g at line h p q = absurd (omega arith)
  storm-fuel (suc f) zero at line h p q = absurd (omega arith)
  storm-fuel (suc f) (suc g) at line h p q = go (next_at s n at line) (next-on s n at line h) (λ a l. storm-fuel f g a l)
    where
      go : (r : Outcome Further) → Read-on (at + 1) (length s) r → ((a l : ℕ) → a ≤ length s → length s < a + f → length s < a + g → records_by s n f a l ≡ records_by s n g a l)
          → storm_by r (records_by s n f) ≡ storm_by r (records_by s n g)
      go (read (one r) a l) z ih = ap (with r) (ih a l (omega arith) (omega arith) (omega arith))
      go (read none a l) z ih = refl
      go (refused q) z ih = refl

  -- the rest of the text is its next record and the rest after it
  pub storm-once : (at line : ℕ) → at ≤ length s → storm_rest s n at line ≡ storm_by (next_at s n at line) (storm_rest s n)
  unfolding storm_rest records_by
  storm-once at line h = go (next_at s n at line) (next-on s n at line h) (λ a l. storm-fuel (length s) (suc (length s)) a l)
    where
      go : (r : Outcome Further) → Read-on (at + 1) (length s) r → ((a l : ℕ) → a ≤ length s → length s < a + length s → length s < a + suc (length s) → records_by s n (length s) a l ≡ records_by s n (suc (length s)) a l)
          → storm_by r (records_by s n (length s)) ≡ storm_by r (records_by s n (suc (length s)))
      go (read (one r) a l) z ih = ap (with r) (ih a l (omega arith) (omega arith) (omega arith))
      go (read none a l) z ih = refl
      go (refused q) z ih = refl

module _ (s w : List ℕ) (o : ℕ) (last : Bool) (h : Shows s w o last) (n at line : ℕ) where
  -- whatever follows the step: what the text has next, or, where the window does not hold it, the same place again
  pub record-by : (next : ℕ → ℕ → Storm)
      → storm_on o (o + at) line (record_step w last n at line) next
      ≡ cond (holds_record (length w) last n at) (storm_by (next_at s n (o + at) line) next) (next (o + at) line)
  unfolding record_step
  record-by next = go (holds_record (length w) last n at) refl
    where
      go : (b : Bool) → holds_record (length w) last n at ≡ b
          → storm_on o (o + at) line (cond b (seen (next_at w n at line)) needs-more) next ≡ cond b (storm_by (next_at s n (o + at) line) next) (next (o + at) line)
      go true e = ap (λ (r : Outcome Further). storm_by r next) (sym (next-window s w o last h n at line e))
      go false e = refl

-- ---- the statements of specs/Window.antt on one step

pub traverse-step-holds : TraverseStepHolds
traverse-step-holds s w o last h k at line = traverse-window s w o last h k at line

pub start-step-holds : StartStepHolds
unfolding start_step
start-step-holds s w last h e = rw (e, start-window s w 0 last h refl e)

pub record-step-holds : RecordStepHolds
record-step-holds s w o last n at line h p = record-by s w o last h n at line (storm_rest s n) ∙ go (holds_record (length w) last n at)
  where
    go : (b : Bool) → cond b (storm_by (next_at s n (o + at) line) (storm_rest s n)) (storm_rest s n (o + at) line) ≡ storm_rest s n (o + at) line
    go true = sym (storm-once s n (o + at) line p)
    go false = refl
