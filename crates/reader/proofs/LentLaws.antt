-- The statements of specs/Lent.antt on a record: the record that a call answers stands in the lent numbers, and those past it stay as lent. Assumes nothing.
use Rattle.std.proofs.Common.{Result, Ok, Err, Option, Some}
use mathlib.Core.Path.{◌≡◌, refl, sym, ap, subst, ◌∙◌}
use mathlib.Core.Bool.{Bool, true, false, cond, ◌&&◌}
use mathlib.Core.List.{List, []}
use Prim.Native.Nat.{ℕ, zero, suc, ◌+◌, ◌-◌, ◌*◌, ◌<◌, ◌≤◌}
use native.Mathlib.Omega.{arith}
use lib.ListN.{length, take, drop, length-append, length-drop, get_or-append}
use lib.Seq.{length-take-le, drop-append-le, drop-append-add, drop-drop, take_at}
use lib.Dec.{ltb}
use lib.IntN.{ℤ, pos}
use borrow.Author.Tests.{ltb-false}
use Rattle.records.specs.declared.Kind.TheVariants.{Ended, Points, Lent}
use Rattle.records.specs.Refusals.{refusal}
use Rattle.records.specs.Limits.{count_ok}
use Rattle.records.proofs.GroupLaws.{wholes-times}
use Rattle.reader.specs.Lines.{Outcome, read, refused, found, Leaves, leaves, laid, LinesRead}
use Rattle.reader.specs.Storm.{record_of, record_size, record_in, record_lines, Further, one, none, next_at, kept_at, next_of, too_few, next_left, holds_record, needs-more, seen, answered, record_step, record_step_left}
use Rattle.reader.specs.Lent.{Spared, NextSpares, HasRecord, NextHasRecord, seen_answer, StepAnswers, StepSpares, StepHasRecord}
use Rattle.reader.specs.declared.Cursor.{Cursor}
use Rattle.reader.proofs.Laws.{number_place}
use Rattle.records.proofs.LimitLaws.{counts-in}
use Rattle.reader.proofs.KeptLaws.{LinesSize, AnswerSize, lines-size}
use Rattle.records.specs.declared.Refusal.{Refusal}
use Rattle.reader.specs.declared.storm.Halt.{Halt}
use Rattle.reader.specs.declared.storm.Halt.TheVariants as halt

-- ---- what was kept, laid into the lent numbers

module _ (kept lent : List ℤ) where
  laid-size : length kept ≤ length lent → length (laid kept lent) ≡ length lent
  laid-size h = simp (length-append, length-drop) (omega arith)

  laid-spare : (m : ℕ) → length kept ≤ m → drop m (laid kept lent) ≡ drop m lent
  laid-spare m h = go (m - length kept) (omega arith)
    where
      go : (d : ℕ) → length kept + d ≡ m → drop m (laid kept lent) ≡ drop m lent
      go d e = rw (← e, drop-append-add kept (drop (length kept) lent) d, drop-drop d (length kept) lent)

  laid-record : (n : ℕ) → length kept ≡ record_size n → record_of kept ≡ record_in n (laid kept lent)
  unfolding record_of
  laid-record n h =
      let r = drop (length kept) lent in
      let l : length (drop 2 kept) ≡ 3 * n = length-drop 2 kept ∙ omega arith in
      sym (rw (get_or-append kept r (pos 0) 0 (omega arith), get_or-append kept r (pos 0) 1 (omega arith), drop-append-le 2 kept r (omega arith), take_at (drop 2 kept) r (3 * n) l))

-- ---- the numbers that are kept of a record

module _ (s : List ℕ) (n at line : ℕ) where
  record-size : count_ok n ≡ true → LinesSize (record_size n) (record_lines s n at line)
  record-size e =
      let k = counts-in n e in
      subst (λ (m : ℕ). LinesSize m (record_lines s n at line)) (places n (omega arith)) (lines-size 5 2 s n 0 n at line [] (omega arith) (omega arith) refl)
    where
      places : (n : ℕ) → 0 < n → number_place 5 2 n 0 ≡ record_size n
      places zero h = absurd (omega arith)
      places (suc n) h = omega arith

  some : (a : Result Cursor Refusal) (l : List ℤ) → AnswerSize (record_size n) a l → length l ≤ record_size n
  some (Ok c) l h = omega arith
  some (Err q) l h = h

  kept-few : length (kept_at s n at line) ≤ record_size n
  unfolding kept_at
  kept-few = go (count_ok n) refl (ltb at (length s))
    where
      go : (b : Bool) → count_ok n ≡ b → (c : Bool) → length (cond b (cond c (record_lines s n at line).kept []) []) ≤ record_size n
      go true e true = some (record_lines s n at line).answer (record_lines s n at line).kept (record-size e)
      go true e false = omega arith
      go false e c = omega arith

  kept-fits : (size : ℕ) → too_few n size ≡ false → length (kept_at s n at line) ≤ size
  unfolding too_few kept_at
  kept-fits size e = go (count_ok n) refl e (ltb at (length s))
    where
      go : (b : Bool) → count_ok n ≡ b → (b && ltb size (record_size n)) ≡ false → (c : Bool) → length (cond b (cond c (record_lines s n at line).kept []) []) ≤ size
      go true e f true = omega (arith, ltb-false size (record_size n) f, some (record_lines s n at line).answer (record_lines s n at line).kept (record-size e))
      go true e f false = omega arith
      go false e f c = omega arith

-- ---- the next record

pub next-spares : NextSpares
unfolding next_left
next-spares s n at line lent = go (too_few n (length lent)) refl
  where
    go : (b : Bool) → too_few n (length lent) ≡ b
        → Spared n lent (cond b (leaves (Err (refusal Lent 0)) lent) (leaves (next_of (next_at s n at line)) (laid (kept_at s n at line) lent))).numbers
    go true e = record { size = refl; spare = refl }
    go false e = record {
      size = laid-size (kept_at s n at line) lent (kept-fits s n at line (length lent) e);
      spare = laid-spare (kept_at s n at line) lent (record_size n) (kept-few s n at line);
    }

-- what a call answers and leaves, by the tests that it makes and the lines that it reads
abbrev outcome_by : ℕ → ℕ → ℕ → Bool → Bool → LinesRead → Outcome Further
outcome_by n at line k b x = cond k (cond b (found x.answer (one (record_of x.kept))) (cond (ltb 1 line) (read none at line) (refused (refusal Ended line)))) (refused (refusal Points n))

abbrev left_by : ℕ → ℕ → ℕ → List ℤ → Bool → Bool → Bool → LinesRead → Leaves (Result (Option Cursor) Refusal)
left_by n at line lent k t b x =
    cond (k && t) (leaves (Err (refusal Lent 0)) lent) (leaves (next_of (outcome_by n at line k b x)) (laid (cond k (cond b x.kept []) []) lent))

-- where it answers a record: all its tests passed, and the lines were read
record Passed (n at line : ℕ) (lent : List ℤ) (c : Cursor) (k t b : Bool) (x : LinesRead) : Type 0 where
  pub counted : k ≡ true
  pub enough : t ≡ false
  pub answer : x.answer ≡ Ok c
  pub outcome : outcome_by n at line k b x ≡ read (one (record_of x.kept)) c.at c.line
  pub numbers : (left_by n at line lent k t b x).numbers ≡ laid x.kept lent

module _ (n at line : ℕ) (lent : List ℤ) (c : Cursor) where
  passed : (k t b : Bool) (a : Result Cursor Refusal) (l : List ℤ) → (left_by n at line lent k t b (record { answer = a; kept = l })).answer ≡ Ok (Some c) → Passed n at line lent c k t b (record { answer = a; kept = l })
  unfolding next_of
  passed true true b a l e = absurd cc
  passed true false true (Ok d) l e =
      let u : d ≡ c = cc in
      record { counted = refl; enough = refl; answer = rw u; outcome = rw u; numbers = refl }
  passed true false true (Err q) l e = absurd cc
  passed true false false a l e = absurd (go (ltb 1 line) e)
    where
      go : (b : Bool) → next_of (cond b (read none at line) (refused (refusal Ended line))) ≡ Ok (Some c) → ⊥
      go true e = absurd cc
      go false e = absurd cc
  passed false t b a l e = absurd cc

has-record : (n : ℕ) (l : List ℤ) → count_ok n ≡ true → record_size n ≤ length l → HasRecord n l
has-record n l k h =
    let e : length (take (3 * n) (drop 2 l)) ≡ 3 * n = length-take-le (3 * n) (drop 2 l) (simp length-drop (omega arith)) in
    record { counted = k; room = h; numbers = e; points = rw e (wholes-times 3 n (omega arith)) }

pub next-has-record : NextHasRecord
unfolding next_left too_few next_at kept_at
next-has-record s n at line lent c e =
    let x = record_lines s n at line in
    let p = passed n at line lent c (count_ok n) (ltb (length lent) (record_size n)) (ltb at (length s)) x.answer x.kept e in
    let z : length x.kept ≡ record_size n = size x.answer x.kept p.answer (record-size s n at line p.counted) in
    let f : record_size n ≤ length lent = ltb-false _ _ p.enough in
    let m : length (laid x.kept lent) ≡ length lent = laid-size x.kept lent (omega arith) in (
      subst (λ (l : List ℤ). HasRecord n l) (sym p.numbers) (has-record n (laid x.kept lent) p.counted (omega arith)),
      p.outcome ∙ ap (λ r. read (one r) c.at c.line) (laid-record x.kept lent n z ∙ ap (record_in n) (sym p.numbers)),
    )
  where
    size : (a : Result Cursor Refusal) (l : List ℤ) → a ≡ Ok c → AnswerSize (record_size n) a l → length l ≡ record_size n
    size (Ok d) l q h = h
    size (Err r) l q h = absurd cc

-- ---- a step

pub step-answers : StepAnswers
unfolding record_step_left record_step next_left
step-answers w last n at line lent e = rw e (go (holds_record (length w) last n at))
  where
    go : (b : Bool) → (cond {A = Leaves (Result (Option Cursor) Halt)} b (leaves (answered (next_of (next_at w n at line))) (laid (kept_at w n at line) lent)) (leaves (Err halt.More) lent)).answer
        ≡ seen_answer (cond b (seen (next_at w n at line)) needs-more)
    go true = refl
    go false = refl

pub step-spares : StepSpares
unfolding record_step_left
step-spares w last n at line lent = go (holds_record (length w) last n at)
  where
    go : (b : Bool) → Spared n lent (cond {A = Leaves (Result (Option Cursor) Halt)} b (leaves (answered (next_left w n at line lent).answer) (next_left w n at line lent).numbers) (leaves (Err halt.More) lent)).numbers
    go true = next-spares w n at line lent
    go false = record { size = refl; spare = refl }

answered-ok : {A : Type 0} (r : Result A Refusal) (x : A) → answered r ≡ Ok x → r ≡ Ok x
answered-ok (Ok y) x e = let z : y ≡ x = cc in ap Ok z
answered-ok (Err q) x e = absurd cc

pub step-has-record : StepHasRecord
unfolding record_step_left record_step
step-has-record w last n at line lent c e = go (holds_record (length w) last n at) e
  where
    go : (b : Bool) → (cond {A = Leaves (Result (Option Cursor) Halt)} b (leaves (answered (next_left w n at line lent).answer) (next_left w n at line lent).numbers) (leaves (Err halt.More) lent)).answer ≡ Ok (Some c)
        → HasRecord n (cond {A = Leaves (Result (Option Cursor) Halt)} b (leaves (answered (next_left w n at line lent).answer) (next_left w n at line lent).numbers) (leaves (Err halt.More) lent)).numbers
        × (cond b (seen (next_at w n at line)) needs-more ≡ seen (read (one (record_in n (cond {A = Leaves (Result (Option Cursor) Halt)} b (leaves (answered (next_left w n at line lent).answer) (next_left w n at line lent).numbers) (leaves (Err halt.More) lent)).numbers)) c.at c.line))
    go true e =
        let q = answered-ok (next_left w n at line lent).answer (Some c) e in
        let h = next-has-record w n at line lent c q in
        (h.0, ap seen h.1)
    go false e = absurd cc
