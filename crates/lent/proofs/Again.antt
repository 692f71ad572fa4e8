-- The statements of specs/Again.antt: what a call writes is what the march or the text has, and what the next call takes. Assumes nothing.
use mathlib.Core.Path.{◌≡◌, refl, sym, ap, ◌∙◌}
use mathlib.Core.Bool.{Bool, true, false, cond, ◌&&◌}
use mathlib.Core.List.{List, [], ◌∷◌}
use native.Mathlib.Omega.{arith}
use borrow.Author.Tests.{le-leb, le-ltb, eqb-true, eqb-false}
use Prim.Native.Nat.{ℕ, zero, suc, ◌+◌, ◌*◌, ◌<◌, ◌≤◌, ◌^◌}
use lib.Dec.{ltb, eqb}
use lib.ListN.{length}
use lib.Seq.{get_or-take}
use lib.IntN.{ℤ, pos}
use Rattle.std.specs.Prelude.{Option, Some, None, Result, Ok, Err}
use Rattle.records.specs.declared.Refusal.{Refusal}
use Rattle.records.specs.declared.Kind.TheVariants.{Names, Ended, Points}
use Rattle.records.specs.Refusals.{number_of, refusal}
use Rattle.records.specs.Groups.{at, wholes}
use Rattle.records.specs.Limits.{count_ok, most_points}
use Rattle.records.specs.Shapes.{Traverse, traverse, count}
use Rattle.records.proofs.RefusalLaws.{number-above}
use Rattle.records.specs.CheckOrder.{Check}
use Rattle.march.specs.Answers.{opened, told_open}
use Rattle.march.specs.Checks.{traverse_check, fresh_state, open_of}
use Rattle.reader.specs.declared.Cursor.{Cursor}
use Rattle.reader.specs.Text.{more}
use Rattle.reader.specs.Lines.{Outcome, read, refused, found, Leaves, Line, full, bad, values_at, lines_read, after, lines_at, spells, names_at}
use Rattle.reader.specs.Traverse.{no_points, traverse_left, traverse_of}
use Rattle.reader.specs.Storm.{storm_names, storm_start, record_of, record_in, record_lines, Further, one, none, next_at, next_of, too_few, next_left, storm_by, storm_rest, storm_from, storm_of}
use Rattle.records.proofs.LimitLaws.{counts-in}
use Rattle.reader.proofs.TraverseLaws.{PastLines, lines-on}
use Rattle.reader.proofs.Ends.{Stays, start-stays, Read-on, next-on}
use Rattle.reader.proofs.Steps.{storm-once}
use Rattle.reader.proofs.LentLaws.{next-has-record}
use Rattle.reader.proofs.TraverseLent.{more-most, traverse-is-read, traverse-is-refused}
use Rattle.lent.specs.Numbers.{state_numbers, place_number, answer_numbers, refused_answer, buffers_ok}
use Rattle.lent.specs.Calls.{LeftOpen, after_open, open_call, open_with}
use Rattle.lent.specs.Texts.{traverse_buffers, LeftTraverse, left_traverse, head_numbers, read_traverse_call, no_numbers, cursor_of, cursor_numbers, start_of, record_buffers, LeftRecord, left_record, kept_record, after_start, read_record_call}
use Rattle.lent.specs.Again.{OpenAgain, head_left, points_left, TraverseTold, TraverseReading, TraverseAgain, CursorAgain, On, record_left, RecordTold, next_from, RecordAgain, ReadCall, ReadKept, AllRead, no_cursor, StopTold, StormRead, StormAgain}

-- ---- a number with sign holds every place up to the greatest of them

pub whole-place : (p : ℕ) → p ≤ 9223372036854775807 → place_number p ≡ pos p
whole-place p h = simp (le-leb p 9223372036854775807 h)

small-again : (c : Cursor) → c.at < 2 ^ 63 → c.line < 2 ^ 63 → cursor_of (cursor_numbers c) ≡ c
small-again c h g = simp (le-leb c.at 9223372036854775807 (omega arith), le-leb c.line 9223372036854775807 (omega arith))

pub cursor-again : CursorAgain
cursor-again = record { small = small-again; in-text = λ text h c on. let a = on.place in let b = on.lines in small-again c (omega arith) (omega arith) }

-- ---- opening a traverse

pub open-again : OpenAgain
unfolding open_call buffers_ok open_of
open-again most head points x = by (traverse_check most t) (x.kept ∙ rw (x.state-is, x.answer-is))
  where
    t : Traverse
    t = traverse head points

    by : (k : Check) → x.left ≡ after_open (told_open k) fresh_state x.state → (told_open k ≡ opened) × (x.left.state ≡ state_numbers fresh_state)
    by (Ok u) e = (refl, ap (λ (z : LeftOpen). z.state) e)
    by (Err r) e = absurd (omega (arith, number-above r.kind, x.accepted, ap (λ (z : LeftOpen). z.number) e))

-- ---- a traverse text

module _ (text : List ℕ) (x : TraverseReading text) where
  enough : most_points ≤ wholes 2 (length no_points)
  unfolding wholes
  enough = omega arith

  traverse-read : (t : Traverse) (place line : ℕ) → traverse_of text ≡ read t place line → TraverseTold x.left (read t place line)
  unfolding read_traverse_call traverse_buffers open_call
  traverse-read t place line e =
      let r = traverse-is-read text no_points enough t place line e in
      let n = counts-in (count t) r.2 in
      let c : x.left ≡ left_traverse 0 (head_numbers t.head) (traverse_left text no_points).numbers (answer_numbers (pos 0) (pos (count t)) (pos 0))
      = x.kept ∙ rw (x.head-is, x.points-are, x.answer-is, r.0, whole-place (count t) (omega arith)) in
      let same : traverse (head_left x.left) (points_left x.left) ≡ t = rw (c, r.1) in
      (ap (λ (z : LeftTraverse). z.number) c, ap (λ (z : LeftTraverse). z.answer) c, same, λ most state answer. ap (λ (z : Traverse). open_with most z state answer) same)

  traverse-refused : (r : Refusal) → traverse_of text ≡ refused r → TraverseTold x.left (refused r)
  unfolding read_traverse_call traverse_buffers
  traverse-refused r e =
      let c : x.left ≡ left_traverse (number_of r.kind) x.head x.points (refused_answer r.place) = x.kept ∙ rw (x.head-is, x.points-are, x.answer-is, traverse-is-refused text no_points enough r e) in
      (ap (λ (z : LeftTraverse). z.number) c, ap (λ (z : LeftTraverse). z.answer) c)

  traverse-told : TraverseTold x.left (traverse_of text)
  traverse-told = by (traverse_of text) refl
    where
      by : (o : Outcome Traverse) → traverse_of text ≡ o → TraverseTold x.left o
      by (read t place line) e = traverse-read t place line e
      by (refused r) e = traverse-refused r e

told-accepted : (x : LeftTraverse) (o : Outcome Traverse) → TraverseTold x o → x.number ≡ 0 → (place : ℕ) × (line : ℕ) × (o ≡ read (traverse (head_left x) (points_left x)) place line)
told-accepted x (read t place line) told e = (place, line, ap (λ (z : Traverse). read z place line) (sym told.2))
told-accepted x (refused r) told e = absurd (omega (arith, number-above r.kind, told.0))

pub traverse-again : (text : List ℕ) (x : TraverseReading text) → TraverseAgain text x
traverse-again text x = record { told = traverse-told text x; accepted = told-accepted x.left (traverse_of text) (traverse-told text x) }

-- ---- lines are no more than bytes

abbrev LinesTo : ℕ → Result Cursor Refusal → Type 0
LinesTo b (Ok c) = c.line ≤ b
LinesTo b (Err r) = Unit {0}

lines-fewer : (b d : ℕ) (r : Result Cursor Refusal) → b ≤ d → LinesTo b r → LinesTo d r
lines-fewer b d (Ok c) h l = omega arith
lines-fewer b d (Err r) h l = tt

lines-most : (s : List ℕ) (width shared n i place line : ℕ) (kept : List ℤ) → LinesTo (line + n) (lines_at s width shared n i place line kept).answer
unfolding lines_at
lines-most s width shared zero i place line kept = omega arith
lines-most s width shared (suc n) i place line kept =
    go (ltb place (length s)) (values_at s shared i width 0 place kept true) (λ a o. lines-most s width shared n (i + 1) a (more line) o)
  where
    go : (b : Bool) (l : Line) → ((a : ℕ) (o : List ℤ) → LinesTo (more line + n) (lines_at s width shared n (i + 1) a (more line) o).answer)
        → LinesTo (line + suc n) (cond b (after l (more line) (λ a o. lines_at s width shared n (i + 1) a (more line) o)) (lines_read (Err (refusal Ended line)) kept)).answer
    go true (full a o true) r = lines-fewer (more line + n) (line + suc n) (lines_at s width shared n (i + 1) a (more line) o).answer (omega (arith, more-most line)) (r a o)
    go true (full a o false) r = tt
    go true (bad o) r = tt
    go false l r = tt

-- ---- the cursors that reading leaves

-- past the start, where no names line is read
abbrev OnPast : List ℕ → Cursor → Type 0
OnPast s c = On s c × (0 < c.at)

abbrev LeavesOn : List ℕ → Outcome Further → Type 0
LeavesOn s (read (one r) place line) = OnPast s (record { at = place; line = line })
LeavesOn s (read none place line) = Unit {0}
LeavesOn s (refused r) = Unit {0}

next-leaves : (s : List ℕ) (n : ℕ) (c : Cursor) → On s c → LeavesOn s (next_at s n c.at c.line)
unfolding next_at
next-leaves s n c h = go (count_ok n) (ltb c.at (length s)) (record_lines s n c.at c.line).answer (lines-on s 5 2 n 0 c.at c.line [] (omega arith)) (lines-most s 5 2 n 0 c.at c.line []) (next-on s n c.at c.line h.place)
  where
    rest : (b : Bool) → LeavesOn s (cond b (read none c.at c.line) (refused (refusal Ended c.line)))
    rest true = tt
    rest false = tt

    go : (b e : Bool) (r : Result Cursor Refusal) → PastLines (c.at + n) r → LinesTo (c.line + n) r
        → Read-on (c.at + 1) (length s) (cond b (cond e (found r (one (record_of (record_lines s n c.at c.line).kept))) (cond (ltb 1 c.line) (read none c.at c.line) (refused (refusal Ended c.line)))) (refused (refusal Points n)))
        → LeavesOn s (cond b (cond e (found r (one (record_of (record_lines s n c.at c.line).kept))) (cond (ltb 1 c.line) (read none c.at c.line) (refused (refusal Ended c.line)))) (refused (refusal Points n)))
    go true true (Ok d) p l q = (record { place = q.1; lines = omega (arith, h.lines) }, omega arith)
    go true true (Err t) p l q = tt
    go true false r p l q = rest (ltb 1 c.line)
    go false e r p l q = tt

-- where the names line ends, or the cursor past it
abbrev StartOn : List ℕ → Result Cursor Refusal → Type 0
StartOn s (Ok c) = OnPast s c
StartOn s (Err r) = Unit {0}

names-on : (s : List ℕ) → StartOn s (storm_start s)
unfolding storm_start names_at
names-on s = go (spells s 0 storm_names) (start-stays s)
  where
    go : (b : Bool) → Stays (length s) (cond b (Ok (record { at = 0 + length storm_names; line = more 0 })) (Err (refusal Names (more 0))))
        → StartOn s (cond b (Ok (record { at = 0 + length storm_names; line = more 0 })) (Err (refusal Names (more 0))))
    go true h = (record { place = h; lines = omega (arith, more-most 0) }, omega arith)
    go false h = tt

start-past : (s : List ℕ) (c : Cursor) → 0 < c.at → start_of s c ≡ Ok c
unfolding start_of
start-past s c h = by (eqb c.at 0) refl
  where
    by : (b : Bool) → eqb c.at 0 ≡ b → cond (b && eqb c.line 0) (storm_start s) (Ok c) ≡ Ok c
    by true e = absurd (omega (arith, eqb-true c.at 0 e))
    by false e = refl

start-on : (s : List ℕ) (c : Cursor) → On s c → StartOn s (start_of s c)
start-on s c h = by (eqb c.at 0) refl
  where
    nought : (b : Bool) → eqb c.line 0 ≡ b → c.line ≡ 0 → StartOn s (cond b (storm_start s) (Ok c))
    nought true e z = names-on s
    nought false e z = absurd (eqb-false c.line 0 e z)

    by : (b : Bool) → eqb c.at 0 ≡ b → StartOn s (start_of s c)
    by true e = unfold start_of in rw e (nought (eqb c.line 0) refl (omega (arith, h.lines, eqb-true c.at 0 e)))
    by false e = let g : 0 < c.at = omega (arith, eqb-false c.at 0 e) in rw (start-past s c g) (h, g)

-- ---- one record

-- 197 numbers are enough for every count of points that is allowed
never-few : (n : ℕ) → too_few n (length no_numbers) ≡ false
unfolding too_few
never-few n = by (count_ok n) refl
  where
    by : (b : Bool) → count_ok n ≡ b → (b && ltb (length no_numbers) (2 + 3 * n)) ≡ false
    by true e = let k = counts-in n e in le-ltb (length no_numbers) (2 + 3 * n) (omega arith)
    by false e = refl

next-answer : (s : List ℕ) (n place line : ℕ) → (next_left s n place line no_numbers).answer ≡ next_of (next_at s n place line)
unfolding next_left
next-answer s n place line = rw (never-few n)

-- what a record is read into, taken apart and read again
record-left : (n : ℕ) (c : Cursor) (l : List ℤ) → record_left n (kept_record c l) ≡ record_in n l
record-left n c l = rw (get_or-take 2 l 0 (pos 0) (omega arith), get_or-take 2 l 1 (pos 0) (omega arith))

module _ (text : List ℕ) (n : ℕ) (cursor values storm : List ℤ) (x : LeftRecord) where
  after-told : (c : Cursor) → On text c → x ≡ after_start (Ok c) text n cursor values storm → RecordTold text n x (next_at text n c.at c.line)
  unfolding next_of
  after-told c h e = by (next_at text n c.at c.line) refl (next-leaves text n c h)
    where
      left : Leaves (Result (Option Cursor) Refusal)
      left = next_left text n c.at c.line no_numbers

      by : (o : Outcome Further) → next_at text n c.at c.line ≡ o → LeavesOn text o → RecordTold text n x o
      by (read (one r) place line) p on =
          let d : Cursor = record { at = place; line = line } in
          let q : left.answer ≡ Ok (Some d) = next-answer text n c.at c.line ∙ rw p in
          let k : read (one r) place line ≡ read (one (record_in n left.numbers)) place line = sym p ∙ (next-has-record text n c.at c.line no_numbers d q).1 in
          let same : record_in n left.numbers ≡ r = cc in
          let w : x ≡ kept_record d left.numbers = e ∙ rw q in (
            ap (λ (z : LeftRecord). z.number) w,
            ap (λ (z : LeftRecord). z.answer) w,
            ap (record_left n) w ∙ record-left n d left.numbers ∙ same,
            ap (λ (z : LeftRecord). z.cursor) w,
            on.0,
          )
      by (read none place line) p on =
          let q : left.answer ≡ Ok None = next-answer text n c.at c.line ∙ rw p in
          let w : x ≡ left_record 0 cursor values storm (answer_numbers (pos 0) (pos 0) (pos 0)) = e ∙ rw q in
          (ap (λ (z : LeftRecord). z.number) w, ap (λ (z : LeftRecord). z.answer) w)
      by (refused r) p on =
          let q : left.answer ≡ Err r = next-answer text n c.at c.line ∙ rw p in
          let w : x ≡ left_record (number_of r.kind) cursor values storm (refused_answer r.place) = e ∙ rw q in
          (ap (λ (z : LeftRecord). z.number) w, ap (λ (z : LeftRecord). z.answer) w)

  started-told : (l : Result Cursor Refusal) → StartOn text l → x ≡ after_start l text n cursor values storm → RecordTold text n x (next_from text n l)
  started-told (Ok c) on e = after-told c on.0 e
  started-told (Err r) on e = (ap (λ (z : LeftRecord). z.number) e, ap (λ (z : LeftRecord). z.answer) e)

pub record-again : RecordAgain
unfolding read_record_call record_buffers
record-again text short n c on values storm answer x sized kept =
    started-told text n (cursor_numbers c) values storm x (start_of text c) (start-on text c on)
    (kept ∙ rw (sized.values-are, sized.storm-is, sized.answer-is, cursor-again.in-text text short c on))

-- ---- a whole storm text

-- where a record was read, the answer does not say that there was none, and the other way round
no_one : {a b : List ℤ} → a ≡ b → at a 1 ≡ pos 1 → at b 1 ≡ pos 0 → ⊥
no_one {a} {b} e f g = let z : pos 1 ≡ pos 0 = sym f ∙ ap (λ (l : List ℤ). at l 1) e ∙ g in let y : ◌≡◌ {A = ℕ} 1 0 = cc in omega arith

module _ (text : List ℕ) (short : length text < 2 ^ 63) (n : ℕ) where
  -- a call past the start
  further : (d : Cursor) → OnPast text d → (c : ReadCall) → ReadKept text n (cursor_numbers d) c → RecordTold text n c.left (next_at text n d.at d.line)
  further d on c kept = rw (start-past text d on.1) at (record-again text short n d on.0 c.values c.storm c.answer c.left kept.0 kept.1)

  -- calls of which the first finds o
  all_from : (calls : List ReadCall) (cursor : List ℤ) (o : Outcome Further) → LeavesOn text o → ((c : ReadCall) → ReadKept text n cursor c → RecordTold text n c.left o)
      → AllRead text n cursor calls → StormRead text n cursor calls (storm_by o (storm_rest text n))
  unfolding AllRead
  all_from [] cursor o on told all = record { begun = refl; whole = λ last kept e. by o last.left (told last kept) e }
    where
      by : (o : Outcome Further) (x : LeftRecord) → RecordTold text n x o → at x.answer 1 ≡ pos 0 → ([] ≡ (storm_by o (storm_rest text n)).records) × StopTold x (storm_by o (storm_rest text n)).stop
      by (read (one r) place line) x t e = absurd (no_one (sym t.1) refl e)
      by (read none place line) x t e = (refl, t)
      by (refused r) x t e = (refl, t)
  all_from (c ∷ calls) cursor o on told all = by o on (told c all.0) (λ cursor' o' on' told' all'. all_from calls cursor' o' on' told' all')
    where
      by : (o : Outcome Further) → LeavesOn text o → RecordTold text n c.left o
          → ((cursor' : List ℤ) (o' : Outcome Further) → LeavesOn text o' → ((d : ReadCall) → ReadKept text n cursor' d → RecordTold text n d.left o') → AllRead text n cursor' calls → StormRead text n cursor' calls (storm_by o' (storm_rest text n)))
          → StormRead text n cursor (c ∷ calls) (storm_by o (storm_rest text n))
      by (read (one r) place line) on t ih =
          let d : Cursor = record { at = place; line = line } in
          let rest : StormRead text n c.left.cursor calls (storm_rest text n place line)
          = rw (storm-once text n place line on.0.place) (ih c.left.cursor (next_at text n place line) (next-leaves text n d on.0) (λ e kept. further d on e (rw t.3 at kept)) all.2) in
          record { begun = rw (t.2, rest.begun); whole = λ last kept e. let w = rest.whole last kept e in (rw (t.2, w.0), w.1) }
      by (read none place line) on t ih = absurd (no_one t.1 all.1 refl)
      by (refused r) on t ih = absurd (no_one t.1 all.1 refl)

pub storm-again : StormAgain
unfolding storm_of
storm-again text short n calls all = by (storm_start text) refl (names-on text)
  where
    origin : Cursor
    origin = record { at = 0; line = 0 }

    first : (c : ReadCall) → ReadKept text n (cursor_numbers origin) c → RecordTold text n c.left (next_from text n (storm_start text))
    first c kept = unfold start_of in record-again text short n origin (record { place = omega arith; lines = omega arith }) c.values c.storm c.answer c.left kept.0 kept.1

    by : (l : Result Cursor Refusal) → storm_start text ≡ l → StartOn text l → StormRead text n no_cursor calls (storm_from l (storm_rest text n))
    by (Ok d) e on =
        rw (storm-once text n d.at d.line on.0.place) (all_from text short n calls no_cursor (next_at text n d.at d.line) (next-leaves text n d on.0) (rw e at first) all)
    by (Err r) e on = all_from text short n calls no_cursor (refused r) tt (rw e at first) all
