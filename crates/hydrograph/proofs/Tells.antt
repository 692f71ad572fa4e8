-- One turn on any window of a storm text says the lines that come next (`TurnTells` of `specs/Turns.antt`); and where it goes on, it stands within the
-- window with some line counted, and has taken the reading on unless it asks for more. Assumes nothing.
use mathlib.Core.Path.{◌≡◌, refl, sym, ap, ◌∙◌}
use mathlib.Core.Bool.{Bool, true, false, cond}
use mathlib.Core.List.{List, [], ◌++◌}
use native.Mathlib.Omega.{arith}
use Prim.Native.Nat.{ℕ, zero, suc, ◌+◌, ◌*◌, ◌≤◌, ◌<◌}
use lib.Dec.{ltb, leb}
use lib.ListN.{length}
use lib.IntN.{ℤ}
use borrow.Author.Tests.{ltb-false, leb-true, leb-false, le-ltb, lt-leb, ne_eqb}
use Rattle.records.specs.declared.Kind.TheVariants.{Names, Ended, Points}
use Rattle.records.specs.Refusals.{refusal}
use Rattle.records.specs.Limits.{count_ok}
use Rattle.records.specs.Shapes.{Traverse, count}
use Rattle.listing.specs.Lines.{record_line}
use Rattle.std.specs.Prelude.{Result, Ok, Err}
use Rattle.records.specs.declared.Refusal.{Refusal}
use Rattle.reader.specs.declared.Cursor.{Cursor}
use Rattle.reader.specs.declared.storm.Halt.TheVariants as halt
use Rattle.reader.specs.Text.{more}
use Rattle.reader.specs.Lines.{Outcome, read, refused, found, Line, full, bad, values_at, lines_read, after, lines_at, names_at, spells, holds}
use Rattle.reader.specs.Storm.{record_of, record_lines, Further, one, none, next_at, storm_names, storm_start, storm_by, storm_rest, storm_from, storm_of, start_step, answered, holds_record, seen, needs-more, record_step, longest_record}
use Rattle.reader.specs.Window.{Shows, moved}
use Rattle.records.proofs.LimitLaws.{counts-in}
use Rattle.reader.proofs.Ends.{Stays, start-stays, Read-on, next-on}
use Rattle.reader.proofs.Steps.{start-window, next-window, storm-once}
use Rattle.march.specs.declared.State.{State}
use Rattle.march.specs.Answers.{Told}
use Rattle.march.specs.Answers as answers
use Rattle.hydrograph.specs.Listing.{after_taken, taken_by, hydrograph_lines, storm_lines}
use Rattle.hydrograph.specs.Turns.{Said, reads, says, ends, quiet, said_taken, said_seen, said_start, start_turn, record_turn, turn_of, lines_from, said_then, TurnTells}
use Rattle.hydrograph.proofs.TurnLaws.{turn-start, turn-record}

-- ---- a line that was read is counted, so reading has not to begin again

more-pos : (n : ℕ) → 0 < more n
unfolding more
more-pos n = go (ltb n 18446744073709551615) refl
  where
    go : (b : Bool) → ltb n 18446744073709551615 ≡ b → 0 < cond b (n + 1) n
    go true e = omega arith
    go false e = omega (arith, ltb-false n 18446744073709551615 e)

-- some line was counted, wherever lines were read
abbrev CountedLines : Result Cursor Refusal → Type 0
CountedLines (Ok c) = 0 < c.line
CountedLines (Err r) = Unit {0}

-- and wherever anything was
abbrev Counted : {A : Type 0} → Outcome A → Type 0
Counted (read x at line) = 0 < line
Counted (refused r) = Unit {0}

lines-counted : (s : List ℕ) (width shared n i at line : ℕ) (kept : List ℤ) → 0 < line → CountedLines (lines_at s width shared n i at line kept).answer
unfolding lines_at
lines-counted s width shared zero i at line kept h = h
lines-counted s width shared (suc n) i at line kept h =
    go (ltb at (length s)) (values_at s shared i width 0 at kept true) (λ a l. lines-counted s width shared n (i + 1) a (more line) l (more-pos line))
  where
    go : (b : Bool) (x : Line) → ((a : ℕ) (l : List ℤ) → CountedLines (lines_at s width shared n (i + 1) a (more line) l).answer)
        → CountedLines (cond b (after x (more line) (λ a l. lines_at s width shared n (i + 1) a (more line) l)) (lines_read (Err (refusal Ended line)) kept)).answer
    go true (full a l true) k = k a l
    go true (full a l false) k = tt
    go true (bad l) k = tt
    go false x k = tt

next-counted : (s : List ℕ) (n at line : ℕ) → 0 < line → Counted (next_at s n at line)
unfolding next_at
next-counted s n at line h = go (count_ok n) (ltb at (length s)) (ltb 1 line) (record_lines s n at line).answer (lines-counted s 5 2 n 0 at line [] h)
  where
    go : (b c d : Bool) (x : Result Cursor Refusal) → CountedLines x
        → Counted (cond b (cond c (found x (one (record_of (record_lines s n at line).kept))) (cond d (read none at line) (refused (refusal Ended line)))) (refused (refusal Points n)))
    go true true d (Ok a) k = k
    go true true d (Err r) k = tt
    go true false true x k = h
    go true false false x k = tt
    go false c d x k = tt

start-counted : (s : List ℕ) → CountedLines (storm_start s)
unfolding storm_start names_at
start-counted s = go (spells s 0 storm_names)
  where
    go : (b : Bool) → CountedLines (cond b (Ok (record { at = 0 + length storm_names; line = more 0 })) (Err (refusal Names (more 0))))
    go true = more-pos 0
    go false = tt

-- ---- the lines that come next

module _ (s : List ℕ) (t : Traverse) where
  -- where some line was counted, they are those of the records from the place on
  lines-on : (at line : ℕ) (st : State) (rows : List ℤ) → 0 < line → lines_from s t at line st rows ≡ storm_lines t st rows (storm_rest s (count t) at line)
  lines-on at line st rows l = rw (ne_eqb line 0 (omega arith))

  module _ (w : List ℕ) (o : ℕ) (last : Bool) (sh : Shows s w o last) (at : ℕ) (st : State) (rows : List ℤ) where
    start-then : (r : Result Cursor Refusal) → o ≡ 0 → CountedLines r →
        said_then s t o at 0 st rows (said_start (answered r)) ≡ storm_lines t st rows (storm_from r (storm_rest s (count t)))
    unfolding hydrograph_lines
    start-then (Ok d) z k = let e : o + d.at ≡ d.at = omega arith in lines-on (o + d.at) d.line st rows k ∙ rw e
    start-then (Err q) z k = refl

    start-tells : o ≡ 0 → said_then s t o at 0 st rows (start_turn w last) ≡ storm_lines t st rows (storm_of s (count t))
    unfolding start_step storm_of
    start-tells z = go (holds (length w) last 0 32) refl
      where
        go : (b : Bool) → holds (length w) last 0 32 ≡ b →
            said_then s t o at 0 st rows (said_start (cond b (answered (storm_start w)) (Err halt.More))) ≡ storm_lines t st rows (storm_from (storm_start s) (storm_rest s (count t)))
        go true e = rw (start-window s w o last sh z e) (start-then (storm_start w) z (start-counted w))
        go false e = refl

    taken_then : (told : Told) (line a l : ℕ) (st' : State) (rows' : List ℤ) → 0 < l →
        said_then s t o at line st rows (said_taken told a l st' rows') ≡ after_taken told st' rows' (λ x y. storm_lines t x y (storm_rest s (count t) (o + a) l))
    taken_then (answers.accepted elapsed low high) line a l st' rows' k = ap (λ (x : List ℕ). record_line elapsed low high ++ x) (lines-on (o + a) l st' rows' k)
    taken_then (answers.refused number place) line a l st' rows' k = refl

    next-then : (line : ℕ) (r : Outcome Further) → Counted r → said_then s t o at line st rows (said_seen (seen r) t st rows) ≡ storm_lines t st rows (storm_by (moved o r) (storm_rest s (count t)))
    unfolding hydrograph_lines
    next-then line (read (one r) a l) k = taken_then (taken_by t r st rows).answer line a l (taken_by t r st rows).state (taken_by t r st rows).rows k
    next-then line (read none a l) k = refl
    next-then line (refused q) k = refl

    record-tells : (line : ℕ) → o + at ≤ length s → 0 < line → said_then s t o at line st rows (record_turn t w last at line st rows) ≡ lines_from s t (o + at) line st rows
    unfolding record_step
    record-tells line h l = go (holds_record (length w) last (count t) at) refl
      where
        go : (b : Bool) → holds_record (length w) last (count t) at ≡ b →
            said_then s t o at line st rows (said_seen (cond b (seen (next_at w (count t) at line)) needs-more) t st rows) ≡ lines_from s t (o + at) line st rows
        go true e =
            next-then line (next_at w (count t) at line) (next-counted w (count t) at line l)
            ∙ sym (lines-on (o + at) line st rows l ∙ rw (storm-once s (count t) (o + at) line h, next-window s w o last sh (count t) at line e))
        go false e = refl

-- at any place of the text, be it one that the window does not reach
pub turn_at : (s w : List ℕ) (t : Traverse) (o : ℕ) (last : Bool) → Shows s w o last → (at line : ℕ) (st : State) (rows : List ℤ) → o + at ≤ length s → (line ≡ 0 → o ≡ 0)
    → said_then s t o at line st rows (turn_of t w last at line st rows) ≡ lines_from s t (o + at) line st rows
turn_at s w t o last sh at zero st rows h z = rw (turn-start t w last at 0 st rows refl) (start-tells s t w o last sh at st rows (z refl))
turn_at s w t o last sh at (suc line) st rows h z =
    rw (turn-record t w last at (suc line) st rows (λ e. omega arith)) (record-tells s t w o last sh at st rows (suc line) h (omega arith))

pub turn-tells : TurnTells
turn-tells s w t o last sh at line st rows h z = turn_at s w t o last sh at line st rows (omega (arith, sh.within)) z

-- ---- where a turn goes on

-- more is asked for only where the window is not the last and ends within the 3,575 bytes that a record of 65 points can take; a record moves the place on
abbrev pub Advances : ℕ → Bool → ℕ → ℕ → Said → Type 0
Advances size last at line Said.more = holds size last at longest_record ≡ false
Advances size last at line (reads a l) = (line ≡ 0) × ((0 < l) × (a ≤ size))
Advances size last at line (says bytes a l st rows) = (0 < line) × ((0 < l) × ((at < a) × (a ≤ size)))
Advances size last at line (ends bytes) = Unit {0}
Advances size last at line quiet = Unit {0}

-- what does not hold so many bytes does not hold more
holds-fewer : (size : ℕ) (last : Bool) (at need at' need' : ℕ) → at + need ≤ at' + need' → holds size last at need ≡ false → holds size last at' need' ≡ false
unfolding holds
holds-fewer size true at need at' need' h e = e
holds-fewer size false at need at' need' h e = lt-leb (at' + need') size (omega (arith, leb-false (at + need) size e))

-- past the end there is no record
next-within : (s : List ℕ) (n at line : ℕ) → Read-on (at + 1) (length s) (next_at s n at line)
next-within s n at line = go (leb at (length s)) refl
  where
    past : (b c : Bool) → Read-on (at + 1) (length s) (cond b (cond c (read none at line) (refused (refusal Ended line))) (refused (refusal Points n)))
    past true true = tt
    past true false = tt
    past false c = tt

    go : (b : Bool) → leb at (length s) ≡ b → Read-on (at + 1) (length s) (next_at s n at line)
    go true e = next-on s n at line (leb-true at (length s) e)
    go false e = unfold next_at in rw (le-ltb at (length s) (omega (arith, leb-false at (length s) e))) (past (count_ok n) (ltb 1 line))

module _ (w : List ℕ) (last : Bool) (at : ℕ) where
  start-on : (r : Result Cursor Refusal) → CountedLines r → Stays (length w) r → Advances (length w) last at 0 (said_start (answered r))
  start-on (Ok d) k h = (refl, (k, h))
  start-on (Err q) k h = tt

  start-moves : Advances (length w) last at 0 (start_turn w last)
  unfolding start_step
  start-moves = go (holds (length w) last 0 32) refl
    where
      go : (b : Bool) → holds (length w) last 0 32 ≡ b → Advances (length w) last at 0 (said_start (cond b (answered (storm_start w)) (Err halt.More)))
      go true e = start-on (storm_start w) (start-counted w) (start-stays w)
      go false e = holds-fewer (length w) last 0 32 at longest_record (omega arith) e

  module _ (t : Traverse) (line : ℕ) (st : State) (rows : List ℤ) (l : 0 < line) where
    taken-on : (told : Told) (a k : ℕ) (st' : State) (rows' : List ℤ) → 0 < k → at < a → a ≤ length w → Advances (length w) last at line (said_taken told a k st' rows')
    taken-on (answers.accepted elapsed low high) a k st' rows' c h i = (l, (c, (h, i)))
    taken-on (answers.refused number place) a k st' rows' c h i = tt

    record-on : (r : Outcome Further) → Counted r → Read-on (at + 1) (length w) r → Advances (length w) last at line (said_seen (seen r) t st rows)
    record-on (read (one r) a k) c h = taken-on (taken_by t r st rows).answer a k (taken_by t r st rows).state (taken_by t r st rows).rows c (omega arith) h.1
    record-on (read none a k) c h = tt
    record-on (refused q) c h = tt

    record-short : holds_record (length w) last (count t) at ≡ false → holds (length w) last at longest_record ≡ false
    unfolding holds_record
    record-short e = go (count_ok (count t)) (counts-in (count t)) e
      where
        go : (b : Bool) → (b ≡ true → (2 ≤ count t) × (count t ≤ 65)) → cond b (holds (length w) last at (count t * 55)) true ≡ false → holds (length w) last at longest_record ≡ false
        go true f e = let k = f refl in holds-fewer (length w) last at (count t * 55) at longest_record (omega arith) e
        go false f e = let z : ◌≡◌ {A = ℕ} 0 1 = cc in absurd (omega arith)

    record-moves : Advances (length w) last at line (record_turn t w last at line st rows)
    unfolding record_step
    record-moves = go (holds_record (length w) last (count t) at) refl
      where
        go : (b : Bool) → holds_record (length w) last (count t) at ≡ b → Advances (length w) last at line (said_seen (cond b (seen (next_at w (count t) at line)) needs-more) t st rows)
        go true e = record-on (next_at w (count t) at line) (next-counted w (count t) at line l) (next-within w (count t) at line)
        go false e = record-short e

pub turn-advances : (w : List ℕ) (last : Bool) (t : Traverse) (at line : ℕ) (st : State) (rows : List ℤ) → Advances (length w) last at line (turn_of t w last at line st rows)
turn-advances w last t at zero st rows = rw (turn-start t w last at 0 st rows refl) (start-moves w last at)
turn-advances w last t at (suc line) st rows = rw (turn-record t w last at (suc line) st rows (λ e. omega arith)) (record-moves w last at t (suc line) st rows (omega arith))
