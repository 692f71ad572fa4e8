-- Turn after turn on any windows of the storm text says the beginning of the storm's lines, all of them once it is finished, and finishes where enough
-- windows show what comes next; and on both files the listing's. Assumes nothing.
use mathlib.Core.Path.{◌≡◌, refl, ap, subst, ◌∙◌}
use mathlib.Core.Bool.{Bool, true, false}
use mathlib.Core.List.{List, [], ◌∷◌, ◌++◌, append_assoc, append-nil}
use native.Mathlib.Omega.{arith}
use Prim.Native.Nat.{ℕ, suc, ◌+◌, ◌-◌, ◌≤◌, ◌<◌}
use lib.ListN.{length}
use lib.IntN.{ℤ}
use Rattle.records.specs.Limits.{most_points}
use Rattle.records.specs.Shapes.{Traverse, count}
use Rattle.listing.specs.Lines.{names_line}
use Rattle.reader.specs.declared.traverse.TraverseRead.{TraverseRead}
use Rattle.reader.specs.Lines.{Outcome, read, refused, holds}
use Rattle.reader.specs.Storm.{storm_of, longest_record}
use Rattle.reader.specs.Traverse.{held, start, no_points, rest_at, traverse_read, traverse_left, traverse_by, traverse_of}
use Rattle.reader.specs.Window.{Cut, from_of, window_of, last_of, enough, TraverseRun, done, going, traverse_run, traverse_done}
use Rattle.reader.proofs.WindowLaws.{shows-cut}
use Rattle.reader.proofs.Windows.{cut_holds, enough-most, not-counted, back, traverse-by-windows, traverse-finishes}
use Rattle.march.specs.declared.State.{State}
use Rattle.march.specs.Checks.{open_of}
use Rattle.march.specs.Demand3.{fresh_rows}
use Rattle.march.specs.Answers.{ToldOpen, opened, not_opened}
use Rattle.hydrograph.specs.Listing.{storm_lines, after_opening, after_traverse, listing_of}
use Rattle.hydrograph.specs.Turns.{Said, more, reads, says, ends, quiet, turn_of, lines_from, said_then, Driven, also, drive_on, drive_from, said_open, begin_of, after_opened, read_traverse, after_whole, after_run, drive_all, StormBegins, StormDriven, StormEnds, ListingBegins, ListingDriven, ListingEnds, ListingWhole}
use Rattle.hydrograph.proofs.Tells.{turn_at, Advances, turn-advances}

-- ---- what was said begins the lines, is all of them once it is finished, and is finished on a condition

record Drives (condition : Type 0) (d : Driven) (lines : List ℕ) : Type 0 where
  rest : List ℕ
  joined : d.bytes ++ rest ≡ lines
  whole : d.finished ≡ true → d.bytes ≡ lines
  over : condition → d.finished ≡ true

-- no more windows
unsaid : {condition : Type 0} (lines : List ℕ) → (condition → ⊥) → Drives condition (record { bytes = []; finished = false }) lines
unsaid lines f = record { rest = lines; joined = refl; whole = λ e. let z : ◌≡◌ {A = ℕ} 0 1 = cc in absurd (omega arith); over = λ c. absurd (f c) }

-- the last bytes
all_said : {condition : Type 0} (bytes : List ℕ) → Drives condition (record { bytes = bytes; finished = true }) bytes
all_said bytes = record { rest = []; joined = append-nil bytes; whole = λ e. refl; over = λ c. refl }

-- some bytes before
said-before : {condition : Type 0} (bytes : List ℕ) {d : Driven} {lines : List ℕ} → Drives condition d lines → Drives condition (also bytes d) (bytes ++ lines)
said-before bytes {d} h =
    record { rest = h.rest; joined = append_assoc bytes d.bytes h.rest ∙ ap (λ (x : List ℕ). bytes ++ x) h.joined; whole = λ e. ap (λ (x : List ℕ). bytes ++ x) (h.whole e); over = h.over }

-- a condition that asks for more
on-more : {condition condition' : Type 0} {d : Driven} {lines : List ℕ} → (condition' → condition) → Drives condition d lines → Drives condition' d lines
on-more f h = record { rest = h.rest; joined = h.joined; whole = h.whole; over = λ c. h.over (f c) }

-- ---- a storm text

module _ (s : List ℕ) (t : Traverse) where
  -- from a place on. k is 0 before the names line and may be 1 after it: a window that is counted ends the reading or raises at + k by at least 1
  abbrev From : List Cut → Type 0
  From cuts =
      (at line k : ℕ) (st : State) (rows : List ℤ) → at ≤ length s → (line ≡ 0 → (at ≡ 0) × (k ≡ 0)) → k ≤ 1 →
      Drives (length s + 1 < at + k + enough longest_record cuts) (drive_from s t cuts at line st rows) (lines_from s t at line st rows)

  from_place : (cuts : List Cut) → From cuts
  unfolding drive_from
  from_place [] at line k st rows h z i = unsaid (lines_from s t at line st rows) (λ (f : length s + 1 < at + k + enough longest_record []). unfold enough in omega arith)
  from_place (c ∷ cuts) at line k st rows h z i =
      subst (Drives (length s + 1 < at + k + enough longest_record (c ∷ cuts)) (drive_on (turn_of t w last (at - o) line st rows) o at line st rows (drive_from s t cuts)))
      (turn_at s w t o last (shows-cut s c at h) (at - o) line st rows (omega arith) (λ e. omega (arith, z e)) ∙ ap (λ (a : ℕ). lines_from s t a line st rows) (back s c at h))
      (go (turn_of t w last (at - o) line st rows) (turn-advances w last t (at - o) line st rows) (from_place cuts))
    where
      o : ℕ
      o = from_of c at

      w : List ℕ
      w = window_of s c at

      last : Bool
      last = last_of s c at

      inside : o + length w ≤ length s
      inside = (shows-cut s c at h).within

      most : enough longest_record (c ∷ cuts) ≤ suc (enough longest_record cuts)
      most = enough-most longest_record c cuts

      go : (x : Said) → Advances (length w) last (at - o) line x → From cuts →
          Drives (length s + 1 < at + k + enough longest_record (c ∷ cuts)) (drive_on x o at line st rows (drive_from s t cuts)) (said_then s t o (at - o) line st rows x)
      go more m ih =
          rw (back s c at h)
          (on-more (λ f. omega (arith, not-counted longest_record c cuts (holds (length w) last (at - o) longest_record) (cut_holds s c at h longest_record) m)) (ih at line k st rows h z i))
      go (reads a l) m ih =
          on-more (λ f. omega (arith, most, z m.0)) (ih (o + a) l 1 st rows (omega (arith, inside)) (λ e. absurd (omega arith)) (omega arith))
      go (says bytes a l st' rows') m ih =
          said-before bytes (on-more (λ f. omega (arith, most)) (ih (o + a) l k st' rows' (omega (arith, inside)) (λ e. absurd (omega arith)) i))
      go (ends bytes) m ih = all_said bytes
      go quiet m ih = all_said []

  storm-tells : (cuts : List Cut) (st : State) (rows : List ℤ) → Drives (length s + 1 < enough longest_record cuts) (drive_from s t cuts 0 0 st rows) (storm_lines t st rows (storm_of s (count t)))
  storm-tells cuts st rows = on-more (λ f. omega arith) (from_place cuts 0 0 0 st rows (omega arith) (λ e. (refl, refl)) (omega arith))

pub storm-begins : StormBegins
storm-begins s t cuts st rows = let h = storm-tells s t cuts st rows in record { rest = h.rest; joined = h.joined }

pub storm-driven : StormDriven
storm-driven s t cuts st rows e = (storm-tells s t cuts st rows).whole e

pub storm-ends : StormEnds
storm-ends s t cuts st rows f = (storm-tells s t cuts st rows).over f

-- ---- both files

module _ (s : List ℕ) (cuts : List Cut) where
  by-opening : (t : Traverse) (told : ToldOpen) (st : State) →
      Drives (length s + 1 < enough longest_record cuts) (after_opened (said_open told st (fresh_rows t)) t s cuts) (after_opening told st t (storm_of s (count t)))
  by-opening t opened st = said-before names_line (storm-tells s t cuts st (fresh_rows t))
  by-opening t (not_opened number place) st = all_said _

  by-traverse : (x : Outcome TraverseRead) (points : List ℤ) →
      Drives (length s + 1 < enough longest_record cuts) (after_whole (traverse_read x) points s cuts) (after_traverse (traverse_by x points) s)
  unfolding traverse_read begin_of
  by-traverse (read x at line) points =
      let t = read_traverse x points in
      by-opening t (open_of most_points t).answer (open_of most_points t).state
  by-traverse (refused q) points = all_said _

  listing-tells : (tt : List ℕ) (cuts_t : List Cut) → Drives ((length tt < enough 33 cuts_t) × (length s + 1 < enough longest_record cuts)) (drive_all tt cuts_t s cuts) (listing_of tt s)
  unfolding drive_all listing_of traverse_left traverse_of
  listing-tells tt cuts_t = go (traverse_run tt cuts_t (held start no_points) 0 0) (traverse-by-windows tt cuts_t no_points) (traverse-finishes tt cuts_t no_points)
    where
      go : (r : TraverseRun) → traverse_done tt r ≡ traverse_left tt no_points → (length tt < enough 33 cuts_t → r ≡ done (traverse_left tt no_points)) →
          Drives ((length tt < enough 33 cuts_t) × (length s + 1 < enough longest_record cuts)) (after_run r s cuts) (listing_of tt s)
      go (done x) e f = rw e (on-more (λ c. c.1) (by-traverse (rest_at tt (held start no_points) 0 0).answer (rest_at tt (held start no_points) 0 0).numbers))
      go (going h at line) e f = unsaid (listing_of tt s) (λ c. let z : ◌≡◌ {A = ℕ} 0 1 = cc (f c.0) in omega arith)

pub listing_begins : ListingBegins
listing_begins tt cuts_t s cuts = let h = listing-tells s cuts tt cuts_t in record { rest = h.rest; joined = h.joined }

pub listing-driven : ListingDriven
listing-driven tt cuts_t s cuts e = (listing-tells s cuts tt cuts_t).whole e

pub listing-ends : ListingEnds
listing-ends tt cuts_t s cuts g f = (listing-tells s cuts tt cuts_t).over (g, f)

pub listing-whole : ListingWhole
listing-whole tt cuts_t s cuts g f =
    let e = listing-ends tt cuts_t s cuts g f in
    rw (← listing-driven tt cuts_t s cuts e, ← e)
