-- Reading by windows of any sizes gives what the whole text gives, and wide windows finish it: the statements of specs/Window.antt. Assumes nothing.
use Rattle.std.proofs.Common.{Result, Ok, Err}
use mathlib.Core.Path.{◌≡◌, refl, sym, ap, ◌∙◌, subst}
use mathlib.Core.Bool.{Bool, true, false, cond}
use mathlib.Core.List.{List, [], ◌∷◌}
use Prim.Native.Nat.{ℕ, suc, ◌+◌, ◌-◌, ◌*◌, ◌<◌, ◌≤◌}
use native.Mathlib.Omega.{arith}
use lib.ListN.{length, length-take, length-drop}
use lib.Dec.{leb}
use lib.IntN.{ℤ}
use borrow.Author.Tests.{leb-true, leb-false, le-leb}
use Rattle.records.specs.Limits.{count_ok}
use Rattle.records.specs.Shapes.{Record}
use Rattle.reader.specs.Lines.{Outcome, read, refused, Leaves, holds}
use Rattle.reader.specs.Storm.{storm_start, Further, one, none, next_at, Stop, ended, stopped, paused, unread, Storm, with, storm_by, storm_rest, storm_from, storm_of, answered, start_step, holds_record, record_step}
use Rattle.reader.specs.Traverse.{Held, held, start, rest_at, read_left, traverse_left}
use Rattle.reader.specs.Window.{carried_by, Cut, from_of, window_of, last_of, done, run_on, step_in, traverse_run, storm_on, storm_run, start_on, storm_text_run, traverse_done, storm_done_by, storm_done, shown_by, enough, TraverseByWindows, StormByWindows, StormTextByWindows, TraverseFinishes, StormFinishes}
use Rattle.reader.specs.declared.traverse.TraverseRead.{TraverseRead}
use Rattle.reader.specs.declared.traverse.Progress.{Progress}
use Rattle.reader.specs.declared.traverse.Progress.TheVariants as progress
use Rattle.reader.proofs.WindowLaws.{shows-cut}
use Rattle.reader.proofs.Steps.{start-window, record-by, storm-once, traverse-window}
use Rattle.reader.proofs.Ends.{Stands, traverse-stands, traverse-moves, Read-on, next-on, Stays, start-stays}
use Rattle.reader.specs.declared.Cursor.{Cursor}
use Rattle.records.specs.declared.Refusal.{Refusal}

-- ---- a window that is cut out of the text: what it shows, and its size

module _ (s : List ℕ) (c : Cut) (at : ℕ) (h : at ≤ length s) where
  pub back : from_of c at + (at - from_of c at) ≡ at
  back = omega arith

  -- it ends no further than the text
  cut-end : from_of c at + length (window_of s c at) ≤ length s
  cut-end = simp (length-take, length-drop) (omega arith)

  -- it holds so many bytes from the place on where it shows them, or the end
  pub cut_holds : (need : ℕ) → shown_by need c ≡ true → holds (length (window_of s c at)) (last_of s c at) (at - from_of c at) need ≡ true
  unfolding holds
  cut_holds need e = by c.shown e
    where
      reaches : (b : Bool) → leb (length s) (from_of c at + c.size) ≡ b → c.back + need ≤ c.size →
          cond b true (leb (at - from_of c at + need) (length (window_of s c at))) ≡ true
      reaches true e w = refl
      reaches false e w =
          let q = leb-false (length s) (from_of c at + c.size) e in
          le-leb (at - from_of c at + need) (length (window_of s c at)) (simp (length-take, length-drop) (omega arith))

      by : (b : Bool) → cond b (leb (c.back + need) c.size) false ≡ true →
          cond (cond b (leb (length s) (from_of c at + c.size)) false) true (leb (at - from_of c at + need) (length (window_of s c at))) ≡ true
      by true e = reaches (leb (length s) (from_of c at + c.size)) refl (leb-true (c.back + need) c.size e)
      by false e = absurd cc

-- ---- the windows that are counted

pub enough-most : (need : ℕ) (c : Cut) (cuts : List Cut) → enough need (c ∷ cuts) ≤ suc (enough need cuts)
unfolding enough
enough-most need c cuts = go (shown_by need c)
  where
    go : (b : Bool) → cond b (suc (enough need cuts)) (enough need cuts) ≤ suc (enough need cuts)
    go true = omega arith
    go false = omega arith

-- one that does not hold what it would show is not counted
pub not-counted : (need : ℕ) (c : Cut) (cuts : List Cut) (b : Bool) → (shown_by need c ≡ true → b ≡ true) → b ≡ false → enough need (c ∷ cuts) ≡ enough need cuts
unfolding enough
not-counted need c cuts b f e = go (shown_by need c) f
  where
    go : (x : Bool) → (x ≡ true → b ≡ true) → cond x (suc (enough need cuts)) (enough need cuts) ≡ enough need cuts
    go true g = let y : b ≡ true = g refl in absurd cc
    go false g = refl

-- ---- a traverse text

module _ (s : List ℕ) where
  -- what a step in a window leads to is what reading on leaves
  step_in-leaves : (c : Cut) (h : Held) (at line : ℕ) → at ≤ length s
      → carried_by s (from_of c at) (step_in s c h at line).answer (step_in s c h at line).numbers ≡ read_left (rest_at s h at line)
  step_in-leaves c h at line e =
      traverse-window s (window_of s c at) (from_of c at) (last_of s c at) (shows-cut s c at e) h (at - from_of c at) line
      ∙ ap (λ (a : ℕ). read_left (rest_at s h a line)) (back s c at e)

  step-in-stands : (c : Cut) (h : Held) (at line : ℕ) → at ≤ length s → Stands (at - from_of c at) (length s - from_of c at) (step_in s c h at line).answer
  step-in-stands c h at line e =
      traverse-stands (window_of s c at) (last_of s c at) (length s - from_of c at) (omega (arith, cut-end s c at e)) h (at - from_of c at) line (omega arith)

  traverse-from : (cuts : List Cut) (h : Held) (at line : ℕ) → at ≤ length s → traverse_done s (traverse_run s cuts h at line) ≡ read_left (rest_at s h at line)
  unfolding traverse_run
  traverse-from [] h at line e = refl
  traverse-from (c ∷ cuts) h at line e =
      go (step_in s c h at line).answer (step_in s c h at line).numbers (λ k a l p. traverse-from cuts k a l p) (step-in-stands c h at line e)
      ∙ step_in-leaves c h at line e
    where
      go : (p : Result Progress Refusal) (l : List ℤ) → ((x : Held) (a l : ℕ) → a ≤ length s → traverse_done s (traverse_run s cuts x a l) ≡ read_left (rest_at s x a l))
          → Stands (at - from_of c at) (length s - from_of c at) p → traverse_done s (run_on (from_of c at) p l (traverse_run s cuts)) ≡ carried_by s (from_of c at) p l
      go (Ok (progress.Read t)) l ih q = refl
      go (Ok (progress.More d k)) l ih q = ih (held k l) (from_of c at + d.at) d.line (omega arith)
      go (Err r) l ih q = refl

  -- a window that is counted takes reading at least one byte on, any other at least no byte back
  traverse-all : (cuts : List Cut) (h : Held) (at line : ℕ) → at ≤ length s → length s < at + enough 33 cuts → traverse_run s cuts h at line ≡ done (read_left (rest_at s h at line))
  unfolding traverse_run enough
  traverse-all [] h at line e f = absurd (omega arith)
  traverse-all (c ∷ cuts) h at line e f =
      by (shown_by 33 c) refl f (step_in s c h at line).answer (step_in s c h at line).numbers (λ k a l p q. traverse-all cuts k a l p q) (step-in-stands c h at line e)
      (λ q. traverse-moves (window_of s c at) (last_of s c at) (length s - from_of c at) (omega (arith, cut-end s c at e)) h (at - from_of c at) line (cut_holds s c at e 33 q))
      ∙ ap (λ (x : Leaves (Result TraverseRead Refusal)). done x) (step_in-leaves c h at line e)
    where
      go : (m : ℕ) (p : Result Progress Refusal) (l : List ℤ) → length s < at + (m + enough 33 cuts)
          → ((x : Held) (a l : ℕ) → a ≤ length s → length s < a + enough 33 cuts → traverse_run s cuts x a l ≡ done (read_left (rest_at s x a l)))
          → Stands (at - from_of c at + m) (length s - from_of c at) p → run_on (from_of c at) p l (traverse_run s cuts) ≡ done (carried_by s (from_of c at) p l)
      go m (Ok (progress.Read t)) l f ih q = refl
      go m (Ok (progress.More d k)) l f ih q = ih (held k l) (from_of c at + d.at) d.line (omega arith) (omega arith)
      go m (Err r) l f ih q = refl

      by : (b : Bool) → shown_by 33 c ≡ b → length s < at + cond b (suc (enough 33 cuts)) (enough 33 cuts) → (p : Result Progress Refusal) (l : List ℤ)
          → ((x : Held) (a l : ℕ) → a ≤ length s → length s < a + enough 33 cuts → traverse_run s cuts x a l ≡ done (read_left (rest_at s x a l)))
          → Stands (at - from_of c at) (length s - from_of c at) p → (shown_by 33 c ≡ true → Stands (at - from_of c at + 1) (length s - from_of c at) p)
          → run_on (from_of c at) p l (traverse_run s cuts) ≡ done (carried_by s (from_of c at) p l)
      by true e f p l ih u v = go 1 p l (omega arith) ih (v e)
      by false e f p l ih u v = go 0 p l (omega arith) ih (subst (λ (x : ℕ). Stands x (length s - from_of c at) p) (omega arith) u)

pub traverse-by-windows : TraverseByWindows
unfolding traverse_left
traverse-by-windows s cuts lent = traverse-from s cuts (held start lent) 0 0 (omega arith)

pub traverse-finishes : TraverseFinishes
unfolding traverse_left
traverse-finishes s cuts lent e = traverse-all s cuts (held start lent) 0 0 (omega arith) (omega arith)

-- ---- a storm text

module _ (s : List ℕ) (n : ℕ) where
  done-with : (r : Record) (x : Storm) → storm_done s n (with r x) ≡ with r (storm_done s n x)
  done-with r x = go x.records x.stop
    where
      go : (rs : List Record) (e : Stop) → storm_done_by s n (r ∷ rs) e ≡ with r (storm_done_by s n rs e)
      go rs ended = refl
      go rs (stopped q) = refl
      go rs (paused a l) = refl
      go rs unread = refl

  -- what the first of the windows makes of what is left
  cut_step : (c : Cut) (at line : ℕ) → at ≤ length s → (next : ℕ → ℕ → Storm)
      → storm_on (from_of c at) at line (record_step (window_of s c at) (last_of s c at) n (at - from_of c at) line) next
      ≡ cond (holds_record (length (window_of s c at)) (last_of s c at) n (at - from_of c at)) (storm_by (next_at s n at line) next) (next at line)
  cut_step c at line h next =
      subst (λ (a : ℕ). storm_on (from_of c at) a line (record_step (window_of s c at) (last_of s c at) n (at - from_of c at) line) next
      ≡ cond (holds_record (length (window_of s c at)) (last_of s c at) n (at - from_of c at)) (storm_by (next_at s n a line) next) (next a line))
      (back s c at h)
      (record-by s (window_of s c at) (from_of c at) (last_of s c at) (shows-cut s c at h) n (at - from_of c at) line next)

  storm-from : (cuts : List Cut) (at line : ℕ) → at ≤ length s → storm_done s n (storm_run s n cuts at line) ≡ storm_rest s n at line
  unfolding storm_run
  storm-from [] at line h = refl
  storm-from (c ∷ cuts) at line h =
      ap (storm_done s n) (cut_step c at line h (storm_run s n cuts))
      ∙ go (holds_record (length (window_of s c at)) (last_of s c at) n (at - from_of c at)) (λ a l p. storm-from cuts a l p)
    where
      by : (r : Outcome Further) → Read-on (at + 1) (length s) r → ((a l : ℕ) → a ≤ length s → storm_done s n (storm_run s n cuts a l) ≡ storm_rest s n a l)
          → storm_done s n (storm_by r (storm_run s n cuts)) ≡ storm_by r (storm_rest s n)
      by (read (one r) a l) z ih = done-with r (storm_run s n cuts a l) ∙ ap (with r) (ih a l (omega arith))
      by (read none a l) z ih = refl
      by (refused q) z ih = refl

      go : (b : Bool) → ((a l : ℕ) → a ≤ length s → storm_done s n (storm_run s n cuts a l) ≡ storm_rest s n a l)
          → storm_done s n (cond b (storm_by (next_at s n at line) (storm_run s n cuts)) (storm_run s n cuts at line)) ≡ storm_rest s n at line
      go true ih = by (next_at s n at line) (next-on s n at line h) ih ∙ sym (storm-once s n at line h)
      go false ih = ih at line h

  shown-holds : (c : Cut) (at : ℕ) → at ≤ length s → shown_by (n * 55) c ≡ true → holds_record (length (window_of s c at)) (last_of s c at) n (at - from_of c at) ≡ true
  unfolding holds_record
  shown-holds c at h b = go (count_ok n)
    where
      go : (x : Bool) → cond x (holds (length (window_of s c at)) (last_of s c at) (at - from_of c at) (n * 55)) true ≡ true
      go true = cut_holds s c at h (n * 55) b
      go false = refl

  storm-all : (cuts : List Cut) (at line : ℕ) → at ≤ length s → length s < at + enough (n * 55) cuts → storm_run s n cuts at line ≡ storm_rest s n at line
  unfolding storm_run
  storm-all [] at line h e = absurd (unfold enough in omega arith)
  storm-all (c ∷ cuts) at line h e =
      cut_step c at line h (storm_run s n cuts)
      ∙ go (holds_record (length (window_of s c at)) (last_of s c at) n (at - from_of c at)) refl (λ a l p q. storm-all cuts a l p q)
    where
      by : (r : Outcome Further) → Read-on (at + 1) (length s) r → ((a l : ℕ) → a ≤ length s → length s < a + enough (n * 55) cuts → storm_run s n cuts a l ≡ storm_rest s n a l)
          → storm_by r (storm_run s n cuts) ≡ storm_by r (storm_rest s n)
      by (read (one r) a l) z ih = ap (with r) (ih a l (omega arith) (omega (arith, enough-most (n * 55) c cuts)))
      by (read none a l) z ih = refl
      by (refused q) z ih = refl

      go : (b : Bool) → holds_record (length (window_of s c at)) (last_of s c at) n (at - from_of c at) ≡ b
          → ((a l : ℕ) → a ≤ length s → length s < a + enough (n * 55) cuts → storm_run s n cuts a l ≡ storm_rest s n a l)
          → cond b (storm_by (next_at s n at line) (storm_run s n cuts)) (storm_run s n cuts at line) ≡ storm_rest s n at line
      go true f ih = by (next_at s n at line) (next-on s n at line h) ih ∙ sym (storm-once s n at line h)
      go false f ih =
          ih at line h
          (omega (arith, not-counted (n * 55) c cuts (holds_record (length (window_of s c at)) (last_of s c at) n (at - from_of c at)) (shown-holds c at h) f))

pub storm-by-windows : StormByWindows
storm-by-windows s n cuts at line h = storm-from s n cuts at line h

pub storm-finishes : StormFinishes
storm-finishes s n cuts at line h e = storm-all s n cuts at line h e

-- the names line, and then the records
storm-text-from : (s : List ℕ) (n : ℕ) (cuts : List Cut) → storm_done s n (storm_text_run s n cuts) ≡ storm_of s n
unfolding storm_text_run
storm-text-from s n [] = refl
storm-text-from s n (c ∷ cuts) = go (holds (length (window_of s c 0)) (last_of s c 0) 0 32) refl (storm-text-from s n cuts)
  where
    opened : (r : Result Cursor Refusal) → Stays (length s) r → storm_done s n (start_on (answered r) (storm_text_run s n cuts) (storm_run s n cuts)) ≡ storm_from r (storm_rest s n)
    opened (Ok d) h = storm-from s n cuts d.at d.line h
    opened (Err q) h = refl

    go : (b : Bool) → holds (length (window_of s c 0)) (last_of s c 0) 0 32 ≡ b → storm_done s n (storm_text_run s n cuts) ≡ storm_of s n
        → storm_done s n (start_on (start_step (window_of s c 0) (last_of s c 0)) (storm_text_run s n cuts) (storm_run s n cuts)) ≡ storm_of s n
    go true e ih =
        unfold start_step storm_of in
        rw (e, sym (start-window s (window_of s c 0) (from_of c 0) (last_of s c 0) (shows-cut s c 0 (omega arith)) (omega arith) e))
        (opened (storm_start s) (start-stays s))
    go false e ih = unfold start_step in rw e ih

pub storm-text-by-windows : StormTextByWindows
storm-text-by-windows s n cuts = storm-text-from s n cuts
