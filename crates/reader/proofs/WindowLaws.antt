-- What is read in a window is what is read of the text, where the window has the bytes that so many lines can take: eleven for each value. Assumes nothing.
use Rattle.std.proofs.Common.{Result, Ok, Err}
use mathlib.Core.Path.{◌≡◌, refl, sym, ◌∙◌, subst}
use mathlib.Core.Bool.{Bool, true, false, cond, ◌&&◌}
use mathlib.Core.List.{List, [], ◌∷◌}
use Prim.Native.Nat.{ℕ, zero, suc, ◌+◌, ◌-◌, ◌*◌, ◌<◌, ◌≤◌}
use native.Mathlib.Omega.{arith}
use native.Mathlib.Nat.{add_assoc, suc-mul}
use lib.ListN.{length, drop, length-take, length-drop, get_or-eq_default}
use lib.Seq.{get_or-take, get_or-drop}
use lib.Dec.{ltb, leb, eqb}
use lib.IntN.{ℤ}
use borrow.Author.Tests.{lt-ltb, le-ltb, ltb-true, ltb-false, leb-true}
use Rattle.reader.specs.Text.{more, byte, digit_at, digits, worth, negative_at, start_at, good_at, value_at, past_at, close_of}
use Rattle.records.specs.declared.Kind.TheVariants.{Names, Ended}
use Rattle.records.specs.Refusals.{refusal}
use Rattle.records.proofs.LimitLaws.{and_left}
use Rattle.reader.specs.Lines.{found, repeated, kept_with, same_with, Line, full, bad, closed_at, values_at, LinesRead, lines_read, after, lines_at, spells, names_at}
use Rattle.reader.specs.Window.{Shows, moved, window_of, last_of, from_of, Cut}
use Rattle.reader.proofs.Laws.{too_long}
use Rattle.reader.specs.declared.Cursor.{Cursor}
use Rattle.records.specs.declared.Refusal.{Refusal}

-- t is the text s from o on, as far as the first L bytes show: the same bytes, and the same end
pub record Window (s t : List ℕ) (o L : ℕ) : Type 0 where
  pub bytes : (j : ℕ) → j < L → byte s (o + j) ≡ byte t j
  pub ends : (j : ℕ) → j < L → ltb (o + j) (length s) ≡ ltb j (length t)

pub ltb-by : (a b c d : ℕ) → (d ≤ c → b ≤ a) → (c < d → a < b) → ltb a b ≡ ltb c d
ltb-by a b c d f g = go (ltb c d) refl
  where
    go : (t : Bool) → ltb c d ≡ t → ltb a b ≡ t
    go true e = lt-ltb a b (g (ltb-true c d e))
    go false e = le-ltb a b (f (ltb-false c d e))

-- a window that is not the last shows as far as it reaches, the last one as far as one likes
pub shows-far : (last : Bool) {s w : List ℕ} {o : ℕ} → Shows s w o last → (L : ℕ) → (last ≡ false → L ≤ length w) → Window s w o L
shows-far true {s} {w} {o} h L f =
    record {
      bytes = λ j p. by j (ltb j (length w)) refl;
      ends = λ j p. ltb-by (o + j) (length s) j (length w) (omega (arith, h.ends refl)) (omega (arith, h.ends refl));
    }
  where
    by : (j : ℕ) (b : Bool) → ltb j (length w) ≡ b → byte s (o + j) ≡ byte w j
    by j true e = h.bytes j (ltb-true _ _ e)
    by j false e =
        let p : length w ≤ j = ltb-false _ _ e in
        let q : length s ≤ o + j = omega (arith, h.ends refl) in
        get_or-eq_default s 0 q ∙ sym (get_or-eq_default w 0 p)
shows-far false {s} {w} {o} h L f =
    record {
      bytes = λ j p. h.bytes j (omega (arith, f refl));
      ends = λ j p. ltb-by (o + j) (length s) j (length w) (omega (arith, f refl)) (omega (arith, h.within));
    }

digits-few : (t : List ℕ) (n j : ℕ) → digits t n j ≤ n
unfolding digits
digits-few t zero j = omega arith
digits-few t (suc n) j = go (ltb (digit_at t j) 10) (digits-few t n (j + 1))
  where
    go : (b : Bool) → digits t n (j + 1) ≤ n → cond b (suc (digits t n (j + 1))) 0 ≤ suc n
    go true h = omega arith
    go false h = omega arith

start-few : (t : List ℕ) (j : ℕ) → start_at t j ≤ j + 1
unfolding start_at
start-few t j = go (negative_at t j)
  where
    go : (b : Bool) → cond b (j + 1) j ≤ j + 1
    go true = omega arith
    go false = omega arith

past-few : (t : List ℕ) (j : ℕ) → good_at t j ≡ true → past_at t j ≤ j + 10
unfolding past_at
past-few t j g = go (ltb 9 (digits t 10 (start_at t j))) refl
  where
    go : (b : Bool) → ltb 9 (digits t 10 (start_at t j)) ≡ b → start_at t j + digits t 10 (start_at t j) ≤ j + 10
    go true e = let f : true ≡ false = sym g ∙ too_long t j (ltb-true _ _ e) in absurd cc
    go false e = omega (arith, start-few t j, ltb-false 9 (digits t 10 (start_at t j)) e)

-- how far a line is read
abbrev Within : ℕ → Line → Type 0
Within b (full a kept same) = a ≤ b
Within b (bad kept) = Unit {0}

module _ (t : List ℕ) (shared i : ℕ) where
  values-few : (n k j : ℕ) (kept : List ℤ) (same : Bool) → Within (j + n * 11) (values_at t shared i n k j kept same)
  unfolding values_at
  values-few zero k j kept same = omega arith
  values-few (suc n) k j kept same = go (closed_at t n j) refl _ (values-few n (k + 1) (past_at t j + 1) (kept_with (repeated shared i k) (value_at t j) kept) (same_with (repeated shared i k) k (value_at t j) kept same))
    where
      wider : (b c : ℕ) (l : Line) → b ≤ c → Within b l → Within c l
      wider b c (full a o e) h r = omega arith
      wider b c (bad o) h r = tt

      go : (b : Bool) → closed_at t n j ≡ b → (l : Line) → Within (past_at t j + 1 + n * 11) l → Within (j + suc n * 11) (cond b l (bad kept))
      go true g l r = wider _ _ l (omega (arith, past-few t j (and_left (good_at t j) _ g))) r
      go false g l r = tt

-- what is read at a place of the window, said of the text
abbrev moved_line : ℕ → Line → Line
moved_line o (full a kept same) = full (o + a) kept same
moved_line o (bad kept) = bad kept

abbrev pub moved_answer : ℕ → Result Cursor Refusal → Result Cursor Refusal
moved_answer o (Ok c) = Ok (record { at = o + c.at; line = c.line })
moved_answer o (Err q) = Err q

abbrev pub moved_lines : ℕ → LinesRead → LinesRead
moved_lines o x = lines_read (moved_answer o x.answer) x.kept

pub found-moved : {A : Type 0} (o : ℕ) (r : Result Cursor Refusal) (x : A) → found (moved_answer o r) x ≡ moved o (found r x)
found-moved o (Ok c) x = refl
found-moved o (Err q) x = refl

module _ {s t : List ℕ} {o L : ℕ} (w : Window s t o L) where
  digit-local : (j : ℕ) → j < L → digit_at s (o + j) ≡ digit_at t j
  unfolding digit_at
  digit-local j h = rw (w.bytes j h)

  digits-local : (n j : ℕ) → j + n ≤ L → digits s n (o + j) ≡ digits t n j
  unfolding digits
  digits-local zero j h = refl
  digits-local (suc n) j h =
      let r : digits s n (o + (j + 1)) ≡ digits t n (j + 1) = digits-local n (j + 1) (omega arith) in
      rw (digit-local j (omega arith), add_assoc o j 1, r)

  worth-local : (n v j : ℕ) → j + n ≤ L → worth s v n (o + j) ≡ worth t v n j
  unfolding worth
  worth-local zero v j h = refl
  worth-local (suc n) v j h =
      rw (digit-local j (omega arith), add_assoc o j 1)
      (worth-local n (v * 10 + digit_at t j) (j + 1) (omega arith))

  start-local : (j : ℕ) → j < L → start_at s (o + j) ≡ o + start_at t j
  unfolding start_at
  start-local j h = rw (w.bytes j h) (go (negative_at t j))
    where
      go : (b : Bool) → cond b (o + j + 1) (o + j) ≡ o + cond b (j + 1) j
      go true = omega arith
      go false = refl

  module _ (j : ℕ) (h : j + 11 ≤ L) where
    good-local : good_at s (o + j) ≡ good_at t j
    unfolding good_at
    good-local =
        let a : start_at t j + 10 ≤ L = omega (arith, start-few t j) in
        let b : start_at t j < L = omega arith in
        rw (start-local j (omega arith), w.bytes j (omega arith), digits-local 10 (start_at t j) a, w.bytes (start_at t j) b)

    value-local : value_at s (o + j) ≡ value_at t j
    unfolding value_at
    value-local =
        let a : start_at t j + 10 ≤ L = omega (arith, start-few t j) in
        rw (start-local j (omega arith), w.bytes j (omega arith), digits-local 10 (start_at t j) a, worth-local (digits t 10 (start_at t j)) 0 (start_at t j) (omega (arith, digits-few t 10 (start_at t j))))

    past-local : past_at s (o + j) ≡ o + past_at t j
    unfolding past_at
    past-local =
        let a : start_at t j + 10 ≤ L = omega (arith, start-few t j) in
        rw (start-local j (omega arith), digits-local 10 (start_at t j) a, add_assoc)

  closed-local : (n j : ℕ) → j + 11 ≤ L → closed_at s n (o + j) ≡ closed_at t n j
  closed-local n j h = rw (good-local j h, past-local j h) (go (good_at t j) refl)
    where
      go : (b : Bool) → good_at t j ≡ b → (b && eqb (byte s (o + past_at t j)) (close_of n)) ≡ (b && eqb (byte t (past_at t j)) (close_of n))
      go true g = rw (w.bytes (past_at t j) (omega (arith, past-few t j g)))
      go false g = refl

  -- one value, from what holds of those after it
  value-step : (shared i n k j : ℕ) (kept : List ℤ) (same : Bool) → j + suc n * 11 ≤ L
      → ((a : ℕ) (x : List ℤ) (e : Bool) → a + n * 11 ≤ L → values_at s shared i n (k + 1) (o + a) x e ≡ moved_line o (values_at t shared i n (k + 1) a x e))
      → (b : Bool) → closed_at t n j ≡ b → values_at s shared i (suc n) k (o + j) kept same ≡ moved_line o (values_at t shared i (suc n) k j kept same)
  unfolding values_at
  value-step shared i n k j kept same h r false g = rw (closed-local n j (omega arith), g)
  value-step shared i n k j kept same h r true g =
      let f = past-few t j (and_left (good_at t j) _ g) in
      rw (closed-local n j (omega arith), g, past-local j (omega arith), value-local j (omega arith), add_assoc o (past_at t j) 1)
      (r (past_at t j + 1) (kept_with (repeated shared i k) (value_at t j) kept) (same_with (repeated shared i k) k (value_at t j) kept same) (omega arith))

  values-local : (shared i n k j : ℕ) (kept : List ℤ) (same : Bool) → j + n * 11 ≤ L → values_at s shared i n k (o + j) kept same ≡ moved_line o (values_at t shared i n k j kept same)
  values-local shared i zero k j kept same h = unfold values_at in refl
  values-local shared i (suc n) k j kept same h = value-step shared i n k j kept same h (λ a x e q. values-local shared i n (k + 1) a x e q) (closed_at t n j) refl

  line_step : (width shared n i j line : ℕ) (kept : List ℤ) → 0 < width → j + suc n * (width * 11) ≤ L
      → ((a : ℕ) (p : List ℤ) → a + n * (width * 11) ≤ L → lines_at s width shared n (i + 1) (o + a) (more line) p ≡ moved_lines o (lines_at t width shared n (i + 1) a (more line) p))
      → lines_at s width shared (suc n) i (o + j) line kept ≡ moved_lines o (lines_at t width shared (suc n) i j line kept)
  unfolding lines_at
  line_step width shared n i j line kept z h r =
      let k : j + n * (width * 11) + width * 11 ≤ L = omega (arith, suc-mul n (width * 11)) in
      rw (w.ends j (omega arith), values-local shared i width 0 j kept true (omega arith))
      (by (ltb j (length t)) (values_at t shared i width 0 j kept true) k (values-few t shared i width 0 j kept true))
    where
      by : (b : Bool) (l : Line) → j + n * (width * 11) + width * 11 ≤ L → Within (j + width * 11) l
          → cond b (after (moved_line o l) (more line) (λ a p. lines_at s width shared n (i + 1) a (more line) p)) (lines_read (Err (refusal Ended line)) kept)
          ≡ moved_lines o (cond b (after l (more line) (λ a p. lines_at t width shared n (i + 1) a (more line) p)) (lines_read (Err (refusal Ended line)) kept))
      by true (full a p true) k f = r a p (omega arith)
      by true (full a p false) k f = refl
      by true (bad p) k f = refl
      by false l k f = refl

  pub lines-local : (width shared n i j line : ℕ) (kept : List ℤ) → 0 < width → j + n * (width * 11) ≤ L
      → lines_at s width shared n i (o + j) line kept ≡ moved_lines o (lines_at t width shared n i j line kept)
  lines-local width shared zero i j line kept z h = unfold lines_at in refl
  lines-local width shared (suc n) i j line kept z h = line_step width shared n i j line kept z h (λ a p q. lines-local width shared n (i + 1) a (more line) p z q)

  spells-local : (want : List ℕ) (j : ℕ) → j + length want ≤ L → spells s (o + j) want ≡ spells t j want
  unfolding spells
  spells-local [] j h = refl
  spells-local (b ∷ want) j h =
      let r : spells s (o + (j + 1)) want ≡ spells t (j + 1) want = spells-local want (j + 1) (omega arith) in
      rw (w.ends j (omega arith), w.bytes j (omega arith), add_assoc o j 1, r)

  pub names-local : (want : List ℕ) (j line : ℕ) → j + length want ≤ L → names_at s want (o + j) line ≡ moved_answer o (names_at t want j line)
  unfolding names_at
  names-local want j line h = rw (spells-local want j h) (go (spells t j want))
    where
      go : (b : Bool) → cond b (Ok (record { at = o + j + length want; line = more line })) (Err (refusal Names (more line)))
          ≡ moved_answer o (cond b (Ok (record { at = j + length want; line = more line })) (Err (refusal Names (more line))))
      go true = rw (add_assoc o j (length want))
      go false = refl

  -- of the first line of a text
  pub names_same : (want : List ℕ) (line : ℕ) → o ≡ 0 → length want ≤ L → names_at s want 0 line ≡ names_at t want 0 line
  unfolding names_at
  names_same want line z h =
      let r : spells s (o + 0) want ≡ spells t 0 want = spells-local want 0 (omega arith) in
      let q : spells s 0 want ≡ spells t 0 want = subst (λ (x : ℕ). spells s (x + 0) want ≡ spells t 0 want) z r in
      rw q

-- a window that is cut out of a text shows it
pub shows-cut : (s : List ℕ) (c : Cut) (at : ℕ) → at ≤ length s → Shows s (window_of s c at) (from_of c at) (last_of s c at)
shows-cut s c at h =
    record {
      within = simp (length-take, length-drop) (omega arith);
      bytes = λ j p. sym (rw (get_or-take c.size (drop (at - c.back) s) j 0 (omega (arith, simp (length-take, length-drop) at p)), get_or-drop));
      ends = λ e. let q = leb-true (length s) (at - c.back + c.size) (shown-end c.shown e) in simp (length-take, length-drop) (omega arith);
    }
  where
    shown-end : (b : Bool) → cond b (leb (length s) (from_of c at + c.size)) false ≡ true → leb (length s) (from_of c at + c.size) ≡ true
    shown-end true e = e
    shown-end false e = absurd cc
