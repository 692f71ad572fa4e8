-- The checks of the cards refuse what `deck_of` refuses, and count what its lists hold. Assumes nothing.
use Rattle.std.specs.Prelude.{ok_or}
use Rattle.std.proofs.Common.{Option, Some, None, Result, Ok, Err}
use mathlib.Core.Path.{◌≡◌, refl, sym, ap, ◌∙◌}
use mathlib.Core.Bool.{Bool, true, false, cond, ◌&&◌}
use mathlib.Core.Logic.{◌⊎◌, inl, inr}
use mathlib.Core.List.{List}
use Prim.Native.Nat.{ℕ, zero, suc, ◌+◌, ◌-◌, ◌<◌, ◌≤◌}
use native.Mathlib.Omega.{arith}
use native.Mathlib.Nat.{add-zero}
use lib.ListN.{length, length-append}
use lib.Dec.{eqb}
use borrow.Author.Tests.{lt-ltb, le-ltb, eq-eqb, ne_eqb, eqb-true}
use Rattle.std.proofs.Math.Bool.{and-false}
use Rattle.records.proofs.LimitLaws.{and_right}
use Rattle.records.specs.declared.Kind.{Kind}
use Rattle.records.specs.declared.Kind.TheVariants.{Malformed, CardOrder, CardUnit}
use Rattle.records.specs.declared.Refusal.{Refusal}
use Rattle.records.specs.Refusals.{refusal}
use Rattle.reader.specs.Text.{more, byte}
use Rattle.reader.proofs.Laws.{present}
use Rattle.deck.specs.declared.CardCursor.{CardCursor}
use Rattle.deck.specs.declared.cards.Last.{Last}
use Rattle.deck.specs.declared.cards.Word.{Word}
use Rattle.deck.specs.declared.cards.Word.TheVariants.{Dist, Depth}
use Rattle.deck.specs.declared.cards.CardNumbers.{CardNumbers}
use Rattle.deck.specs.declared.cards.Counts.{Counts}
use Rattle.deck.specs.declared.cards.Tally.{Tally}
use Rattle.deck.specs.declared.numbers.Run.{Run}
use Rattle.deck.specs.Number.{count_good, cursor, run_at}
use Rattle.deck.specs.Cards.{Numbers, numbers, misshapen, numbers_at, Card, card, no_card, in_word, word_end, head_good, word_at, card_with, card_at, follows, Cards, cards, refused, in_front, after_card, cards_by}
use Rattle.deck.specs.Checks.{counted, card_number_good, with_numbers, with_card, placed_step, shape_step, card_step, tallied}
use Rattle.deck.proofs.CardLaws.{Spans, numbers-past, card-past, cards-done, cards-fuel}

-- ---- the numbers of a card

-- so many as were counted
pub counted-past : (s : List ℕ) (n at : ℕ) (x : CardNumbers) → counted 0 true (numbers_at s n at) ≡ Some x → Spans s at x.count x.past.at
counted-past s n at x e = go (numbers_at s n at) refl e
  where
    go : (ns : Numbers) → numbers_at s n at ≡ ns → counted 0 true ns ≡ Some x → Spans s at x.count x.past.at
    go (numbers ts w past) q e =
        let r = numbers-past s n at ts w past q in
        let k : record { count = 0 + length ts; whole = true && w; past = cursor past } ≡ x = cc in
        let a : 0 + length ts ≡ x.count = ap (λ (y : CardNumbers). y.count) k in
        let b : past ≡ x.past.at = ap (λ (y : CardNumbers). y.past.at) k in
        record { some = omega arith; ends = omega arith; within = omega arith }
    go misshapen q e = absurd cc

-- ---- a card

abbrev tallied_counts : ℕ → ℕ → Result Counts Refusal
tallied_counts n m = Ok (record { distances = n; depths = m })

-- the counts with a card more, and what is tallied behind it
with-counts : (c : Counts) (word : Word) (n : ℕ) → (with_numbers c word n).distances + (with_numbers c word n).depths ≤ c.distances + c.depths + n
unfolding with_numbers
with-counts c Dist n = omega arith
with-counts c Depth n = omega arith

with-front : (t : Tally) (word : Word) (k : ℕ) (ts : List ℕ) (x : Cards) → tallied t (in_front word ts x) ≡ tallied (with_card t word k (0 + length ts)) x
unfolding with_numbers
with-front t Dist k ts (cards ds hs) =
    ap (λ (n : ℕ). tallied_counts n (t.counts.depths + length hs)) (omega (arith, length-append ts ds))
with-front t Depth k ts (cards ds hs) =
    ap (λ (n : ℕ). tallied_counts (t.counts.distances + length ds) n) (omega (arith, length-append ts hs))
with-front t Dist k ts (refused r) = refl
with-front t Depth k ts (refused r) = refl

abbrev Stepped : Type 0
Stepped = Result (Tally × CardCursor) Kind

-- what is wrong with a card is wrong with the cards from it on
step-refused : (t : Tally) (x : Card) (line : ℕ) (next : Last → ℕ → ℕ → Cards) (kind : Kind) → card_step t x ≡ Err kind
    → tallied t (after_card x t.last line next) ≡ Err (refusal kind line)
unfolding placed_step
step-refused t (card (Some word) k (numbers ts w past)) line next kind e = go (follows t.last word k) w e
  where
    go : (a b : Bool)
        → cond {A = Stepped} a (cond (true && b) (Ok (with_card t word k (0 + length ts), cursor past)) (Err CardUnit)) (Err CardOrder) ≡ Err kind
        → tallied t (cond a (cond b (in_front word ts (next (record { word = word; number = k }) past line)) (refused (refusal CardUnit line))) (refused (refusal CardOrder line)))
        ≡ Err (refusal kind line)
    go true true e = absurd cc
    go true false e = cc
    go false b e = cc
step-refused t (card None k (numbers ts w past)) line next kind e = cc
step-refused t (card word k misshapen) line next kind e = cc
step-refused t no_card line next kind e = cc

-- a card that is read has its place among the cards and whole counts of tenths
placed-read : (t u : Tally) (word : Word) (k : ℕ) (x : CardNumbers) (c : CardCursor) → placed_step t word k x ≡ Ok (u, c)
    → (follows t.last word k ≡ true) × (x.whole ≡ true) × (with_card t word k x.count ≡ u) × (x.past ≡ c)
unfolding placed_step
placed-read t u word k x c e = go (follows t.last word k) x.whole e
  where
    go : (a b : Bool) → cond {A = Stepped} a (cond b (Ok (with_card t word k x.count, x.past)) (Err CardUnit)) (Err CardOrder) ≡ Ok (u, c)
        → (a ≡ true) × (b ≡ true) × (with_card t word k x.count ≡ u) × (x.past ≡ c)
    go true true e =
        let p : ◌≡◌ {A = Tally × CardCursor} (with_card t word k x.count, x.past) (u, c) = cc in
        (refl, refl, ap (λ (y : Tally × CardCursor). y.0) p, ap (λ (y : Tally × CardCursor). y.1) p)
    go true false e = absurd cc
    go false b e = absurd cc

-- ---- the cards from a place on

-- at the end of the text
pub cards-ended : (s : List ℕ) (n : ℕ) (t : Tally) (at line : ℕ) → length s ≤ at → Ok t.counts ≡ tallied t (cards_by s n t.last at line)
cards-ended s n t at line h = rw (cards-done s n t.last at line h, add-zero t.counts.distances, add-zero t.counts.depths)

-- what reading a card, in line `l`, does: `u` is tallied before the place past it
pub record Reads (s : List ℕ) (at line l : ℕ) (t u : Tally) (past : ℕ) : Type 0 where
  pub ends : at < past
  pub within : past ≤ length s
  pub counts : u.counts.distances + u.counts.depths + at ≤ t.counts.distances + t.counts.depths + past
  pub same : tallied u (cards_by s (length s - past) u.last past l) ≡ tallied t (cards_by s (length s - at) t.last at line)

module _ (s : List ℕ) (at line l : ℕ) (t : Tally) (h : at < length s) (m : l ≡ more line) where
  cards-on : cards_by s (length s - at) t.last at line ≡ after_card (card_at s at) t.last l (cards_by s (length s - (at + 1)))
  unfolding cards_by
  cards-on = let e : length s - at ≡ suc (length s - (at + 1)) = omega arith in rw (e, m, lt-ltb _ _ h)

  pub cards-refused : (kind : Kind) → card_step t (card_at s at) ≡ Err kind → Err (refusal kind l) ≡ tallied t (cards_by s (length s - at) t.last at line)
  cards-refused kind e = sym (ap (tallied t) cards-on ∙ step-refused t (card_at s at) l (cards_by s (length s - (at + 1))) kind e)

  pub cards-read : (u : Tally) (c : CardCursor) → card_step t (card_at s at) ≡ Ok (u, c) → Reads s at line l t u c.at
  unfolding card_at
  cards-read u c e = go (card_at s at) refl e
    where
      go : (x : Card) → card_at s at ≡ x → card_step t x ≡ Ok (u, c) → Reads s at line l t u c.at
      go (card (Some word) k (numbers ts w past)) q e =
          let p = placed-read t u word k (record { count = 0 + length ts; whole = true && w; past = cursor past }) c e in
          let r = card-past s at (word_end s (length s) at) (Some word) k ts w past q in
          let v = with_card t word k (0 + length ts) in
          let o = with-counts t.counts word (0 + length ts) in
          rw (← p.2, ← p.3)
          (record {
            ends = omega arith;
            within = omega arith;
            counts = omega arith;
            same = ap (tallied v) (cards-fuel s (length s - past) (length s - (at + 1)) v.last past l (omega arith) (omega arith))
                ∙ sym (with-front t word k ts (cards_by s (length s - (at + 1)) (record { word = word; number = k }) past l))
                ∙ ap (tallied t) (sym (cards-on ∙ rw (q, p.0, p.1)));
          })
      go (card None k (numbers ts w past)) q e = absurd cc
      go (card word k misshapen) q e = absurd cc
      go no_card q e = absurd cc

-- ---- the word of a card

-- it ends where the text does, at a space and at a line feed
outside-ended : (s : List ℕ) (at : ℕ) → length s ≤ at → in_word s at ≡ false
unfolding in_word
outside-ended s at h = rw le-ltb

outside-space : (s : List ℕ) (at : ℕ) → byte s at ≡ 32 → in_word s at ≡ false
unfolding in_word
outside-space s at e = simp (eq-eqb _ _ e, and-false)

outside-feed : (s : List ℕ) (at : ℕ) → byte s at ≡ 10 → in_word s at ≡ false
unfolding in_word
outside-feed s at e = simp (eq-eqb _ _ e, and-false)

word-ends : (s : List ℕ) (n at : ℕ) → in_word s at ≡ false → word_end s n at ≡ at
unfolding word_end
word-ends s zero at e = refl
word-ends s (suc n) at e = rw e

card-unclosed : (s : List ℕ) (at end : ℕ) → (byte s end ≡ 32 → ⊥) → card_with s at end ≡ no_card
unfolding card_with head_good
card-unclosed s at end p = simp (ne_eqb _ _ p, and-false)

-- from its start to a place where the byte b stands
module _ (s : List ℕ) (from at b : ℕ) (here : b ≡ byte s at) where
  pub word-on : from ≤ at → at < length s → (b ≡ 32 → ⊥) → (b ≡ 10 → ⊥)
      → word_end s (length s - (at + 1 - from)) (at + 1) ≡ word_end s (length s - (at - from)) at
  unfolding word_end in_word
  word-on f h p q =
      let e : length s - (at - from) ≡ suc (length s - (at + 1 - from)) = omega arith in
      rw (e, lt-ltb _ _ h, ← here, ne_eqb _ _ p, ne_eqb _ _ q)

  module _ (n : ℕ) (p : word_end s n at ≡ word_end s (length s) from) where
    ends-here : in_word s at ≡ false → card_at s from ≡ card_with s from at
    unfolding card_at
    ends-here e = ap (card_with s from) (sym p ∙ word-ends s n at e)

    pub card-closed : b ≡ 32 → card_at s from ≡ card_with s from at
    card-closed e = ends-here (outside-space s at (sym here ∙ e))

    pub card-cut : (b ≡ 32 → ⊥) → (length s ≤ at) ⊎ ((at < length s) × (b ≡ 10)) → card_at s from ≡ no_card
    card-cut q o = ends-here (outside o) ∙ card-unclosed s from at (λ e. q (here ∙ e))
      where
        outside : (length s ≤ at) ⊎ ((at < length s) × (b ≡ 10)) → in_word s at ≡ false
        outside (inl h) = outside-ended s at h
        outside (inr f) = outside-feed s at (sym here ∙ f.1)

-- ---- an Option's error

pub or-none : {A : Type 0} (o : Option A) {k e : Kind} → ◌≡◌ {A = Result A Kind} (Err e) (ok_or o k) → (o ≡ None) × (e ≡ k)
or-none None q = (refl, cc)
or-none (Some x) q = absurd cc

-- ---- a card behind its word

pub card-wordless : (s : List ℕ) (at end : ℕ) → end ≤ at → card_with s at end ≡ no_card
unfolding card_with head_good
card-wordless s at end h = rw le-ltb

pub number-space : (s : List ℕ) (count past : ℕ) → card_number_good s count past ≡ true → past < length s
unfolding card_number_good
number-space s count past e = present s past 32 (omega arith) (eqb-true _ _ (and_right (count_good count) (eqb (byte s past) 32) e))

-- with a word and a space, `n` is the run at the cursor `first` behind them
module _ (s : List ℕ) (at end : ℕ) (first : CardCursor) (n : Run) (h : at < end) (e : byte s end ≡ 32) (p : first ≡ cursor (end + 1)) (r : n ≡ run_at s first.at) where
  pub run-past : end < n.past.at
  unfolding run_at
  run-past = omega (arith, ap (λ (x : Run). x.past.at) r, ap (λ (c : CardCursor). c.at) p)

  card-numbered : card_with s at end ≡ cond (card_number_good s n.count n.past.at) (card (word_at s at) n.worth (numbers_at s 6 (n.past.at + 1))) no_card
  unfolding card_with head_good card_number_good run_at
  card-numbered = rw (r, p, lt-ltb _ _ h, eq-eqb _ _ e)

  module _ (t : Tally) where
    pub step-unnumbered : card_number_good s n.count n.past.at ≡ false → Err Malformed ≡ card_step t (card_with s at end)
    step-unnumbered g = rw (card-numbered, g)

    -- its numbers begin at the cursor `behind`
    pub step-numbered : card_number_good s n.count n.past.at ≡ true → (behind : CardCursor) → behind ≡ cursor (n.past.at + 1)
        → (word : Option Word) → word ≡ word_at s at → (x : Option CardNumbers) → x ≡ counted 0 true (numbers_at s 6 behind.at)
        → shape_step t word n.worth x ≡ card_step t (card_with s at end)
    step-numbered g behind b word w x q = rw (card-numbered, g, q, w, b)
