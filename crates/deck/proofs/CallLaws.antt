-- What the call leaves, from what the checks of the cards found. Assumes nothing.
use Rattle.std.proofs.Common.{Ok, Err}
use mathlib.Core.Path.{◌≡◌, refl, sym, ◌∙◌}
use mathlib.Core.Bool.{Bool, true, false, not}
use mathlib.Core.List.{List, ◌++◌}
use Prim.Native.Nat.{ℕ, ◌+◌}
use native.Mathlib.Omega.{arith}
use lib.ListN.{length}
use lib.Dec.{eqb}
use borrow.Author.Tests.{eq-eqb, ne_eqb, eqb-false, not-true}
use Rattle.records.specs.declared.Head.{Head}
use Rattle.records.specs.declared.Kind.TheVariants.{TraverseValue, Ended, CardCounts}
use Rattle.records.specs.declared.Refusal.{Refusal}
use Rattle.records.specs.CheckOrder.{need}
use Rattle.records.specs.Limits.{head_ok}
use Rattle.records.specs.Refusals.{refusal}
use Rattle.records.proofs.CheckOrderLaws.{need-passed}
use Rattle.deck.specs.declared.cards.Counts.{Counts}
use Rattle.deck.specs.Cards.{none, Cards, cards, refused, cards_by, deck_of}
use Rattle.deck.specs.Checks.{no_cards, tallied}
use Rattle.deck.specs.Deck.{traverse_text, head_lines, left_deck, LeftDeck, put_text, after_cards, convert_of}
use Rattle.deck.specs.Walk.{first_at, walked, lines_from}
use Rattle.deck.proofs.WalkLaws.{deck-lines}

-- ---- a need that refuses, and those of the call that pass

pub values-passed : (h : Head) {b : Bool} (q : Refusal) {u : Unit} → b ≡ head_ok h → Ok u ≡ need b q → head_ok h ≡ true
values-passed h {b} q e p = sym e ∙ need-passed b q (sym p)

pub byte-passed : (s : List ℕ) {b : Bool} (q : Refusal) {u : Unit} → b ≡ eqb (length s) 0 → Ok u ≡ need (not b) q → length s ≡ 0 → ⊥
byte-passed s {b} q e p = eqb-false (length s) 0 (sym e ∙ not-true b (need-passed (not b) q (sym p)))

-- ---- the call

module _ (h : Head) (room : List ℕ) where
  -- where the checks refuse, and where they count
  after-refused : (r : Refusal) (x : Cards) → Err r ≡ tallied no_cards x → after_cards h x room ≡ left_deck (Err r) room
  after-refused r (cards ds hs) e = cc
  after-refused r (refused q) e = cc

  after-unequal : (n : Counts) (x : Cards) → Ok n ≡ tallied no_cards x → (n.distances ≡ n.depths → ⊥)
      → after_cards h x room ≡ left_deck (Err (refusal CardCounts n.distances)) room
  after-unequal n (refused q) p u = absurd cc
  after-unequal n (cards ds hs) p u =
      let c : n ≡ record { distances = 0 + length ds; depths = 0 + length hs } = cc in
      let k : length ds ≡ n.distances = rw c (omega arith) in
      let l : length hs ≡ n.depths = rw c (omega arith) in
      rw (ne_eqb (length ds) (length hs) (λ (q : length ds ≡ length hs). u (omega arith)), k)

  after-equal : (s : List ℕ) (n : Counts) → Ok n ≡ tallied no_cards (deck_of s) → n.distances ≡ n.depths
      → after_cards h (deck_of s) room ≡ put_text (head_lines h ++ lines_from s n.distances (first_at s 0) (walked s n.distances (first_at s 0))) room
  unfolding traverse_text
  after-equal s n p u = go (deck_of s) refl p
    where
      go : (y : Cards) → deck_of s ≡ y → Ok n ≡ tallied no_cards y
          → after_cards h y room ≡ put_text (head_lines h ++ lines_from s n.distances (first_at s 0) (walked s n.distances (first_at s 0))) room
      go (refused q) w p = absurd cc
      go (cards ds hs) w p =
          let c : n ≡ record { distances = 0 + length ds; depths = 0 + length hs } = cc in
          let k : n.distances ≡ length ds = rw c (omega arith) in
          let j : n.depths ≡ length hs = rw c (omega arith) in
          let l : length ds ≡ length hs = omega arith in
          rw (k, deck-lines s ds hs w l, eq-eqb (length ds) (length hs) l)

  -- a given value does not pass; and the deck has no byte
  pub converts-valued : (s : List ℕ) → head_ok h ≡ false → left_deck (Err (refusal TraverseValue 0)) room ≡ convert_of h s room
  unfolding convert_of
  converts-valued s e = rw e

  pub converts-empty : (s : List ℕ) → head_ok h ≡ true → length s ≡ 0 → left_deck (Err (refusal Ended 0)) room ≡ convert_of h s room
  unfolding convert_of deck_of
  converts-empty s e z = rw (e, z)

  -- the given values pass, and the deck has a byte
  module _ (s : List ℕ) (ok : head_ok h ≡ true) (some : length s ≡ 0 → ⊥) where
    deck-is : deck_of s ≡ cards_by s (length s) none 0 0
    unfolding deck_of
    deck-is = rw (ne_eqb (length s) 0 some)

    converted : convert_of h s room ≡ after_cards h (deck_of s) room
    unfolding convert_of
    converted = rw ok

    pub converts-refused : (r : Refusal) → Err r ≡ tallied no_cards (cards_by s (length s) none 0 0) → left_deck (Err r) room ≡ convert_of h s room
    converts-refused r e = sym (converted ∙ after-refused r (deck_of s) (rw deck-is e))

    pub converts-unequal : (n : Counts) → Ok n ≡ tallied no_cards (cards_by s (length s) none 0 0) → (n.distances ≡ n.depths → ⊥)
        → left_deck (Err (refusal CardCounts n.distances)) room ≡ convert_of h s room
    converts-unequal n p u = sym (converted ∙ after-unequal n (deck_of s) (rw deck-is p) u)

    pub converts-equal : (n : Counts) → Ok n ≡ tallied no_cards (cards_by s (length s) none 0 0) → n.distances ≡ n.depths → {x : LeftDeck}
        → x ≡ put_text (head_lines h ++ lines_from s n.distances (first_at s 0) (walked s n.distances (first_at s 0))) room → x ≡ convert_of h s room
    converts-equal n p q f = f ∙ sym (converted ∙ after-equal s n (rw deck-is p) q)
