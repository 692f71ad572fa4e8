-- Laws of cards: one that is read ends past its start and within the text; and what `cards_by` makes of a place. Assumes nothing.
use Rattle.std.proofs.Common.{Option, Some, None}
use mathlib.Core.Path.{◌≡◌, refl, sym, ap}
use mathlib.Core.Bool.{Bool, true, false, cond}
use mathlib.Core.List.{List, [], ◌∷◌}
use Prim.Native.Nat.{ℕ, zero, suc, ◌+◌, ◌<◌, ◌≤◌}
use native.Mathlib.Omega.{arith}
use lib.ListN.{length}
use lib.Dec.{ltb, eqb}
use borrow.Author.Tests.{ltb-true, le-ltb, eqb-true}
use Rattle.records.proofs.LimitLaws.{and_left}
use Rattle.reader.specs.Text.{more, byte}
use Rattle.reader.proofs.Laws.{present}
use Rattle.deck.specs.declared.cards.Last.{Last}
use Rattle.deck.specs.declared.cards.Word.{Word}
use Rattle.deck.specs.Number.{count_at, worth_at, good_at, past_at, tenths_at, whole_at}
use Rattle.deck.specs.Cards.{Numbers, numbers, misshapen, before, numbers_at, Card, card, no_card, head_good, word_at, word_end, card_with, card_at, Cards, cards, after_card, cards_by}
use Rattle.deck.proofs.NumberLaws.{number-past}

-- so many numbers from a place on, at least one, have a byte each at least, and the line feed behind them stands in the text
pub record Spans (s : List ℕ) (at count past : ℕ) : Type 0 where
  pub some : 0 < count
  pub ends : at + count < past
  pub within : past ≤ length s

pub numbers-past : (s : List ℕ) (n at : ℕ) (ts : List ℕ) (w : Bool) (past : ℕ) → numbers_at s n at ≡ numbers ts w past → Spans s at (length ts) past
unfolding numbers_at
numbers-past s zero at ts w past e = absurd cc
numbers-past s (suc n) at ts w past e =
    go (good_at s at) refl (eqb (byte s (past_at s at)) 10) refl (eqb (byte s (past_at s at)) 32) (numbers_at s n (past_at s at + 1)) e
    (λ us v to. numbers-past s n (past_at s at + 1) us v to)
  where
    go : (g : Bool) → good_at s at ≡ g → (a : Bool) → eqb (byte s (past_at s at)) 10 ≡ a → (b : Bool) (x : Numbers)
        → cond g (cond a (numbers (tenths_at s at ∷ []) (whole_at s at) (past_at s at + 1)) (cond b (before (tenths_at s at) (whole_at s at) x) misshapen)) misshapen
        ≡ numbers ts w past
        → ((us : List ℕ) (v : Bool) (to : ℕ) → x ≡ numbers us v to → Spans s (past_at s at + 1) (length us) to) → Spans s at (length ts) past
    go true g true a b x e i =
        let k : (tenths_at s at ∷ []) ≡ ts = cc in
        let p : past_at s at + 1 ≡ past = cc in
        let h = present s (past_at s at) 10 (omega arith) (eqb-true _ _ a) in
        record { some = omega (arith, ap length k); ends = omega (arith, number-past s at g, ap length k); within = omega arith }
    go true g false a true (numbers us v to) e i =
        let k : (tenths_at s at ∷ us) ≡ ts = cc in
        let p : to ≡ past = cc in
        let h = i us v to refl in
        record { some = omega (arith, ap length k); ends = omega (arith, number-past s at g, ap length k); within = omega arith }
    go true g false a true misshapen e i = absurd cc
    go true g false a false x e i = absurd cc
    go false g a p b x e i = absurd cc

pub card-past : (s : List ℕ) (at end : ℕ) (word : Option Word) (k : ℕ) (ts : List ℕ) (w : Bool) (past : ℕ) → card_with s at end ≡ card word k (numbers ts w past)
    → Spans s at (length ts) past
unfolding card_with head_good
card-past s at end word k ts w past e = go (head_good s at end) refl e
  where
    go : (b : Bool) → head_good s at end ≡ b
        → cond b (card (word_at s at) (worth_at s (end + 1)) (numbers_at s 6 (end + 1 + count_at s (end + 1) + 1))) no_card ≡ card word k (numbers ts w past)
        → Spans s at (length ts) past
    go true b e =
        let n : numbers_at s 6 (end + 1 + count_at s (end + 1) + 1) ≡ numbers ts w past = cc in
        let h = numbers-past s 6 _ ts w past n in
        record { some = h.some; ends = omega (arith, ltb-true at end (and_left (ltb at end) _ b)); within = omega arith }
    go false b e = absurd cc

-- ---- the cards from a place on

-- behind a card they are read from past it on
after-same : (s : List ℕ) (at end line : ℕ) (l : Last) (x : Card) (f g : Last → ℕ → ℕ → Cards) → card_with s at end ≡ x
    → ((m : Last) (past : ℕ) → at < past → f m past line ≡ g m past line) → after_card x l line f ≡ after_card x l line g
after-same s at end line l (card (Some word) k (numbers ts w past)) f g e h =
    let r = card-past s at end (Some word) k ts w past e in
    rw (h (record { word = word; number = k }) past (omega arith))
after-same s at end line l (card None k (numbers ts w past)) f g e h = refl
after-same s at end line l (card word k misshapen) f g e h = refl
after-same s at end line l no_card f g e h = refl

pub cards-done : (s : List ℕ) (n : ℕ) (l : Last) (at line : ℕ) → length s ≤ at → cards_by s n l at line ≡ cards [] []
unfolding cards_by
cards-done s zero l at line h = refl
cards-done s (suc n) l at line h = rw le-ltb

-- with room for as many cards as there are bytes, it does not matter for how many
pub cards-fuel : (s : List ℕ) (n m : ℕ) (l : Last) (at line : ℕ) → length s ≤ at + n → length s ≤ at + m → cards_by s n l at line ≡ cards_by s m l at line
unfolding cards_by card_at
cards-fuel s zero m l at line p q = sym (cards-done s m l at line (omega arith))
cards-fuel s (suc n) zero l at line p q = cards-done s (suc n) l at line (omega arith)
cards-fuel s (suc n) (suc m) l at line p q =
    ap (λ (x : Cards). cond (ltb at (length s)) x (cards [] []))
    (after-same s at (word_end s (length s) at) (more line) l (card_at s at) (cards_by s n) (cards_by s m) refl
    (λ k past h. cards-fuel s n m k past (more line) (omega arith) (omega arith)))
