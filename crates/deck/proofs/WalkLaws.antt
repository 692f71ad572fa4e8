-- Two cursors that go over a sound deck meet just its distances and its depths; and there are no more of them than bytes, each of nine digits at
-- most. Assumes nothing.
use Rattle.std.proofs.Common.{Some, None}
use mathlib.Core.Path.{◌≡◌, refl, sym, ap, subst, ◌∙◌}
use mathlib.Core.Bool.{Bool, true, false, cond, not}
use mathlib.Core.List.{List, [], ◌∷◌, ◌++◌}
use Prim.Native.Nat.{ℕ, zero, suc, ◌+◌, ◌<◌, ◌≤◌}
use native.Mathlib.Omega.{arith}
use lib.ListN.{length, length-append}
use lib.Dec.{ltb, eqb}
use borrow.Author.Tests.{lt-ltb, ltb-true, ne_eqb, eqb-true, not-true}
use Rattle.records.proofs.LimitLaws.{and_left, and_right}
use Rattle.records.specs.declared.Kind.TheVariants.{Ended, CardOrder, CardUnit}
use Rattle.records.specs.Refusals.{refusal}
use Rattle.reader.specs.Text.{more, byte, digit_at, digits}
use Rattle.reader.proofs.Digits.{within}
use Rattle.reader.proofs.Laws.{never, present}
use Rattle.deck.specs.declared.cards.Word.{Word}
use Rattle.deck.specs.declared.cards.Word.TheVariants.{Dist, Depth}
use Rattle.deck.specs.declared.cards.Last.{Last}
use Rattle.deck.specs.Number.{count_at, worth_at, count_good, good_at, past_at, tenths_at, whole_at}
use Rattle.deck.specs.Cards.{in_word, word_end, word_at, Numbers, numbers, misshapen, before, numbers_at, head_good, Card, card, no_card, card_with, card_at}
use Rattle.deck.specs.Cards.{none, follows_by, follows, Cards, cards, refused, in_front, after_card, cards_by, deck_of}
use Rattle.deck.specs.Deck.{point_line, point_lines}
use Rattle.deck.specs.Walk.{past_spaces, first_at, next_from, next_at, numbers_from, walked, lines_from}
use Rattle.deck.proofs.Sizes.{Short}
use Rattle.deck.proofs.NumberLaws.{tenths-short}
use Rattle.deck.proofs.TextLaws.{spaces-fuel}
use Rattle.deck.proofs.CardLaws.{Spans, card-past}

-- ---- past the spaces of a card

module _ (s : List ℕ) where
  -- the place past the next k spaces
  abbrev over : ℕ → ℕ → ℕ
  over k at = past_spaces s (length s) k at

  over-none : (n at : ℕ) → past_spaces s n 0 at ≡ at
  unfolding past_spaces
  over-none zero at = refl
  over-none (suc n) at = refl

  over-byte : (k at : ℕ) → at < length s → over (suc k) at ≡ over (cond (eqb (byte s at) 32) k (suc k)) (at + 1)
  unfolding past_spaces
  over-byte k at h = spaces-fuel s (length s) (suc (length s)) (suc k) at (omega arith) (omega arith) ∙ rw (lt-ltb at (length s) h)

  over-other : (k at : ℕ) → at < length s → eqb (byte s at) 32 ≡ false → over (suc k) at ≡ over (suc k) (at + 1)
  over-other k at h e = over-byte k at h ∙ rw e

  over-space : (k at : ℕ) → byte s at ≡ 32 → over (suc k) at ≡ over k (at + 1)
  over-space k at e = over-byte k at (present s at 32 (omega arith) e) ∙ rw e

  over-word : (k n at : ℕ) → over (suc k) at ≡ over (suc k) (word_end s n at)
  unfolding word_end in_word
  over-word k zero at = refl
  over-word k (suc n) at = go (in_word s at) refl (over-word k n (at + 1))
    where
      go : (t : Bool) → in_word s at ≡ t → over (suc k) (at + 1) ≡ over (suc k) (word_end s n (at + 1))
          → over (suc k) at ≡ over (suc k) (cond t (word_end s n (at + 1)) at)
      go true e r =
          let a = ltb-true at (length s) (and_left (ltb at (length s)) _ e) in
          let b = and_left (not (eqb (byte s at) 32)) _ (and_right (ltb at (length s)) _ e) in
          over-other k at a (not-true _ b) ∙ r
      go false e r = refl

  digit-other : (at : ℕ) → digit_at s at < 10 → eqb (byte s at) 32 ≡ false
  unfolding digit_at
  digit-other at h = ne_eqb (byte s at) 32 (λ (e : byte s at ≡ 32). omega (arith, rw e at h))

  over-digits : (k n at : ℕ) → over (suc k) at ≡ over (suc k) (at + digits s n at)
  unfolding digits
  over-digits k zero at = ap (over (suc k)) (omega arith)
  over-digits k (suc n) at = go (ltb (digit_at s at) 10) refl (over-digits k n (at + 1))
    where
      go : (t : Bool) → ltb (digit_at s at) 10 ≡ t → over (suc k) (at + 1) ≡ over (suc k) (at + 1 + digits s n (at + 1))
          → over (suc k) at ≡ over (suc k) (at + cond t (suc (digits s n (at + 1))) 0)
      go true e r =
          let h : digit_at s at < 10 = ltb-true _ _ e in
          over-other k at (within s at h) (digit-other at h) ∙ r ∙ ap (over (suc k)) (omega arith)
      go false e r = ap (over (suc k)) (omega arith)

  -- where a card has its word and its card number, these two spaces stand behind them
  first-is : (at end : ℕ) → end ≡ word_end s (length s) at → head_good s at end ≡ true → first_at s at ≡ end + 1 + count_at s (end + 1) + 1
  unfolding head_good first_at count_at
  first-is at end w h =
      let a = and_right (ltb at end) _ h in
      let b = and_right (eqb (byte s end) 32) _ a in
      let p = eqb-true (byte s end) 32 (and_left (eqb (byte s end) 32) _ a) in
      let q = eqb-true (byte s (end + 1 + digits s 9 (end + 1))) 32 (and_right (count_good (digits s 9 (end + 1))) _ b) in
      over-word 1 (length s) at
      ∙ rw (← w)
      (over-space 1 end p
      ∙ over-digits 0 9 (end + 1)
      ∙ over-space 0 (end + 1 + digits s 9 (end + 1)) q
      ∙ over-none (length s) (end + 1 + digits s 9 (end + 1) + 1))

-- ---- numbers one behind the other

-- from a place on a cursor meets just these numbers, each short, and behind them it is at the place `to`
pub record Walks (s : List ℕ) (at : ℕ) (ts : List ℕ) (to : ℕ) : Type 0 where
  pub meets : numbers_from s (length ts) at ≡ ts
  pub ends : walked s (length ts) at ≡ to
  pub short : Short ts

module _ (s : List ℕ) where
  walks-none : (at : ℕ) → Walks s at [] at
  unfolding numbers_from walked
  walks-none at = record { meets = refl; ends = refl; short = tt }

  walks-one : (at to : ℕ) → good_at s at ≡ true → next_at s at ≡ to → Walks s at (tenths_at s at ∷ []) to
  unfolding numbers_from walked
  walks-one at to g e = record { meets = refl; ends = e; short = (tenths-short s at g, tt) }

  numbers-on : (n m at : ℕ) → numbers_from s (n + m) at ≡ numbers_from s n at ++ numbers_from s m (walked s n at)
  unfolding numbers_from walked
  numbers-on zero m at = let e : 0 + m ≡ m = omega arith in rw e
  numbers-on (suc n) m at =
      let e : suc n + m ≡ suc (n + m) = omega arith in
      rw e (ap (λ (x : List ℕ). tenths_at s at ∷ x) (numbers-on n m (next_at s at)))

  walked-on : (n m at : ℕ) → walked s (n + m) at ≡ walked s m (walked s n at)
  unfolding walked
  walked-on zero m at = let e : 0 + m ≡ m = omega arith in rw e
  walked-on (suc n) m at = let e : suc n + m ≡ suc (n + m) = omega arith in rw e (walked-on n m (next_at s at))

short-on : (ts us : List ℕ) → Short ts → Short us → Short (ts ++ us)
short-on [] us p q = q
short-on (t ∷ ts) us p q = (p.0, short-on ts us p.1 q)

walks-on : {s : List ℕ} {at : ℕ} {ts : List ℕ} {mid : ℕ} {us : List ℕ} {to : ℕ} → Walks s at ts mid → Walks s mid us to → Walks s at (ts ++ us) to
walks-on {s} {at} {ts} {mid} {us} {to} h g = record {
  meets = rw (length-append ts us, numbers-on s (length ts) (length us) at, h.ends, h.meets, g.meets);
  ends = rw (length-append ts us, walked-on s (length ts) (length us) at, h.ends) g.ends;
  short = short-on ts us h.short g.short;
}

-- ---- the numbers of a card

-- a cursor at the first of them meets them all, and then stands on the first number of the next card
NumbersWalk : List ℕ → ℕ → Numbers → Type 0
NumbersWalk s at (numbers ts whole past) = Walks s at ts (first_at s past)
NumbersWalk s at misshapen = Unit

module _ (s : List ℕ) where
  next-card : (at : ℕ) → byte s (past_at s at) ≡ 10 → next_at s at ≡ first_at s (past_at s at + 1)
  unfolding next_at next_from
  next-card at e = rw (lt-ltb _ _ (present s (past_at s at) 10 (omega arith) e), e)

  next-number : (at : ℕ) → byte s (past_at s at) ≡ 32 → next_at s at ≡ past_at s at + 1
  unfolding next_at next_from
  next-number at e = rw (lt-ltb _ _ (present s (past_at s at) 32 (omega arith) e), e)

  walks-before : (at : ℕ) (x : Numbers) → good_at s at ≡ true → byte s (past_at s at) ≡ 32 → NumbersWalk s (past_at s at + 1) x
      → NumbersWalk s at (before (tenths_at s at) (whole_at s at) x)
  unfolding NumbersWalk
  walks-before at (numbers ts whole past) g e h = walks-on (walks-one s at (past_at s at + 1) g (next-number at e)) h
  walks-before at misshapen g e h = tt

  numbers-walk : (n at : ℕ) → NumbersWalk s at (numbers_at s n at)
  unfolding numbers_at NumbersWalk
  numbers-walk zero at = tt
  numbers-walk (suc n) at = go (good_at s at) refl (eqb (byte s (past_at s at)) 10) refl (eqb (byte s (past_at s at)) 32) refl (numbers-walk n (past_at s at + 1))
    where
      go : (g : Bool) → good_at s at ≡ g → (t : Bool) → eqb (byte s (past_at s at)) 10 ≡ t → (u : Bool) → eqb (byte s (past_at s at)) 32 ≡ u
          → NumbersWalk s (past_at s at + 1) (numbers_at s n (past_at s at + 1))
          → NumbersWalk s at
          (cond g
          (cond t
          (numbers (tenths_at s at ∷ []) (whole_at s at) (past_at s at + 1))
          (cond u (before (tenths_at s at) (whole_at s at) (numbers_at s n (past_at s at + 1))) misshapen))
          misshapen)
      go false p t q u r h = tt
      go true p true q u r h = walks-one s at (first_at s (past_at s at + 1)) p (next-card at (eqb-true _ _ q))
      go true p false q false r h = tt
      go true p false q true r h = walks-before at (numbers_at s n (past_at s at + 1)) p (eqb-true _ _ r) h

-- ---- a card, and the cards

CardWalk : List ℕ → ℕ → Card → Type 0
CardWalk s at (card w n ns) = NumbersWalk s (first_at s at) ns
CardWalk s at no_card = Unit

card-walk : (s : List ℕ) (at : ℕ) → CardWalk s at (card_at s at)
unfolding card_at card_with CardWalk
card-walk s at = go (word_end s (length s) at) refl (head_good s at (word_end s (length s) at)) refl
  where
    go : (end : ℕ) → end ≡ word_end s (length s) at → (t : Bool) → head_good s at end ≡ t
        → CardWalk s at (cond t (card (word_at s at) (worth_at s (end + 1)) (numbers_at s 6 (end + 1 + count_at s (end + 1) + 1))) no_card)
    go end w false e = tt
    go end w true e =
        let start = end + 1 + count_at s (end + 1) + 1 in
        subst (λ (i : ℕ). NumbersWalk s i (numbers_at s 6 start)) (sym (first-is s at end w e)) (numbers-walk s 6 start)

-- of the cards from a place on, behind a card with the word w, a cursor meets first the distances and then the depths; behind DEPTH are no distances
record CardsWalks (s : List ℕ) (at : ℕ) (w : Word) (ds hs : List ℕ) : Type 0 where
  mid : ℕ
  to : ℕ
  distances : Walks s (first_at s at) ds mid
  depths : Walks s mid hs to
  few : at ≤ length s → at + length ds + length hs ≤ length s
  order : w ≡ Depth → ds ≡ []

CardsWalk : List ℕ → ℕ → Word → Cards → Type 0
CardsWalk s at w (cards ds hs) = CardsWalks s at w ds hs
CardsWalk s at w (refused r) = Unit

module _ (s : List ℕ) where
  no-card : (at : ℕ) (w : Word) → CardsWalk s at w (cards [] [])
  unfolding CardsWalk
  no-card at w = record {
    mid = first_at s at;
    to = first_at s at;
    distances = walks-none s (first_at s at);
    depths = walks-none s (first_at s at);
    few = λ h. omega arith;
    order = λ e. refl;
  }

  module _ (at past : ℕ) (ts : List ℕ) (h : Walks s (first_at s at) ts (first_at s past)) (b : Spans s at (length ts) past) where
    -- with a card in front
    dist-front : (x : Cards) → CardsWalk s past Dist x → CardsWalk s at Dist (in_front Dist ts x)
    unfolding CardsWalk
    dist-front (refused r) k = tt
    dist-front (cards ds hs) k = record {
      mid = k.mid;
      to = k.to;
      distances = walks-on h k.distances;
      depths = k.depths;
      few = λ l. omega (arith, b.ends, k.few b.within, length-append ts ds);
      order = λ (e : Dist ≡ Depth). cc;
    }

    depth-front : (u : Word) (x : Cards) → CardsWalk s past Depth x → CardsWalk s at u (in_front Depth ts x)
    unfolding CardsWalk walked
    depth-front u (refused r) k = tt
    depth-front u (cards (d ∷ ds) hs) k = let e : d ∷ ds ≡ [] = k.order refl in cc
    depth-front u (cards [] hs) k = record {
      mid = first_at s at;
      to = k.to;
      distances = walks-none s (first_at s at);
      depths = walks-on h (subst (λ (i : ℕ). Walks s i hs k.to) (sym k.distances.ends) k.depths);
      few = λ l. omega (arith, b.ends, k.few b.within, length-append ts hs);
      order = λ e. refl;
    }

    in-front : (u : Word) (m : ℕ) (w : Word) (n : ℕ) → follows_by u m w n ≡ true → (x : Cards) → CardsWalk s past w x → CardsWalk s at u (in_front w ts x)
    unfolding follows_by
    in-front Dist m Dist n e x k = dist-front x k
    in-front Dist m Depth n e x k = depth-front Dist x k
    in-front Depth m Dist n e x k = absurd (never e)
    in-front Depth m Depth n e x k = depth-front Depth x k

  after-card : (at : ℕ) (c : Card) (last : Last) (line : ℕ) (next : Last → ℕ → ℕ → Cards) → card_at s at ≡ c → CardWalk s at c
      → ((l : Last) (p k : ℕ) → CardsWalk s p l.word (next l p k)) → CardsWalk s at last.word (after_card c last line next)
  unfolding CardWalk NumbersWalk CardsWalk card_at follows
  after-card at no_card last line next q h k = tt
  after-card at (card w n misshapen) last line next q h k = tt
  after-card at (card None n (numbers ts whole past)) last line next q h k = tt
  after-card at (card (Some w) n (numbers ts whole past)) last line next q h k = go (follows_by last.word last.number w n) refl whole
    where
      go : (t : Bool) → follows_by last.word last.number w n ≡ t → (v : Bool)
          → CardsWalk s at last.word
          (cond t (cond v (in_front w ts (next (record { word = w; number = n }) past line)) (refused (refusal CardUnit line))) (refused (refusal CardOrder line)))
      go false e v = tt
      go true e false = tt
      go true e true =
          let b = card-past s at (word_end s (length s) at) (Some w) n ts whole past q in
          let l : Last = record { word = w; number = n } in
          in-front at past ts h b last.word last.number w n e (next l past line) (k l past line)

  cards-walk : (n : ℕ) (last : Last) (at line : ℕ) → CardsWalk s at last.word (cards_by s n last at line)
  unfolding cards_by
  cards-walk zero last at line = no-card at last.word
  cards-walk (suc n) last at line = go (ltb at (length s)) (after-card at (card_at s at) last (more line) (cards_by s n) refl (card-walk s at) (cards-walk n))
    where
      go : (t : Bool) → CardsWalk s at last.word (after_card (card_at s at) last (more line) (cards_by s n))
          → CardsWalk s at last.word (cond t (after_card (card_at s at) last (more line) (cards_by s n)) (cards [] []))
      go true h = h
      go false h = no-card at last.word

  deck-walk : CardsWalk s 0 Dist (deck_of s)
  unfolding deck_of CardsWalk
  deck-walk = go (eqb (length s) 0) (cards-walk (length s) none 0 0)
    where
      go : (t : Bool) → CardsWalk s 0 Dist (cards_by s (length s) none 0 0) → CardsWalk s 0 Dist (cond t (refused (refusal Ended 0)) (cards_by s (length s) none 0 0))
      go true h = tt
      go false h = h

  -- ---- the deck

  module _ (ds hs : List ℕ) (e : deck_of s ≡ cards ds hs) where
    deck-walks : CardsWalks s 0 Dist ds hs
    unfolding CardsWalk
    deck-walks = subst (CardsWalk s 0 Dist) e deck-walk

    pub deck-short : Short ds × Short hs
    deck-short = let k = deck-walks in (k.distances.short, k.depths.short)

    pub deck-few : length ds + length hs ≤ length s
    deck-few = omega (arith, deck-walks.few (omega arith))

    -- the cursors begin at the first distance and behind the last one
    pub deck-numbers : (numbers_from s (length ds) (first_at s 0) ≡ ds) × (numbers_from s (length hs) (walked s (length ds) (first_at s 0)) ≡ hs)
    deck-numbers = let k = deck-walks in (k.distances.meets, rw k.distances.ends k.depths.meets)

-- ---- lines

lines-are : (s : List ℕ) (n a b : ℕ) → lines_from s n a b ≡ point_lines (numbers_from s n a) (numbers_from s n b)
unfolding lines_from point_lines numbers_from
lines-are s zero a b = refl
lines-are s (suc n) a b = ap (λ (x : List ℕ). point_line (tenths_at s a) (tenths_at s b) ++ x) (lines-are s n (next_at s a) (next_at s b))

pub deck-lines : (s : List ℕ) (ds hs : List ℕ) → deck_of s ≡ cards ds hs → length ds ≡ length hs
    → lines_from s (length ds) (first_at s 0) (walked s (length ds) (first_at s 0)) ≡ point_lines ds hs
deck-lines s ds hs e n =
    let k = deck-numbers s ds hs e in
    lines-are s (length ds) (first_at s 0) (walked s (length ds) (first_at s 0)) ∙ rw (k.0, n, rw n at k.1)
