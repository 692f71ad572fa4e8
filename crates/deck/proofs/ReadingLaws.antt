-- The ordinary reader reads a text that was written as just the points of the deck: the statement of specs/Reading.antt. Assumes nothing.
use Rattle.std.proofs.Common.{Some, None, Result, Ok, Err}
use mathlib.Core.Path.{◌≡◌, refl, sym, ap, subst, ◌∙◌}
use mathlib.Core.Bool.{Bool, true, false, cond, ◌&&◌}
use mathlib.Core.List.{List, [], ◌∷◌, ◌++◌, append_assoc, append-nil}
use Prim.Native.Nat.{ℕ, suc, ◌+◌, ◌*◌, ◌^◌, ◌<◌, ◌≤◌}
use native.Mathlib.Omega.{arith}
use lib.ListN.{length, take, drop, length-append}
use lib.Seq.{take-append_seam}
use lib.Dec.{leb, eqb}
use lib.IntN.{ℤ, pos, negsuc}
use lib.Signed.{le_z}
use borrow.Author.Tests.{lt-ltb, le-ltb, ltb-false, ne_eqb, eqb-true, leb-true, not-true}
use Rattle.records.specs.declared.Head.{Head}
use Rattle.records.specs.declared.Refusal.{Refusal}
use Rattle.records.specs.declared.Station.{Station}
use Rattle.records.specs.declared.Kind.TheVariants as kind
use Rattle.records.specs.Groups.{wholes, group_at, station_count, of_station}
use Rattle.records.specs.Limits.{inside, count_ok, latitude_ok, friction_ok, initial_ok, head_ok}
use Rattle.records.specs.Refusals.{refusal}
use Rattle.records.specs.Shapes.{traverse}
use Rattle.records.proofs.LimitLaws.{and_left, and_right, counts-in}
use Rattle.records.proofs.GroupLaws.{wholes-times}
use Rattle.listing.specs.Decimal.{signed_text}
use Rattle.listing.specs.Lines.{values_line}
use Rattle.listing.specs.Put.{written}
use Rattle.reader.specs.Text.{more, close_of}
use Rattle.reader.specs.Lines.{Outcome, read, refused, found, Leaves, names_at}
use Rattle.reader.specs.Traverse.{head_names, point_names, Held, held, start, with_values, stored_at, with_point, line_at}
use Rattle.reader.specs.Traverse.{counted_by, end_at, end_of, on_rest, rest_at, no_points, traverse_by, traverse_of}
use Rattle.reader.specs.declared.traverse.Known.{Known}
use Rattle.reader.specs.declared.traverse.Known.TheVariants.{Names, Values, Columns, Points}
use Rattle.reader.specs.declared.traverse.TraverseRead.{TraverseRead}
use Rattle.reader.proofs.Laws.{never}
use Rattle.reader.proofs.TraverseLaws.{rest_end, rest-line}
use Rattle.reader.proofs.TraverseLent.{stored-size, stored-at}
use Rattle.deck.specs.declared.cards.Word.{Word}
use Rattle.deck.specs.declared.cards.Word.TheVariants.{Dist, Depth}
use Rattle.deck.specs.declared.cards.Last.{Last}
use Rattle.deck.specs.Cards.{word_end, numbers, misshapen, Card, card, no_card, card_at}
use Rattle.deck.specs.Cards.{none, follows_by, follows, Cards, cards, refused as refused_deck, in_front, after_card, cards_by, deck_of}
use Rattle.deck.specs.Deck.{point_line, point_lines, head_lines, traverse_text, LeftDeck, left_deck, put_text, after_cards, convert_of}
use Rattle.deck.specs.Reading.{paired, DeckIsRead}
use Rattle.deck.proofs.Sizes.{Short}
use Rattle.deck.proofs.CardLaws.{card-past}
use Rattle.deck.proofs.WalkLaws.{deck-short, deck-few}
use Rattle.deck.proofs.SpeltLaws.{From, from-start, from-past, Nine, line_text, AllNine, line-within, line-spelt, names-are}

-- ---- the lines

point-values : (d h : ℕ) → point_line d h ≡ line_text (pos d ∷ pos h ∷ [])
unfolding point_line line_text signed_text close_of
point-values d h = simp append_assoc

more-one : (n : ℕ) → n + 1 < 2 ^ 64 → more n ≡ n + 1
unfolding more
more-one n h = rw (lt-ltb n 18446744073709551615 (omega arith))

-- a line that was read: the rest is what is behind it
rest-read : (s : List ℕ) (h x : Held) (at line a l : ℕ) → at < length s → line_at s h at line ≡ read x a l → rest_at s h at line ≡ rest_at s x a l
rest-read s h x at line a l e p = rest-line s h at line e ∙ ap (λ (o : Outcome Held). on_rest h o (rest_at s)) p

-- ---- the points

abbrev counting : Head → ℕ → Known
counting h n = Points (record { head = h; count = n })

abbrev station : ℕ → ℕ → Station
station d h = record { distance = pos d; depth = pos h }

-- behind n points, kept in l, the points ds and hs are read as that, and then the text ends
record AfterPoints (s : List ℕ) (x : Head) (n : ℕ) (l : List ℤ) (at line m : ℕ) (ds hs : List ℕ) : Type 0 where
  pub points : List ℤ
  pub rest : rest_at s (held (counting x n) l) at line ≡ end_of (held (counting x m) points) (length s) (line + length ds)
  pub size : length points ≡ length l
  pub same : m ≤ station_count l → take (2 * m) points ≡ take (2 * n) l ++ paired ds hs

point-read : (s : List ℕ) (x : Head) (n : ℕ) (l : List ℤ) (at line d h : ℕ) (t : List ℕ) → From s at (point_line d h ++ t) → d < 1000000000 → h < 1000000000
    → n + 1 < 2 ^ 64 → line + 1 < 2 ^ 64
    → rest_at s (held (counting x n) l) at line ≡ rest_at s (held (counting x (n + 1)) (stored_at l n (station d h))) (at + length (point_line d h)) (line + 1)
unfolding line_at with_point group_at
point-read s x n l at line d h t f p q u v =
    let g : From s at (line_text (pos d ∷ pos h ∷ []) ++ t) = rw (point-values d h) at f in
    let r = line-spelt s t (pos d) (pos h ∷ []) at line g (p, (q, tt)) in
    rest-read s (held (counting x n) l) (held (counting x (n + 1)) (stored_at l n (station d h))) at line (at + length (point_line d h)) (line + 1)
    (line-within s t (pos d) (pos h ∷ []) at g)
    (rw (r, more-one n u, more-one line v, point-values d h))

after-points : (s : List ℕ) (x : Head) (n : ℕ) (l : List ℤ) (at line m : ℕ) (ds hs : List ℕ) → From s at (point_lines ds hs) → length ds ≡ length hs → Short ds → Short hs
    → m ≡ n + length ds → m < 2 ^ 64 → line + length ds < 2 ^ 64 → AfterPoints s x n l at line m ds hs
unfolding point_lines paired
after-points s x n l at line m [] [] f e p q k u v =
    let a : at ≡ length s = omega (arith, f.size) in
    let b : m ≡ n = omega arith in
    let c : line + 0 ≡ line = omega arith in
    record {
      points = l;
      rest = rest_end s (held (counting x n) l) at line (omega arith) ∙ rw (a, b, c);
      size = refl;
      same = λ r. rw b (sym (append-nil (take (2 * n) l)));
    }
after-points s x n l at line m [] (h ∷ hs) f e p q k u v = absurd (omega arith)
after-points s x n l at line m (d ∷ ds) [] f e p q k u v = absurd (omega arith)
after-points s x n l at line m (d ∷ ds) (h ∷ hs) f e p q k u v =
    let o : List ℤ = stored_at l n (station d h) in
    let z : length o ≡ length l = stored-size l n (station d h) in
    let g : From s (at + length (point_line d h)) (point_lines ds hs) = from-past (point_line d h) (point_lines ds hs) f in
    let r = after-points s x (n + 1) o (at + length (point_line d h)) (line + 1) m ds hs g (omega arith) p.1 q.1 (omega arith) u (omega arith) in
    let c : line + 1 + length ds ≡ line + suc (length ds) = omega arith in
    record {
      points = r.points;
      rest = point-read s x n l at line d h (point_lines ds hs) f p.0 q.0 (omega arith) (omega arith) ∙ r.rest ∙ rw c;
      size = r.size ∙ z;
      same = λ y. r.same (rw z y) ∙ rw (stored-at l n (station d h) (omega arith)) (append_assoc (take (2 * n) l) (of_station (station d h)) (paired ds hs));
    }

-- ---- the text

-- the given values in the order of their line
head_values : Head → List ℤ
head_values h = h.latitude ∷ h.friction ∷ h.initial ∷ []

head-values : (h : Head) → values_line h.latitude h.friction h.initial ≡ line_text (head_values h)
unfolding values_line line_text close_of head_values
head-values h = simp append_assoc

abbrev knowing : Known → Held
knowing k = held k no_points

-- a line of names that stands there, and what comes behind it
names-read : (s want t : List ℕ) (k j : Known) (at line : ℕ) → From s at (want ++ t) → 0 < length want → line + 1 < 2 ^ 64
    → line_at s (knowing k) at line ≡ found (names_at s want at line) (knowing j)
    → rest_at s (knowing k) at line ≡ rest_at s (knowing j) (at + length want) (line + 1)
names-read s want t k j at line f e u g =
    rest-read s (knowing k) (knowing j) at line (at + length want) (line + 1) (omega (arith, f.size, length-append want t))
    (g ∙ rw (names-are s want t at line f, more-one line u))

-- the line of the given values
values-read : (s t : List ℕ) (h : Head) (at line : ℕ) → From s at (line_text (head_values h) ++ t) → AllNine (head_values h) → line + 1 < 2 ^ 64
    → rest_at s (knowing Values) at line ≡ rest_at s (knowing (Columns h)) (at + length (line_text (head_values h))) (line + 1)
unfolding line_at with_values head_values
values-read s t h at line f n u =
    rest-read s (knowing Values) (knowing (Columns h)) at line (at + length (line_text (head_values h))) (line + 1)
    (line-within s t h.latitude (h.friction ∷ h.initial ∷ []) at f)
    (rw (line-spelt s t h.latitude (h.friction ∷ h.initial ∷ []) at line f n, more-one line u))

-- behind the first three lines stand the points
record BeforePoints (s : List ℕ) (h : Head) (t : List ℕ) : Type 0 where
  pub at : ℕ
  pub from : From s at t
  pub rest : rest_at s (held start no_points) 0 0 ≡ rest_at s (knowing (counting h 0)) at 3

before-points : (s : List ℕ) (h : Head) (t : List ℕ) → From s 0 (head_names ++ (line_text (head_values h) ++ (point_names ++ t))) → AllNine (head_values h) → BeforePoints s h t
unfolding line_at start
before-points s h t f n =
    let v : List ℕ = line_text (head_values h) in
    let a : ℕ = 0 + length head_names in
    let g : From s a (v ++ (point_names ++ t)) = from-past head_names (v ++ (point_names ++ t)) f in
    let k : From s (a + length v) (point_names ++ t) = from-past v (point_names ++ t) g in
    record {
      at = a + length v + length point_names;
      from = from-past point_names t k;
      rest = names-read s head_names (v ++ (point_names ++ t)) Names Values 0 0 f (omega arith) (omega arith) refl
          ∙ values-read s (point_names ++ t) h a 1 g n (omega arith)
          ∙ names-read s point_names t (Columns h) (counting h 0) (a + length v) 2 k (omega arith) (omega arith) refl;
    }

-- the text in parts, from the front on
text-parts : (h : Head) (ds hs : List ℕ) → traverse_text h ds hs ≡ head_names ++ (line_text (head_values h) ++ (point_names ++ point_lines ds hs))
unfolding traverse_text head_lines
text-parts h ds hs = rw head-values (ap (λ (z : List ℕ). head_names ++ z) (append_assoc (line_text (head_values h)) point_names (point_lines ds hs)))

-- ---- the given values

inside-nine : (low high x : ℤ) → Nine low → Nine high → inside low high x ≡ true → Nine x
unfolding inside
inside-nine low (pos b) (pos n) f g e = omega (arith, leb-true n b (and_right _ _ e))
inside-nine low (negsuc b) (pos n) f g e = absurd (never (and_right _ _ e))
inside-nine (pos a) high (negsuc n) f g e = absurd (never (and_left _ (le_z (negsuc n) high) e))
inside-nine (negsuc a) high (negsuc n) f g e = omega (arith, ltb-false a n (not-true _ (and_left _ (le_z (negsuc n) high) e)))

head-nine : (h : Head) → head_ok h ≡ true → AllNine (head_values h)
unfolding head_ok head_values
head-nine h e =
    let r : (friction_ok h.friction && initial_ok h.initial) ≡ true = and_right (latitude_ok h.latitude) (friction_ok h.friction && initial_ok h.initial) e in (
      inside-nine (pos 0) (pos 900) h.latitude (omega arith) (omega arith) (and_left _ _ e),
      (
        inside-nine (pos 10) (pos 50) h.friction (omega arith) (omega arith) (and_left _ _ r),
        (inside-nine (negsuc 999) (pos 1000) h.initial (omega arith) (omega arith) (and_right _ _ r), tt),
      ),
    )

-- ---- the end

-- what the ordinary reader makes of the text of the points ds and hs
pub record TextRead (h : Head) (ds hs text : List ℕ) : Type 0 where
  pub points : count_ok (length ds) ≡ true → traverse_of text ≡ read (traverse h (paired ds hs)) (length text) (3 + length ds)
  pub count : count_ok (length ds) ≡ false → traverse_of text ≡ refused (refusal kind.Points (length ds))

points-room : station_count no_points ≡ 65
points-room = wholes-times 2 65 (omega arith)

module _ (s : List ℕ) (h : Head) (at : ℕ) (ds hs : List ℕ) (e : rest_at s (held start no_points) 0 0 ≡ rest_at s (knowing (counting h 0)) at 3)
    (r : AfterPoints s h 0 no_points at 3 (length ds) ds hs) (some : 0 < length ds) where
  answer-is : traverse_of s ≡ traverse_by (counted_by (station_count r.points) (record { head = h; count = length ds }) (length s) (3 + length ds)) r.points
  unfolding traverse_of end_at
  answer-is = ap (λ (x : Leaves (Outcome TraverseRead)). traverse_by x.answer x.numbers) (e ∙ r.rest)

  ends : TextRead h ds hs s
  unfolding counted_by
  ends = record {
    points = λ k.
        let c = counts-in (length ds) k in
        let z : station_count r.points ≡ 65 = ap (wholes 2) r.size ∙ points-room in
        answer-is ∙ rw (ne_eqb (length ds) 0 (omega arith), k, z, le-ltb 65 (length ds) (omega arith)) (rw (r.same (omega (arith, points-room))));
    count = λ k. answer-is ∙ rw (ne_eqb (length ds) 0 (omega arith), k);
  }

pub text-is-read : (h : Head) (ds hs : List ℕ) → head_ok h ≡ true → length ds ≡ length hs → 0 < length ds → length ds < 2 ^ 63 → Short ds → Short hs
    → TextRead h ds hs (traverse_text h ds hs)
text-is-read h ds hs o e f u p q =
    let s : List ℕ = traverse_text h ds hs in
    let b = before-points s h (point_lines ds hs) (subst (λ (t : List ℕ). From s 0 t) (text-parts h ds hs) (from-start s)) (head-nine h o) in
    ends s h b.at ds hs b.rest (after-points s h 0 no_points b.at 3 (length ds) ds hs b.from e p q (omega arith) (omega arith) (omega arith)) f

-- ---- a deck that was not refused has a number

abbrev SomeCards : Cards → Type 0
SomeCards (cards ds hs) = 0 < length ds + length hs
SomeCards (refused_deck r) = Unit {0}

-- the first card has one of the two words
front-some : (w : Word) (n : ℕ) → follows_by Dist 0 w n ≡ true → (ts : List ℕ) → 0 < length ts → (x : Cards) → SomeCards (in_front w ts x)
unfolding follows_by
front-some Dist n e ts h (cards ds hs) = omega (arith, length-append ts ds)
front-some Dist n e ts h (refused_deck r) = tt
front-some Depth n e ts h (cards ds hs) = omega (arith, length-append ts hs)
front-some Depth n e ts h (refused_deck r) = tt

first-some : (s : List ℕ) (c : Card) (line : ℕ) (next : Last → ℕ → ℕ → Cards) → card_at s 0 ≡ c → SomeCards (after_card c none line next)
unfolding card_at follows
first-some s (card None n (numbers ts whole past)) line next q = tt
first-some s (card (Some w) n (numbers ts whole past)) line next q = go (follows_by Dist 0 w n) refl whole (next (record { word = w; number = n }) past line)
  where
    some : 0 < length ts
    some = (card-past s 0 (word_end s (length s) 0) (Some w) n ts whole past q).some

    go : (a : Bool) → follows_by Dist 0 w n ≡ a → (b : Bool) (x : Cards)
        → SomeCards (cond a (cond b (in_front w ts x) (refused_deck (refusal kind.CardUnit line))) (refused_deck (refusal kind.CardOrder line)))
    go true e true x = front-some w n e ts some x
    go true e false x = tt
    go false e b x = tt
first-some s (card w n misshapen) line next q = tt
first-some s no_card line next q = tt

deck-some : (s : List ℕ) → SomeCards (deck_of s)
unfolding deck_of cards_by
deck-some [] = tt
deck-some (b ∷ s) =
    rw (ne_eqb (length (b ∷ s)) 0 (omega arith), lt-ltb 0 (length (b ∷ s)) (omega arith))
    (first-some (b ∷ s) (card_at (b ∷ s) 0) (more 0) (cards_by (b ∷ s) (length s)) refl)

-- ---- a call that wrote a text

front-is : (bytes room : List ℕ) (n : ℕ) → n ≡ length bytes → take n (written bytes 0 room) ≡ bytes
unfolding written
front-is bytes room n e = rw e (take-append_seam bytes (drop (0 + length bytes) room))

-- its deck has as many distances as depths, and their text stands at the front of what was lent, where it has room
pub record Wrote (h : Head) (s room : List ℕ) (n : ℕ) (x : LeftDeck) : Type 0 where
  pub distances : List ℕ
  pub depths : List ℕ
  pub given : head_ok h ≡ true
  pub deck : deck_of s ≡ cards distances depths
  pub same : length distances ≡ length depths
  pub fits : n ≤ length room
  pub text : take n x.text ≡ traverse_text h distances depths

-- what a call answers and leaves, by its last two tests
abbrev left_by : List ℕ → List ℕ → ℕ → Bool → Bool → LeftDeck
left_by bytes room n same fits =
    cond same
    (cond fits (left_deck (Ok (length bytes)) (written bytes 0 room)) (left_deck (Err (refusal kind.Lent 0)) room))
    (left_deck (Err (refusal kind.CardCounts n)) room)

not-text : (r : Refusal) (n : ℕ) → ◌≡◌ {A = Result ℕ Refusal} (Err r) (Ok n) → ⊥
not-text r n e = let z : ◌≡◌ {A = ℕ} 0 1 = cc in omega arith

pub wrote : (h : Head) (s room : List ℕ) (n : ℕ) → (convert_of h s room).answer ≡ Ok n → Wrote h s room n (convert_of h s room)
unfolding convert_of put_text
wrote h s room n e = go (head_ok h) refl (deck_of s) refl e
  where
    counted : head_ok h ≡ true → (ds hs : List ℕ) → deck_of s ≡ cards ds hs → (same : Bool) → eqb (length ds) (length hs) ≡ same → (fits : Bool)
        → leb (length (traverse_text h ds hs)) (length room) ≡ fits
        → (left_by (traverse_text h ds hs) room (length ds) same fits).answer ≡ Ok n → Wrote h s room n (left_by (traverse_text h ds hs) room (length ds) same fits)
    counted o ds hs d true q true f e = record {
      distances = ds;
      depths = hs;
      given = o;
      deck = d;
      same = eqb-true (length ds) (length hs) q;
      fits = let z : length (traverse_text h ds hs) ≡ n = cc in omega (arith, leb-true (length (traverse_text h ds hs)) (length room) f);
      text = front-is (traverse_text h ds hs) room n cc;
    }
    counted o ds hs d true q false f e = absurd (not-text _ _ e)
    counted o ds hs d false q fits f e = absurd (not-text _ _ e)

    go : (t : Bool) → head_ok h ≡ t → (c : Cards) → deck_of s ≡ c → (cond t (after_cards h c room) (left_deck (Err (refusal kind.TraverseValue 0)) room)).answer ≡ Ok n
        → Wrote h s room n (cond t (after_cards h c room) (left_deck (Err (refusal kind.TraverseValue 0)) room))
    go true o (cards ds hs) d e = counted o ds hs d (eqb (length ds) (length hs)) refl (leb (length (traverse_text h ds hs)) (length room)) refl e
    go true o (refused_deck r) d e = absurd (not-text _ _ e)
    go false o c d e = absurd (not-text _ _ e)

pub deck-is-read : DeckIsRead
deck-is-read h s room n l e =
    let w = wrote h s room n e in
    let ds : List ℕ = w.distances in
    let hs : List ℕ = w.depths in
    let k = deck-short s ds hs w.deck in
    let some : SomeCards (cards ds hs) = subst SomeCards w.deck (deck-some s) in
    let r = text-is-read h ds hs w.given w.same (omega (arith, w.same)) (omega (arith, w.same, deck-few s ds hs w.deck)) k.0 k.1 in
    record {
      distances = ds;
      depths = hs;
      deck = w.deck;
      same = w.same;
      points = rw w.text r.points;
      count = rw w.text r.count;
    }
