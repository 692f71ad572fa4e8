-- Turning a card deck into a traverse's text: the text that it wrote, read, the statement of `specs/Decks.antt`. Assumes nothing.
use mathlib.Core.Path.{◌≡◌, refl, sym, ap, subst, ◌∙◌}
use mathlib.Core.Bool.{Bool, true, false, cond}
use mathlib.Core.List.{List, [], ◌∷◌}
use native.Mathlib.Omega.{arith}
use Prim.Native.Nat.{ℕ, ◌*◌, ◌<◌, ◌^◌}
use lib.Dec.{eqb}
use lib.ListN.{length, take}
use lib.IntN.{ℤ}
use Rattle.std.specs.Prelude.{Result, Ok, Err}
use Rattle.records.specs.declared.Head.{Head}
use Rattle.records.specs.declared.Refusal.{Refusal}
use Rattle.records.specs.Groups.{station_count}
use Rattle.records.specs.Shapes.{Traverse}
use Rattle.records.proofs.GroupLaws.{wholes-times}
use Rattle.records.proofs.RefusalLaws.{number-above}
use Rattle.deck.specs.Deck.{LeftDeck, convert_of}
use Rattle.deck.specs.Reading.{paired, ReadBack}
use Rattle.deck.proofs.ReadingLaws.{wrote, deck-is-read}
use Rattle.lent.specs.Numbers.{wrong_buffer}
use Rattle.lent.specs.Texts.{lent_place}
use Rattle.lent.specs.Again.{TraverseReading}
use Rattle.lent.specs.Decks.{LeftText, left_text, after_converted, deck_with, deck_call, text_written, DeckTold, DeckThenTraverse}
use Rattle.lent.proofs.Again.{whole-place, traverse-again}

-- so many bytes were written, to the front of the room
record WroteText (x : LeftDeck) (left : LeftText) : Type 0 where
  bytes : ℕ
  was : x.answer ≡ Ok bytes
  left-is : left ≡ after_converted (Ok bytes) x.text

wrote-text : (x : LeftDeck) (text : List ℕ) (answer : List ℤ) (left : LeftText) → left ≡ deck_with x text answer → left.number ≡ 0 → WroteText x left
wrote-text x text answer left k z = by (eqb (length answer) 3) x.answer refl k
  where
    by : (t : Bool) (c : Result ℕ Refusal) → x.answer ≡ c → left ≡ cond t (after_converted c x.text) (left_text wrong_buffer text answer) → WroteText x left
    by true (Ok n) e k = record { bytes = n; was = e; left-is = k }
    by true (Err refusal) e k = absurd (omega (arith, number-above refusal.kind, z, ap (λ (l : LeftText). l.number) k))
    by false c e k = absurd (omega (arith, z, ap (λ (l : LeftText). l.number) k))

-- two numbers a point
paired-length : (ds hs : List ℕ) → length ds ≡ length hs → length (paired ds hs) ≡ 2 * length ds
unfolding paired
paired-length [] hs e = refl
paired-length (d ∷ ds) [] e = absurd (omega arith)
paired-length (d ∷ ds) (h ∷ hs) e = let k = paired-length ds hs (omega arith) in omega arith

paired-count : (ds hs : List ℕ) → length ds ≡ length hs → station_count (paired ds hs) ≡ length ds
paired-count ds hs e = rw (paired-length ds hs e) (wholes-times 2 (length ds) (omega arith))

-- what a call of `read_traverse` tells of a text that is read so
told-of : (h : Head) (s text : List ℕ) → ReadBack h s text → (t : TraverseReading text) → DeckTold h s t.left
told-of h s text b t =
    let told = (traverse-again text t).told in
    record {
      distances = b.distances;
      depths = b.depths;
      cards-are = b.deck;
      same = b.same;
      points = λ e. let x = rw (b.points e) at told in (x.0, x.1 ∙ rw (paired-count b.distances b.depths b.same), ap (λ (z : Traverse). z.head) x.2, ap (λ (z : Traverse). z.points) x.2);
      count = λ e. rw (b.count e) at told;
    }

-- the bytes that the answer tells are those that were written
written-is : (x : LeftDeck) (left : LeftText) (w : WroteText x left) → w.bytes < 2 ^ 63 → text_written left ≡ take w.bytes x.text
written-is x left w short = ap text_written w.left-is ∙ ap (λ (p : ℤ). take (lent_place p) x.text) (whole-place w.bytes (omega arith))

pub deck-then-traverse : DeckThenTraverse
unfolding deck_call
deck-then-traverse h s short d t =
    let x = convert_of h s d.text in
    let w : WroteText x d.left = wrote-text x d.text d.answer d.left d.kept d.accepted in
    let fits = (wrote h s d.text w.bytes w.was).fits in
    let same = written-is x d.left w (omega (arith, fits, d.small)) in
    told-of h s (text_written d.left) (subst (ReadBack h s) (sym same) (deck-is-read h s d.text w.bytes short w.was)) t
