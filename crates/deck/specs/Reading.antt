-- What the ordinary reader makes of the text that was written: a statement, proved in proofs/ReadingLaws.antt. Assumes nothing.
use Rattle.std.specs.Prelude.{◌≡◌, true, false, ℕ, ◌+◌, ◌^◌, ◌<◌, List, [], ◌∷◌, length, take, ℤ, pos, Ok}
use Rattle.records.specs.declared.Head.{Head}
use Rattle.records.specs.declared.Kind.TheVariants.{Points}
use Rattle.records.specs.Limits.{count_ok}
use Rattle.records.specs.Refusals.{refusal}
use Rattle.records.specs.Shapes.{traverse}
use Rattle.reader.specs.Lines.{read, refused as not_read}
use Rattle.reader.specs.Traverse.{traverse_of}
use Rattle.deck.specs.Cards.{cards, deck_of}
use Rattle.deck.specs.Deck.{convert_of}

-- the points, two numbers each: the first distance and the first depth, and so on
unfoldable pub paired : List ℕ → List ℕ → List ℤ
paired (d ∷ ds) (h ∷ hs) = pos d ∷ pos h ∷ paired ds hs
paired (d ∷ ds) [] = []
paired [] hs = []

-- `text` is read as just the points of the deck s and the given values; or, with fewer than 2 or more than 65 points, their count is refused (5)
pub record ReadBack (h : Head) (s text : List ℕ) : Type 0 where
  pub distances : List ℕ
  pub depths : List ℕ
  pub deck : deck_of s ≡ cards distances depths
  pub same : length distances ≡ length depths
  pub points : count_ok (length distances) ≡ true
      → traverse_of text ≡ read (traverse h (paired distances depths)) (length text) (3 + length distances)
  pub count : count_ok (length distances) ≡ false → traverse_of text ≡ not_read (refusal Points (length distances))

-- of every call that wrote a text: what it wrote, which is the front of what was lent
abbrev pub DeckIsRead : Type 0
DeckIsRead =
    (h : Head) (s room : List ℕ) (n : ℕ) → length s < 2 ^ 64 → (convert_of h s room).answer ≡ Ok n → ReadBack h s (take n (convert_of h s room).text)
