-- What the reader of `traverse.txt` makes of bytes that stand at a place of a text: digits, a decimal number, a line of them, a line of names.
-- Assumes nothing.
use mathlib.Core.Path.{◌≡◌, refl, sym, ap, ◌∙◌}
use mathlib.Core.Bool.{Bool, true, false, cond}
use mathlib.Core.List.{List, [], ◌∷◌, ◌++◌, append_assoc, append-nil}
use Prim.Native.Nat.{ℕ, zero, suc, ◌+◌, ◌-◌, ◌*◌, ◌<◌, ◌≤◌}
use native.Mathlib.Omega.{arith}
use native.Mathlib.Nat.{add-zero}
use lib.ListN.{length, drop, length-append}
use lib.Seq.{get_or-drop, drop-drop, drop-append_seam, append_snoc}
use lib.Dec.{eqb}
use lib.IntN.{ℤ, pos, negsuc, nat_abs}
use borrow.Author.Tests.{lt-ltb, le-ltb, eq-eqb, ne_eqb, eqb-true}
use Rattle.records.proofs.LimitLaws.{and_both}
use Rattle.listing.specs.Decimal.{decimal_of, signed_text}
use Rattle.listing.specs.Meaning.{worth_after, AllDigits, NoLeadingZero, Decimal}
use Rattle.listing.proofs.Decimal.{length_most}
use Rattle.listing.proofs.Meaning.{first_some, decimal-right}
use Rattle.reader.specs.Text.{more, byte, digit_of, digit_at, digits, worth, good_of, signed_value, negative_at, start_at, good_at, value_at, past_at, close_of}
use Rattle.reader.specs.Lines.{repeated, kept_with, same_with, full, closed_at, values_at, lines_read, spells, names_at}
use Rattle.reader.specs.Traverse.{value_line}
use Rattle.std.proofs.Common.{Ok}
use Rattle.reader.proofs.Digits.{digits-none}
use Rattle.reader.proofs.Laws.{never, values-more, values-done, lines-done, lines_more}
use Rattle.reader.proofs.Names.{names-yes}

-- ---- bytes at a place

-- from place `at` on the text s is t
pub record From (s : List ℕ) (at : ℕ) (t : List ℕ) : Type 0 where
  pub text : drop at s ≡ t
  pub size : at + length t ≡ length s

pub from-start : (s : List ℕ) → From s 0 s
from-start s = record { text = refl; size = omega arith }

module _ {s : List ℕ} {at : ℕ} where
  pub from-past : (xs t : List ℕ) → From s at (xs ++ t) → From s (at + length xs) t
  from-past xs t h = record {
    text = sym (drop-drop (length xs) at s) ∙ ap (drop (length xs)) h.text ∙ drop-append_seam xs t;
    size = omega (arith, h.size, length-append xs t);
  }

  module _ {b : ℕ} {t : List ℕ} (h : From s at (b ∷ t)) where
    from-byte : byte s at ≡ b
    from-byte = ap (λ (i : ℕ). byte s i) (omega arith) ∙ sym (get_or-drop at s 0 0) ∙ ap (λ (l : List ℕ). byte l 0) h.text

    from-within : at < length s
    from-within = omega (arith, h.size)

    from-next : From s (at + 1) t
    from-next = from-past (b ∷ []) t h

-- ---- digits

digit-is : (s : List ℕ) (at b : ℕ) (t : List ℕ) → From s at (b ∷ t) → (48 ≤ b) × (b ≤ 57) → digit_at s at ≡ b - 48
unfolding digit_at
digit-is s at b t h d = rw (from-byte h, le-ltb b 48 d.0, le-ltb 57 b d.1)

-- digits, and behind them a byte that is none
digits-are : (s bs : List ℕ) (c : ℕ) (t : List ℕ) (n at : ℕ) → From s at (bs ++ (c ∷ t)) → AllDigits bs → 10 ≤ digit_of c → length bs ≤ n → digits s n at ≡ length bs
unfolding digits
digits-are s [] c t n at h d e f = digits-none s n at (unfold digit_at in rw (from-byte h) e)
digits-are s (b ∷ bs) c t zero at h d e f = absurd (omega arith)
digits-are s (b ∷ bs) c t (suc n) at h d e f =
    let l : digit_at s at < 10 = omega (arith, digit-is s at b (bs ++ (c ∷ t)) h d.0) in
    rw (lt-ltb _ _ l) (ap suc (digits-are s bs c t n (at + 1) (from-next h) d.1 e (omega arith)))

worth-are : (s bs t : List ℕ) (v at : ℕ) → From s at (bs ++ t) → AllDigits bs → worth s v (length bs) at ≡ worth_after v bs
unfolding worth worth_after
worth-are s [] t v at h d = refl
worth-are s (b ∷ bs) t v at h d =
    ap (λ (x : ℕ). worth s (v * 10 + x) (length bs) (at + 1)) (digit-is s at b (bs ++ t) h d.0) ∙ worth-are s bs t (v * 10 + (b - 48)) (at + 1) (from-next h) d.1

-- ---- a value

-- within nine digits
abbrev pub Nine : ℤ → Type 0
Nine x = nat_abs x < 1000000000

-- at place `at` stands the value x, and `behind` is the place past it
record Spelt (s : List ℕ) (at : ℕ) (x : ℤ) (behind : ℕ) : Type 0 where
  pub good : good_at s at ≡ true
  pub value : value_at s at ≡ x
  pub past : past_at s at ≡ behind

good-is : (negative : Bool) (b : ℕ) (bs : List ℕ) → NoLeadingZero (b ∷ bs) → length bs < 9 → (negative ≡ true → b ≡ 48 → ⊥) → good_of negative (length (b ∷ bs)) b ≡ true
unfolding good_of
good-is negative b bs z f g = rw (ne_eqb (length (b ∷ bs)) 0 (omega arith), le-ltb 9 (length (b ∷ bs)) (omega arith)) (go (eqb b 48) refl negative g)
  where
    go : (t : Bool) → eqb b 48 ≡ t → (n : Bool) → (n ≡ true → b ≡ 48 → ⊥) → cond t (cond n false (eqb (length (b ∷ bs)) 1)) true ≡ true
    go true e true k = absurd (k refl (eqb-true b 48 e))
    go true e false k = eq-eqb (length (b ∷ bs)) 1 (ap (λ (l : List ℕ). length (b ∷ l)) (z (eqb-true b 48 e)))
    go false e n k = refl

-- the digits of m behind an optional minus, and behind them the byte c, which is none
module _ (s : List ℕ) (at : ℕ) (negative : Bool) (m c : ℕ) (t : List ℕ) (e : 10 ≤ digit_of c) (sign : negative_at s at ≡ negative) (some : negative ≡ true → 0 < m) where
  spelt-digits : (start : ℕ) → start ≡ cond negative (at + 1) at → (bs : List ℕ) → From s start (bs ++ (c ∷ t)) → Decimal m bs → length bs ≤ 9
      → Spelt s at (signed_value negative m) (start + length bs)
  unfolding good_at value_at past_at start_at
  spelt-digits start p [] h d f = absurd d.leading
  spelt-digits start p (b ∷ bs) h d f =
      let q : start_at s at ≡ start = rw sign (sym p) in
      let n : digits s 10 start ≡ length (b ∷ bs) = digits-are s (b ∷ bs) c t 10 start h d.digits e (omega arith) in
      let w : worth s 0 (length (b ∷ bs)) start ≡ m = worth-are s (b ∷ bs) (c ∷ t) 0 start h d.digits ∙ d.worths in
      record {
        good = rw (q, n, sign, from-byte h) (good-is negative b bs d.leading (omega arith) (λ y. first_some b bs d.leading (omega (arith, d.worths, some y))));
        value = rw (q, n, sign, w);
        past = rw (q, n);
      }

-- a value within nine digits, and behind it the byte c, which is none
spelt : (s : List ℕ) (at : ℕ) (x : ℤ) (c : ℕ) (t : List ℕ) → From s at (signed_text x ++ (c ∷ t)) → Nine x → 10 ≤ digit_of c → Spelt s at x (at + length (signed_text x))
unfolding signed_text signed_value
spelt s at (pos n) c t h f e =
    spelt-digits s at false n c t e (go (decimal_of n) (decimal-right n) h) (λ y. absurd (never y)) at refl (decimal_of n) h (decimal-right n) (length_most 8 n f)
  where
    go : (bs : List ℕ) → Decimal n bs → From s at (bs ++ (c ∷ t)) → negative_at s at ≡ false
    go [] d k = absurd d.leading
    go (b ∷ bs) d k = let l = d.digits.0 in rw (from-byte k) (ne_eqb b 45 (omega arith))
spelt s at (negsuc n) c t h f e =
    let m : ℕ = suc n in
    let sign : negative_at s at ≡ true = rw (from-byte h) (eq-eqb 45 45 refl) in
    let r = spelt-digits s at true m c t e sign (λ y. omega arith) (at + 1) refl (decimal_of m) (from-next h) (decimal-right m) (length_most 8 m f) in
    record { good = r.good; value = r.value; past = omega (arith, r.past) }

-- ---- a line of values

-- each value and the byte that closes it
unfoldable pub line_text : List ℤ → List ℕ
line_text [] = []
line_text (x ∷ xs) = signed_text x ++ (close_of (length xs) ∷ line_text xs)

abbrev pub AllNine : List ℤ → Type 0
AllNine [] = Unit
AllNine (x ∷ xs) = Nine x × AllNine xs

close-none : (n : ℕ) → 10 ≤ digit_of (close_of n)
unfolding close_of
close-none n = go (eqb n 0)
  where
    go : (b : Bool) → 10 ≤ digit_of (cond b 10 32)
    go true = omega arith
    go false = omega arith

-- the values of a line, from value k on
module _ (s t : List ℕ) where
  values-spelt : (xs : List ℤ) (k at : ℕ) (kept : List ℤ) → From s at (line_text xs ++ t) → AllNine xs
      → values_at s 0 0 (length xs) k at kept true ≡ full (at + length (line_text xs)) (kept ++ xs) true
  unfolding line_text repeated kept_with same_with
  values-spelt [] k at kept h f = values-done s 0 0 0 k at kept true refl ∙ rw (append-nil kept, add-zero at)
  values-spelt (x ∷ xs) k at kept h f =
      let n : ℕ = length xs in
      let c : ℕ = close_of n in
      let r : List ℕ = c ∷ (line_text xs ++ t) in
      let g : From s at (signed_text x ++ r) = rw append_assoc at h in
      let v = spelt s at x c (line_text xs ++ t) g f.0 (close-none n) in
      let w : From s (at + length (signed_text x)) r = from-past (signed_text x) r g in
      let next : ℕ = at + length (signed_text x) + 1 in
      let closed : closed_at s n at ≡ true = and_both _ _ v.good (rw v.past (eq-eqb _ _ (from-byte w))) in
      let e : next + length (line_text xs) ≡ at + length (line_text (x ∷ xs)) = omega (arith, length-append (signed_text x) (c ∷ line_text xs)) in
      sym (values-more s 0 0 (suc n) n k at kept true refl closed (k + 1) next (kept ++ (x ∷ [])) true refl (rw v.past) (rw v.value) refl)
      ∙ values-spelt xs (k + 1) next (kept ++ (x ∷ [])) (from-next w) f.1
      ∙ rw (e, append_snoc kept x xs)

  pub line-within : (x : ℤ) (xs : List ℤ) (at : ℕ) → From s at (line_text (x ∷ xs) ++ t) → at < length s
  unfolding line_text
  line-within x xs at h = omega (arith, h.size, length-append (line_text (x ∷ xs)) t, length-append (signed_text x) (close_of (length xs) ∷ line_text xs))

  -- a whole line of them
  pub line-spelt : (x : ℤ) (xs : List ℤ) (at line : ℕ) → From s at (line_text (x ∷ xs) ++ t) → AllNine (x ∷ xs)
      → value_line s (length (x ∷ xs)) at line ≡ lines_read (Ok (record { at = at + length (line_text (x ∷ xs)); line = more line })) (x ∷ xs)
  line-spelt x xs at line h f =
      let l : List ℤ = x ∷ xs in
      let to : ℕ = at + length (line_text l) in
      sym (lines_more s (length l) 0 1 0 0 at line [] refl (more line) l (line-within x xs at h) refl to (values-spelt l 0 at [] h f))
      ∙ lines-done s (length l) 0 0 1 to (more line) l refl

-- ---- a line of names

names-spelt : (s want t : List ℕ) (at : ℕ) → From s at (want ++ t) → spells s at want ≡ true
unfolding spells
names-spelt s [] t at h = refl
names-spelt s (b ∷ want) t at h = rw (lt-ltb _ _ (from-within h), eq-eqb _ _ (from-byte h)) (names-spelt s want t (at + 1) (from-next h))

pub names-are : (s want t : List ℕ) (at line : ℕ) → From s at (want ++ t) → names_at s want at line ≡ Ok (record { at = at + length want; line = more line })
names-are s want t at line h = sym (names-yes s want at line (more line) refl (at + length want) refl (names-spelt s want t at h))
