-- Laws of the lines: how long they are, and that their parts written one behind the other are the line. Assumes nothing.
use mathlib.Core.Path.{◌≡◌, sym, ap, subst, ◌∙◌}
use mathlib.Core.List.{List, ◌++◌, append_assoc}
use Prim.Native.Nat.{ℕ, suc, ◌+◌, ◌^◌, ◌<◌, ◌≤◌}
use native.Mathlib.Omega.{arith}
use lib.ListN.{length, length-append}
use lib.IntN.{ℤ, pos, negsuc}
use mir.Syntax.{w64}
use mir.Val.{SFits}
use Rattle.listing.specs.Decimal.{decimal_of, signed_text}
use Rattle.listing.specs.Lines.{space, feed, values_line, record_line, refused_word, refused_line}
use Rattle.listing.specs.Put.{Wrote}
use Rattle.listing.proofs.Decimal.{length_most}
use Rattle.listing.proofs.Written.{wrote_on}

-- a line of three parts, written one behind the other
module _ {xs ys zs line : List ℕ} (whole : xs ++ ys ++ zs ≡ line) {at : ℕ} {s : List ℕ} (room : at + length line ≤ length s) where
  pub wrote-three : {a b c : ℕ} {t u v : List ℕ} → Wrote xs at s a t → Wrote ys a t b u → Wrote zs b u c v → Wrote line at s c v
  wrote-three {c = c} {v = v} p q r =
      let n : length line ≡ length xs + length ys + length zs = sym (ap length whole) ∙ simp length-append in
      subst (λ (l : List ℕ). Wrote l at s c v) whole (wrote_on (wrote_on p q (omega arith)) r (omega (arith, length-append xs ys)))

pub values-length : (a b c : ℤ)
    → length (values_line a b c) ≡ length (signed_text a) + length (signed_text b) + length (signed_text c) + 3
unfolding values_line
values-length a b c = simp length-append (omega arith)

pub values-parts : (a b c : ℤ)
    → (signed_text a ++ space) ++ (signed_text b ++ space) ++ (signed_text c ++ feed) ≡ values_line a b c
unfolding values_line
values-parts a b c = simp append_assoc

pub refused-length : (number place : ℕ) → length (refused_line number place) ≡ 8 + length (decimal_of number) + length (decimal_of place) + 2
unfolding refused_line
refused-length number place = simp length-append (omega arith)

pub refused-parts : (number place : ℕ)
    → refused_word ++ (decimal_of number ++ space) ++ (decimal_of place ++ feed) ≡ refused_line number place
unfolding refused_line
refused-parts number place = simp append_assoc

-- ---- the longest lines: a buffer with this much room is never full

pub signed-most : (x : ℤ) → SFits w64 x → length (signed_text x) ≤ 20
unfolding signed_text
signed-most (pos n) f = let s = f.sfits in length_most 19 n (omega arith)
signed-most (negsuc n) f = let s = f.sfits in let l = length_most 18 (suc n) (omega arith) in omega arith

pub record-most : (elapsed low high : ℤ) → SFits w64 elapsed → SFits w64 low → SFits w64 high → length (record_line elapsed low high) ≤ 63
record-most elapsed low high e l h =
    omega (arith, values-length elapsed low high, signed-most elapsed e, signed-most low l, signed-most high h)

pub refused-most : (number place : ℕ) → number < 2 ^ 64 → place < 2 ^ 64 → length (refused_line number place) ≤ 50
refused-most number place n p =
    omega (arith, refused-length number place, length_most 19 number (omega arith), length_most 19 place (omega arith))
