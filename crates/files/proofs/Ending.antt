-- The window holds the end of what was read so far, refill after refill; so it shows a part of every text that goes on from there. For the two files
-- alike. Assumes nothing.
use mathlib.Core.Path.{◌≡◌, refl, sym, ap, subst, ◌∙◌}
use mathlib.Core.Bool.{Bool, true, false}
use mathlib.Core.List.{List, [], ◌∷◌, ◌++◌}
use native.Mathlib.Omega.{arith}
use Prim.Native.Nat.{ℕ, ◌+◌, ◌-◌, ◌<◌, ◌≤◌}
use lib.Dec.{ltb}
use lib.ListN.{length, take, drop, length-append, length-drop, get_or-append}
use lib.Seq.{length-take-le, get_or-take, get_or-drop, drop-append-add}
use borrow.Author.Tests.{eqb-true, ltb-true, ltb-false}
use Rattle.reader.specs.Text.{byte}
use Rattle.reader.specs.Window.{Shows}
use Rattle.files.specs.Filled.{HeldWindow, read_behind}
use Rattle.files.specs.TraverseFile.{Continues}

-- the first `have` bytes of the window are those of s from o on, to its end
pub record Ending (s window : List ℕ) (o have : ℕ) : Type 0 where
  pub reach : o + have ≡ length s
  pub held : have ≤ length window
  pub bytes : (j : ℕ) → j < have → byte s (o + j) ≡ byte window j

-- before a byte was read
pub ending-none : (window : List ℕ) → Ending [] window 0 0
ending-none window = record { reach = refl; held = omega arith; bytes = λ j h. absurd (omega arith) }

-- a byte of what was put behind a list
behind : (s l : List ℕ) (i : ℕ) → length s ≤ i → byte (s ++ l) i ≡ byte l (i - length s)
behind s l i h =
    let e : length s + (i - length s) ≡ i = omega arith in
    subst (λ (k : ℕ). byte (s ++ l) k ≡ byte l (i - length s)) e
    (sym (get_or-drop (length s) (s ++ l) (i - length s) 0) ∙ ap (λ (x : List ℕ). byte x (i - length s)) (drop-seam s l))
  where
    drop-seam : (s l : List ℕ) → drop (length s) (s ++ l) ≡ l
    drop-seam s l = let e : length s + 0 ≡ length s = omega arith in subst (λ (k : ℕ). drop k (s ++ l) ≡ l) e (drop-append-add s l 0)

module _ (s a b : List ℕ) (o at have n : ℕ) (last : Bool) (f : Ending s a o have) (p : at ≤ have) (h : HeldWindow a b at have n last) where
  abbrev pub got : List ℕ
  got = read_behind (have - at) n b

  got-long : length got ≡ n - (have - at)
  got-long = length-drop (have - at) (take n b) ∙ ap (λ (k : ℕ). k - (have - at)) (length-take-le n b h.within)

  -- after a refill, of what was read with it
  pub ending-more : Ending (s ++ got) b (o + at) n
  ending-more =
      record {
        reach = sym (length-append s got ∙ (let e = got-long in omega (arith, f.reach, h.least)));
        held = h.within;
        bytes = λ j q. by j q (ltb j (have - at)) refl;
      }
    where
      by : (j : ℕ) → j < n → (t : Bool) → ltb j (have - at) ≡ t → byte (s ++ got) (o + at + j) ≡ byte b j
      by j q true t =
          let l : j < have - at = ltb-true j (have - at) t in
          let e : o + at + j ≡ o + (at + j) = omega arith in
          ap (byte (s ++ got)) e ∙ get_or-append s got 0 (o + (at + j)) (omega (arith, f.reach)) ∙ f.bytes (at + j) (omega arith) ∙ sym (h.left j l)
      by j q false t =
          let l : have - at ≤ j = ltb-false j (have - at) t in
          let e : have - at + (o + at + j - length s) ≡ j = omega (arith, f.reach) in
          behind s got (o + at + j) (omega (arith, f.reach)) ∙ get_or-drop (have - at) (take n b) (o + at + j - length s) 0 ∙ ap (byte (take n b)) e ∙ get_or-take n b j 0 q

  -- the end was seen where nothing was read
  pub none-got : last ≡ true → got ≡ []
  none-got e = let z : n ≡ have - at = eqb-true n (have - at) (sym h.ended ∙ e) in empty got (got-long ∙ (omega arith))
    where
      empty : (l : List ℕ) → length l ≡ 0 → l ≡ []
      empty [] q = refl
      empty (x ∷ l) q = absurd (omega arith)

-- the window shows every text that goes on from what was read
pub ending-shows : (s window : List ℕ) (o have : ℕ) (last : Bool) → Ending s window o have → (e : List ℕ) → Continues last e → Shows (s ++ e) (take have window) o last
ending-shows s window o have last f e c =
    let long = length-take-le have window f.held in
    record {
      within = omega (arith, length-append s e, f.reach);
      bytes = λ j h. get_or-append s e 0 (o + j) (omega (arith, f.reach)) ∙ f.bytes j (omega arith) ∙ sym (get_or-take have window j 0 (omega arith));
      ends = λ l. let z : length e ≡ 0 = ap length (c l) in length-append s e ∙ (omega (arith, f.reach));
    }
