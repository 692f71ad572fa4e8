-- What one byte of a line of names does to what is yet to come of it. Assumes nothing.
use Rattle.std.proofs.Common.{Ok, min, take, ◌-◌, sym}
use Rattle.std.proofs.Math.Nat.{min-eq_left, min-eq_right}
use Rattle.std.proofs.Math.Seq.{drop-length}
use Rattle.std.proofs.lemmas.List.{take_rest}
use Rattle.std.specs.Cmp.Lexicographic.{pointwise}
use mathlib.Core.Path.{◌≡◌, refl}
use mathlib.Core.Bool.{Bool, true, false, cond}
use mathlib.Core.List.{List, [], ◌∷◌}
use Prim.Native.Nat.{ℕ, ◌+◌, ◌<◌, ◌≤◌}
use native.Mathlib.Omega.{arith}
use native.Mathlib.Numerals.{add-one}
use lib.ListN.{length, drop}
use lib.Seq.{drop-cons}
use lib.Dec.{ltb, eqb}
use borrow.Author.Tests.{eq-eqb, ne_eqb, eqb-true, eqb-false, ltb-true, ltb-false}
use Rattle.reader.specs.Text.{more, byte}
use Rattle.reader.specs.Lines.{spells, names_at}

-- bytes are spelt from a place on where the text behind it starts with them
spells-behind : (s want : List ℕ) (at : ℕ) (behind : List ℕ) → behind ≡ drop (min at (length s)) s → pointwise eqb want (take (length want) behind) ≡ spells s at want
unfolding spells
spells-behind s [] at behind e = refl
spells-behind s (b ∷ want) at behind e = go (ltb at (length s)) refl (eqb (byte s at) b) refl (λ h. spells-behind s want (at + 1) (drop (at + 1) s) (rw (min-eq_left {n = at + 1} {m = length s} (omega arith))))
  where
    go : (t : Bool) → ltb at (length s) ≡ t → (u : Bool) → eqb (byte s at) b ≡ u
        → (at < length s → pointwise eqb want (take (length want) (drop (at + 1) s)) ≡ spells s (at + 1) want)
        → pointwise eqb (b ∷ want) (take (length (b ∷ want)) behind) ≡ cond t (cond u (spells s (at + 1) want) false) false
    go true l true q f =
        let h : at < length s = ltb-true _ _ l in
        rw (e, min-eq_left {n = at} {m = length s} (omega arith), drop-cons s at 0 h, eq-eqb b (byte s at) (sym (eqb-true _ _ q)), ← add-one at) (f h)
    go true l false q f =
        let h : at < length s = ltb-true _ _ l in
        rw (e, min-eq_left {n = at} {m = length s} (omega arith), drop-cons s at 0 h, ne_eqb b (byte s at) (λ z. eqb-false _ _ q (sym z)))
    go false l u q f =
        let h : length s ≤ at = ltb-false _ _ l in
        rw (e, min-eq_right {n = length s} {m = at} h, drop-length s)

pub spells-starts : (s want : List ℕ) (at here : ℕ) → here ≡ min at (length s) → pointwise eqb want (take (length want) (take (length s - here) (drop here s))) ≡ spells s at want
spells-starts s want at here e = rw take_rest (spells-behind s want at (drop here s) (rw e))

-- the place past bytes that are there is in the text, or is where they were looked for
pub spells-fits : (most : ℕ) (s want : List ℕ) (at : ℕ) → at ≤ most → length s ≤ most → spells s at want ≡ true → at + length want ≤ most
unfolding spells
spells-fits most s [] at h k e = omega arith
spells-fits most s (b ∷ want) at h k e = go (spells-fits most s want (at + 1)) (ltb at (length s)) refl (eqb (byte s at) b) e
  where
    go : (at + 1 ≤ most → length s ≤ most → spells s (at + 1) want ≡ true → at + 1 + length want ≤ most) → (t : Bool) → ltb at (length s) ≡ t → (u : Bool)
        → cond t (cond u (spells s (at + 1) want) false) false ≡ true → at + length (b ∷ want) ≤ most
    go f true l true g = let r = f (omega (arith, ltb-true _ _ l)) k g in omega arith
    go f true l false g = absurd cc
    go f false l u g = absurd cc

pub names-yes : (s want : List ℕ) (at line l : ℕ) → l ≡ more line → (to : ℕ) → to ≡ at + length want → spells s at want ≡ true
    → Ok (record { at = to; line = l }) ≡ names_at s want at line
unfolding names_at
names-yes s want at line l t to u e = rw (e, t, u)
