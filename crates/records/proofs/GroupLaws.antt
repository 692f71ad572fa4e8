-- Groups of numbers in a list: reading and writing one, and lists of them. Every law is over the width. Assumes nothing.
use mathlib.Core.Path.{◌≡◌, refl, sym, ap, ◌∙◌}
use mathlib.Core.Bool.{Bool, true, false, cond}
use mathlib.Core.List.{List, [], ◌∷◌, ◌++◌, append_assoc, append-nil}
use native.Mathlib.Omega.{arith}
use borrow.Author.Tests.{eq-eqb, ne_eqb, eqb-true, eqb-false}
use native.Mathlib.Numerals.{add-one}
use native.Mathlib.Nat.{mul-div-le, mul-div_right, mul-mod_right, mul-le-mul_left, mul-suc, mul-zero}
use Prim.Native.Nat.{ℕ, zero, suc, ◌+◌, ◌-◌, ◌*◌, ◌/◌, ◌%◌, ◌≤◌, ◌<◌}
use lib.Dec.{eqb}
use lib.ListN.{length, get_or, take, drop, length-append, get_or-append}
use borrow.Rule.Slice.PartMut.{put_mid}
use lib.Seq.{sets, sets-eq, length-sets, take_at, take_all, get_or-take, get_or-append-add, get_or_at, get_or-drop, drop-drop, ext_get_or, length-take-le}
use lib.IntN.{ℤ, pos}
use Rattle.records.specs.declared.Point.{Point}
use Rattle.records.specs.declared.Row.{Row}
use Rattle.records.specs.Groups.{wholes, at, from, group_at, point_at, of_point, row_at, of_row, groups, flat}
use Rattle.records.specs.Rows.{fresh_row}

-- as many groups as are counted are there
pub wholes-fit : (width len : ℕ) → width * wholes width len ≤ len
unfolding wholes
wholes-fit width len = by (eqb (len % width) 0) refl
  where
    by : (t : Bool) → eqb (len % width) 0 ≡ t → width * cond t (len / width) 0 ≤ len
    by true e = mul-div-le len width
    by false e = omega arith

-- numbers of n groups are n groups
pub wholes-times : (width n : ℕ) → 0 < width → wholes width (width * n) ≡ n
unfolding wholes
wholes-times width n h = rw (mul-mod_right width n) (mul-div_right n h)

-- two numbers to a group, without a product
pub odd : (p n : ℕ) → (p % 2 ≡ 0 → ⊥) → eqb p (2 * n) ≡ false
odd p n h = ne_eqb p (2 * n) (λ e. h (omega arith))

pub halves : (p n : ℕ) → p % 2 ≡ 0 → eqb (p / 2) n ≡ eqb p (2 * n)
halves p n h = by (eqb p (2 * n)) refl
  where
    by : (t : Bool) → eqb p (2 * n) ≡ t → eqb (p / 2) n ≡ t
    by true e = let q : p ≡ 2 * n = eqb-true p (2 * n) e in eq-eqb (p / 2) n (omega arith)
    by false e = ne_eqb (p / 2) n (λ q. eqb-false p (2 * n) e (omega arith))

-- the number of a group is one of the list
pub from-at : (l : List ℤ) (m i : ℕ) → from l m i ≡ at l (m + i)
from-at l m zero = let z : m + 0 ≡ m = omega arith in rw z refl
from-at l m (suc i) = refl

-- ---- a group written at m

module _ (vs l : List ℤ) (m : ℕ) (fit : m + length vs ≤ length l) where
  front : length (take m l) ≡ m
  front = length-take-le m l (omega arith)

  long : length (take m l ++ vs) ≡ m + length vs
  long = length-append (take m l) vs ∙ ap (λ (k : ℕ). k + length vs) front

  -- what is before it stays, and it follows
  pub sets-take : take (m + length vs) (sets l m vs) ≡ take m l ++ vs
  sets-take = ap (take (m + length vs)) (sets-eq vs l m fit) ∙ take_at (take m l ++ vs) (drop (m + length vs) l) (m + length vs) long

  pub sets-before : (j : ℕ) → j < m → at (sets l m vs) j ≡ at l j
  sets-before j h =
      let f : length (take m l) ≡ m = front in
      let g : length (take m l ++ vs) ≡ m + length vs = long in
      ap (λ (z : List ℤ). at z j) (sets-eq vs l m fit) ∙ get_or-append (take m l ++ vs) (drop (m + length vs) l) (pos 0) j (omega arith)
      ∙ get_or-append (take m l) vs (pos 0) j (omega arith) ∙ get_or-take m l j (pos 0) h

  pub sets-at : (p k : ℕ) → p ≡ m + k → k < length vs → at (sets l m vs) p ≡ at vs k
  sets-at p k e h =
      let g : length (take m l ++ vs) ≡ m + length vs = long in
      let q : p ≡ length (take m l) + k = e ∙ ap (λ (n : ℕ). n + k) (sym front) in
      ap (λ (z : List ℤ). at z p) (sets-eq vs l m fit) ∙ get_or-append (take m l ++ vs) (drop (m + length vs) l) (pos 0) p (omega arith)
      ∙ ap (at (take m l ++ vs)) q ∙ get_or-append-add (take m l) vs k (pos 0)

-- a group read from its part of the list, and written there
module _ (m k : ℕ) (l : List ℤ) (fit : m + k ≤ length l) where
  pub part-from : (i : ℕ) → i < k → at (take (m + k - m) (drop m l)) i ≡ from l m i
  part-from i h = let z : m + k - m ≡ k = omega arith in rw z (get_or-take k (drop m l) i (pos 0) h ∙ get_or-drop m l i (pos 0) ∙ sym (from-at l m i))

  pub part-sets : (vs : List ℤ) → length vs ≡ k → put_mid m (m + k - m) l vs ≡ sets l m vs
  part-sets vs h = let z : m + k - m ≡ length vs = omega arith in rw (z, drop-drop (length vs) m l) (sym (append_assoc (take m l) vs _) ∙ sym (sets-eq vs l m (omega arith)))

-- ---- the first n groups by a view

module _ {A : Type 0} where
  pub groups-same : (f g : ℕ → A) (n : ℕ) → ((j : ℕ) → j < n → f j ≡ g j) → groups f n ≡ groups g n
  unfolding groups
  groups-same f g zero h = refl
  groups-same f g (suc n) h = rw (groups-same f g n (λ j l. h j (omega (arith, l))), h n (omega arith))

  pub groups-length : (f : ℕ → A) (n : ℕ) → length (groups f n) ≡ n
  unfolding groups
  groups-length f zero = refl
  groups-length f (suc n) = length-append (groups f n) (f n ∷ []) ∙ rw (groups-length f n) (add-one n)

  pub groups-suc : (f : ℕ → A) (n : ℕ) → groups f (n + 1) ≡ groups f n ++ (f n ∷ [])
  unfolding groups
  groups-suc f n = rw (add-one n)

  pub groups_none : (f : ℕ → A) → groups f 0 ≡ []
  unfolding groups
  groups_none f = refl

  pub groups-last : (f : ℕ → A) (d : A) (n : ℕ) → get_or (groups f (n + 1)) n d ≡ f n
  groups-last f d n = rw (groups-suc f n) (get_or_at (groups f n) (f n) [] d n (groups-length f n))

-- ---- a buffer of n groups of so many numbers, after i of them

flat-snoc : {A : Type 0} (numbers : A → List ℤ) (l : List A) (x : A) → flat numbers (l ++ (x ∷ [])) ≡ flat numbers l ++ numbers x
unfolding flat
flat-snoc numbers [] x = append-nil (numbers x)
flat-snoc numbers (y ∷ l) x = ap (λ (z : List ℤ). numbers y ++ z) (flat-snoc numbers l x) ∙ sym (append_assoc (numbers y) (flat numbers l) (numbers x))

-- the numbers of a part of each group
pub flat-groups : {A B : Type 0} (numbers : B → List ℤ) (part : A → B) (view : ℕ → A) (n : ℕ) →
    flat numbers (groups (λ i. part (view i)) n) ≡ flat (λ (x : A). numbers (part x)) (groups view n)
unfolding groups flat
flat-groups numbers part view zero = refl
flat-groups numbers part view (suc n) =
    flat-snoc numbers (groups (λ i. part (view i)) n) (part (view n))
    ∙ ap (λ (z : List ℤ). z ++ numbers (part (view n))) (flat-groups numbers part view n)
    ∙ sym (flat-snoc (λ x. numbers (part x)) (groups view n) (view n))

pub record Stored {A : Type 0} (width : ℕ) (numbers : A → List ℤ) (view : ℕ → A) (n : ℕ) (out : List ℤ) (i : ℕ) : Type 0 where
  pub reach : i ≤ n
  pub full : length out ≡ width * n
  pub same : take (width * i) out ≡ flat numbers (groups view i)

module _ {A : Type 0} (width : ℕ) (numbers : A → List ℤ) (view : ℕ → A) (n : ℕ) where
  pub stored-start : (out : List ℤ) → length out ≡ width * n → Stored width numbers view n out 0
  unfolding flat groups
  stored-start out h = record { reach = omega arith; full = h; same = let z : width * 0 ≡ 0 = mul-zero width in rw z (none out) }
    where
      none : (l : List ℤ) → take 0 l ≡ []
      none [] = refl
      none (x ∷ l) = refl

  pub stored_on : (out : List ℤ) (i : ℕ) → Stored width numbers view n out i → i < n → length (numbers (view i)) ≡ width →
      Stored width numbers view n (sets out (width * i) (numbers (view i))) (i + 1)
  stored_on out i v h w =
      let f : length out ≡ width * n = v.full in
      let e : width * (i + 1) ≡ width * i + length (numbers (view i)) = ap (λ (k : ℕ). width * k) (add-one i) ∙ mul-suc width i ∙ ap (λ (k : ℕ). width * i + k) (sym w) in
      let m : width * (i + 1) ≤ width * n = mul-le-mul_left width (omega arith) in
      record {
        reach = omega arith;
        full = length-sets out (width * i) (numbers (view i)) ∙ f;
        same = rw (e, groups-suc view i, flat-snoc numbers (groups view i) (view i), ← v.same) (sets-take (numbers (view i)) out (width * i) (omega arith));
      }

  pub stored-end : (out : List ℤ) (i : ℕ) → Stored width numbers view n out i → n ≤ i → out ≡ flat numbers (groups view n)
  stored-end out i v h =
      let e : i ≡ n = omega (arith, v.reach) in
      let f : length out ≡ width * n = v.full in
      sym (take_all (width * n) out (omega arith)) ∙ (rw e at v.same)

-- numbers that make at least one group of three are just that many
pub wholes-exact : (len n : ℕ) → n ≡ wholes 3 len → 1 ≤ n → len ≡ 3 * n
unfolding wholes
wholes-exact len n q h = rw q (by (eqb (len % 3) 0) refl (rw q at h))
  where
    by : (t : Bool) → eqb (len % 3) 0 ≡ t → 1 ≤ cond t (len / 3) 0 → len ≡ 3 * cond t (len / 3) 0
    by true e h = let z : len % 3 ≡ 0 = eqb-true (len % 3) 0 e in omega arith
    by false e h = absurd (omega arith)

-- ---- lists and views

-- element i of the groups
pub groups-at : {A : Type 0} (f : ℕ → A) (d : A) (n i : ℕ) → i < n → get_or (groups f n) i d ≡ f i
unfolding groups
groups-at f d zero i h = absurd (omega arith)
groups-at f d (suc n) i h = go (eqb i n) refl (groups-at f d n i)
  where
    go : (t : Bool) → eqb i n ≡ t → (i < n → get_or (groups f n) i d ≡ f i) → get_or (groups f n ++ (f n ∷ [])) i d ≡ f i
    go true e k = let q : i ≡ n = eqb-true i n e in get_or_at (groups f n) (f n) [] d i (groups-length f n ∙ sym q) ∙ ap f (sym q)
    go false e k =
        let s = groups-length f n in
        let q : i < n = omega (arith, eqb-false i n e) in
        get_or-append (groups f n) (f n ∷ []) d i (omega arith) ∙ k q

-- a list is the groups of what stands at its places
pub groups-list : {A : Type 0} (f : ℕ → A) (l : List A) (d : A) (n : ℕ) → length l ≡ n → ((i : ℕ) → i < n → get_or l i d ≡ f i) → l ≡ groups f n
groups-list f l d n s h = ext_get_or d l (groups f n) (s ∙ sym (groups-length f n)) (λ i k. h i (omega arith) ∙ sym (groups-at f d n i (omega arith)))

-- the numbers of a part of each of the first n elements of a list
pub flat-list : {A B : Type 0} (numbers : B → List ℤ) (part : A → B) (l : List A) (d : A) (n : ℕ) → n ≤ length l →
    flat numbers (groups (λ i. part (get_or l i d)) n) ≡ flat (λ (x : A). numbers (part x)) (take n l)
flat-list numbers part l d n h =
    flat-groups numbers part (λ i. get_or l i d) n
    ∙ ap (flat (λ x. numbers (part x))) (sym (groups-list (λ i. get_or l i d) (take n l) d n (length-take-le n l h) (λ i k. get_or-take n l i d k)))

-- row i of the numbers of rows, one after the other; past them all is zero
pub row-flat : {A : Type 0} (row : A → Row) (l : List A) (i : ℕ) (d : A) → row d ≡ fresh_row → row_at (flat (λ (x : A). of_row (row x)) l) i ≡ row (get_or l i d)
unfolding group_at flat
row-flat row [] i d e = sym e
row-flat row (x ∷ l) zero d e = refl
row-flat row (x ∷ l) (suc i) d e =
    let z : 3 * suc i ≡ suc (suc (suc (3 * i))) = omega arith in
    let z₁ : 3 * suc i + 1 ≡ suc (suc (suc (3 * i + 1))) = omega arith in
    let z₂ : 3 * suc i + 2 ≡ suc (suc (suc (3 * i + 2))) = omega arith in
    rw (z₂, z₁, z) (row-flat row l i d e)

pub flat-length : {A : Type 0} (width : ℕ) (numbers : A → List ℤ) (l : List A) → ((x : A) → length (numbers x) ≡ width) → length (flat numbers l) ≡ width * length l
unfolding flat
flat-length width numbers [] h = sym (mul-zero width)
flat-length width numbers (x ∷ l) h =
    let a = h x in
    let b = flat-length width numbers l h in
    let c = mul-suc width (length l) in
    length-append (numbers x) (flat numbers l) ∙ omega arith

-- number k of group i
pub flat-at : {A : Type 0} (width : ℕ) (numbers : A → List ℤ) → ((x : A) → length (numbers x) ≡ width) → (l : List A) (d : A) (i k : ℕ) → i < length l → k < width →
    at (flat numbers l) (width * i + k) ≡ at (numbers (get_or l i d)) k
unfolding flat
flat-at width numbers w [] d i k h m = absurd (omega arith)
flat-at width numbers w (x ∷ l) d zero k h m =
    let z = mul-zero width in
    let e : width * 0 + k ≡ k = omega arith in
    let s = w x in
    rw e (get_or-append (numbers x) (flat numbers l) (pos 0) k (omega arith))
flat-at width numbers w (x ∷ l) d (suc i) k h m =
    let z = mul-suc width i in
    let s = w x in
    let e : width * suc i + k ≡ length (numbers x) + (width * i + k) = omega arith in
    rw e (get_or-append-add (numbers x) (flat numbers l) (width * i + k) (pos 0)) ∙ flat-at width numbers w l d i k (omega arith) m

pub same_point : {w w' a a' d d' : ℤ} → w ≡ w' → a ≡ a' → d ≡ d' → ◌≡◌ {A = Point} (record { wind = w; angle = a; deficit = d }) (record { wind = w'; angle = a'; deficit = d' })
same_point e f g = rw (e, f, g)

-- point i of the numbers of points
pub point-flat : (l : List Point) (d : Point) (i : ℕ) → i < length l → point_at (flat of_point l) i ≡ get_or l i d
unfolding group_at
point-flat l d i h =
    let read = flat-at 3 of_point (λ p. refl) l d i in
    let z : 3 * i ≡ 3 * i + 0 = omega arith in
    same_point (ap (at (flat of_point l)) z ∙ read 0 h (omega arith)) (read 1 h (omega arith)) (read 2 h (omega arith))
