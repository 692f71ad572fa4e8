-- The numbers of a hurricane's field: how large they are, and what the code makes of them. Assumes nothing.
use mathlib.Core.Path.{◌≡◌, refl, sym, ap, subst, ◌∙◌}
use mathlib.Core.Bool.{Bool, true, false, cond}
use mathlib.Core.List.{List, [], ◌∷◌}
use mathlib.Core.Logic.{◌⊎◌, inl, inr}
use native.Mathlib.Omega.{arith}
use Prim.Native.Nat.{ℕ, zero, suc, ◌+◌, ◌-◌, ◌*◌, ◌/◌, ◌%◌, ◌≤◌, ◌<◌, zero-le}
use borrow.Author.Differences.{ints}
use denote.Param.Members.{Mut}
use denote.Ref.{Bor}
use lib.Dec.{eqb, le→leb}
use lib.ListN.{length, get_or, drop}
use lib.Seq.{get_or-take, get_or-drop}
use lib.IntN.{ℤ, pos, nat_abs, ◌+ℤ◌, ◌-ℤ◌, ◌*ℤ◌}
use lib.Signed.{lt_z, le_z, ◌≤ℤ◌, ◌<ℤ◌, lt_z_yes, le_z_yes}
use mir.Syntax.{w64}
use mir.Val.{SFits, to_z, of_z}
use Rattle.std.specs.Fn.{Called, ComputesKey}
use Rattle.std.specs.List.Sorted.{IsPartitionedBy, IsPartitionPoint}
use Rattle.std.specs.Simd.{first_chunks}
use Rattle.std.proofs.lemmas.List.Sorted.{IsPartitionPoint-from_clause}
use Rattle.ranges.specs.Bounds.{Sized}
use Rattle.ranges.specs.Division.{floor_div}
use Rattle.ranges.specs.Range.{lesser}
use Rattle.ranges.specs.Root.{whole_root}
use Rattle.ranges.proofs.Branches.{lt-true, lt-false, le-true, le-false, le_yes}
use Rattle.ranges.proofs.DivisionLaws.{floor-from, floor-to, floor-beside}
use Rattle.ranges.proofs.Fits.{abs-most, sized-mul, sized-add, sized-sub, sized-fits}
use Rattle.ranges.proofs.IntegerOrder.{le-or-gt, le-self, le_trans, nn-mul, nn-sq, gap, lt-le}
use Rattle.ranges.proofs.LinearSolver.{zomega, says, ◌&◌}
use Rattle.records.specs.Groups.{at, wholes, group_at}
use Rattle.records.proofs.LimitLaws.{Between}
use Rattle.hurricane.specs.declared.WindRow.{WindRow}
use Rattle.hurricane.specs.Bounds.{ApartIn, DropIn, WindsIn, TableIn, BetweenRows}
use Rattle.hurricane.specs.Groups.{wind_count, wind_row_of, wind_row_at}
use Rattle.hurricane.specs.Field.{distance_of, hundredths_of, straight, wind_from, wind_of}

-- a number as the machine reads it
abbrev pub read : ℤ → ℤ
read z = to_z w64 (of_z w64 z)

-- what a test of two numbers gives
lt_yes : {a b : ℤ} → a <ℤ b → lt_z a b ≡ true
lt_yes h = sym (omega (arith, ints))

lt-no : {a b : ℤ} → b ≤ℤ a → lt_z a b ≡ false
lt-no h = sym (omega (arith, ints))

-- ---- the distance

module _ (x₀ y₀ x y : ℤ) (h : ApartIn x₀ y₀ x y) where
  across-sized : Sized (pos 20000) (x -ℤ x₀)
  across-sized = sized-sub h.x-in h.x₀-in

  along-sized : Sized (pos 20000) (y -ℤ y₀)
  along-sized = sized-sub h.y-in h.y₀-in

  -- every number on the way fits
  pub across-fits : SFits w64 (x -ℤ x₀)
  across-fits = sized-fits (le_z_yes tt) across-sized

  pub along-fits : SFits w64 (y -ℤ y₀)
  along-fits = sized-fits (le_z_yes tt) along-sized

  pub across-square-fits : SFits w64 ((x -ℤ x₀) *ℤ (x -ℤ x₀))
  across-square-fits = sized-fits (le_z_yes tt) (sized-mul across-sized across-sized)

  pub along-square-fits : SFits w64 ((y -ℤ y₀) *ℤ (y -ℤ y₀))
  along-square-fits = sized-fits (le_z_yes tt) (sized-mul along-sized along-sized)

  pub squares-fit : SFits w64 ((x -ℤ x₀) *ℤ (x -ℤ x₀) +ℤ (y -ℤ y₀) *ℤ (y -ℤ y₀))
  squares-fit = sized-fits (le_z_yes tt) (sized-add (sized-mul across-sized across-sized) (sized-mul along-sized along-sized))

  pub squares-nn : pos 0 ≤ℤ ((x -ℤ x₀) *ℤ (x -ℤ x₀) +ℤ (y -ℤ y₀) *ℤ (y -ℤ y₀))
  squares-nn =
      let a = x -ℤ x₀ in
      let b = y -ℤ y₀ in
      let p : pos 0 ≤ℤ (a *ℤ a) = nn-sq a in
      let q : pos 0 ≤ℤ (b *ℤ b) = nn-sq b in
      zomega (a ∷ b ∷ []) (p & q) (search says depth 20) (omega arith)

  pub distance-nn : pos 0 ≤ℤ distance_of x₀ y₀ x y
  unfolding distance_of
  distance-nn = le_z_yes (le→leb 0 (whole_root 1 (nat_abs ((x -ℤ x₀) *ℤ (x -ℤ x₀) +ℤ (y -ℤ y₀) *ℤ (y -ℤ y₀)))) zero-le)

-- ---- R/r in hundredths

module _ (radius r : ℤ) (low : pos 1 ≤ℤ radius) (high : radius ≤ℤ pos 2000) where
  pub hundred-fits : SFits w64 (pos 100 *ℤ radius)
  hundred-fits = zomega (radius ∷ []) (low & high) (search says depth 20) (omega arith)

  pub quotient-nn : pos 0 <ℤ r → pos 0 ≤ℤ floor_div (pos 100 *ℤ radius) r
  quotient-nn p = floor-from (pos 100 *ℤ radius) r (pos 0) p (zomega (radius ∷ r ∷ []) low (search says depth 20) (omega arith))

  pub hundredths-near : r ≤ℤ pos 0 → hundredths_of radius r ≡ pos 1000
  unfolding hundredths_of
  hundredths-near h = go (lt_z (pos 0) r) refl
    where
      go : (t : Bool) → lt_z (pos 0) r ≡ t → cond t (lesser (floor_div (pos 100 *ℤ radius) r) (pos 1000)) (pos 1000) ≡ pos 1000
      go true e = absurd (zomega (r ∷ []) (h & lt-true (pos 0) r e) (search says depth 20) (omega arith))
      go false e = refl

  module _ (p : pos 0 <ℤ r) where
    pub hundredths-far : hundredths_of radius r ≡ lesser (floor_div (pos 100 *ℤ radius) r) (pos 1000)
    unfolding hundredths_of
    hundredths-far = rw (lt_yes p)

  -- a place of the table
  pub hundredths-place : nat_abs (hundredths_of radius r) < 1001
  unfolding lesser
  hundredths-place = by_sign (le-or-gt r (pos 0))
    where
      by_size : pos 0 <ℤ r → (t : Bool) → lt_z (floor_div (pos 100 *ℤ radius) r) (pos 1000) ≡ t → nat_abs (cond t (floor_div (pos 100 *ℤ radius) r) (pos 1000)) < 1001
      by_size p true e =
          let m = abs-most (floor_div (pos 100 *ℤ radius) r) 1000 (quotient-nn p) (lt-le (lt-true (floor_div (pos 100 *ℤ radius) r) (pos 1000) e)) in
          omega arith
      by_size p false e = omega arith

      by_sign : (r ≤ℤ pos 0) ⊎ (pos 0 <ℤ r) → nat_abs (hundredths_of radius r) < 1001
      by_sign (inl h) = subst (λ (z : ℤ). nat_abs z < 1001) (sym (hundredths-near h)) (omega arith)
      by_sign (inr p) = subst (λ (z : ℤ). nat_abs z < 1001) (sym (hundredths-far p)) (by_size p (lt_z (floor_div (pos 100 *ℤ radius) r) (pos 1000)) refl)

-- ---- the deficit

module _ (drop factor : ℤ) (d : Between (pos 0) (pos 300) drop) (f : Between (pos 0) (pos 10000) factor) where
  pub rest-fits : SFits w64 (pos 10000 -ℤ factor)
  rest-fits = zomega (factor ∷ []) (f.from & f.to) (search says depth 20) (omega arith)

  -- at most 3,000,000
  product-in : Between (pos 0) (pos 300 *ℤ pos 10000) (drop *ℤ (pos 10000 -ℤ factor))
  product-in =
      let l = nn-mul (gap d.from) (gap f.to) in
      let h = nn-mul (gap d.from) (gap f.from) in
      let k = d.to in
      record {
        from = zomega (drop ∷ factor ∷ []) l (search says depth 20) (omega arith);
        to = zomega (drop ∷ factor ∷ []) (h & k) (search says depth 20) (omega arith);
      }

  pub product-fits : SFits w64 (drop *ℤ (pos 10000 -ℤ factor))
  product-fits =
      let n = drop *ℤ (pos 10000 -ℤ factor) in
      let b = product-in in
      zomega (n ∷ []) (b.from & b.to) (search says depth 20) (omega arith)

  pub share_in : Between (pos 0) (pos 300) (floor_div (drop *ℤ (pos 10000 -ℤ factor)) (pos 10000))
  share_in =
      let n = drop *ℤ (pos 10000 -ℤ factor) in
      let b = product-in in
      let p : pos 0 <ℤ pos 10000 = lt_z_yes tt in
      record {
        from = floor-from n (pos 10000) (pos 0) p (zomega (n ∷ []) b.from (search says depth 20) (omega arith));
        to = floor-to n (pos 10000) (pos 300) p b.to;
      }

pub drop-in : {central edge : ℤ} → DropIn central edge → Between (pos 0) (pos 300) (edge -ℤ central)
drop-in h = record { from = h.low; to = h.high }

pub drop-fits : {central edge : ℤ} → DropIn central edge → SFits w64 (edge -ℤ central)
drop-fits {central} {edge} h = let l = h.low in let k = h.high in zomega (central ∷ edge ∷ []) (l & k) (search says depth 20) (omega arith)

pub entry_in : {table : List ℤ} → TableIn table → (m : ℕ) → m < 1001 → Between (pos 0) (pos 10000) (at table m)
entry_in v m h = record { from = v.low m h; to = v.high m h }

-- ---- the wind between two rows

module _ (a b : WindRow) (r : ℤ) (h : BetweenRows a b r) where
  pub span_pos : pos 0 <ℤ (b.radius -ℤ a.radius)
  span_pos = let f = h.from in let t = h.to in zomega (a.radius ∷ b.radius ∷ r ∷ []) (f & t) (search says depth 20) (omega arith)

  pub straight-is : a.wind +ℤ floor_div ((b.wind -ℤ a.wind) *ℤ (r -ℤ a.radius)) (b.radius -ℤ a.radius) ≡ straight a b r
  unfolding straight
  straight-is = floor-beside ((b.wind -ℤ a.wind) *ℤ (r -ℤ a.radius)) (b.radius -ℤ a.radius) a.wind span_pos

  change-sized : Sized (pos 60000000) ((b.wind -ℤ a.wind) *ℤ (r -ℤ a.radius))
  change-sized =
      let p = h.first in
      let q = h.second in
      let w : Sized (pos 2000) (b.wind -ℤ a.wind) = record {
        low = zomega (a.wind ∷ b.wind ∷ []) (p.wind-high & q.wind-low) (search says depth 20) (omega arith);
        high = zomega (a.wind ∷ b.wind ∷ []) (p.wind-low & q.wind-high) (search says depth 20) (omega arith);
      } in
      let s : Sized (pos 30000) (r -ℤ a.radius) = record {
        low = zomega (a.radius ∷ r ∷ []) h.from (search says depth 20) (omega arith);
        high = zomega (a.radius ∷ b.radius ∷ r ∷ []) (p.radius-low & q.radius-high & h.to) (search says depth 20) (omega arith);
      } in
      sized-mul w s

  pub straight-in : Between (pos 0) (pos 2000) (straight a b r)
  unfolding straight
  straight-in =
      let p = h.first in
      let q = h.second in
      let n = a.wind *ℤ (b.radius -ℤ a.radius) +ℤ (b.wind -ℤ a.wind) *ℤ (r -ℤ a.radius) in
      let ρ = a.wind ∷ b.wind ∷ a.radius ∷ b.radius ∷ r ∷ [] in
      let near = gap (lt-le h.to) in
      let far = gap h.from in
      record {
        from = floor-from n (b.radius -ℤ a.radius) (pos 0) span_pos (zomega ρ (nn-mul p.wind-low near & nn-mul q.wind-low far) (search says depth 20) (omega arith));
        to = floor-to n (b.radius -ℤ a.radius) (pos 2000) span_pos (zomega ρ (nn-mul (gap p.wind-high) near & nn-mul (gap q.wind-high) far) (search says depth 20) (omega arith));
      }

  -- every number on the way fits
  pub wind-change-fits : SFits w64 (b.wind -ℤ a.wind)
  wind-change-fits =
      let p = h.first in
      let q = h.second in
      zomega (a.wind ∷ b.wind ∷ []) (p.wind-low & p.wind-high & q.wind-low & q.wind-high) (search says depth 20) (omega arith)

  pub far-fits : SFits w64 (r -ℤ a.radius)
  far-fits =
      let p = h.first in
      let q = h.second in
      zomega (a.radius ∷ b.radius ∷ r ∷ []) (p.radius-low & q.radius-high & h.from & h.to) (search says depth 20) (omega arith)

  pub change-fits : SFits w64 ((b.wind -ℤ a.wind) *ℤ (r -ℤ a.radius))
  change-fits = sized-fits (le_z_yes tt) change-sized

  pub span_fits : SFits w64 (b.radius -ℤ a.radius)
  span_fits =
      let p = h.first in
      let q = h.second in
      zomega (a.radius ∷ b.radius ∷ []) (p.radius-low & p.radius-high & q.radius-low & q.radius-high) (search says depth 20) (omega arith)

  pub straight-fits : SFits w64 (straight a b r)
  straight-fits = let s = straight-in in zomega (straight a b r ∷ []) (s.from & s.to) (search says depth 20) (omega arith)

-- ---- the wind by the list

module _ (winds : List ℤ) (v : WindsIn winds) (r : ℤ) where
  -- the wind of a row is within its limits
  row-wind : (i : ℕ) → i < wind_count winds → Between (pos 0) (pos 2000) (wind_row_at winds i).wind
  row-wind i h = record { from = (v.rows i h).wind-low; to = (v.rows i h).wind-high }

  rows-between : (i : ℕ) → i + 1 < wind_count winds → (wind_row_at winds i).radius ≤ℤ r → r <ℤ (wind_row_at winds (i + 1)).radius → BetweenRows (wind_row_at winds i) (wind_row_at winds (i + 1)) r
  rows-between i h f t = record { first = v.rows i (omega arith); second = v.rows (i + 1) h; from = f; to = t }

  from_in : (k i : ℕ) → i + k < wind_count winds → (wind_row_at winds i).radius ≤ℤ r → Between (pos 0) (pos 2000) (wind_from winds r k i)
  unfolding wind_from
  from_in zero i h f = row-wind i (omega arith)
  from_in (suc k) i h f = go (lt_z r (wind_row_at winds (i + 1)).radius) refl (from_in k (i + 1) (omega arith))
    where
      go : (t : Bool) → lt_z r (wind_row_at winds (i + 1)).radius ≡ t → ((wind_row_at winds (i + 1)).radius ≤ℤ r → Between (pos 0) (pos 2000) (wind_from winds r k (i + 1))) →
          Between (pos 0) (pos 2000) (cond t (straight (wind_row_at winds i) (wind_row_at winds (i + 1)) r) (wind_from winds r k (i + 1)))
      go true e rest = straight-in (wind_row_at winds i) (wind_row_at winds (i + 1)) r (rows-between i (omega arith) f (lt-true r (wind_row_at winds (i + 1)).radius e))
      go false e rest = rest (lt-false r (wind_row_at winds (i + 1)).radius e)

  pub wind-in : Between (pos 0) (pos 2000) (wind_of winds r)
  unfolding wind_of
  wind-in = go (lt_z r (wind_row_at winds 0).radius) refl
    where
      go : (t : Bool) → lt_z r (wind_row_at winds 0).radius ≡ t → Between (pos 0) (pos 2000) (cond t (wind_row_at winds 0).wind (wind_from winds r (wind_count winds - 1) 0))
      go true e = row-wind 0 v.some
      go false e = let s = v.some in from_in (wind_count winds - 1) 0 (omega arith) (lt-false r (wind_row_at winds 0).radius e)

-- ---- the wind by the library's search of the rows, each two numbers

-- number k of row i
chunk-at : (n : ℕ) (l d : List ℤ) (i k : ℕ) → i < n → k < 2 → at (get_or (first_chunks 2 n l) i d) k ≡ at l (2 * i + k)
chunk-at zero l d i k h m = absurd (omega arith)
chunk-at (suc n) l d zero k h m = let z : 2 * 0 + k ≡ k = omega arith in rw z (get_or-take 2 l k (pos 0) m)
chunk-at (suc n) l d (suc i) k h m =
    let e : 2 * suc i + k ≡ 2 + (2 * i + k) = omega arith in
    rw e (chunk-at n (drop 2 l) d i k (omega arith) m ∙ get_or-drop 2 l (2 * i + k) (pos 0))

abbrev pub row_of : List (List ℤ) → ℕ → WindRow
row_of rows i = wind_row_of (at (get_or rows i []))

-- whether a row is not beyond r, as the search asks
abbrev pub within : ℤ → List ℤ → Bool
within r row = le_z (wind_row_of (at row)).radius r

module _ {winds : List ℤ} (v : WindsIn winds) where
  -- no number is left over
  rows-length : length winds / 2 ≡ wind_count winds
  unfolding wholes
  rows-length = by (eqb (length winds % 2) 0) v.some
    where
      by : (t : Bool) → 1 ≤ cond t (length winds / 2) 0 → length winds / 2 ≡ cond t (length winds / 2) 0
      by true h = refl
      by false h = absurd (omega arith)

  pub rows-some : 1 ≤ length winds / 2
  rows-some = let l = rows-length in let s = v.some in omega arith

  -- the radii rise from a row to any later one
  radii-rise : (k i : ℕ) → i + k < wind_count winds → (wind_row_at winds i).radius ≤ℤ (wind_row_at winds (i + k)).radius
  radii-rise zero i h = let z : i + 0 ≡ i = omega arith in rw z (le-self _)
  radii-rise (suc k) i h = let z : i + suc k ≡ i + 1 + k = omega arith in rw z (le_trans (lt-le (v.rising i (omega arith))) (radii-rise k (i + 1) (omega arith)))

-- what the search finds: the rows before row n are not beyond r, and row n is, if there is one
pub record Found (winds : List ℤ) (rows : List (List ℤ)) (r : ℤ) (n : ℕ) : Type 0 where
  pub winds_in : WindsIn winds
  pub long : length rows ≡ wind_count winds
  pub row : (i : ℕ) → i < length rows → row_of rows i ≡ wind_row_at winds i
  pub reach : n ≤ length rows
  pub from : (i : ℕ) → i < n → (wind_row_at winds i).radius ≤ℤ r
  pub to : n < length rows → r <ℤ (wind_row_at winds n).radius

-- from what the library ensures
module _ {winds : List ℤ} {rows : List (List ℤ)} (v : WindsIn winds) (is : rows ≡ first_chunks 2 (length winds / 2) winds) (long : length rows ≡ length winds / 2) (r : ℤ) where
  row-is : (i : ℕ) (d : List ℤ) → i < length rows → wind_row_of (at (get_or rows i d)) ≡ wind_row_at winds i
  unfolding group_at
  row-is i d h =
      let z : 2 * i + 0 ≡ 2 * i = omega arith in
      rw (is, chunk-at (length winds / 2) winds d i 0 (omega arith) (omega arith), chunk-at (length winds / 2) winds d i 1 (omega arith) (omega arith), z) refl

  within-is : (i : ℕ) (d : List ℤ) → i < length rows → within r (get_or rows i d) ≡ le_z (wind_row_at winds i).radius r
  within-is i d h = ap (λ (w : WindRow). le_z w.radius r) (row-is i d h)

  parted : IsPartitionedBy (within r) rows
  parted i j d h l e =
      let z : i + (j - i) ≡ j = omega arith in
      let n = rows-length v in
      let up = radii-rise v (j - i) i (omega arith) in
      let to = le-true (wind_row_at winds j).radius r (sym (within-is j d l) ∙ e) in
      within-is i d (omega arith) ∙ le_yes (le_trans (rw z at up) to)

  pub rows-found : {F : Type 0} {g : Mut F (Bor (List ℤ) × Unit {0}) Bool} {f : F} {n : ℕ} → n ≤ length rows
      → ((q : List ℤ → Bool) → ComputesKey g q f → IsPartitionedBy q rows → IsPartitionPoint (λ y. q y ≡ true) (λ y. q y ≡ false) rows n)
      → ((a : Bor (List ℤ) × Unit {0}) (b : Bool) (f' : F) → Called g f a b f' → (b ≡ within r a.0.now) × (f' ≡ f)) → Found winds rows r n
  rows-found {n = n} h clause asks =
      let p = IsPartitionPoint-from_clause (within r) rows n clause parted asks in
      record {
        winds_in = v;
        long = long ∙ rows-length v;
        row = λ i m. row-is i [] m;
        reach = h;
        from = λ i m. le-true (wind_row_at winds i).radius r (sym (within-is i [] (omega arith)) ∙ p.0 i [] (omega arith) m);
        to = λ m. le-false (wind_row_at winds n).radius r (sym (within-is n [] m) ∙ p.1 n [] (omega arith) m);
      }

module _ {winds : List ℤ} {rows : List (List ℤ)} {r : ℤ} {n : ℕ} (f : Found winds rows r n) where
  pub wind-first : n ≡ 0 → (row_of rows 0).wind ≡ wind_of winds r
  unfolding wind_of
  wind-first e =
      let some : 1 ≤ length rows = omega (arith, f.long, f.winds_in.some) in
      let to = f.to in
      let beyond = rw e at to in
      ap (λ (w : WindRow). w.wind) (f.row 0 some) ∙ rw (lt_yes (beyond some))

  -- from a row before row n on, the list gives what the whole gives
  wind-on : (i : ℕ) → i < n → wind_from winds r (wind_count winds - suc i) i ≡ wind_of winds r
  unfolding wind_of wind_from
  wind-on zero h = rw (lt-no (f.from 0 h))
  wind-on (suc i) h =
      let z : wind_count winds - suc i ≡ suc (wind_count winds - suc (suc i)) = omega (arith, f.long, f.reach) in
      let e : i + 1 ≡ suc i = omega arith in
      let before = wind-on i (omega arith) in
      rw (z, e, lt-no (f.from (suc i) h)) at before

  module _ (some : 1 ≤ n) where
    pub wind-last : n ≡ length rows → (row_of rows (n - 1)).wind ≡ wind_of winds r
    unfolding wind_from
    wind-last e =
        let z : wind_count winds - suc (n - 1) ≡ 0 = omega (arith, f.long) in
        let on = wind-on (n - 1) (omega arith) in
        ap (λ (w : WindRow). w.wind) (f.row (n - 1) (omega arith)) ∙ (rw z at on)

    module _ (h : n < length rows) where
      pub rows-around : BetweenRows (row_of rows (n - 1)) (row_of rows n) r
      rows-around =
          let l = f.long in
          rw (f.row (n - 1) (omega arith), f.row n h) (record { first = f.winds_in.rows (n - 1) (omega arith); second = f.winds_in.rows n (omega arith); from = f.from (n - 1) (omega arith); to = f.to h })

      pub wind-found : straight (row_of rows (n - 1)) (row_of rows n) r ≡ wind_of winds r
      unfolding wind_from
      wind-found =
          let z : wind_count winds - suc (n - 1) ≡ suc (wind_count winds - suc n) = omega (arith, f.long) in
          let e : n - 1 + 1 ≡ n = omega arith in
          let on = wind-on (n - 1) (omega arith) in
          rw (f.row (n - 1) (omega arith), f.row n h) (rw (z, e, lt_yes (f.to h)) at on)
