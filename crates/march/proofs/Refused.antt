-- What the refusals of a call can be, by any property P of them: that no place is past the count of points (`open-place`, `take-place`), since points, rows
-- and segments are counted no further; and that our own program's never are 19 (`Panel.antt`). And a record whose rows are not one for each segment is
-- refused as if it had none. Assumes nothing.
use mathlib.Core.Path.{◌≡◌, refl, ◌∙◌}
use mathlib.Core.Bool.{Bool, true, false, cond, not}
use mathlib.Core.List.{List, [], ◌∷◌}
use borrow.Author.Tests.{ne_eqb}
use native.Mathlib.Omega.{arith}
use Prim.Native.Nat.{ℕ, zero, suc, ◌+◌, ◌-◌, ◌≤◌}
use lib.Dec.{eqb}
use lib.ListN.{length}
use lib.IntN.{ℤ}
use Rattle.std.specs.Prelude.{Result, Ok, Err}
use Rattle.ranges.specs.declared.Range.{Range}
use Rattle.records.specs.declared.Row.{Row}
use Rattle.records.specs.declared.Kind.{Kind}
use Rattle.records.specs.declared.Kind.TheVariants.{Points, PanelPoints, TraverseValue, Distance, Lent, RecordValue, CalmAngle, Depth, Flux, Setup}
use Rattle.records.specs.declared.Refusal.{Refusal}
use Rattle.records.specs.Refusals.{number_of, refusal}
use Rattle.records.specs.Groups.{point_count, row_count}
use Rattle.records.specs.Shapes.{Traverse, Record, count}
use Rattle.records.specs.Limits.{count_ok, build_has, head_ok, water_ok, flux_ok, setup_ok}
use Rattle.records.specs.CheckOrder.{Check, Pass, Fail, need, ◌then◌, each, first_bad, first_of}
use Rattle.records.proofs.CheckOrderLaws.{need-passed}
use Rattle.segment.specs.declared.Leg.{Leg}
use Rattle.segment.specs.declared.Site.{Site}
use Rattle.segment.specs.declared.Weather.{Weather}
use Rattle.segment.specs.Segment.{segment_of, segment_depth, segment_flux, segment_setup, leg_of}
use Rattle.march.specs.declared.State.{State}
use Rattle.march.specs.Answers.{accepted, refused, opened, not_opened, told_open}
use Rattle.march.specs.Given.{Given, segments}
use Rattle.march.specs.Checks.{stations_ok, spacing_ok, rows_ok, times_ok, points_ok, calms_ok, traverse_checks, traverse_check, lent_checks, lent_check, record_checks, record_check, checks_of, check_of, open_of}
use Rattle.march.proofs.ChecksPassed.{checks-are}
use Rattle.march.specs.March.{March, stopped, done, before, further, march_by, segment_at, no_setup, site_at, weather_at, working_row}
use Rattle.march.specs.Take.{march_given, after_checks, after_march, take_of}

bad-at : (ok : ℕ → Bool) (n i : ℕ) → first_bad ok n i ≤ i + n
unfolding first_bad
bad-at ok zero i = omega arith
bad-at ok (suc n) i = by (bad-at ok n (i + 1)) (ok i)
  where
    by : first_bad ok n (i + 1) ≤ i + 1 + n → (t : Bool) → cond t (first_bad ok n (i + 1)) (i + 1) ≤ i + suc n
    by h true = omega arith
    by h false = omega arith

never-refused : (number place : ℕ) (elapsed low high : ℤ) → accepted elapsed low high ≡ refused number place → ⊥
never-refused number place elapsed low high e = let z : ◌≡◌ {A = ℕ} 0 1 = cc in omega arith

-- the refusals that every build has
abbrev pub everywhere : Kind → Bool
everywhere kind = not (eqb (number_of kind) 19)

-- what is asked of P for a traverse in a build: it holds of each of these that is in place, and of 19 where 5 lets the traverse pass and 19 does not
pub record Holds (P : Refusal → Type 0) (most : ℕ) (t : Traverse) : Type 0 where
  pub other : (kind : Kind) (place : ℕ) → everywhere kind ≡ true → place ≤ count t → P (refusal kind place)
  pub panel : count_ok (count t) ≡ true → build_has most (count t) ≡ false → P (refusal PanelPoints (count t))

-- then it holds of the one that is told by this number and place
pub record Told (P : Refusal → Type 0) (number place : ℕ) : Type 0 where
  pub refusal : Refusal
  pub has : P refusal
  pub number-is : number_of refusal.kind ≡ number
  pub place-is : refusal.place ≡ place

module _ (P : Refusal → Type 0) (most : ℕ) (t : Traverse) (h : Holds P most t) where
  -- ---- checks

  abbrev Of : Check → Type 0
  Of (Ok _) = Unit {0}
  Of (Err refusal) = P refusal

  need-of : (b : Bool) (r : Refusal) → (b ≡ false → P r) → Of (need b r)
  need-of true r f = tt
  need-of false r f = f refl

  each-of : (kind : Kind) (ok : ℕ → Bool) (n : ℕ) → everywhere kind ≡ true → n ≤ count t → Of (each kind ok n)
  each-of kind ok n k g =
      let l : first_bad ok n 0 ≤ 0 + n = bad-at ok n 0 in
      need-of (eqb (first_bad ok n 0) 0) (refusal kind (first_bad ok n 0)) (λ e. h.other kind (first_bad ok n 0) k (omega arith))

  -- what is refused comes behind what passed
  then-of : (k l : Check) → Of k → (k ≡ Pass → Of l) → Of (k then l)
  then-of (Ok _) l f g = g refl
  then-of (Err r) l f g = f

  unfoldable AllOf : List Check → Type 0
  AllOf [] = Unit {0}
  AllOf (k ∷ l) = Of k × (k ≡ Pass → AllOf l)

  first-of : (l : List Check) → AllOf l → Of (first_of l)
  unfolding AllOf first_of
  first-of [] v = tt
  first-of (k ∷ l) v = then-of k (first_of l) v.0 (λ e. first-of l (v.1 e))

  traverse-of : Of (traverse_check most t)
  unfolding traverse_checks AllOf
  traverse-of =
      first-of (traverse_checks most t) (
        need-of (count_ok (count t)) (refusal Points (count t)) (λ e. h.other Points (count t) refl (omega arith)),
        λ five. (
          need-of (build_has most (count t)) (refusal PanelPoints (count t)) (h.panel (need-passed (count_ok (count t)) (refusal Points (count t)) five)),
          λ e. (
            need-of (head_ok t.head) (refusal TraverseValue 0) (λ e. h.other TraverseValue 0 refl (omega arith)),
            λ e. (
              each-of TraverseValue (stations_ok t.points) (count t) refl (omega arith),
              λ e. (
                each-of Distance (spacing_ok (count t) t.points) (count t) refl (omega arith),
                λ e. tt,
              ),
            ),
          ),
        ),
      )

  lent-of : (given : ℕ) (rows : List ℤ) (places : ℕ) → Of (lent_check (count t) given rows places)
  unfolding lent_checks AllOf
  lent-of given rows places =
      first-of (lent_checks (count t) given rows places) (
        need-of _ (refusal Lent 0) (λ e. h.other Lent 0 refl (omega arith)),
        λ e. (
          each-of Lent (rows_ok rows) (count t - 1) refl (omega arith),
          λ e. tt,
        ),
      )

  record-of : (r : Record) (st : State) → Of (record_check (count t) r st)
  unfolding record_checks AllOf
  record-of r st =
      first-of (record_checks (count t) r st) (
        need-of (times_ok r.closing st) (refusal RecordValue 0) (λ e. h.other RecordValue 0 refl (omega arith)),
        λ e. (
          each-of RecordValue (points_ok r.points) (count t) refl (omega arith),
          λ e. (
            each-of CalmAngle (calms_ok r.points) (count t) refl (omega arith),
            λ e. tt,
          ),
        ),
      )

  checks-of : (r : Record) (st : State) (rows : List ℤ) (places : ℕ) → Of (first_of (checks_of most t r st rows places))
  checks-of r st rows places =
      let lent = lent_check (count t) (point_count r.points) rows places in
      rw (checks-are most t r st rows places)
      (then-of (traverse_check most t) (lent then record_check (count t) r st) traverse-of
      (λ e. then-of lent (record_check (count t) r st) (lent-of (point_count r.points) rows places) (λ e. record-of r st)))

  -- ---- a march of n segments stops at one of them

  abbrev OfMarch : March → Type 0
  OfMarch (stopped r) = P r
  OfMarch (done legs) = Unit {0}

  abbrev OfAnswer : Result Leg Refusal → Type 0
  OfAnswer (Ok leg) = Unit {0}
  OfAnswer (Err r) = P r

  segment-answer : (place : ℕ) → place ≤ count t → (first : Bool) (a : Site) (w : Weather) (v : Row) (s : Range) → OfAnswer (segment_of place first a w v s)
  unfolding segment_of
  segment-answer place g first a w v s =
      by (water_ok (segment_depth a w s)) (flux_ok (segment_flux first a w v s)) (setup_ok (segment_setup first a w v s)) (leg_of (segment_flux first a w v s) w.cross (segment_setup first a w v s))
    where
      by : (d f u : Bool) (leg : Leg) → OfAnswer (cond d (cond f (cond u (Ok leg) (Err (refusal Setup place))) (Err (refusal Flux place))) (Err (refusal Depth place)))
      by true true true leg = tt
      by true true false leg = h.other Setup place refl g
      by true false u leg = h.other Flux place refl g
      by false f u leg = h.other Depth place refl g

  before-of : (leg : Leg) (m : March) → OfMarch m → OfMarch (before leg m)
  before-of leg (stopped r) k = k
  before-of leg (done legs) k = tt

  march-of : (segment : ℕ → Range → Result Leg Refusal) → ((i : ℕ) (s : Range) → i + 1 ≤ count t → OfAnswer (segment i s)) → (k i : ℕ) (s : Range) → i + k ≤ count t → OfMarch (march_by segment k i s)
  unfolding march_by
  march-of segment f zero i s l = tt
  march-of segment f (suc k) i s l = by (λ z. march-of segment f k (i + 1) z (omega arith)) (segment i s) (f i s (omega arith))
    where
      by : ((z : Range) → OfMarch (march_by segment k (i + 1) z)) → (x : Result Leg Refusal) → OfAnswer x → OfMarch (further x (march_by segment k (i + 1)))
      by rest (Ok leg) q = before-of leg (march_by segment k (i + 1) leg.setup) (rest leg.setup)
      by rest (Err r) q = q

  -- ---- the answers

  check-told : (k : Check) → Of k → (number place : ℕ) → told_open k ≡ not_opened number place → Told P number place
  check-told (Ok _) f number place e = absurd (never e)
    where
      never : opened ≡ not_opened number place → ⊥
      never e = let z : ◌≡◌ {A = ℕ} 0 1 = cc in omega arith
  check-told (Err r) f number place e = record { refusal = r; has = f; number-is = cc; place-is = cc }

  pub open-told : (number place : ℕ) → (open_of most t).answer ≡ not_opened number place → Told P number place
  unfolding open_of
  open-told number place e = check-told (traverse_check most t) traverse-of number place e

-- of a call that takes a record
pub take-told : (P : Refusal → Type 0) (g : Given) → Holds P g.most g.traverse → (number place : ℕ) → (take_of g).answer ≡ refused number place → Told P number place
unfolding take_of segment_at
take-told P g h number place =
    by-check (check_of g) (checks-of P g.most g.traverse h g.storm g.state g.rows (length g.setup))
  where
    by-march : (m : March) → OfMarch P g.most g.traverse h m → (after_march m g).answer ≡ refused number place → Told P number place
    by-march (stopped r) f e = record { refusal = r; has = f; number-is = cc; place-is = cc }
    by-march (done legs) f e = absurd (never-refused _ _ _ _ _ e)

    by-check : (k : Check) → Of P g.most g.traverse h k → (after_checks k g).answer ≡ refused number place → Told P number place
    by-check (Err r) f e = record { refusal = r; has = f; number-is = cc; place-is = cc }
    by-check (Ok _) f e =
        by-march (march_given g)
        (march-of P g.most g.traverse h (segment_at g.traverse g.storm (not g.state.started) g.rows)
        (λ i s l. segment-answer P g.most g.traverse h (i + 1) l (not g.state.started) (site_at g.traverse i) (weather_at g.traverse g.storm i) (working_row g.traverse (not g.state.started) g.rows i) s)
        (segments g.traverse) 0 no_setup (omega arith)) e

-- ---- no place is past the count of points

in-place : (most : ℕ) (t : Traverse) → Holds (λ r. r.place ≤ count t) most t
in-place most t = record { other = λ kind place n l. l; panel = λ e f. omega arith }

pub open-place : (most : ℕ) (t : Traverse) (number place : ℕ) → (open_of most t).answer ≡ not_opened number place → place ≤ count t
open-place most t number place e = let x = open-told (λ r. r.place ≤ count t) most t (in-place most t) number place e in omega (arith, x.has, x.place-is)

pub take-place : (g : Given) (number place : ℕ) → (take_of g).answer ≡ refused number place → place ≤ count g.traverse
take-place g number place e = let x = take-told (λ r. r.place ≤ count g.traverse) g (in-place g.most g.traverse) number place e in omega (arith, x.has, x.place-is)

-- ---- rows that are not one for each segment

-- where the traverse passes, 8 with place 0; else the traverse's own refusal
pub wrong-rows : (most : ℕ) (t : Traverse) (r : Record) (st : State) (rows : List ℤ) (places : ℕ) → (traverse_check most t ≡ Pass → row_count rows ≡ segments t → ⊥) →
    first_of (checks_of most t r st rows places) ≡ (traverse_check most t then Fail (refusal Lent 0))
unfolding lent_checks first_of
wrong-rows most t r st rows places h = checks-are most t r st rows places ∙ by (traverse_check most t) refl
  where
    not-lent : (row_count rows ≡ segments t → ⊥) → lent_check (count t) (point_count r.points) rows places ≡ Fail (refusal Lent 0)
    not-lent k = rw (ne_eqb (row_count rows) (count t - 1) k)

    by : (k : Check) → traverse_check most t ≡ k → (traverse_check most t then (lent_check (count t) (point_count r.points) rows places then record_check (count t) r st)) ≡ (traverse_check most t then Fail (refusal Lent 0))
    by (Err refusal) e = rw e
    by (Ok _) e = rw (e, not-lent (h e))
