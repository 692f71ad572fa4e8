-- Taking a record: what the functions gave is what the definition says. Assumes nothing.
use mathlib.Core.Path.{◌≡◌, refl, sym, ap, subst, ◌∙◌}
use mathlib.Core.Bool.{true, cond, not}
use mathlib.Core.List.{List, [], ◌∷◌}
use mathlib.Core.Logic.{⊎_elim}
use native.Mathlib.Omega.{arith}
use borrow.Author.Tests.{ne_eqb}
use Prim.Native.Nat.{ℕ, ◌*◌, ◌/◌, ◌-◌, ◌≤◌}
use lib.Dec.{eqb}
use lib.ListN.{length, get_or, take}
use lib.IntN.{ℤ, pos, ◌+ℤ◌}
use lib.Signed.{le_z_yes}
use Rattle.std.specs.Prelude.{Ok, Err}
use Rattle.ranges.specs.declared.Range.{Range}
use Rattle.ranges.specs.Bounds.{Sized}
use Rattle.ranges.proofs.Fits.{sized-add, sized-mul, sized-literal, sized-fits}
use Rattle.records.specs.CheckOrder.{Check, Pass, Fail}
use Rattle.forcing.proofs.StressLaws.{sized-wider}
use Rattle.records.specs.declared.Refusal.{Refusal}
use Rattle.records.specs.Groups.{point_at, of_row, flat}
use Rattle.records.specs.Shapes.{Traverse, Record}
use Rattle.records.proofs.GroupLaws.{wholes-exact, flat-length}
use Rattle.records.proofs.LimitLaws.{nn-sized}
use Rattle.segment.specs.declared.Leg.{Leg}
use Rattle.segment.specs.Segment.{shore_base}
use Rattle.march.specs.declared.State.{State}
use Rattle.march.specs.Answers.{refused}
use Rattle.march.specs.Given.{Given, segments}
use Rattle.march.specs.Checks.{places_ok, check_of}
use Rattle.march.specs.March.{March, stopped, done, segment_at, march_of, marched, no_setup}
use Rattle.march.specs.MarchBounds.{MarchIn}
use Rattle.march.specs.Take.{left, row_numbers, setup_numbers, no_leg, shore_of, later_state, march_given, after_march, after_checks, take_of}
use Rattle.march.specs.TakeBounds.{ShoreAt, AcceptIn}
use Rattle.march.proofs.ChecksPassed.{places-cases, passed}
use Rattle.march.proofs.MarchFits.{march-in, level_in}
use Rattle.march.proofs.MarchLaws.{march-done}
use Rattle.march.proofs.MarchSteps.{last-setup}

-- ---- the setup places that are lent: none, or two for each segment

pub places-half : (p n : ℕ) → places_ok p n ≡ true → (p ≡ 2 * (p / 2)) × (p / 2 ≤ n)
places-half p n e = ⊎_elim (λ a. (omega arith, omega arith)) (λ b. (omega arith, omega arith)) (places-cases p n e)

pub places-setup : (p n : ℕ) (legs : List Leg) → places_ok p n ≡ true → 1 ≤ n → setup_numbers (take (p / 2) legs) ≡ cond (eqb p 0) [] (setup_numbers (take n legs))
unfolding flat
places-setup p n legs e h = ⊎_elim (zero-case p) (full-case p) (places-cases p n e)
  where
    nothing : (l : List Leg) → setup_numbers (take 0 l) ≡ []
    nothing [] = refl
    nothing (x ∷ l) = refl

    zero-case : (p : ℕ) → p ≡ 0 → setup_numbers (take (p / 2) legs) ≡ cond (eqb p 0) [] (setup_numbers (take n legs))
    zero-case p a =
        let z : p / 2 ≡ 0 = omega arith in
        ap (λ (k : ℕ). setup_numbers (take k legs)) z ∙ nothing legs ∙ sym (ap (λ (q : ℕ). cond (eqb q 0) [] (setup_numbers (take n legs))) a)

    full-case : (p : ℕ) → p ≡ 2 * n → setup_numbers (take (p / 2) legs) ≡ cond (eqb p 0) [] (setup_numbers (take n legs))
    full-case p b =
        let z : (p ≡ 0 → ⊥) = λ q. omega (arith, q) in
        let e : p / 2 ≡ n = omega arith in
        rw (ne_eqb p 0 z, e)

-- ---- the shore

shore-in : (t : Traverse) (r : Record) (n : ℕ) → ShoreAt t r n → Sized (pos 1000000) (shore_of t r)
unfolding shore_base
shore-in t r n m =
    let d : Sized (pos 300) (point_at r.points (segments t)).deficit = subst (λ (k : ℕ). Sized (pos 300) (point_at r.points k).deficit) m.is m.deficit in
    sized-wider {a = pos 334200} (le_z_yes tt) (sized-add (sized-mul (sized-literal 100) (level_in t.head r.closing m.setting)) (sized-mul (sized-literal 114) d))

pub shore-at : (t : Traverse) (r : Record) (rows : List ℤ) (n : ℕ) → MarchIn t r rows n → n ≡ segments t → ShoreAt t r n
shore-at t r rows n m e = record { is = e; long = m.record-long; setting = m.setting; deficit = (m.points n (omega arith)).deficit }

-- ---- past the checks, with n segments: stopped, or done

module _ (g : Given) (legs : List Leg) (n : ℕ) (end : Check) (pass : check_of g ≡ Pass) (many : n ≡ segments g.traverse) (size : length legs ≡ n)
    (gone : marched end legs ≡ march_of g.traverse g.storm (not g.state.started) g.rows n) where
  took : take_of g ≡ after_march (marched end legs) g
  unfolding take_of
  took = rw pass (ap (λ (m : March). after_march m g) (sym (gone ∙ ap (march_of g.traverse g.storm (not g.state.started) g.rows) many)))

  pub taken-stopped : (refusal : Refusal) → end ≡ Fail refusal → left (Err refusal) g.state g.rows g.setup ≡ take_of g
  taken-stopped refusal e = sym (took ∙ ap (λ (x : Check). after_march (marched x legs) g) e)

  pub accept-in : end ≡ Pass → (base : ℤ) → base ≡ shore_of g.traverse g.storm → AcceptIn g.storm.closing.seconds base g.state (get_or legs (n - 1) no_leg).setup
  accept-in e base b =
      let p = passed g.most g.traverse g.storm g.state g.rows (length g.setup) pass in
      let some : 1 ≤ n = omega (arith, many, p.traverse.from) in
      let m : MarchIn g.traverse g.storm g.rows n = subst (MarchIn g.traverse g.storm g.rows) (sym many) (march-in _ _ _ _ _ _ p) in
      let gone' : done legs ≡ march_of g.traverse g.storm (not g.state.started) g.rows n = rw e at gone in
      record {
        fits = sized-fits {a = pos 1000000000} (le_z_yes tt) (nn-sized p.values.new-elapsed);
        base-in = rw b (shore-in g.traverse g.storm n (shore-at g.traverse g.storm g.rows n m many));
        last-in = last-setup g.traverse g.storm (not g.state.started) g.rows n legs (sym gone') some;
      }

  pub taken-accepted : (base : ℤ) (height : Range) (st : State) (rows' setup' : List ℤ) → end ≡ Pass → base ≡ shore_of g.traverse g.storm →
      height ≡ record { low = (get_or legs (n - 1) no_leg).setup.low +ℤ base; high = (get_or legs (n - 1) no_leg).setup.high +ℤ base } → st ≡ later_state g.storm g.state →
      rows' ≡ row_numbers legs → setup' ≡ cond (eqb (length g.setup) 0) [] (setup_numbers legs) → left (Ok height) st rows' setup' ≡ take_of g
  taken-accepted base height st rows' setup' e b a d v u =
      rw (a, b, d, v, u, ← size) (sym (took ∙ ap (λ (z : Check). after_march (marched z legs) g) e))

-- ---- the rows stay as many

pub rows_long : (g : Given) → length (take_of g).rows ≡ length g.rows
unfolding take_of
rows_long g = by-check (check_of g) refl
  where
    by-march : (m : March) → march_given g ≡ m → check_of g ≡ Pass → length (after_march m g).rows ≡ length g.rows
    by-march (stopped refusal) e c = refl
    by-march (done legs) e c =
        let p = passed g.most g.traverse g.storm g.state g.rows (length g.setup) c in
        let d = march-done (segment_at g.traverse g.storm (not g.state.started) g.rows) (segments g.traverse) 0 no_setup legs e in
        flat-length 3 (λ (leg : Leg). of_row leg.row) legs (λ leg. refl) ∙ ap (λ (n : ℕ). 3 * n) d.size
        ∙ sym (wholes-exact (length g.rows) (segments g.traverse) (sym p.lent.rows_are) (omega (arith, p.traverse.from)))

    by-check : (k : Check) → check_of g ≡ k → length (after_checks k g).rows ≡ length g.rows
    by-check (Err refusal) e = refl
    by-check (Ok _) e = by-march (march_given g) refl e

-- a refused record leaves them as they were
pub refused-rows : (g : Given) (number place : ℕ) → (take_of g).answer ≡ refused number place → (take_of g).rows ≡ g.rows
unfolding take_of
refused-rows g number place = by-check (check_of g)
  where
    by-march : (m : March) → (after_march m g).answer ≡ refused number place → (after_march m g).rows ≡ g.rows
    by-march (stopped refusal) e = refl
    by-march (done legs) e = let z : ◌≡◌ {A = ℕ} 0 1 = cc in absurd (omega arith)

    by-check : (k : Check) → (after_checks k g).answer ≡ refused number place → (after_checks k g).rows ≡ g.rows
    by-check (Err refusal) e = refl
    by-check (Ok _) e = by-march (march_given g) e
