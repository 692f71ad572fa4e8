-- Demand 3: over every list of calls the ranges are outward and the exact march lies within them. Shown for any rows and exact march one inside
-- the other (`all_sound`), of which a fresh traverse is one case (`demand3`). Assumes nothing.
use mathlib.Core.Path.{◌≡◌, refl, sym, ap, subst, ◌∙◌}
use mathlib.Core.Bool.{Bool, true, false, cond, not}
use mathlib.Core.List.{List, [], ◌∷◌}
use native.Mathlib.Omega.{arith}
use Prim.Native.Nat.{ℕ, zero, suc, ◌+◌, ◌-◌, ◌≤◌, ◌<◌}
use lib.Dec.{eqb}
use lib.ListN.{length, get_or}
use lib.IntN.{ℤ, pos}
use Rattle.std.specs.Prelude.{Ok, Err}
use Rattle.ranges.specs.declared.Range.{Range}
use Rattle.ranges.specs.Fraction.{whole}
use Rattle.ranges.specs.Range.{Within}
use Rattle.ranges.proofs.FractionLaws.{within-ordered, whole_in, sum-within}
use Rattle.records.specs.declared.Refusal.{Refusal}
use Rattle.records.specs.Rows.{row_flux}
use Rattle.records.specs.Shapes.{Traverse, Record}
use Rattle.records.proofs.GroupLaws.{groups-list, row-flat}
use Rattle.records.specs.CheckOrder.{Check}
use Rattle.segment.specs.declared.Leg.{Leg}
use Rattle.segment.specs.Segment.{segment_of, segment_setup, SiteIn, WeatherIn}
use Rattle.segment.specs.ExactSegment.{SegmentWithin}
use Rattle.segment.proofs.SegmentLaws.{Passed as SegmentPassed, segment-on}
use Rattle.segment.proofs.SegmentRanges.{segment-outward}
use Rattle.segment.proofs.SegmentInclusion.{segment-within}
use Rattle.march.specs.declared.State.{State}
use Rattle.march.specs.Given.{Given, segments}
use Rattle.march.specs.Checks.{check_of, open_of}
use Rattle.march.specs.March.{March, stopped, done, segment_at, march_of, site_at, weather_at, working_row, no_setup}
use Rattle.march.specs.MarchBounds.{MarchIn}
use Rattle.march.specs.Take.{Left, row_numbers, setup_numbers, no_leg, last_setup, shore_of, height_of, left_accepted, left_refused, march_given, after_march, after_checks, take_of}
use Rattle.march.specs.Exact.{Exact, exact_setup, exact_leg, exact_height, exact_steps, exact_take, is_accepted}
use Rattle.march.specs.Demand3.{setup_before, step_leg, step_legs, StepSound, StepsSound, CallSound, Brought, called_with, called, Inside, AllSound, Demand3}
use Rattle.march.proofs.ChecksPassed.{passed}
use Rattle.march.proofs.MarchFits.{march-in, march-segment-in, zero-setup}
use Rattle.march.proofs.MarchLaws.{DoneBy, march-done, setup_into}

-- ---- one step that is done, from rows with the exact march inside

zero-within : Within no_setup (whole (pos 0))
zero-within = whole_in (pos 0)

module _ (t : Traverse) (r : Record) (rows : List ℤ) (x : Exact) (legs : List Leg)
    (e : march_of t r (not x.started) rows (segments t) ≡ done legs) (m : MarchIn t r rows (segments t))
    (flux : (j : ℕ) → j < segments t → Within (row_flux (working_row t (not x.started) rows j)) (x.kept j).v)
    (cross : (j : ℕ) → j < segments t → (working_row t (not x.started) rows j).cross ≡ (x.kept j).cross) where
  all : DoneBy (segment_at t r (not x.started) rows) (segments t) 0 no_setup legs
  all = march-done (segment_at t r (not x.started) rows) (segments t) 0 no_setup legs e

  abbrev On-at : ℕ → Range → Type 0
  On-at i s = segment_of (i + 1) (not x.started) (site_at t i) (weather_at t r i) (working_row t (not x.started) rows i) s ≡ Ok (get_or legs i no_leg)

  on-into : (i : ℕ) → i < segments t → On-at i (setup_into no_setup legs i)
  unfolding segment_at
  on-into i h = let z : 0 + i ≡ i = omega arith in rw z at (all.each i h)

  -- the leg of segment i is that of the steps
  leg-is : (i : ℕ) (s : Range) → On-at i s → SegmentPassed (not x.started) (site_at t i) (weather_at t r i) (working_row t (not x.started) rows i) s (get_or legs i no_leg)
  leg-is i s o = segment-on (i + 1) (not x.started) (site_at t i) (weather_at t r i) (working_row t (not x.started) rows i) s (get_or legs i no_leg) o

  -- and S before it is that of the leg before
  into-is : (i : ℕ) → i ≤ segments t → setup_into no_setup legs i ≡ setup_before t r (not x.started) rows i
  unfolding setup_before
  into-is zero h = refl
  into-is (suc i) h =
      ap (λ (l : Leg). l.setup) (leg-is i (setup_into no_setup legs i) (on-into i (omega arith))).is
      ∙ ap (segment_setup (not x.started) (site_at t i) (weather_at t r i) (working_row t (not x.started) rows i)) (into-is i (omega arith))

  on-at : (i : ℕ) → i < segments t → On-at i (setup_before t r (not x.started) rows i)
  on-at i h = subst (On-at i) (into-is i (omega arith)) (on-into i h)

  site-in : (i : ℕ) → i < segments t → SiteIn (site_at t i)
  site-in i h = (march-segment-in t r rows (segments t) (not x.started) m i h no_setup zero-setup).site

  weather-in : (i : ℕ) → i < segments t → WeatherIn (weather_at t r i)
  weather-in i h = (march-segment-in t r rows (segments t) (not x.started) m i h no_setup zero-setup).weather

  -- the exact segment i, where the exact S before it lies within S
  segment-in : (i : ℕ) → i < segments t → Within (setup_before t r (not x.started) rows i) (exact_setup t r x i) →
      SegmentWithin (site_at t i) (weather_at t r i) (setup_before t r (not x.started) rows i) (exact_setup t r x i) (get_or legs i no_leg) (exact_leg t r x i)
  segment-in i h w =
      segment-within (i + 1) (not x.started) (site_at t i) (weather_at t r i) (working_row t (not x.started) rows i) (setup_before t r (not x.started) rows i) (get_or legs i no_leg)
      (x.kept i) (exact_setup t r x i) (on-at i h) (site-in i h) (weather-in i h) w (flux i h) (cross i h)

  setup-within : (i : ℕ) → i ≤ segments t → Within (setup_before t r (not x.started) rows i) (exact_setup t r x i)
  unfolding exact_setup setup_before
  setup-within zero h = zero-within
  setup-within (suc i) h =
      let l : i < segments t = omega arith in
      subst (λ (s : Range). Within s (exact_setup t r x (suc i))) (ap (λ (l : Leg). l.setup) (leg-is i (setup_before t r (not x.started) rows i) (on-at i l)).is)
      (segment-in i l (setup-within i (omega arith))).setup

  segment-at : (i : ℕ) → i < segments t → SegmentWithin (site_at t i) (weather_at t r i) (setup_before t r (not x.started) rows i) (exact_setup t r x i) (get_or legs i no_leg) (exact_leg t r x i)
  segment-at i h = segment-in i h (setup-within i (omega arith))

  -- the legs are those of the steps
  leg-step : (i : ℕ) → i < segments t → get_or legs i no_leg ≡ step_leg t r (not x.started) rows i
  unfolding setup_before
  leg-step i h = (leg-is i (setup_before t r (not x.started) rows i) (on-at i h)).is

  legs-are : legs ≡ step_legs t r (not x.started) rows
  legs-are = groups-list (step_leg t r (not x.started) rows) legs no_leg (segments t) all.size leg-step

  pub sound-step : StepSound t r (not x.started) rows x
  sound-step i h =
      let w = segment-at i h in
      let b = setup_before t r (not x.started) rows i in
      record {
        outward = (segment-outward (i + 1) (not x.started) (site_at t i) (weather_at t r i) (working_row t (not x.started) rows i) b (get_or legs i no_leg) (on-at i h) (site-in i h) (weather-in i h) (within-ordered (flux i h)) (within-ordered (setup-within i (omega arith)))).0;
        exact-flux = subst (λ (l : Leg). Within (row_flux l.row) (exact_leg t r x i).kept.v) (leg-step i h) w.flux;
        exact-setup = setup-within (suc i) (omega arith);
        exact-depth = w.depth;
        depth-above = w.depth-above;
      }

  last_within : Within (last_setup legs) (exact_setup t r x (segments t))
  unfolding setup_before
  last_within = by (segments t) all.size (setup-within (segments t) (omega arith)) (λ i h. ap (λ (l : Leg). l.setup) (leg-step i h))
    where
      by : (n : ℕ) → length legs ≡ n → Within (setup_before t r (not x.started) rows n) (exact_setup t r x n) →
          ((i : ℕ) → i < n → (get_or legs i no_leg).setup ≡ setup_before t r (not x.started) rows (suc i)) → Within (last_setup legs) (exact_setup t r x n)
      by zero s w f = rw (none legs s) w
        where
          none : (l : List Leg) → length l ≡ 0 → last_setup l ≡ no_setup
          none [] s = refl
          none (y ∷ l) s = absurd (omega arith)
      by (suc n) s w f =
          let z : suc n - 1 ≡ n = omega arith in
          let k : length legs - 1 ≡ n = omega arith in
          subst (λ (i : ℕ). Within (get_or legs i no_leg).setup (exact_setup t r x (suc n))) (sym k) (subst (λ (q : Range). Within q (exact_setup t r x (suc n))) (sym (f n (omega arith))) w)

  height-within : Within (height_of t r (last_setup legs)) (exact_height t r x)
  unfolding exact_height
  height-within = sum-within (last_setup legs) (record { low = shore_of t r; high = shore_of t r }) (exact_setup t r x (segments t)) (whole (shore_of t r)) last_within (whole_in (shore_of t r))

  -- the setup places, where they are lent
  placed : (none : Bool) → 0 < length (cond none [] (setup_numbers legs)) → cond none [] (setup_numbers legs) ≡ setup_numbers (step_legs t r (not x.started) rows)
  placed true h = absurd (never h)
    where
      never : 0 < 0 → ⊥
      never h = omega arith
  placed false h = ap setup_numbers legs-are

-- ---- the list

module _ (g : Given) (x : Exact) (inside : Inside g.traverse g.state g.rows x) where
  -- what is claimed of a call, and what holds after it
  abbrev Sound : Left → Type 0
  Sound left = CallSound left.answer g x left × Inside g.traverse left.state left.rows (exact_take g.traverse g.storm x (is_accepted left.answer))

  refused-sound : (refusal : Refusal) → Sound (left_refused g refusal)
  refused-sound refusal = (record { same-state = refl; same_rows = refl; same-setup = refl }, inside)

  accepted-sound : (legs : List Leg) → march_of g.traverse g.storm (not x.started) g.rows (segments g.traverse) ≡ done legs → MarchIn g.traverse g.storm g.rows (segments g.traverse) → Sound (left_accepted g legs)
  unfolding StepsSound exact_steps
  accepted-sound legs e m =
      let step = segment-at g.traverse g.storm g.rows x legs e m inside.flux inside.cross in (
        rw (← inside.same) (
          sound-step g.traverse g.storm g.rows x legs e m inside.flux inside.cross,
          record {
            rows_are = ap row_numbers (legs-are g.traverse g.storm g.rows x legs e m inside.flux inside.cross);
            setup-are = placed g.traverse g.storm g.rows x legs e m inside.flux inside.cross (eqb (length g.setup) 0);
            height = height-within g.traverse g.storm g.rows x legs e m inside.flux inside.cross;
          },
        ),
        record {
          same = refl;
          flux = λ j h. rw (row-flat (λ (l : Leg). l.row) legs j no_leg refl) (step j h).flux;
          cross = λ j h. rw (row-flat (λ (l : Leg). l.row) legs j no_leg refl) (step j h).cross;
        },
      )

  by-march : (m : March) → march_given g ≡ m → MarchIn g.traverse g.storm g.rows (segments g.traverse) → Sound (after_march m g)
  by-march (stopped refusal) e i = refused-sound refusal
  by-march (done legs) e i = accepted-sound legs (rw inside.same e) i

  by-check : (k : Check) → check_of g ≡ k → Sound (after_checks k g)
  by-check (Err refusal) e = refused-sound refusal
  by-check (Ok _) e = by-march (march_given g) refl (march-in g.most g.traverse g.storm g.state g.rows (length g.setup) (passed g.most g.traverse g.storm g.state g.rows (length g.setup) e))

  call-sound : Sound (take_of g)
  unfolding take_of
  call-sound = by-check (check_of g) refl

pub all_sound : (most : ℕ) (t : Traverse) (st : State) (rows : List ℤ) (x : Exact) (calls : List Brought) → Inside t st rows x → AllSound most t st rows x calls
unfolding AllSound
all_sound most t st rows x [] inside = tt
all_sound most t st rows x (c ∷ calls) inside =
    let left = called most t st rows c in
    let s = call-sound (called_with most t st rows c) x inside in
    (s.0, all_sound most t left.state left.rows (exact_take t c.storm x (is_accepted left.answer)) calls s.1)

pub demand3 : Demand3
unfolding open_of
demand3 most t opened calls = all_sound most t _ _ _ calls (record {
  same = refl;
  flux = λ j h. zero-within;
  cross = λ j h. refl;
})
