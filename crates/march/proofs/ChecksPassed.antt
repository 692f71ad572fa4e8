-- What the checks let pass, as plain facts, and that whatever meets these facts passes. Assumes nothing.
use mathlib.Core.Path.{◌≡◌, refl, sym, ap, ◌∙◌}
use mathlib.Core.Bool.{Bool, true, false, ◌&&◌, ◌||◌, not}
use mathlib.Core.List.{List, [], ◌∷◌, ◌++◌}
use mathlib.Core.Logic.{◌⊎◌, inl, inr}
use native.Mathlib.Omega.{arith}
use borrow.Author.Tests.{eqb-true, eqb-false, eq-eqb, ne_eqb, not-false}
use Prim.Native.Nat.{ℕ, ◌+◌, ◌-◌, ◌*◌, ◌≤◌, ◌<◌}
use lib.Dec.{eqb}
use lib.IntN.{ℤ, pos, negsuc, ◌+ℤ◌, ◌-ℤ◌}
use lib.Signed.{le_z, ◌≤ℤ◌}
use Rattle.ranges.specs.Bounds.{Sized}
use Rattle.ranges.proofs.Branches.{le-true}
use Rattle.ranges.proofs.LinearSolver.{zomega, says, ◌&◌}
use Rattle.records.specs.CheckOrder.{Check, Pass, ◌then◌, first_of, AllPass}
use Rattle.records.specs.declared.Station.{Station}
use Rattle.records.specs.declared.Point.{Point}
use Rattle.records.specs.declared.Row.{Row}
use Rattle.records.specs.declared.Kind.TheVariants.{Points, PanelPoints, TraverseValue, Distance, Lent, RecordValue, CalmAngle}
use Rattle.records.specs.Refusals.{refusal}
use Rattle.records.specs.Groups.{station_at, point_count, point_at, row_count, row_at}
use Rattle.records.specs.Rows.{row_flux}
use Rattle.records.specs.Shapes.{Traverse, Record, count}
use Rattle.records.specs.Limits.{inside, most_points, count_ok, build_has, latitude_ok, friction_ok, initial_ok, head_ok, distance_ok, bed_ok, station_ok, length_ok, shore_ok, tide_ok, seconds_ok, elapsed_ok, wind_ok, angle_ok, deficit_ok, point_ok, calm, calm_ok, flux_ok, cross_ok, row_ok}
use Rattle.records.proofs.LimitLaws.{unequal, and_left, and_right, and_both, le-flag, Between, between, within, range-between, range-within, counts-in, counts-pass, build-in, build-passes}
use Rattle.records.proofs.CheckOrderLaws.{need-passed, each-passed, none_first, first-passed, first-append, first-left, first-right}
use Rattle.march.specs.declared.State.{State}
use Rattle.march.specs.Checks.{stations_ok, spacing_ok, traverse_checks, traverse_check, places_ok, rows_ok, lent_checks, lent_check, times_ok, points_ok, calms_ok, record_checks, record_check, checks_of}

-- ---- flags

or_right : (a b : Bool) → a ≡ false → (a || b) ≡ true → b ≡ true
or_right a b p e = rw p at e

or_else : (a b : Bool) → (a ≡ false → b ≡ true) → (a || b) ≡ true
or_else true b f = refl
or_else false b f = f refl

-- 0 and no other number
zero-only : (x : ℤ) → Between (pos 0) (pos 0) x → x ≡ pos 0
zero-only x h = zomega (x ∷ []) (h.from & h.to) (search says depth 20) (omega arith)

at_zero : (x : ℤ) → x ≡ pos 0 → inside (pos 0) (pos 0) x ≡ true
at_zero x e = within (pos 0) (pos 0) x (record {
  from = zomega (x ∷ []) e (search says depth 20) (omega arith);
  to = zomega (x ∷ []) e (search says depth 20) (omega arith);
})

-- ---- a traverse

pub record StationIn (s : Station) : Type 0 where
  pub distance : Between (pos 0) (pos 6400) s.distance
  pub depth : Between (pos 0) (pos 10000) s.depth

module _ (s : Station) where
  pub station-in : station_ok s ≡ true → StationIn s
  unfolding station_ok
  station-in e = record {
    distance = between (pos 0) (pos 6400) s.distance (and_left (distance_ok s.distance) (bed_ok s.depth) e);
    depth = between (pos 0) (pos 10000) s.depth (and_right (distance_ok s.distance) (bed_ok s.depth) e);
  }

  station-ok : StationIn s → station_ok s ≡ true
  unfolding station_ok
  station-ok h = rw (within (pos 0) (pos 6400) s.distance h.distance, within (pos 0) (pos 10000) s.depth h.depth)

pub record TraverseIn (most : ℕ) (t : Traverse) : Type 0 where
  pub from : 2 ≤ count t
  pub to : count t ≤ most_points
  pub build : count t ≤ most
  pub latitude : Between (pos 0) (pos 900) t.head.latitude
  pub friction : Between (pos 10) (pos 50) t.head.friction
  pub initial : Between (negsuc 999) (pos 1000) t.head.initial
  pub stations : (i : ℕ) → i < count t → StationIn (station_at t.points i)
  -- the length of each segment
  pub lengths : (i : ℕ) → i + 1 < count t → Between (pos 1) (pos 100) ((station_at t.points i).distance -ℤ (station_at t.points (i + 1)).distance)
  pub shore : (station_at t.points (count t - 1)).distance ≡ pos 0

-- check 7 at a place that is not the first
length-in : (t : Traverse) (i : ℕ) → spacing_ok (count t) t.points (i + 1) ≡ true → Between (pos 1) (pos 100) ((station_at t.points i).distance -ℤ (station_at t.points (i + 1)).distance)
unfolding spacing_ok
length-in t i e =
    let back : i + 1 - 1 ≡ i = omega arith in
    let length = length_ok ((station_at t.points (i + 1 - 1)).distance -ℤ (station_at t.points (i + 1)).distance) in
    let a : (eqb (i + 1) 0 || length) ≡ true = and_left (eqb (i + 1) 0 || length) (not (eqb (i + 1 + 1) (count t)) || shore_ok (station_at t.points (i + 1)).distance) e in
    let b : length ≡ true = or_right (eqb (i + 1) 0) length (ne_eqb (i + 1) 0 (λ h. omega arith)) a in
    between (pos 1) (pos 100) _ (rw back at b)

-- and at the last
shore-at : (t : Traverse) (i : ℕ) → i + 1 ≡ count t → spacing_ok (count t) t.points i ≡ true → (station_at t.points i).distance ≡ pos 0
unfolding spacing_ok
shore-at t i q e =
    let here = shore_ok (station_at t.points i).distance in
    let a : (not (eqb (i + 1) (count t)) || here) ≡ true = and_right (eqb i 0 || length_ok ((station_at t.points (i - 1)).distance -ℤ (station_at t.points i).distance)) (not (eqb (i + 1) (count t)) || here) e in
    zero-only (station_at t.points i).distance (between (pos 0) (pos 0) _ (or_right (not (eqb (i + 1) (count t))) here (ap not (eq-eqb (i + 1) (count t) q)) a))

spacing-ok : (most : ℕ) (t : Traverse) → TraverseIn most t → (i : ℕ) → i < count t → spacing_ok (count t) t.points i ≡ true
unfolding spacing_ok
spacing-ok most t v i h =
    and_both
    (eqb i 0 || length_ok ((station_at t.points (i - 1)).distance -ℤ (station_at t.points i).distance))
    (not (eqb (i + 1) (count t)) || shore_ok (station_at t.points i).distance)
    (or_else (eqb i 0) _ (λ e. later (eqb-false i 0 e)))
    (or_else (not (eqb (i + 1) (count t))) _ (λ e. last (eqb-true (i + 1) (count t) (not-false _ e))))
  where
    later : (i ≡ 0 → ⊥) → length_ok ((station_at t.points (i - 1)).distance -ℤ (station_at t.points i).distance) ≡ true
    later z =
        let back : i - 1 + 1 ≡ i = omega arith in
        rw back at (within (pos 1) (pos 100) _ (v.lengths (i - 1) (omega arith)))

    last : i + 1 ≡ count t → shore_ok (station_at t.points i).distance ≡ true
    last q =
        let back : count t - 1 ≡ i = omega arith in
        at_zero (station_at t.points i).distance (rw back at v.shore)

pub traverse-in : (most : ℕ) (t : Traverse) → traverse_check most t ≡ Pass → TraverseIn most t
unfolding traverse_checks AllPass head_ok
traverse-in most t e =
    let all = first-passed (traverse_checks most t) e in
    let a = counts-in (count t) (need-passed (count_ok (count t)) (refusal Points (count t)) all.0) in
    let b = need-passed (head_ok t.head) (refusal TraverseValue 0) all.1.1.0 in
    let b₁ = and_right (latitude_ok t.head.latitude) (friction_ok t.head.friction && initial_ok t.head.initial) b in
    let ok = each-passed TraverseValue (stations_ok t.points) (count t) all.1.1.1.0 in
    let apart = each-passed Distance (spacing_ok (count t) t.points) (count t) all.1.1.1.1.0 in
    record {
      from = a.0;
      to = a.1;
      build = build-in most (count t) (need-passed (build_has most (count t)) (refusal PanelPoints (count t)) all.1.0);
      latitude = between (pos 0) (pos 900) t.head.latitude (and_left (latitude_ok t.head.latitude) (friction_ok t.head.friction && initial_ok t.head.initial) b);
      friction = between (pos 10) (pos 50) t.head.friction (and_left (friction_ok t.head.friction) (initial_ok t.head.initial) b₁);
      initial = between (negsuc 999) (pos 1000) t.head.initial (and_right (friction_ok t.head.friction) (initial_ok t.head.initial) b₁);
      stations = λ i h. station-in (station_at t.points i) (ok i h);
      lengths = λ i h. length-in t i (apart (i + 1) h);
      shore = shore-at t (count t - 1) (omega (arith, a.0)) (apart (count t - 1) (omega (arith, a.0)));
    }

pub traverse-passes : (most : ℕ) (t : Traverse) → TraverseIn most t → traverse_check most t ≡ Pass
unfolding traverse_checks first_of head_ok
traverse-passes most t v =
    rw (
      counts-pass (count t) v.from v.to,
      build-passes most (count t) v.build,
      within (pos 0) (pos 900) t.head.latitude v.latitude,
      within (pos 10) (pos 50) t.head.friction v.friction,
      within (negsuc 999) (pos 1000) t.head.initial v.initial,
      none_first (stations_ok t.points) (count t) (λ i h. station-ok (station_at t.points i) (v.stations i h)),
      none_first (spacing_ok (count t) t.points) (count t) (spacing-ok most t v),
    )

-- ---- what is lent with a record

pub record RowIn (v : Row) : Type 0 where
  pub order : v.low ≤ℤ v.high
  pub low : Sized (pos 1000000) v.low
  pub high : Sized (pos 1000000) v.high
  pub cross : Sized (pos 2572800000000) v.cross

pub row_in : (v : Row) → row_ok v ≡ true → RowIn v
unfolding row_ok
row_in v e =
    let e₁ = and_right (le_z v.low v.high) (flux_ok (row_flux v) && cross_ok v.cross) e in
    let f = range-between (negsuc 999999) (pos 1000000) (row_flux v) (and_left (flux_ok (row_flux v)) (cross_ok v.cross) e₁) in
    let x = between (negsuc 2572799999999) (pos 2572800000000) v.cross (and_right (flux_ok (row_flux v)) (cross_ok v.cross) e₁) in
    record {
      order = le-true v.low v.high (and_left (le_z v.low v.high) (flux_ok (row_flux v) && cross_ok v.cross) e);
      low = record { low = f.low-in.from; high = f.low-in.to };
      high = record { low = f.high-in.from; high = f.high-in.to };
      cross = record { low = x.from; high = x.to };
    }

pub row-ok : (v : Row) → RowIn v → row_ok v ≡ true
unfolding row_ok
row-ok v h =
    let f = range-within (negsuc 999999) (pos 1000000) (row_flux v) (record {
      low-in = record { from = h.low.low; to = h.low.high };
      high-in = record { from = h.high.low; to = h.high.high };
    }) in
    let x = within (negsuc 2572799999999) (pos 2572800000000) v.cross (record { from = h.cross.low; to = h.cross.high }) in
    rw (le-flag v.low v.high h.order, f, x)

pub record LentIn (points given : ℕ) (rows : List ℤ) (places : ℕ) : Type 0 where
  pub rows_are : row_count rows ≡ points - 1
  pub given_is : given ≡ points
  pub places-are : places_ok places (points - 1) ≡ true
  pub each_row : (i : ℕ) → i < points - 1 → RowIn (row_at rows i)

-- the setup places
pub places-cases : (places n : ℕ) → places_ok places n ≡ true → (places ≡ 0) ⊎ (places ≡ 2 * n)
unfolding places_ok
places-cases places n e = go (eqb places 0) refl e
  where
    go : (b : Bool) → eqb places 0 ≡ b → (b || eqb places (2 * n)) ≡ true → (places ≡ 0) ⊎ (places ≡ 2 * n)
    go true q e = inl (eqb-true places 0 q)
    go false q e = inr (eqb-true places (2 * n) e)

module _ (points given : ℕ) (rows : List ℤ) (places : ℕ) where
  pub lent-in : lent_check points given rows places ≡ Pass → LentIn points given rows places
  unfolding lent_checks AllPass
  lent-in e =
      let all = first-passed (lent_checks points given rows places) e in
      let a = need-passed (eqb (row_count rows) (points - 1) && (eqb given points && places_ok places (points - 1))) (refusal Lent 0) all.0 in
      let b = and_right (eqb (row_count rows) (points - 1)) (eqb given points && places_ok places (points - 1)) a in
      record {
        rows_are = eqb-true (row_count rows) (points - 1) (and_left (eqb (row_count rows) (points - 1)) (eqb given points && places_ok places (points - 1)) a);
        given_is = eqb-true given points (and_left (eqb given points) (places_ok places (points - 1)) b);
        places-are = and_right (eqb given points) (places_ok places (points - 1)) b;
        each_row = λ i h. row_in (row_at rows i) (each-passed Lent (rows_ok rows) (points - 1) all.1.0 i h);
      }

  pub lent-passes : LentIn points given rows places → lent_check points given rows places ≡ Pass
  unfolding lent_checks first_of
  lent-passes v =
      rw (
        eq-eqb (row_count rows) (points - 1) v.rows_are,
        eq-eqb given points v.given_is,
        v.places-are,
        none_first (rows_ok rows) (points - 1) (λ i h. row-ok (row_at rows i) (v.each_row i h)),
      )

-- ---- a record

-- seconds of a first or a later record
pub seconds-in : (started : Bool) (x : ℤ) → seconds_ok started x ≡ true → Between (pos 0) (pos 3600) x
unfolding seconds_ok
seconds-in true x e =
    let h = between (pos 1) (pos 3600) x e in
    record { from = zomega (x ∷ []) h.from (search says depth 20) (omega arith); to = h.to }
seconds-in false x e =
    let h = between (pos 0) (pos 0) x e in
    record { from = h.from; to = zomega (x ∷ []) h.to (search says depth 20) (omega arith) }

first-seconds : (started : Bool) (x : ℤ) → seconds_ok started x ≡ true → started ≡ false → x ≡ pos 0
unfolding seconds_ok
first-seconds true x e q = unequal q
first-seconds false x e q = zero-only x (between (pos 0) (pos 0) x e)

later-seconds : (started : Bool) (x : ℤ) → seconds_ok started x ≡ true → started ≡ true → pos 1 ≤ℤ x
unfolding seconds_ok
later-seconds true x e q = (between (pos 1) (pos 3600) x e).from
later-seconds false x e q = unequal (sym q)

seconds-ok : (started : Bool) (x : ℤ) → x ≤ℤ pos 3600 → (started ≡ false → x ≡ pos 0) → (started ≡ true → pos 1 ≤ℤ x) → seconds_ok started x ≡ true
unfolding seconds_ok
seconds-ok true x h f g = within (pos 1) (pos 3600) x (record { from = g refl; to = h })
seconds-ok false x h f g = at_zero x (f refl)

pub record PointIn (p : Point) : Type 0 where
  pub wind : Between (pos 0) (pos 2000) p.wind
  pub angle : Between (pos 0) (pos 3599) p.angle
  pub deficit : Between (pos 0) (pos 300) p.deficit

module _ (p : Point) where
  pub point-in : point_ok p ≡ true → PointIn p
  unfolding point_ok
  point-in e =
      let e₁ = and_right (wind_ok p.wind) (angle_ok p.angle && deficit_ok p.deficit) e in
      record {
        wind = between (pos 0) (pos 2000) p.wind (and_left (wind_ok p.wind) (angle_ok p.angle && deficit_ok p.deficit) e);
        angle = between (pos 0) (pos 3599) p.angle (and_left (angle_ok p.angle) (deficit_ok p.deficit) e₁);
        deficit = between (pos 0) (pos 300) p.deficit (and_right (angle_ok p.angle) (deficit_ok p.deficit) e₁);
      }

  point-ok : PointIn p → point_ok p ≡ true
  unfolding point_ok
  point-ok h = rw (within (pos 0) (pos 2000) p.wind h.wind, within (pos 0) (pos 3599) p.angle h.angle, within (pos 0) (pos 300) p.deficit h.deficit)

-- a calm has no direction
calm-in : (p : Point) → calm_ok p ≡ true → p.wind ≡ pos 0 → p.angle ≡ pos 0
unfolding calm_ok
calm-in p e q = zero-only p.angle (between (pos 0) (pos 0) p.angle (or_right (not (calm p.wind)) _ (ap not (at_zero p.wind q)) e))

calm-ok : (p : Point) → (p.wind ≡ pos 0 → p.angle ≡ pos 0) → calm_ok p ≡ true
unfolding calm_ok
calm-ok p f = or_else (not (calm p.wind)) _ (λ e. at_zero p.angle (f (zero-only p.wind (between (pos 0) (pos 0) p.wind (not-false _ e)))))

pub record RecordIn (n : ℕ) (r : Record) (st : State) : Type 0 where
  pub seconds : Between (pos 0) (pos 3600) r.closing.seconds
  pub first : st.started ≡ false → r.closing.seconds ≡ pos 0
  pub later : st.started ≡ true → pos 1 ≤ℤ r.closing.seconds
  pub tide : Between (negsuc 1999) (pos 2000) r.closing.tide
  pub elapsed : Between (pos 0) (pos 1000000000) st.elapsed
  pub new-elapsed : Between (pos 0) (pos 1000000000) (st.elapsed +ℤ r.closing.seconds)
  pub points : (i : ℕ) → i < n → PointIn (point_at r.points i)
  pub calms : (i : ℕ) → i < n → (point_at r.points i).wind ≡ pos 0 → (point_at r.points i).angle ≡ pos 0

module _ (n : ℕ) (r : Record) (st : State) where
  pub record-in : record_check n r st ≡ Pass → RecordIn n r st
  unfolding record_checks AllPass times_ok
  record-in e =
      let s = seconds_ok st.started r.closing.seconds in
      let u = tide_ok r.closing.tide in
      let x = elapsed_ok st.elapsed in
      let y = elapsed_ok (st.elapsed +ℤ r.closing.seconds) in
      let all = first-passed (record_checks n r st) e in
      let a = need-passed (times_ok r.closing st) (refusal RecordValue 0) all.0 in
      let a₁ = and_right s (u && (x && y)) a in
      let a₂ = and_right u (x && y) a₁ in
      let ok = and_left s (u && (x && y)) a in
      record {
        seconds = seconds-in st.started r.closing.seconds ok;
        first = first-seconds st.started r.closing.seconds ok;
        later = later-seconds st.started r.closing.seconds ok;
        tide = between (negsuc 1999) (pos 2000) r.closing.tide (and_left u (x && y) a₁);
        elapsed = between (pos 0) (pos 1000000000) st.elapsed (and_left x y a₂);
        new-elapsed = between (pos 0) (pos 1000000000) (st.elapsed +ℤ r.closing.seconds) (and_right x y a₂);
        points = λ i h. point-in (point_at r.points i) (each-passed RecordValue (points_ok r.points) n all.1.0 i h);
        calms = λ i h. calm-in (point_at r.points i) (each-passed CalmAngle (calms_ok r.points) n all.1.1.0 i h);
      }

  pub record-passes : RecordIn n r st → record_check n r st ≡ Pass
  unfolding record_checks first_of times_ok
  record-passes v =
      rw (
        seconds-ok st.started r.closing.seconds v.seconds.to v.first v.later,
        within (negsuc 1999) (pos 2000) r.closing.tide v.tide,
        within (pos 0) (pos 1000000000) st.elapsed v.elapsed,
        within (pos 0) (pos 1000000000) (st.elapsed +ℤ r.closing.seconds) v.new-elapsed,
        none_first (points_ok r.points) n (λ i h. point-ok (point_at r.points i) (v.points i h)),
        none_first (calms_ok r.points) n (λ i h. calm-ok (point_at r.points i) (v.calms i h)),
      )

-- ---- all of them

pub record Passed (most : ℕ) (t : Traverse) (r : Record) (st : State) (rows : List ℤ) (places : ℕ) : Type 0 where
  pub traverse : TraverseIn most t
  pub lent : LentIn (count t) (point_count r.points) rows places
  pub values : RecordIn (count t) r st

module _ (most : ℕ) (t : Traverse) (r : Record) (st : State) (rows : List ℤ) (places : ℕ) where
  abbrev lent : List Check
  lent = lent_checks (count t) (point_count r.points) rows places

  abbrev values : List Check
  values = record_checks (count t) r st

  -- a part behind the other
  pub checks-are : first_of (checks_of most t r st rows places) ≡ (traverse_check most t then (lent_check (count t) (point_count r.points) rows places then record_check (count t) r st))
  unfolding checks_of
  checks-are = first-append (traverse_checks most t) (lent ++ values) ∙ ap (λ (c : Check). traverse_check most t then c) (first-append lent values)

  pub passed : first_of (checks_of most t r st rows places) ≡ Pass → Passed most t r st rows places
  unfolding checks_of
  passed e =
      let e₁ = first-right (traverse_checks most t) (lent ++ values) e in
      record {
        traverse = traverse-in most t (first-left (traverse_checks most t) (lent ++ values) e);
        lent = lent-in (count t) (point_count r.points) rows places (first-left lent values e₁);
        values = record-in (count t) r st (first-right lent values e₁);
      }

  -- and every call that meets these facts passes
  pub passes : Passed most t r st rows places → first_of (checks_of most t r st rows places) ≡ Pass
  passes v = rw (checks-are, traverse-passes most t v.traverse, lent-passes (count t) (point_count r.points) rows places v.lent, record-passes (count t) r st v.values)
