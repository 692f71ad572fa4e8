-- What the checks of a record that is to be made let pass, as plain facts, and what the call then leaves. Assumes nothing.
use mathlib.Core.Path.{◌≡◌, refl, ap, ◌∙◌}
use mathlib.Core.Bool.{Bool, true, false, ◌&&◌, ◌||◌, not, cond}
use mathlib.Core.List.{List, ◌++◌}
use native.Mathlib.Omega.{arith}
use borrow.Author.Tests.{leb-true, ne_eqb}
use Prim.Native.Nat.{ℕ, ◌+◌, ◌-◌, ◌*◌, ◌≤◌, ◌<◌}
use lib.Dec.{leb}
use lib.ListN.{length, drop}
use lib.IntN.{ℤ, pos, negsuc, nat_abs, ◌-ℤ◌}
use lib.Signed.{◌<ℤ◌, le_z_yes}
use Rattle.std.specs.Prelude.{Ok, Err}
use Rattle.ranges.proofs.Branches.{lt-true}
use Rattle.records.specs.declared.Closing.{Closing}
use Rattle.records.specs.declared.Kind.TheVariants.{Lent, StormValue, WindRadii}
use Rattle.records.specs.CheckOrder.{Check, Pass, AllPass}
use Rattle.records.specs.Groups.{point_at, of_point, groups}
use Rattle.records.specs.Limits.{inside, count_ok, wind_ok, angle_ok, point_ok, calm, direction_ok, calm_ok}
use Rattle.records.specs.Refusals.{refusal}
use Rattle.records.proofs.CheckOrderLaws.{need-passed, each-passed, first-passed}
use Rattle.records.proofs.GroupLaws.{groups-same, groups-length, groups-at, flat-length, point-flat}
use Rattle.records.proofs.LimitLaws.{and_left, and_right, Between, between, within, sized}
use Rattle.hurricane.specs.declared.Hurricane.{Hurricane}
use Rattle.hurricane.specs.declared.WindRow.{WindRow}
use Rattle.hurricane.specs.declared.PlanePoint.{PlanePoint}
use Rattle.hurricane.specs.Bounds.{DropIn, HurricaneIn, WindRowIn, WindsIn, PlanePointIn, SitesIn, TableIn}
use Rattle.hurricane.specs.Factor.{TableRight}
use Rattle.hurricane.specs.Field.{distance_of, hundredths_of, deficit_of, wind_of, angle_for, point_for}
use Rattle.hurricane.specs.Groups.{wind_count, wind_row_at, site_count, plane_point_at}
use Rattle.hurricane.specs.Limits.{pressure_ok, drop_ok, pressures_ok, radius_ok, plane_ok, hurricane_ok, wind_count_ok, wind_radius_ok, wind_row_ok, plane_point_ok}
use Rattle.hurricane.specs.Checks.{wind_rows_ok, sites_ok, rising_ok, make_checks, make_check}
use Rattle.hurricane.specs.Make.{Asked, asked, made, check_of, point_made, made_numbers, after_check, make_of}
use Rattle.hurricane.proofs.FactorTable.{right-rule}
use Rattle.hurricane.proofs.FieldLaws.{hundredths-place, share_in, wind-in}

-- ---- each kind of value

drop-in : (central edge : ℤ) → pressures_ok central edge ≡ true → DropIn central edge
unfolding pressures_ok
drop-in central edge e =
    let d = between (pos 0) (pos 300) (edge -ℤ central) (and_right (pressure_ok edge) (drop_ok (edge -ℤ central)) (and_right (pressure_ok central) (pressure_ok edge && drop_ok (edge -ℤ central)) e)) in
    record { low = d.from; high = d.to }

hurricane-in : (h : Hurricane) → hurricane_ok h ≡ true → HurricaneIn h
unfolding hurricane_ok
hurricane-in h e =
    let rest = and_right (pressures_ok h.central h.edge) (radius_ok h.radius && (plane_ok h.x && plane_ok h.y)) e in
    let centre = and_right (radius_ok h.radius) (plane_ok h.x && plane_ok h.y) rest in
    let radius = between (pos 1) (pos 2000) h.radius (and_left (radius_ok h.radius) (plane_ok h.x && plane_ok h.y) rest) in
    record {
      drop = drop-in h.central h.edge (and_left (pressures_ok h.central h.edge) (radius_ok h.radius && (plane_ok h.x && plane_ok h.y)) e);
      radius-low = radius.from;
      radius-high = radius.to;
      x-in = sized (between (negsuc 9999) (pos 10000) h.x (and_left (plane_ok h.x) (plane_ok h.y) centre));
      y-in = sized (between (negsuc 9999) (pos 10000) h.y (and_right (plane_ok h.x) (plane_ok h.y) centre));
    }

wind-row-in : (w : WindRow) → wind_row_ok w ≡ true → WindRowIn w
unfolding wind_row_ok
wind-row-in w e =
    let radius = between (pos 0) (pos 30000) w.radius (and_left (wind_radius_ok w.radius) (wind_ok w.wind) e) in
    let wind = between (pos 0) (pos 2000) w.wind (and_right (wind_radius_ok w.radius) (wind_ok w.wind) e) in
    record { radius-low = radius.from; radius-high = radius.to; wind-low = wind.from; wind-high = wind.to }

plane-point-in : (p : PlanePoint) → plane_point_ok p ≡ true → PlanePointIn p
unfolding plane_point_ok
plane-point-in p e =
    let rest = and_right (plane_ok p.x) (plane_ok p.y && angle_ok p.angle) e in
    let angle = between (pos 0) (pos 3599) p.angle (and_right (plane_ok p.y) (angle_ok p.angle) rest) in
    record {
      x-in = sized (between (negsuc 9999) (pos 10000) p.x (and_left (plane_ok p.x) (plane_ok p.y && angle_ok p.angle) e));
      y-in = sized (between (negsuc 9999) (pos 10000) p.y (and_left (plane_ok p.y) (angle_ok p.angle) rest));
      angle-low = angle.from;
      angle-high = angle.to;
    }

-- check 14 at a row that is not the first
rising : (winds : List ℤ) (i : ℕ) → rising_ok winds (i + 1) ≡ true → (wind_row_at winds i).radius <ℤ (wind_row_at winds (i + 1)).radius
unfolding rising_ok
rising winds i e =
    let back : i + 1 - 1 ≡ i = omega arith in
    let n = ne_eqb (i + 1) 0 (λ h. omega arith) in
    lt-true (wind_row_at winds i).radius (wind_row_at winds (i + 1)).radius (rw (back, n) at e)

-- ---- all of them

pub record MakeIn (h : Hurricane) (winds sites : List ℤ) (room : ℕ) : Type 0 where
  pub hurricane : HurricaneIn h
  pub winds-in : WindsIn winds
  pub sites_in : SitesIn sites
  pub from : 2 ≤ site_count sites
  pub to : site_count sites ≤ 65
  pub fits : 3 * site_count sites ≤ room

module _ (h : Hurricane) (winds sites : List ℤ) (room : ℕ) where
  pub make-in : make_check h winds sites room ≡ Pass → MakeIn h winds sites room
  unfolding make_checks AllPass wind_count_ok count_ok
  make-in e =
      let all = first-passed (make_checks h winds sites room) e in
      let a = need-passed _ (refusal StormValue 0) all.0 in
      let w = wind_count winds in
      let n = site_count sites in
      let counts = and_right (hurricane_ok h) (wind_count_ok w && count_ok n) a in
      let many = and_right (wind_count_ok w) (count_ok n) counts in
      record {
        hurricane = hurricane-in h (and_left (hurricane_ok h) (wind_count_ok w && count_ok n) a);
        winds-in = record {
          some = leb-true 1 w (and_left (leb 1 w) (leb w 50) (and_left (wind_count_ok w) (count_ok n) counts));
          rows = λ i l. wind-row-in (wind_row_at winds i) (each-passed StormValue (wind_rows_ok winds) w all.1.0 i l);
          rising = λ i l. rising winds i (each-passed WindRadii (rising_ok winds) w all.1.1.1.0 (i + 1) l);
        };
        sites_in = λ i l. plane-point-in (plane_point_at sites i) (each-passed StormValue (sites_ok sites) n all.1.1.0 i l);
        from = leb-true 2 n (and_left (leb 2 n) (leb n 65) many);
        to = leb-true n 65 (and_right (leb 2 n) (leb n 65) many);
        fits = leb-true (3 * n) room (need-passed _ (refusal Lent 0) all.1.1.1.1.0);
      }

-- ---- what the call leaves

-- where the checks pass: the record's numbers, then the room as it was
pub made-left : (a : Asked) (n : ℕ) (out : List ℤ) → check_of a ≡ Pass → n ≡ site_count a.sites → out ≡ made_numbers a → record { answer = made a.closing; room = out ++ drop (3 * n) a.room } ≡ make_of a
unfolding make_of
made-left a n out e f g = rw (e, f, g)

-- two tables that hold the same entries make the same record
module _ (f g : ℕ → ℤ) (same : (m : ℕ) → m < 1001 → f m ≡ g m) where
  point-same : (h : Hurricane) → HurricaneIn h → (winds : List ℤ) (p : PlanePoint) → point_for f h winds p ≡ point_for g h winds p
  unfolding point_for deficit_of
  point-same h v winds p = rw (same (nat_abs (hundredths_of h.radius (distance_of h.x h.y p.x p.y))) (hundredths-place h.radius (distance_of h.x h.y p.x p.y) v.radius-low v.radius-high))

  pub make_same : (h : Hurricane) (closing : Closing) (winds sites room : List ℤ) → make_of (asked f h closing winds sites room) ≡ make_of (asked g h closing winds sites room)
  unfolding make_of
  make_same h closing winds sites room = go (make_check h winds sites (length room)) refl
    where
      go : (c : Check) → make_check h winds sites (length room) ≡ c → after_check c (asked f h closing winds sites room) ≡ after_check c (asked g h closing winds sites room)
      go (Ok u) e =
          let v = make-in h winds sites (length room) e in
          let q = groups-same (point_made (asked f h closing winds sites room)) (point_made (asked g h closing winds sites room)) (site_count sites) (λ i l. point-same h v.hurricane winds (plane_point_at sites i)) in
          rw q
      go (Err refusal) e = refl

-- ---- the table of the code

pub table-in : (table : List ℤ) → TableRight table → TableIn table
table-in table r = record {
  full = r.long;
  low = λ m h. (right-rule table r m h).low;
  high = λ m h. (right-rule table r m h).high;
}

-- ---- of what is made

-- the angle beside a wind is within the limits of a record's
angle-in : (wind angle : ℤ) → Between (pos 0) (pos 3599) angle → Between (pos 0) (pos 3599) (angle_for wind angle)
angle-in wind angle h = go (calm wind)
  where
    go : (t : Bool) → Between (pos 0) (pos 3599) (cond t (pos 0) angle)
    go true = record { from = le_z_yes tt; to = le_z_yes tt }
    go false = h

-- a wind of 0 carries angle 0
direction-in : (wind angle : ℤ) → direction_ok wind (angle_for wind angle) ≡ true
unfolding inside
direction-in wind angle = go (calm wind)
  where
    go : (t : Bool) → (not t || inside (pos 0) (pos 0) (cond t (pos 0) angle)) ≡ true
    go true = refl
    go false = refl

-- every point passes check 18, whatever is given
pub calm-in : (a : Asked) (i : ℕ) → calm_ok (point_made a i) ≡ true
unfolding calm_ok point_for
calm-in a i =
    let p = plane_point_at a.sites i in
    direction-in (wind_of a.winds (distance_of a.hurricane.x a.hurricane.y p.x p.y)) p.angle

-- every point is within the limits of a record's
module _ (a : Asked) (limits : (m : ℕ) → m < 1001 → Between (pos 0) (pos 10000) (a.factor m)) (e : check_of a ≡ Pass) where
  pub point-in : (i : ℕ) → i < site_count a.sites → point_ok (point_made a i) ≡ true
  unfolding point_ok point_for deficit_of
  point-in i l =
      let v = make-in a.hurricane a.winds a.sites (length a.room) e in
      let h = v.hurricane in
      let p = plane_point_at a.sites i in
      let q = v.sites_in i l in
      let r = distance_of a.hurricane.x a.hurricane.y p.x p.y in
      let m = nat_abs (hundredths_of a.hurricane.radius r) in
      let drop : Between (pos 0) (pos 300) (a.hurricane.edge -ℤ a.hurricane.central) = record { from = h.drop.low; to = h.drop.high } in
      let factor = limits m (hundredths-place a.hurricane.radius r h.radius-low h.radius-high) in
      rw (
        within (pos 0) (pos 2000) (wind_of a.winds r) (wind-in a.winds v.winds-in r),
        within (pos 0) (pos 3599) _ (angle-in (wind_of a.winds r) p.angle (record { from = q.angle-low; to = q.angle-high })),
        within (pos 0) (pos 300) _ (share_in (a.hurricane.edge -ℤ a.hurricane.central) (a.factor m) drop factor),
      )

  -- the record's numbers are as many, and these points
  pub made-length : length (made_numbers a) ≡ 3 * site_count a.sites
  made-length = flat-length 3 of_point (groups (point_made a) (site_count a.sites)) (λ p. refl) ∙ ap (λ (n : ℕ). 3 * n) (groups-length (point_made a) (site_count a.sites))

  pub made-point : (i : ℕ) → i < site_count a.sites → point_at (made_numbers a) i ≡ point_made a i
  made-point i l =
      let n = groups-length (point_made a) (site_count a.sites) in
      point-flat (groups (point_made a) (site_count a.sites)) (point_made a 0) i (omega arith) ∙ groups-at (point_made a) (point_made a 0) (site_count a.sites) i l
