-- What the march is given is within the limits of what it calls, and each number on the way fits an `i64`. Assumes nothing.
use mathlib.Core.Path.{◌≡◌, sym, subst}
use mathlib.Core.Bool.{Bool, true, false}
use mathlib.Core.List.{List, [], ◌∷◌}
use native.Mathlib.Omega.{arith}
use Prim.Native.Nat.{ℕ, ◌+◌, ◌*◌, ◌<◌, ◌≤◌}
use lib.ListN.{length}
use lib.IntN.{ℤ, pos, nat_abs, ◌+ℤ◌, ◌-ℤ◌}
use lib.Signed.{◌≤ℤ◌, le_z_yes}
use mir.Syntax.{w64}
use mir.Val.{SFits}
use Rattle.ranges.specs.declared.Range.{Range}
use Rattle.ranges.specs.Bounds.{Sized}
use Rattle.ranges.proofs.Fits.{sized-add, sized-sub, sized-fits}
use Rattle.ranges.proofs.LinearSolver.{zomega, zomega₀, says, ◌&◌}
use Rattle.ranges.proofs.IntegerOrder.{le_trans}
use Rattle.forcing.specs.Sine.{sine_entry}
use Rattle.forcing.specs.Quadrant.{Angle, signed, sine_of}
use Rattle.forcing.specs.declared.sines.Place.{Place}
use Rattle.forcing.proofs.SineTable.{entry-rule}
use Rattle.forcing.proofs.QuadrantLaws.{sine-sized, place_in, first}
use Rattle.forcing.proofs.StressLaws.{cross-sized, onshore-sized}
use Rattle.records.specs.declared.Head.{Head}
use Rattle.records.specs.declared.Closing.{Closing}
use Rattle.records.specs.declared.Station.{Station}
use Rattle.records.specs.declared.Point.{Point}
use Rattle.records.specs.declared.Row.{Row}
use Rattle.records.specs.Groups.{row_at}
use Rattle.records.specs.Shapes.{Traverse, Record, count}
use Rattle.records.proofs.GroupLaws.{wholes-fit}
use Rattle.records.proofs.LimitLaws.{sized, nn-sized}
use Rattle.segment.specs.declared.Site.{Site}
use Rattle.segment.specs.declared.Weather.{Weather}
use Rattle.segment.specs.Segment.{RowIn, SetupIn, SegmentIn}
use Rattle.march.specs.declared.State.{State}
use Rattle.march.specs.declared.End.{End}
use Rattle.march.specs.declared.Setting.{Setting}
use Rattle.march.specs.Given.{segments}
use Rattle.march.specs.March.{site_at, weather_at, working_row, end_of, end_at, setting_of, site_between, weather_between, chosen_row}
use Rattle.march.specs.MarchBounds.{StationIn, PointIn, EndIn, SettingFits, BetweenIn, SettingIn, MarchIn}
use Rattle.march.proofs.ChecksPassed.{Passed}

-- ---- a point

module _ {p : Point} (i : PointIn p) where
  pub wind-fits : SFits w64 p.wind
  wind-fits = let l = i.wind.low in let h = i.wind.high in zomega (p.wind ∷ []) (l & h) (search says depth 20) (omega arith)

  pub angle-fits : SFits w64 p.angle
  angle-fits = let l = i.angle.low in let h = i.angle.high in zomega (p.angle ∷ []) (l & h) (search says depth 20) (omega arith)

  pub deficit-fits : SFits w64 p.deficit
  deficit-fits = sized-fits (le_z_yes tt) i.deficit

pub end-in : {a : Station} {p : Point} → StationIn a → PointIn p → EndIn (end_of a p)
end-in {a} {p} i j = record {
  distance = i.distance;
  depth = i.depth;
  deficit = j.deficit;
  cross = cross-sized p.wind p.angle j.wind j.angle;
  onshore = onshore-sized p.wind p.angle j.wind j.angle;
}

-- ---- two ends

module _ {a b : End} (i : EndIn a) (j : EndIn b) where
  pub between-fits : SFits w64 (a.distance -ℤ b.distance)
  between-fits = sized-fits (le_z_yes tt) (sized-sub i.distance j.distance)

  pub depths-in : Sized (pos 20000) (a.depth +ℤ b.depth)
  depths-in = sized-add i.depth j.depth

  pub deficits-in : Sized (pos 600) (a.deficit +ℤ b.deficit)
  deficits-in = sized-add i.deficit j.deficit

  pub cross-in : Sized (pos 2572800000000) (a.cross +ℤ b.cross)
  cross-in = sized-add i.cross j.cross

  pub onshore-in : Sized (pos 2572800000000) (a.onshore +ℤ b.onshore)
  onshore-in = sized-add i.onshore j.onshore

-- ---- a segment is given what it asks

zero-sized : (n : ℕ) → Sized (pos n) (pos 0)
zero-sized n = record { low = zomega₀ (pos n ∷ []) (search says depth 20) (omega arith); high = zomega₀ (pos n ∷ []) (search says depth 20) (omega arith) }

-- S before segment 1
pub zero-setup : SetupIn (record { low = pos 0; high = pos 0 })
zero-setup = record { low = zero-sized 1000000; high = zero-sized 1000000 }

-- the fresh row is within its limits, so the row that a segment works from is
chosen-in : (first : Bool) (v : Row) → RowIn v → RowIn (chosen_row first v)
chosen-in true v i = record { low = zero-sized 1000000; high = zero-sized 1000000; cross = zero-sized 2572800000000 }
chosen-in false v i = i

pub between_in : (k : Setting) (a b : End) (v : Row) (s : Range) → BetweenIn k a b v s → SegmentIn (site_between k a b) (weather_between k a b) (chosen_row k.first v) s
between_in k a b v s i = record {
  site = record {
    length-low = i.length.low;
    length = i.length.high;
    depths = depths-in i.sea i.shore;
    sine-low = i.setting.sine-low;
    sine = i.setting.sine;
    friction-low = i.setting.friction-low;
    friction = i.setting.friction;
  };
  weather = record {
    seconds-low = i.setting.seconds-low;
    seconds = i.setting.seconds;
    level = i.setting.level;
    deficits = deficits-in i.sea i.shore;
    cross = cross-in i.sea i.shore;
    onshore = onshore-in i.sea i.shore;
  };
  row = chosen-in k.first v i.row_in;
  setup = i.setup-in;
}

pub between-in-by : (k : Setting) (a b : End) (v : Row) (s : Range) (site : Site) (weather : Weather) (row : Row) →
    site ≡ site_between k a b → weather ≡ weather_between k a b → row ≡ chosen_row k.first v → BetweenIn k a b v s → SegmentIn site weather row s
between-in-by k a b v s site weather row e f g i = rw (e, f, g) (between_in k a b v s i)

-- ---- the setting

module _ (h : Head) (c : Closing) (i : SettingIn h c) where
  -- a latitude is an angle of the first quadrant, so its sine is not negative
  pub latitude-angle : Angle h.latitude
  latitude-angle = record { low = i.latitude-low; high = le_trans i.latitude-high (le_z_yes tt) }

  pub level_in : Sized (pos 3000) (h.initial +ℤ c.tide)
  level_in = sized-add i.initial i.tide

  latitude-sine : pos 0 ≤ℤ sine_of h.latitude
  unfolding sine_of
  latitude-sine =
      let q = first h.latitude latitude-angle i.latitude-high in
      subst (λ (p : Place). pos 0 ≤ℤ signed p.negative (sine_entry p.at)) (sym q.is)
      (entry-rule (nat_abs h.latitude) (subst (λ (p : Place). p.at < 901) q.is (place_in h.latitude latitude-angle))).low

  pub setting-fits : (first : Bool) → SettingFits (setting_of h c first)
  setting-fits first = record {
    sine-low = latitude-sine;
    sine = sine-sized h.latitude latitude-angle;
    friction-low = i.friction-low;
    friction = i.friction;
    seconds-low = i.seconds-low;
    seconds = i.seconds;
    level = level_in;
  }

-- ---- the same of the whole traverse and record: what segment i is given

module _ (t : Traverse) (r : Record) (rows : List ℤ) (n : ℕ) (first : Bool) (m : MarchIn t r rows n) (i : ℕ) (h : i < n) where
  pub march-between : (s : Range) → SetupIn s → BetweenIn (setting_of t.head r.closing first) (end_at t.points r.points i) (end_at t.points r.points (i + 1)) (row_at rows i) s
  unfolding end_at
  march-between s s-in = record {
    setting = setting-fits t.head r.closing m.setting first;
    sea = end-in (m.stations i (omega arith)) (m.points i (omega arith));
    shore = end-in (m.stations (i + 1) (omega arith)) (m.points (i + 1) (omega arith));
    length = m.lengths i h;
    row_in = m.each_row i h;
    setup-in = s-in;
  }

  pub march-segment-in : (s : Range) → SetupIn s → SegmentIn (site_at t i) (weather_at t r i) (working_row t first rows i) s
  unfolding end_at
  march-segment-in s s-in = between_in _ _ _ _ s (march-between s s-in)

-- ---- what the checks let pass is what the march asks

pub march-in : (most : ℕ) (t : Traverse) (r : Record) (st : State) (rows : List ℤ) (places : ℕ) → Passed most t r st rows places → MarchIn t r rows (segments t)
march-in most t r st rows places p =
    let from = p.traverse.from in
    let one_more : segments t + 1 ≡ count t = omega arith in
    let given = p.lent.given_is in
    let p-fit : 2 * count t ≤ length t.points = wholes-fit 2 (length t.points) in
    let r-fit = wholes-fit 3 (length r.points) in
    let v-fit = wholes-fit 3 (length rows) in
    record {
      points-long = rw one_more p-fit;
      record-long = rw (one_more, ← given) r-fit;
      rows_long = rw (← p.lent.rows_are) v-fit;
      setting = record {
        latitude-low = p.traverse.latitude.from;
        latitude-high = p.traverse.latitude.to;
        friction-low = let l = p.traverse.friction.from in zomega (t.head.friction ∷ []) l (search says depth 20) (omega arith);
        friction = nn-sized (record { from = le_trans {b = pos 10} (le_z_yes tt) p.traverse.friction.from; to = p.traverse.friction.to });
        initial = sized p.traverse.initial;
        tide = sized p.values.tide;
        seconds-low = p.values.seconds.from;
        seconds = nn-sized p.values.seconds;
      };
      stations = λ i h. let s = p.traverse.stations i (omega arith) in record { distance = nn-sized s.distance; depth = nn-sized s.depth };
      lengths = λ i h. let l = p.traverse.lengths i (omega arith) in let low = le_trans {b = pos 1} (le_z_yes tt) l.from in record { low = low; high = nn-sized (record { from = low; to = l.to }) };
      points = λ i h. let q = p.values.points i (omega arith) in record {
        wind = record { low = q.wind.from; high = q.wind.to };
        angle = record { low = q.angle.from; high = q.angle.to };
        deficit = nn-sized q.deficit;
      };
      each_row = λ i h. let q = p.lent.each_row i h in record { low = q.low; high = q.high; cross = q.cross };
    }
