-- `gain_top` meets its contract. Assumes nothing.
use Rattle.std.proofs.Common.{ℤ, pos, ◌+ℤ◌, ◌*ℤ◌, w64, FitsSigned}
use Rattle.std.proofs.lemmas.Int.{to_z-of_z}
use lib.Signed.{le_z_yes}
use Rattle.ranges.specs.Bounds.{Sized}
use Rattle.ranges.proofs.Fits.{sized-fits}
use Rattle.segment.specs.declared.Site.{Site}
use Rattle.segment.specs.declared.Weather.{Weather}
use Rattle.segment.specs.Segment.{gain_top, SiteIn, WeatherIn}
use Rattle.segment.proofs.SegmentFits.{turn_in, turned-in, wind-in, slope-in, gain-top-in}
use Rattle.segment.proofs.formulas.Segment.gain_top.Goals as goal

-- each number on the way fits
module _ {a : Site} {w : Weather} {v : ℤ} (i : SiteIn a) (j : WeatherIn w) (k : Sized (pos 1000000) v) where
  xf : FitsSigned w64 a.length
  xf = sized-fits (le_z_yes tt) i.length

  sf : FitsSigned w64 a.sine
  sf = sized-fits (le_z_yes tt) i.sine

  vf : FitsSigned w64 v
  vf = sized-fits (le_z_yes tt) k

  yf : FitsSigned w64 w.onshore
  yf = sized-fits (le_z_yes tt) j.onshore

  turn : FitsSigned w64 (pos 2748816 *ℤ a.sine)
  turn = sized-fits (le_z_yes tt) (turn_in i j)

  turned : FitsSigned w64 (pos 2748816 *ℤ a.sine *ℤ v)
  turned = sized-fits (le_z_yes tt) (turned-in i j k)

  wind : FitsSigned w64 (pos 2030 *ℤ w.onshore)
  wind = sized-fits (le_z_yes tt) (wind-in i j)

  slope : FitsSigned w64 (pos 2748816 *ℤ a.sine *ℤ v +ℤ pos 2030 *ℤ w.onshore)
  slope = sized-fits (le_z_yes tt) (slope-in i j k)

  top : FitsSigned w64 (gain_top a w v)
  top = sized-fits (le_z_yes tt) (gain-top-in i j k)

pub overflow_mul-result-2 : goal.overflow_mul-result-2
overflow_mul-result-2 c =
    let i = c.args.self.site_in in
    let j = c.args.self.weather_in in
    let k = c.requires in
    simp (to_z-of_z, sf i j k, turn i j k, vf i j k) (turned i j k)

pub overflow_add-result : goal.overflow_add-result
overflow_add-result c =
    let i = c.args.self.site_in in
    let j = c.args.self.weather_in in
    let k = c.requires in
    simp (to_z-of_z, sf i j k, turn i j k, vf i j k, turned i j k, yf i j k, wind i j k) (slope i j k)

pub overflow_mul-result-4 : goal.overflow_mul-result-4
overflow_mul-result-4 c =
    let i = c.args.self.site_in in
    let j = c.args.self.weather_in in
    let k = c.requires in
    simp (to_z-of_z, xf i j k, sf i j k, turn i j k, vf i j k, turned i j k, yf i j k, wind i j k, slope i j k) (top i j k)

pub returns : goal.returns
returns c =
    let i = c.args.self.site_in in
    let j = c.args.self.weather_in in
    let k = c.requires in
    simp (to_z-of_z, xf i j k, sf i j k, turn i j k, vf i j k, turned i j k, yf i j k, wind i j k, slope i j k, top i j k)
