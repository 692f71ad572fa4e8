-- `depth_range` meets its contract. Assumes nothing.
use Rattle.std.proofs.Common.{pos, ◌+ℤ◌, ◌*ℤ◌, w64, FitsSigned}
use Rattle.std.proofs.lemmas.Int.{to_z-of_z}
use lib.Signed.{le_z_yes}
use Rattle.ranges.specs.declared.Range.{Range}
use Rattle.ranges.proofs.Fits.{sized-fits}
use Rattle.segment.specs.declared.Site.{Site}
use Rattle.segment.specs.declared.Weather.{Weather}
use Rattle.segment.specs.Segment.{depth_base, depth_of, SiteIn, WeatherIn, SetupIn}
use Rattle.segment.proofs.SegmentFits.{depths-in, level_in, still-in, deficits-in, base-in, depth-top-in}
use Rattle.segment.proofs.formulas.Segment.depth_range.Goals as goal

-- each number on the way fits
module _ {a : Site} {w : Weather} {s : Range} (i : SiteIn a) (j : WeatherIn w) (k : SetupIn s) where
  df : FitsSigned w64 a.depths
  df = sized-fits (le_z_yes tt) i.depths

  lf : FitsSigned w64 w.level
  lf = sized-fits (le_z_yes tt) j.level

  pf : FitsSigned w64 w.deficits
  pf = sized-fits (le_z_yes tt) j.deficits

  sl : FitsSigned w64 s.low
  sl = sized-fits (le_z_yes tt) k.low

  sh : FitsSigned w64 s.high
  sh = sized-fits (le_z_yes tt) k.high

  depths : FitsSigned w64 (pos 500 *ℤ a.depths)
  depths = sized-fits (le_z_yes tt) (depths-in i j)

  level : FitsSigned w64 (pos 100 *ℤ w.level)
  level = sized-fits (le_z_yes tt) (level_in i j)

  still : FitsSigned w64 (pos 500 *ℤ a.depths +ℤ pos 100 *ℤ w.level)
  still = sized-fits (le_z_yes tt) (still-in i j)

  deficits : FitsSigned w64 (pos 57 *ℤ w.deficits)
  deficits = sized-fits (le_z_yes tt) (deficits-in i j)

  base : FitsSigned w64 (depth_base a w)
  base = sized-fits (le_z_yes tt) (base-in i j)

  low : FitsSigned w64 (depth_base a w +ℤ s.low)
  low = sized-fits (le_z_yes tt) (depth-top-in i j k.low)

  high : FitsSigned w64 (depth_base a w +ℤ s.high)
  high = sized-fits (le_z_yes tt) (depth-top-in i j k.high)

pub overflow_add-top : goal.overflow_add-top
overflow_add-top c =
    let i = c.args.self.site_in in
    let j = c.args.self.weather_in in
    let k = c.requires in
    simp (to_z-of_z, df i j k, lf i j k, pf i j k, depths i j k, level i j k, still i j k, deficits i j k, base i j k, sl i j k) (low i j k)

pub overflow_add-top-2 : goal.overflow_add-top-2
overflow_add-top-2 c =
    let i = c.args.self.site_in in
    let j = c.args.self.weather_in in
    let k = c.requires in
    simp (to_z-of_z, df i j k, lf i j k, pf i j k, depths i j k, level i j k, still i j k, deficits i j k, base i j k, sh i j k) (high i j k)

pub returns : goal.returns
unfolding depth_of
returns c =
    let i = c.args.self.site_in in
    let j = c.args.self.weather_in in
    let k = c.requires in
    simp (to_z-of_z, df i j k, lf i j k, pf i j k, depths i j k, level i j k, still i j k, deficits i j k, base i j k, sl i j k, sh i j k, low i j k, high i j k) at c.quotient.ensures
