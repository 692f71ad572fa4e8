-- `flux_range` meets its contract. Assumes nothing.
use Rattle.std.proofs.Common.{◌≡◌, ◌∙◌, ℤ, w64, FitsSigned}
use mathlib.Core.Path.{ap₂}
use borrow.Author.Rules.{sfits_of}
use Rattle.std.proofs.lemmas.Int.{to_z-of_z}
use lib.Signed.{le_z_yes}
use Rattle.ranges.specs.declared.Range.{Range}
use Rattle.ranges.specs.Limited.{limited_of}
use Rattle.ranges.proofs.Fits.{sized-fits}
use Rattle.segment.specs.declared.Site.{Site}
use Rattle.segment.specs.declared.Weather.{Weather}
use Rattle.segment.specs.Segment.{segment_speed, flux_of, SiteIn, WeatherIn}
use Rattle.segment.proofs.SegmentFits.{limited-in}
use Rattle.segment.proofs.formulas.Segment.flux_range.Goals as goal

-- what the limit is worked out of fits
module _ {a : Site} {w : Weather} (i : SiteIn a) (j : WeatherIn w) where
  sf : FitsSigned w64 a.friction
  sf = sized-fits (le_z_yes tt) i.friction

  wc : FitsSigned w64 w.cross
  wc = sized-fits (le_z_yes tt) j.cross

pub returns-then-first : goal.returns-then-first
unfolding flux_of
returns-then-first c = rw (c.if-first.true, c.flux.ensures)

pub limited-requires : goal.limited-requires
limited-requires c =
    let i = c.args.self.site_in in
    let j = c.args.self.weather_in in
    let b : FitsSigned w64 c.limiting_speed-speed.result = sfits_of c.limiting_speed-speed.type_inv in
    let e : c.limiting_speed-speed.result ≡ segment_speed c.args.self.site c.args.self.weather = simp (to_z-of_z, sf i j, wc i j) at c.limiting_speed-speed.ensures in
    simp (to_z-of_z, b) (rw e (limited-in i j c.requires.1))

pub returns : goal.returns
unfolding flux_of
returns c =
    let i = c.args.self.site_in in
    let j = c.args.self.weather_in in
    let b : FitsSigned w64 c.limiting_speed-speed.result = sfits_of c.limiting_speed-speed.type_inv in
    let e : c.limiting_speed-speed.result ≡ segment_speed c.args.self.site c.args.self.weather = simp (to_z-of_z, sf i j, wc i j) at c.limiting_speed-speed.ensures in
    rw c.if-first.false ((simp (to_z-of_z, b) at c.limited.ensures) ∙ ap₂ (λ (y : ℤ) (z : Range). limited_of y c.args.depth z) e c.free_flux-free.ensures)
