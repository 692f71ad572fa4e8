-- `free_flux` meets its contract. Assumes nothing.
use Rattle.std.proofs.Common.{◌≡◌, ◌∙◌, false, w64, FitsSigned}
use mathlib.Core.Path.{ap₂}
use Rattle.std.proofs.lemmas.Int.{to_z-of_z}
use lib.Signed.{le_z_yes}
use Rattle.ranges.specs.declared.Range.{Range}
use Rattle.ranges.specs.Damped.{damped_of}
use Rattle.ranges.proofs.Fits.{sized-fits}
use Rattle.records.specs.declared.Row.{Row}
use Rattle.segment.specs.declared.Site.{Site}
use Rattle.segment.specs.declared.Weather.{Weather}
use Rattle.segment.specs.Segment.{drag, segment_force, free_flux, SiteIn, WeatherIn, RowIn}
use Rattle.segment.proofs.SegmentFits.{drag-in, damped-in}
use Rattle.segment.proofs.formulas.Segment.free_flux.Goals as goal

-- each number on the way fits
module _ {a : Site} {w : Weather} {v : Row} (i : SiteIn a) (j : WeatherIn w) (k : RowIn v) where
  vl : FitsSigned w64 v.low
  vl = sized-fits (le_z_yes tt) k.low

  vh : FitsSigned w64 v.high
  vh = sized-fits (le_z_yes tt) k.high

  vc : FitsSigned w64 v.cross
  vc = sized-fits (le_z_yes tt) k.cross

  wc : FitsSigned w64 w.cross
  wc = sized-fits (le_z_yes tt) j.cross

  ws : FitsSigned w64 w.seconds
  ws = sized-fits (le_z_yes tt) j.seconds

  sf : FitsSigned w64 a.friction
  sf = sized-fits (le_z_yes tt) i.friction

  drags : FitsSigned w64 (drag a w)
  drags = sized-fits (le_z_yes tt) (drag-in i j)

pub overflow_mul-self : goal.overflow_mul-self
overflow_mul-self c =
    let i = c.args.self.site_in in
    let j = c.args.self.weather_in in
    let k = c.requires.0 in
    simp (to_z-of_z, sf i j k, ws i j k) (drags i j k)

pub damped-requires : goal.damped-requires
damped-requires c =
    let i = c.args.self.site_in in
    let j = c.args.self.weather_in in
    let k = c.requires.0 in
    let e : c.force-force.result ≡ segment_force false c.args.self.weather c.args.row = simp (to_z-of_z, ws i j k, vc i j k, wc i j k) at c.force-force.ensures in
    simp (to_z-of_z, sf i j k, ws i j k, drags i j k) (rw (e, c.flux.ensures) (damped-in i j k c.requires.1))

pub returns : goal.returns
unfolding free_flux
returns c =
    let i = c.args.self.site_in in
    let j = c.args.self.weather_in in
    let k = c.requires.0 in
    let e : c.force-force.result ≡ segment_force false c.args.self.weather c.args.row = simp (to_z-of_z, ws i j k, vc i j k, wc i j k) at c.force-force.ensures in
    (simp (to_z-of_z, sf i j k, ws i j k, drags i j k) at c.damped.ensures)
    ∙ ap₂ (λ (y z : Range). damped_of (drag c.args.self.site c.args.self.weather) y z c.args.depth) c.flux.ensures e
