-- `setting_of` meets its contract. Assumes nothing.
use mathlib.Core.Path.{◌≡◌}
use lib.IntN.{◌+ℤ◌}
use lib.Signed.{le_z_yes}
use mir.Facts.{to_z-of_z}
use mir.Syntax.{w64}
use mir.Val.{SFits}
use Rattle.std.proofs.Common.{rules}
use Rattle.ranges.proofs.Fits.{sized-fits}
use Rattle.forcing.specs.Quadrant.{sine_of}
use Rattle.forcing.proofs.QuadrantLaws.{angle-fits}
use Rattle.march.proofs.MarchFits.{latitude-angle, level_in}
use Rattle.march.proofs.march.setting_of.Goals as goal

pub returns : goal.returns
returns c =
    let i = c.requires in
    let latitude : SFits w64 c.args.head.latitude = angle-fits c.args.head.latitude (latitude-angle c.args.head c.args.closing i) in
    let friction : SFits w64 c.args.head.friction = sized-fits (le_z_yes tt) i.friction in
    let initial : SFits w64 c.args.head.initial = sized-fits (le_z_yes tt) i.initial in
    let tide : SFits w64 c.args.closing.tide = sized-fits (le_z_yes tt) i.tide in
    let seconds : SFits w64 c.args.closing.seconds = sized-fits (le_z_yes tt) i.seconds in
    let level : SFits w64 (c.args.head.initial +ℤ c.args.closing.tide) = sized-fits (le_z_yes tt) (level_in c.args.head c.args.closing i) in
    let r : SFits w64 c.sine.result = search rules in
    let e : c.sine.result ≡ sine_of c.args.head.latitude = simp (to_z-of_z, latitude) at c.sine.ensures in
    simp (to_z-of_z, r, friction, initial, tide, seconds, level) (simp e)
