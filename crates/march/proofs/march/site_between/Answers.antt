-- `site_between` meets its contract. Assumes nothing.
use lib.IntN.{◌+ℤ◌, ◌-ℤ◌}
use lib.Signed.{le_z_yes}
use mir.Facts.{to_z-of_z}
use mir.Syntax.{w64}
use mir.Val.{SFits}
use Rattle.std.proofs.Common.{rules}
use Rattle.ranges.proofs.Fits.{sized-fits}
use Rattle.march.proofs.MarchFits.{depths-in, between-fits}
use Rattle.march.proofs.march.site_between.Goals as goal

pub returns : goal.returns
returns c =
    let sine : SFits w64 c.args.k.sine = search rules in
    let friction : SFits w64 c.args.k.friction = search rules in
    let a-far : SFits w64 c.args.sea.distance = sized-fits (le_z_yes tt) c.requires.0.distance in
    let b-far : SFits w64 c.args.shore.distance = sized-fits (le_z_yes tt) c.requires.1.distance in
    let a-deep : SFits w64 c.args.sea.depth = sized-fits (le_z_yes tt) c.requires.0.depth in
    let b-deep : SFits w64 c.args.shore.depth = sized-fits (le_z_yes tt) c.requires.1.depth in
    let far : SFits w64 (c.args.sea.distance -ℤ c.args.shore.distance) = between-fits c.requires.0 c.requires.1 in
    let deep : SFits w64 (c.args.sea.depth +ℤ c.args.shore.depth) = sized-fits (le_z_yes tt) (depths-in c.requires.0 c.requires.1) in
    simp (to_z-of_z, sine, friction, a-far, b-far, a-deep, b-deep, far, deep)
