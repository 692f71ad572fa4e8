-- `weather_between` meets its contract. Assumes nothing.
use lib.IntN.{◌+ℤ◌}
use lib.Signed.{le_z_yes}
use mir.Facts.{to_z-of_z}
use mir.Syntax.{w64}
use mir.Val.{SFits}
use Rattle.std.proofs.Common.{rules}
use Rattle.ranges.proofs.Fits.{sized-fits}
use Rattle.march.proofs.MarchFits.{deficits-in, cross-in, onshore-in}
use Rattle.march.proofs.march.weather_between.Goals as goal

pub returns : goal.returns
returns c =
    let seconds : SFits w64 c.args.k.seconds = search rules in
    let level : SFits w64 c.args.k.level = search rules in
    let a-low : SFits w64 c.args.sea.deficit = sized-fits (le_z_yes tt) c.requires.0.deficit in
    let b-low : SFits w64 c.args.shore.deficit = sized-fits (le_z_yes tt) c.requires.1.deficit in
    let low : SFits w64 (c.args.sea.deficit +ℤ c.args.shore.deficit) = sized-fits (le_z_yes tt) (deficits-in c.requires.0 c.requires.1) in
    let a-cross : SFits w64 c.args.sea.cross = sized-fits (le_z_yes tt) c.requires.0.cross in
    let b-cross : SFits w64 c.args.shore.cross = sized-fits (le_z_yes tt) c.requires.1.cross in
    let crosses : SFits w64 (c.args.sea.cross +ℤ c.args.shore.cross) = sized-fits (le_z_yes tt) (cross-in c.requires.0 c.requires.1) in
    let a-onshore : SFits w64 c.args.sea.onshore = sized-fits (le_z_yes tt) c.requires.0.onshore in
    let b-onshore : SFits w64 c.args.shore.onshore = sized-fits (le_z_yes tt) c.requires.1.onshore in
    let onshores : SFits w64 (c.args.sea.onshore +ℤ c.args.shore.onshore) = sized-fits (le_z_yes tt) (onshore-in c.requires.0 c.requires.1) in
    simp (to_z-of_z, seconds, level, a-low, b-low, low, a-cross, b-cross, crosses, a-onshore, b-onshore, onshores)
