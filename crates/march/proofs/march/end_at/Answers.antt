-- `end_at` meets its contract. Assumes nothing.
use mathlib.Core.Path.{◌≡◌, sym, subst}
use mir.Facts.{to_z-of_z}
use mir.Syntax.{w64}
use mir.Val.{SFits}
use Rattle.std.proofs.Common.{rules}
use Rattle.forcing.specs.Stress.{point_stress}
use Rattle.march.specs.March.{end_at}
use Rattle.march.specs.MarchBounds.{PointIn}
use Rattle.march.proofs.MarchFits.{wind-fits, angle-fits}
use Rattle.march.proofs.march.end_at.Goals as goal

pub returns : goal.returns
unfolding end_at
returns c =
    let p = c.group_at-point.result in
    let i : PointIn c.group_at-point.result = subst PointIn (sym c.group_at-point.ensures) c.requires.1.1 in
    let s : c.point_stress-stress.result ≡ point_stress p.wind p.angle = simp (to_z-of_z, wind-fits i, angle-fits i) at c.point_stress-stress.ensures in
    let distance : SFits w64 c.group_at-station.result.distance = search rules in
    let depth : SFits w64 c.group_at-station.result.depth = search rules in
    let deficit : SFits w64 c.group_at-point.result.deficit = search rules in
    let cross : SFits w64 c.point_stress-stress.result.cross = search rules in
    let onshore : SFits w64 c.point_stress-stress.result.onshore = search rules in
    simp (to_z-of_z, distance, depth, deficit, cross, onshore) (rw (s, c.group_at-point.ensures, c.group_at-station.ensures))
