-- `shore_of` meets its contract. Assumes nothing.
use mathlib.Core.Path.{◌≡◌, ap, sym, subst, ◌∙◌}
use lib.IntN.{pos, ◌+ℤ◌}
use lib.Signed.{le_z_yes}
use mir.Facts.{to_z-of_z}
use mir.Syntax.{w64}
use mir.Val.{SFits}
use Rattle.std.proofs.Common.{rules}
use Rattle.ranges.specs.Bounds.{Sized}
use Rattle.ranges.proofs.Fits.{sized-fits}
use Rattle.records.specs.declared.Point.{Point}
use Rattle.records.specs.Groups.{point_at}
use Rattle.segment.specs.Segment.{shore_base}
use Rattle.march.proofs.MarchFits.{level_in}
use Rattle.march.proofs.take.shore_of.Goals as goal

pub shore_base-requires : goal.shore_base-requires
shore_base-requires c =
    let m = c.requires in
    let initial : SFits w64 c.args.traverse.head.initial = sized-fits (le_z_yes tt) m.setting.initial in
    let tide : SFits w64 c.args.storm.closing.tide = sized-fits (le_z_yes tt) m.setting.tide in
    let sum : Sized (pos 3000) (c.args.traverse.head.initial +ℤ c.args.storm.closing.tide) = level_in c.args.traverse.head c.args.storm.closing m.setting in
    let level : SFits w64 (c.args.traverse.head.initial +ℤ c.args.storm.closing.tide) = sized-fits (le_z_yes tt) sum in
    let deficit-in : Sized (pos 300) c.group_at-shore.result.deficit = subst (λ (p : Point). Sized (pos 300) p.deficit) (sym c.group_at-shore.ensures) m.deficit in
    let deficit : SFits w64 c.group_at-shore.result.deficit = sized-fits (le_z_yes tt) deficit-in in
    simp (to_z-of_z, initial, tide, level, deficit) (record { level_in = sum; deficit-in = deficit-in })

pub returns : goal.returns
returns c =
    let m = c.requires in
    let initial : SFits w64 c.args.traverse.head.initial = sized-fits (le_z_yes tt) m.setting.initial in
    let tide : SFits w64 c.args.storm.closing.tide = sized-fits (le_z_yes tt) m.setting.tide in
    let level : SFits w64 (c.args.traverse.head.initial +ℤ c.args.storm.closing.tide) = sized-fits (le_z_yes tt) (level_in c.args.traverse.head c.args.storm.closing m.setting) in
    let deficit : SFits w64 c.group_at-shore.result.deficit = search rules in
    let f : SFits w64 c.shore_base.result = search rules in
    let e : c.shore_base.result ≡ shore_base (c.args.traverse.head.initial +ℤ c.args.storm.closing.tide) c.group_at-shore.result.deficit = simp (to_z-of_z, initial, tide, level, deficit) at c.shore_base.ensures in
    simp (to_z-of_z, f)
    (e ∙ ap (λ (q : Point). shore_base (c.args.traverse.head.initial +ℤ c.args.storm.closing.tide) q.deficit) (c.group_at-shore.ensures ∙ ap (point_at c.args.storm.points.now) m.is))
