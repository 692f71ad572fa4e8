-- `distance` meets its contract. Assumes nothing.
use Rattle.std.proofs.Common.{◌∙◌}
use borrow.Author.Rules.{sfits_of}
use lib.Signed.{lt_z_yes, le_z_yes}
use mir.Facts.{to_z-of_z}
use mir.Syntax.{w64}
use mir.Val.{SFits}
use Rattle.hurricane.specs.Field.{distance_of}
use Rattle.hurricane.proofs.FieldLaws.{across-fits, along-fits, across-square-fits, along-square-fits, squares-fit, squares-nn}
use Rattle.hurricane.proofs.field.distance.Goals as goal

pub overflow_add-across : goal.overflow_add-across
overflow_add-across c =
    let a = across-fits _ _ _ _ c.requires in
    let b = along-fits _ _ _ _ c.requires in
    let p = across-square-fits _ _ _ _ c.requires in
    let q = along-square-fits _ _ _ _ c.requires in
    simp (to_z-of_z, c.ranges.x, c.ranges.x0, c.ranges.y, c.ranges.y0, a, b, p, q) (squares-fit _ _ _ _ c.requires)

pub whole_root-requires : goal.whole_root-requires
whole_root-requires c =
    let a = across-fits _ _ _ _ c.requires in
    let b = along-fits _ _ _ _ c.requires in
    let p = across-square-fits _ _ _ _ c.requires in
    let q = along-square-fits _ _ _ _ c.requires in
    let s = squares-fit _ _ _ _ c.requires in
    simp (to_z-of_z, c.ranges.x, c.ranges.x0, c.ranges.y, c.ranges.y0, a, b, p, q, s)
    (record { k-low = lt_z_yes tt; k-high = le_z_yes tt; n-low = squares-nn _ _ _ _ c.requires })

pub returns : goal.returns
unfolding distance_of
returns c =
    let a = across-fits _ _ _ _ c.requires in
    let b = along-fits _ _ _ _ c.requires in
    let p = across-square-fits _ _ _ _ c.requires in
    let q = along-square-fits _ _ _ _ c.requires in
    let s = squares-fit _ _ _ _ c.requires in
    let f : SFits w64 c.whole_root.result = sfits_of c.whole_root.type_inv in
    to_z-of_z f ∙ (simp (to_z-of_z, c.ranges.x, c.ranges.x0, c.ranges.y, c.ranges.y0, a, b, p, q, s) at c.whole_root.ensures)
