-- `deficit_at` meets its contract. Assumes nothing.
use Rattle.std.proofs.Common.{◌≡◌, ◌∙◌, pos, ◌-ℤ◌, ◌*ℤ◌, rules}
use borrow.Author.Rules.{sfits_of}
use mir.Facts.{to_z-of_z}
use mir.Syntax.{w64}
use mir.Val.{SFits}
use Rattle.ranges.specs.Division.{floor_div}
use Rattle.records.specs.Groups.{at}
use Rattle.hurricane.specs.Field.{deficit_of}
use Rattle.hurricane.proofs.FieldLaws.{drop-in, drop-fits, entry_in, rest-fits, product-fits}
use Rattle.hurricane.proofs.field.Field.deficit_at.Goals as goal

pub overflow_mul-edge : goal.overflow_mul-edge
overflow_mul-edge c =
    let v = c.args.self.now in
    let a : SFits w64 v.hurricane.central = search rules in
    let b : SFits w64 v.hurricane.edge = search rules in
    let e : SFits w64 (at v.table.now c.args.m) = search rules in
    let d = drop-fits v.hurricane_in.drop in
    let r = rest-fits _ _ (drop-in v.hurricane_in.drop) (entry_in v.table_in c.args.m c.requires) in
    simp (to_z-of_z, a, b, e, d, r) (product-fits _ _ (drop-in v.hurricane_in.drop) (entry_in v.table_in c.args.m c.requires))

pub returns : goal.returns
unfolding deficit_of
returns c =
    let v = c.args.self.now in
    let a : SFits w64 v.hurricane.central = search rules in
    let b : SFits w64 v.hurricane.edge = search rules in
    let e : SFits w64 (at v.table.now c.args.m) = search rules in
    let d = drop-fits v.hurricane_in.drop in
    let r = rest-fits _ _ (drop-in v.hurricane_in.drop) (entry_in v.table_in c.args.m c.requires) in
    let p = product-fits _ _ (drop-in v.hurricane_in.drop) (entry_in v.table_in c.args.m c.requires) in
    let f : SFits w64 c.floor_div.result = sfits_of c.floor_div.type_inv in
    let q : c.floor_div.result ≡ floor_div ((v.hurricane.edge -ℤ v.hurricane.central) *ℤ (pos 10000 -ℤ at v.table.now c.args.m)) (pos 10000) =
    simp (to_z-of_z, a, b, e, d, r, p) at c.floor_div.ensures
    in
    to_z-of_z f ∙ q
