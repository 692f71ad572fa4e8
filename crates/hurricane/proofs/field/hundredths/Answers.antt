-- `hundredths` meets its contract. Assumes nothing.
use Rattle.std.proofs.Common.{◌≡◌, sym, ap, ◌∙◌, pos, nat_abs, ◌*ℤ◌, ◌≤ℤ◌, ◌<ℤ◌}
use borrow.Author.Rules.{sfits_of}
use mir.Facts.{to_z-of_z}
use mir.Syntax.{w64}
use mir.Val.{SFits}
use Rattle.ranges.specs.Division.{floor_div}
use Rattle.ranges.specs.Range.{lesser}
use Rattle.ranges.proofs.Branches.{le-true, le-false}
use Rattle.hurricane.proofs.FieldLaws.{hundred-fits, hundredths-near, hundredths-far}
use Rattle.hurricane.proofs.field.hundredths.Goals as goal

pub returns-then-r-le0-clause-value : goal.returns-then-r-le0-clause-value
returns-then-r-le0-clause-value c =
    let h : c.args.r ≤ℤ pos 0 = le-true _ _ (simp (to_z-of_z, c.ranges.r) at c.if-r-le0.true) in
    ap nat_abs (sym (hundredths-near c.args.radius c.args.r c.requires.0 c.requires.1.0 h))

pub returns-clause-value : goal.returns-clause-value
unfolding lesser
returns-clause-value c =
    let h : pos 0 <ℤ c.args.r = le-false _ _ (simp (to_z-of_z, c.ranges.r) at c.if-r-le0.false) in
    let p : SFits w64 (pos 100 *ℤ c.args.radius) = hundred-fits c.args.radius c.args.r c.requires.0 c.requires.1.0 in
    let q : c.floor_div.result ≡ floor_div (pos 100 *ℤ c.args.radius) c.args.r = simp (to_z-of_z, c.ranges.radius, c.ranges.r, p) at c.floor_div.ensures in
    let f : SFits w64 c.floor_div.result = sfits_of c.floor_div.type_inv in
    let g : SFits w64 c.min.result = sfits_of c.min.type_inv in
    let m : c.min.result ≡ lesser c.floor_div.result (pos 1000) = simp (to_z-of_z, f) at c.min.ensures.value in
    let n = rw q at m in
    simp (to_z-of_z, g) (ap nat_abs (n ∙ sym (hundredths-far c.args.radius c.args.r c.requires.0 c.requires.1.0 h)))
