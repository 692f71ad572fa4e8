-- `wind_between` meets its contract. Assumes nothing.
use Rattle.std.proofs.Common.{◌≡◌, ℤ, sym, ap, subst, ◌∙◌, rules, ◌+ℤ◌, ◌-ℤ◌, ◌*ℤ◌}
use borrow.Author.Rules.{sfits_of}
use mir.Facts.{to_z-of_z}
use mir.Syntax.{w64}
use mir.Val.{SFits}
use Rattle.ranges.specs.Division.{floor_div}
use Rattle.hurricane.specs.declared.WindRow.{WindRow}
use Rattle.hurricane.specs.Bounds.{BetweenRows}
use Rattle.hurricane.specs.Field.{straight}
use Rattle.hurricane.proofs.FieldLaws.{read, wind-change-fits, far-fits, change-fits, span_fits, straight-is, straight-fits}
use Rattle.hurricane.proofs.field.wind_between.Goals as goal

module _ (a b : WindRow) (r : ℤ) (h : BetweenRows a b r) (fr : SFits w64 r) (from : SFits w64 a.radius) (to : SFits w64 b.radius) (start : SFits w64 a.wind) (end : SFits w64 b.wind) where
  -- each number on the way is the definition's
  top-is : read (read b.wind -ℤ read a.wind) *ℤ read (read r -ℤ read a.radius) ≡ (b.wind -ℤ a.wind) *ℤ (r -ℤ a.radius)
  top-is =
      let f = wind-change-fits _ _ _ h in
      let g = far-fits _ _ _ h in
      rw (to_z-of_z end, to_z-of_z start, to_z-of_z fr, to_z-of_z from, to_z-of_z f, to_z-of_z g)

  top-fits : SFits w64 (read (read b.wind -ℤ read a.wind) *ℤ read (read r -ℤ read a.radius))
  top-fits = subst (SFits w64) (sym top-is) (change-fits _ _ _ h)

  span-is : read (read b.radius -ℤ read a.radius) ≡ b.radius -ℤ a.radius
  span-is = let f = span_fits _ _ _ h in rw (to_z-of_z to, to_z-of_z from, to_z-of_z f)

  -- the quotient, and the sum with the first row's wind
  sum_is : (q : ℤ) → SFits w64 q → q ≡ floor_div (read (read (read b.wind -ℤ read a.wind) *ℤ read (read r -ℤ read a.radius))) (read (read b.radius -ℤ read a.radius))
      → read a.wind +ℤ read q ≡ straight a b r
  sum_is q f e =
      let g = change-fits _ _ _ h in
      let d : q ≡ floor_div ((b.wind -ℤ a.wind) *ℤ (r -ℤ a.radius)) (b.radius -ℤ a.radius) = rw (span-is, top-is, to_z-of_z g) at e in
      rw (to_z-of_z start, to_z-of_z f, d) (straight-is _ _ _ h)

pub overflow_mul-end : goal.overflow_mul-end
overflow_mul-end c = top-fits c.args.a c.args.b c.args.r c.requires c.ranges.r (search rules) (search rules) (search rules) (search rules)

pub overflow_add-result : goal.overflow_add-result
overflow_add-result c =
    let f : SFits w64 c.floor_div.result = sfits_of c.floor_div.type_inv in
    subst (SFits w64)
    (sym (sum_is c.args.a c.args.b c.args.r c.requires c.ranges.r (search rules) (search rules) (search rules) (search rules) c.floor_div.result f c.floor_div.ensures))
    (straight-fits _ _ _ c.requires)

pub returns : goal.returns
returns c =
    let f : SFits w64 c.floor_div.result = sfits_of c.floor_div.type_inv in
    ap read (sum_is c.args.a c.args.b c.args.r c.requires c.ranges.r (search rules) (search rules) (search rules) (search rules) c.floor_div.result f c.floor_div.ensures)
    ∙ to_z-of_z (straight-fits _ _ _ c.requires)
