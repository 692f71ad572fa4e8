-- `damped` meets its contract. Assumes nothing.
use mathlib.Core.Path.{ap₂, ◌∙◌}
use lib.IntN.{ℤ}
use mir.Facts.{to_z-of_z}
use mir.Syntax.{w64}
use mir.Val.{SFits}
use Rattle.ranges.specs.declared.Range.{Range}
use Rattle.ranges.specs.Damped.{damped_least, damped_most}
use Rattle.ranges.proofs.DampedFits.{f-fits}
use Rattle.ranges.proofs.drag.damped.Goals as goal

abbrev range : ℤ → ℤ → Range
range low high = record { low = low; high = high }

pub returns : goal.returns
unfolding damped_least damped_most
returns c =
    let fl = f-fits c.requires.low.low in
    let fh = f-fits c.requires.high.low in
    let rl : SFits w64 c.damped_furthest-low.result = record { sfits = c.damped_furthest-low.type_inv } in
    let rh : SFits w64 c.damped_furthest-high.result = record { sfits = c.damped_furthest-high.type_inv } in
    ap₂ range
    (to_z-of_z rl ∙ (simp (to_z-of_z, c.ranges.c, fl) at c.damped_furthest-low.ensures))
    (to_z-of_z rh ∙ (simp (to_z-of_z, c.ranges.c, fh) at c.damped_furthest-high.ensures))
