-- `rises` meets its contract. Assumes nothing.
use mathlib.Core.Path.{◌≡◌, sym, ◌∙◌}
use mathlib.Core.Bool.{true}
use mir.Facts.{to_z-of_z}
use Rattle.ranges.specs.Rises.{ordered, rises_at, rises}
use Rattle.ranges.proofs.Branches.{false-true}
use Rattle.ranges.proofs.DampedFits.{d-fits}
use Rattle.ranges.proofs.drag.rises.Goals as goal
use Rattle.ranges.proofs.drag.rises.Goals.{then-ordered, else-ordered}

pub returns-then-ordered-2 : goal.returns-then-ordered-2
unfolding rises
returns-then-ordered-2 c =
    let at : c.rises_at.result ≡ rises_at c.args.c c.args.f c.args.depth.low = simp (to_z-of_z, c.ranges.c, c.ranges.f, d-fits c.requires.low) at c.rises_at.ensures in
    elim c.if-ordered.branch [
      | then-ordered w ↦
          let v : ordered c.args.v ≡ true = sym c.ordered.ensures ∙ w.if-ordered.true in
          let δ : ordered c.args.depth ≡ true = sym w.ordered-then-ordered.ensures ∙ sym w.value-is ∙ c.if-ordered-2.true in
          rw (v, δ) at
      | else-ordered w ↦ absurd (false-true (sym w.if-ordered.false ∙ sym w.value-is ∙ c.if-ordered-2.true))
    ]
