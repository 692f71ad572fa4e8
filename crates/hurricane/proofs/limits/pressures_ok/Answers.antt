-- `pressures_ok` meets its contract: the drop fits, since it is formed of pressures that passed. Assumes nothing.
use Rattle.std.proofs.Common.{◌≡◌, sym, ◌∙◌, true, false, [], ◌∷◌, ℤ, pos, ◌-ℤ◌, arith}
use mir.Facts.{to_z-of_z}
use mir.Syntax.{w64}
use mir.Val.{SFits}
use Rattle.ranges.proofs.LinearSolver.{zomega, says, ◌&◌}
use Rattle.records.proofs.LimitLaws.{between}
use Rattle.hurricane.specs.Limits.{pressure_ok, drop_ok, pressures_ok}
use Rattle.hurricane.proofs.limits.pressures_ok.Goals as goal
use Rattle.hurricane.proofs.limits.pressures_ok.Goals.{then-inside, else-inside}

differ : false ≡ true → ⊥
differ e = cc

-- the drop of two pressures that passed
drop-fits : (x y : ℤ) → pressure_ok x ≡ true → pressure_ok y ≡ true → SFits w64 (y -ℤ x)
drop-fits x y i j =
    let p = between (pos 2500) (pos 3200) x i in
    let q = between (pos 2500) (pos 3200) y j in
    zomega (x ∷ y ∷ []) (p.from & p.to & q.from & q.to) (search says depth 20) (omega arith)

pub overflow_sub-edge : goal.overflow_sub-edge
overflow_sub-edge c =
    let a : c.inside.result ≡ pressure_ok c.args.central = simp (to_z-of_z, c.ranges.central) at c.inside.ensures in
    elim c.if-inside.branch [
      | then-inside w ↦
          let b : w.inside-then-inside.result ≡ pressure_ok c.args.edge = simp (to_z-of_z, c.ranges.edge) at w.inside-then-inside.ensures in
          let h = drop-fits c.args.central c.args.edge (sym a ∙ w.if-inside.true) (sym b ∙ sym w.value-is ∙ c.if-inside-2.true) in
          simp (to_z-of_z, c.ranges.central, c.ranges.edge) h
      | else-inside w ↦ absurd (differ (sym w.if-inside.false ∙ sym w.value-is ∙ c.if-inside-2.true))
    ]

pub returns-then-inside-2 : goal.returns-then-inside-2
unfolding pressures_ok
returns-then-inside-2 c =
    let a : c.inside.result ≡ pressure_ok c.args.central = simp (to_z-of_z, c.ranges.central) at c.inside.ensures in
    elim c.if-inside.branch [
      | then-inside w ↦
          let b : w.inside-then-inside.result ≡ pressure_ok c.args.edge = simp (to_z-of_z, c.ranges.edge) at w.inside-then-inside.ensures in
          let i : pressure_ok c.args.central ≡ true = sym a ∙ w.if-inside.true in
          let j : pressure_ok c.args.edge ≡ true = sym b ∙ sym w.value-is ∙ c.if-inside-2.true in
          let h = drop-fits c.args.central c.args.edge i j in
          let d : c.inside-then-inside-2.result ≡ drop_ok (c.args.edge -ℤ c.args.central) =
          simp (to_z-of_z, c.ranges.central, c.ranges.edge, h) at c.inside-then-inside-2.ensures
          in
          rw (i, j) d
      | else-inside w ↦ absurd (differ (sym w.if-inside.false ∙ sym w.value-is ∙ c.if-inside-2.true))
    ]
