-- `times_ok` meets its contract: the new elapsed time fits, since it is formed of numbers that passed. Assumes nothing.
use Rattle.std.proofs.Common.{rules, arith, ◌≡◌, refl, sym, ap, ◌∙◌, true, false, ℕ, Bool, ◌&&◌, [], ◌∷◌, w64, FitsSigned, ◌+ℤ◌}
use Rattle.std.specs.Prelude.{ℤ, pos}
use Rattle.std.proofs.lemmas.Int.{to_z-of_z}
use Rattle.ranges.proofs.LinearSolver.{zomega, says, ◌&◌}
use Rattle.records.specs.declared.Closing.{Closing}
use Rattle.records.specs.Limits.{seconds_ok, tide_ok, elapsed_ok}
use Rattle.records.proofs.LimitLaws.{and_left, and_right, between}
use Rattle.march.specs.declared.State.{State}
use Rattle.march.specs.Checks.{times_ok}
use Rattle.march.proofs.ChecksPassed.{seconds-in}
use Rattle.march.proofs.checks.times_ok.Goals as goal
use Rattle.march.proofs.checks.times_ok.Goals.{Joined-seconds_ok, Joined-inside, then-seconds_ok, else-seconds_ok, then-inside, else-inside}

sum_fits : (s : Bool) (x y : ℤ) → elapsed_ok x ≡ true → seconds_ok s y ≡ true → FitsSigned w64 (x +ℤ y)
sum_fits s x y e f =
    let p = between (pos 0) (pos 1000000000) x e in
    let q = seconds-in s y f in
    zomega (x ∷ y ∷ []) (p.from & p.to & q.from & q.to) (search says depth 20) (omega arith)

-- where the first three fail, all four do
short : (a b d e : Bool) → ((a && b) && d) ≡ false → false ≡ (a && (b && (d && e)))
short false b d e h = refl
short true false d e h = refl
short true true false e h = refl
short true true true e h = let z : ◌≡◌ {A = ℕ} 0 1 = cc in absurd (omega arith)

-- the first two tests
two : (c : Joined-seconds_ok) → c.if-seconds_ok.value ≡ (seconds_ok c.args.state.started c.args.closing.seconds && tide_ok c.args.closing.tide)
two c =
    let s : FitsSigned w64 c.args.closing.seconds = search rules in
    let t : FitsSigned w64 c.args.closing.tide = search rules in
    elim c.if-seconds_ok.branch [
      | then-seconds_ok w ↦ rw (w.value-is, ← (simp (to_z-of_z, s) at c.seconds_ok.ensures), w.if-seconds_ok.true) (simp (to_z-of_z, t) at w.inside.ensures)
      | else-seconds_ok w ↦ rw (w.value-is, ← (simp (to_z-of_z, s) at c.seconds_ok.ensures), w.if-seconds_ok.false)
    ]

-- and the third
three : (c : Joined-inside) → c.if-inside.value ≡ (c.if-seconds_ok.value && elapsed_ok c.args.state.elapsed)
three c =
    let e : FitsSigned w64 c.args.state.elapsed = search rules in
    elim c.if-inside.branch [
      | then-inside w ↦ rw (w.value-is, w.if-inside.true) (simp (to_z-of_z, e) at w.inside-then-inside.ensures)
      | else-inside w ↦ rw (w.value-is, w.if-inside.false)
    ]

-- all three passed
record Three (c : Closing) (st : State) : Type 0 where
  seconds : seconds_ok st.started c.seconds ≡ true
  tide : tide_ok c.tide ≡ true
  elapsed : elapsed_ok st.elapsed ≡ true

three_in : (c : Closing) (st : State) (v : Bool) → v ≡ (seconds_ok st.started c.seconds && tide_ok c.tide) → (v && elapsed_ok st.elapsed) ≡ true → Three c st
three_in c st v e h =
    let s = seconds_ok st.started c.seconds in
    let both : (s && tide_ok c.tide) ≡ true = sym e ∙ and_left v (elapsed_ok st.elapsed) h in
    record { seconds = and_left s (tide_ok c.tide) both; tide = and_right s (tide_ok c.tide) both; elapsed = and_right v (elapsed_ok st.elapsed) h }

pub overflow_add-state : goal.overflow_add-state
overflow_add-state c =
    let s : FitsSigned w64 c.args.closing.seconds = search rules in
    let e : FitsSigned w64 c.args.state.elapsed = search rules in
    let p = goal.at.overflow_add-state c in
    let v = three_in c.args.closing c.args.state _ (two p.Joined-seconds_ok) (sym (three p.Joined-inside) ∙ c.if-inside-2.true) in
    simp (to_z-of_z, s, e) (sum_fits _ _ _ v.elapsed v.seconds)

pub returns-then-inside-2 : goal.returns-then-inside-2
unfolding times_ok
returns-then-inside-2 c =
    let s : FitsSigned w64 c.args.closing.seconds = search rules in
    let e : FitsSigned w64 c.args.state.elapsed = search rules in
    let p = goal.at.returns-then-inside-2 c in
    let v = three_in c.args.closing c.args.state _ (two p.Joined-seconds_ok) (sym (three p.Joined-inside) ∙ c.if-inside-2.true) in
    let f : FitsSigned w64 (c.args.state.elapsed +ℤ c.args.closing.seconds) = sum_fits _ _ _ v.elapsed v.seconds in
    rw (v.seconds, v.tide, v.elapsed) (simp (to_z-of_z, s, e, f) at c.inside-then-inside-2.ensures)

pub returns-else-inside-2 : goal.returns-else-inside-2
unfolding times_ok
returns-else-inside-2 c =
    let p = goal.at.returns-else-inside-2 c in
    let s = seconds_ok c.args.state.started c.args.closing.seconds in
    let x = elapsed_ok c.args.state.elapsed in
    c.if-inside-2.false
    ∙ short s (tide_ok c.args.closing.tide) x _ (ap (λ (v : Bool). v && x) (sym (two p.Joined-seconds_ok)) ∙ sym (three p.Joined-inside) ∙ c.if-inside-2.false)
