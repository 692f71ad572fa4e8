-- The elapsed time after a list of calls. Assumes nothing.
use mathlib.Core.Path.{◌≡◌, refl, sym, ap, ◌∙◌}
use mathlib.Core.Bool.{cond}
use mathlib.Core.List.{[], ◌∷◌}
use lib.IntN.{ℤ, pos, ◌+ℤ◌, +ℤ_assoc, +ℤ_idr}
use Rattle.std.specs.Prelude.{Ok, Err}
use Rattle.records.specs.CheckOrder.{Check}
use Rattle.march.specs.Given.{Given}
use Rattle.march.specs.Checks.{check_of}
use Rattle.march.specs.March.{March, stopped, done}
use Rattle.march.specs.Take.{Left, march_given, after_march, after_checks, take_of}
use Rattle.march.specs.Exact.{is_accepted}
use Rattle.march.specs.Demand3.{called_with, called}
use Rattle.march.specs.Lists.{state_after, accepted_seconds, ElapsedIsSum}

-- a call adds its seconds where it is accepted, and nothing where it is refused
module _ (g : Given) where
  abbrev Adds : Left → Type 0
  Adds left = left.state.elapsed ≡ g.state.elapsed +ℤ cond (is_accepted left.answer) g.storm.closing.seconds (pos 0)

  by-march : (m : March) → Adds (after_march m g)
  by-march (stopped refusal) = sym (+ℤ_idr g.state.elapsed)
  by-march (done legs) = refl

  by-check : (k : Check) → Adds (after_checks k g)
  by-check (Err refusal) = sym (+ℤ_idr g.state.elapsed)
  by-check (Ok _) = by-march (march_given g)

  adds : Adds (take_of g)
  unfolding take_of
  adds = by-check (check_of g)

pub elapsed-is-sum : ElapsedIsSum
unfolding state_after accepted_seconds
elapsed-is-sum most t st rows [] = sym (+ℤ_idr st.elapsed)
elapsed-is-sum most t st rows (c ∷ calls) =
    let left = called most t st rows c in
    let rest = accepted_seconds most t left.state left.rows calls in
    elapsed-is-sum most t left.state left.rows calls ∙ ap (λ (x : ℤ). x +ℤ rest) (adds (called_with most t st rows c))
    ∙ +ℤ_assoc st.elapsed (cond (is_accepted left.answer) c.storm.closing.seconds (pos 0)) rest
