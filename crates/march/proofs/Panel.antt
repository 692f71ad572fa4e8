-- The harbour panel: all that is promised of a storm, in any build; and that the limit on points decides whether check 19 passes, and nothing else.
-- Assumes nothing.
use mathlib.Core.Path.{◌≡◌, refl, sym, ap, ◌∙◌}
use mathlib.Core.Bool.{true, false}
use Prim.Native.Nat.{ℕ, ◌≤◌, ◌<◌}
use lib.ListN.{length}
use Rattle.std.specs.Prelude.{Ok, Err}
use Rattle.records.specs.declared.Kind.TheVariants.{Points, PanelPoints}
use Rattle.records.specs.declared.Refusal.{Refusal}
use Rattle.records.specs.CheckOrder.{Check, Fail, first_of}
use Rattle.records.specs.Limits.{most_points, panel_points, count_ok}
use Rattle.records.specs.Refusals.{refusal}
use Rattle.records.specs.Shapes.{Traverse, count}
use Rattle.records.proofs.LimitLaws.{unequal, counts-in, build-passes, build-refuses}
use Rattle.march.specs.Given.{Given}
use Rattle.march.specs.Checks.{traverse_checks, traverse_check, open_of, check_of}
use Rattle.march.specs.March.{March, stopped, done}
use Rattle.march.specs.Take.{left_refused, march_given, after_march, after_checks, take_of}
use Rattle.march.specs.Panel.{OfStorms, OpensIn, in_build, TakesIn, PanelOnly, RangesForAnyCount, Panel}
use Rattle.march.proofs.ChecksPassed.{checks-are}
use Rattle.march.proofs.Demand1.{accepted-exactly}
use Rattle.march.proofs.Demand3.{sound-step, demand3}
use Rattle.march.proofs.Lists.{elapsed-is-sum}
use Rattle.march.proofs.Refused.{everywhere, Holds, Told, open-told, take-told}

-- ---- the checks of a traverse

module _ (most : ℕ) (t : Traverse) where
  longer-check : count_ok (count t) ≡ true → most < count t → traverse_check most t ≡ Fail (refusal PanelPoints (count t))
  unfolding traverse_checks first_of
  longer-check e h = rw (e, build-refuses most (count t) h)

  miscounted-check : count_ok (count t) ≡ false → traverse_check most t ≡ Fail (refusal Points (count t))
  unfolding traverse_checks first_of
  miscounted-check e = rw e

  same-check : count t ≤ most → (other : ℕ) → count t ≤ other → traverse_check other t ≡ traverse_check most t
  unfolding traverse_checks first_of
  same-check h other k = rw (build-passes most (count t) h, build-passes other (count t) k)

  pub opens-in : OpensIn most t
  unfolding open_of
  opens-in = record {
    longer = λ e h. rw (longer-check e h);
    miscounted = λ e. rw (miscounted-check e);
    same = λ h other k. rw (same-check h other k);
  }

-- ---- taking a record

module _ (g : Given) where
  -- a traverse that is refused is the record's refusal
  refused-traverse : (r : Refusal) → traverse_check g.most g.traverse ≡ Fail r → take_of g ≡ left_refused g r
  unfolding take_of
  refused-traverse r e = rw (checks-are g.most g.traverse g.storm g.state g.rows (length g.setup), e)

  module _ (other : ℕ) (same : traverse_check other g.traverse ≡ traverse_check g.most g.traverse) where
    check-same : check_of (in_build other g) ≡ check_of g
    check-same =
        rw (checks-are other g.traverse g.storm g.state g.rows (length g.setup), checks-are g.most g.traverse g.storm g.state g.rows (length g.setup), same)

    after-march : (m : March) → after_march m (in_build other g) ≡ after_march m g
    after-march (stopped refusal) = refl
    after-march (done legs) = refl

    after-checks : (c : Check) → after_checks c (in_build other g) ≡ after_checks c g
    after-checks (Err refusal) = refl
    after-checks (Ok _) = after-march (march_given g)

    take-same : take_of (in_build other g) ≡ take_of g
    unfolding take_of
    take-same = ap (λ (c : Check). after_checks c (in_build other g)) check-same ∙ after-checks (check_of g)

  pub takes-in : TakesIn g
  takes-in = record {
    longer = λ e h. refused-traverse (refusal PanelPoints (count g.traverse)) (longer-check g.most g.traverse e h);
    miscounted = λ e. refused-traverse (refusal Points (count g.traverse)) (miscounted-check g.most g.traverse e);
    same = λ h other k. take-same other (same-check g.most g.traverse h other k);
  }

-- ---- our own program never answers 19: what check 5 lets pass, 19 does

abbrev Everywhere : Refusal → Type 0
Everywhere r = everywhere r.kind ≡ true

other-number : (most : ℕ) (t : Traverse) → most ≡ most_points → Holds Everywhere most t
other-number most t e = record {
  other = λ kind place n l. n;
  panel = λ five f. unequal (sym (build-passes most (count t) (rw e (counts-in (count t) five).1)) ∙ f);
}

never : (place : ℕ) → Told Everywhere 19 place → ⊥
never place x = unequal (sym (rw x.number-is at x.has))

pub panel-only : PanelOnly
panel-only = record {
  opening = λ t place e. never place (open-told Everywhere most_points t (other-number most_points t refl) 19 place e);
  taking = λ g place m e. never place (take-told Everywhere g (other-number g.most g.traverse m) 19 place e);
}

-- ---- ranges, for any count of segments

pub ranges-for-any-count : RangesForAnyCount
ranges-for-any-count t r st rows x legs m inside e =
    rw (← inside.same) (sound-step t r rows x legs (rw inside.same e) m inside.flux inside.cross)

-- ---- all that is promised of a storm

pub of-storms : (most : ℕ) → OfStorms most
of-storms most = record { sound = demand3 most; elapsed = elapsed-is-sum most; accepted = λ g e. accepted-exactly g }

pub panel : Panel
panel = record { storms = of-storms; program = of-storms most_points; panel = of-storms panel_points; opens = opens-in; takes = takes-in; only = panel-only; ranges = ranges-for-any-count }
