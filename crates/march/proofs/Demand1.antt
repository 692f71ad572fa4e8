-- Demand 1 for the calls of the march. Assumes nothing.
use mathlib.Core.Path.{◌≡◌, refl, sym}
use mathlib.Core.Bool.{true}
use Rattle.std.specs.Prelude.{Ok, Err}
use Rattle.records.specs.CheckOrder.{Check, AllPass}
use Rattle.records.proofs.LimitLaws.{unequal}
use Rattle.records.proofs.CheckOrderLaws.{first-passed, first-pass, first-fails, all-or-first}
use Rattle.march.specs.Checks.{traverse_checks, open_of, checks, check_of}
use Rattle.march.specs.March.{March, stopped, done}
use Rattle.march.specs.Take.{march_given, after_checks, take_of}
use Rattle.march.specs.Exact.{is_accepted}
use Rattle.march.specs.Demand1.{OpenedExactly, Marches, AcceptedExactly, Demand1}

pub opened-exactly : OpenedExactly
unfolding open_of
opened-exactly most t = record {
  either = all-or-first (traverse_checks most t);
  opens = λ v. rw (first-pass (traverse_checks most t) v);
  refuses = λ f. rw (first-fails (traverse_checks most t) f);
}

pub accepted-exactly : AcceptedExactly
unfolding take_of
accepted-exactly g = record {
  either = all-or-first (checks g);
  accepts = λ v m. rw (first-pass (checks g) v, m.is);
  passes = go (check_of g) (march_given g) refl refl;
  refuses = λ f. rw (first-fails (checks g) f);
  stops = λ refusal v e. rw (first-pass (checks g) v, e);
}
  where
    go : (k : Check) (m : March) → check_of g ≡ k → march_given g ≡ m → is_accepted (after_checks (check_of g) g).answer ≡ true → AllPass (checks g) × Marches g
    go (Err refusal) m e f a = unequal (sym (rw e at a))
    go (Ok _) (stopped refusal) e f a = unequal (sym (rw (e, f) at a))
    go (Ok _) (done legs) e f a = (first-passed (checks g) e, record { legs = legs; is = f })

pub demand1 : Demand1
demand1 = (opened-exactly, accepted-exactly)
