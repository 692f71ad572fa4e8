-- Making a storm record: what was made can be taken, and our own table lent is the call without one: the statements of `specs/Making.antt`. Assumes nothing.
use mathlib.Core.Path.{◌≡◌, refl, sym, ap, subst, ◌∙◌}
use mathlib.Core.Bool.{Bool, true, false, cond}
use mathlib.Core.List.{List, ◌++◌}
use native.Mathlib.Omega.{arith}
use Prim.Native.Nat.{ℕ, ◌*◌, ◌<◌}
use lib.Dec.{eqb}
use lib.ListN.{length, take, drop}
use lib.Seq.{take_at}
use lib.IntN.{ℤ, pos}
use Rattle.records.specs.declared.Kind.TheVariants.{RecordValue, CalmAngle}
use Rattle.std.specs.Prelude.{Ok, Err}
use Rattle.records.specs.CheckOrder.{Check, Pass, need, first_of}
use Rattle.records.specs.Groups.{at, wholes, point_at}
use Rattle.records.specs.Limits.{point_ok, calm_ok}
use Rattle.records.specs.Refusals.{refusal}
use Rattle.records.specs.Shapes.{storm}
use Rattle.records.proofs.CheckOrderLaws.{each-pass, then-pass}
use Rattle.records.proofs.GroupLaws.{wholes-times}
use Rattle.records.proofs.LimitLaws.{Between}
use Rattle.records.proofs.RefusalLaws.{number-above}
use Rattle.hurricane.specs.Factor.{factor_entry}
use Rattle.hurricane.specs.Groups.{site_count}
use Rattle.hurricane.specs.Make.{LeftMade, Asked, asked, check_of, made_numbers, after_check, make_of, check_by, make_by}
use Rattle.hurricane.proofs.FactorTable.{entry-rule}
use Rattle.hurricane.proofs.MakeLaws.{point-in, calm-in, made-length, made-point}
use Rattle.hurricane.proofs.ProfileLaws.{profile-in, profile-table, check-by-passed, own-passes}
use Rattle.march.specs.Checks.{times_ok, points_ok, calms_ok, record_checks}
use Rattle.lent.specs.Numbers.{answer_numbers, wrong_buffer}
use Rattle.lent.specs.Making.{LeftMake, left_make, after_made, make_with, hurricane_given, closing_given, make_call, make_by_call, Makes, MakesBy, OwnTable, Takeable, TakeableBy, MadeTakeable}

-- what a call leaves, by its answer's length and its checks
abbrev left_after : Bool → Check → Asked → List ℤ → LeftMake
left_after t c a answer = cond t (after_made (after_check c a).answer (after_check c a).room) (left_make wrong_buffer a.room answer)

-- 0 is returned only where the checks passed
record MadeIt (a : Asked) (c : Check) (left : LeftMake) : Type 0 where
  passed : c ≡ Pass
  room-is : left.storm ≡ made_numbers a ++ drop (3 * site_count a.sites) a.room
  answer-is : left.answer ≡ answer_numbers (pos 0) a.closing.seconds a.closing.tide

made-it : (a : Asked) (answer : List ℤ) (c : Check) (left : LeftMake) → left ≡ left_after (eqb (length answer) 3) c a answer → left.number ≡ 0 → MadeIt a c left
made-it a answer c left k z = subst (MadeIt a c) (sym k) (by (eqb (length answer) 3) c (sym (ap (λ (l : LeftMake). l.number) k) ∙ z))
  where
    by : (t : Bool) (c : Check) → (left_after t c a answer).number ≡ 0 → MadeIt a c (left_after t c a answer)
    by true (Ok u) z = record { passed = refl; room-is = refl; answer-is = refl }
    by true (Err refusal) z = let n = number-above refusal.kind in absurd (omega arith)
    by false c z = absurd (omega arith)

module _ (a : Asked) (limits : (m : ℕ) → m < 1001 → Between (pos 0) (pos 10000) (a.factor m)) (all : check_of a ≡ Pass) (left : LeftMake)
    (room-is : left.storm ≡ made_numbers a ++ drop (3 * site_count a.sites) a.room) where
  abbrev n : ℕ
  n = site_count a.sites

  numbers-are : take (3 * n) left.storm ≡ made_numbers a
  numbers-are = ap (take (3 * n)) room-is ∙ take_at (made_numbers a) (drop (3 * n) a.room) (3 * n) (made-length a limits all)

  points-ok : (i : ℕ) → i < n → point_ok (point_at (made_numbers a) i) ≡ true
  points-ok i h = rw (made-point a limits all i h) (point-in a limits all i h)

  calms-ok : (i : ℕ) → i < n → calm_ok (point_at (made_numbers a) i) ≡ true
  calms-ok i h = rw (made-point a limits all i h) (calm-in a i)

  made-takeable : Takeable n (storm a.closing (made_numbers a))
  unfolding record_checks first_of
  made-takeable = record {
    count = ap (wholes 3) (made-length a limits all) ∙ wholes-times 3 n (omega arith);
    points = points-ok;
    calms = calms-ok;
    check = λ st. rw (each-pass RecordValue (points_ok (made_numbers a)) n points-ok, each-pass CalmAngle (calms_ok (made_numbers a)) n calms-ok) (then-pass (need (times_ok a.closing st) (refusal RecordValue 0)));
  }

  takeable : Takeable n (storm a.closing (take (3 * n) left.storm))
  takeable = subst (λ (l : List ℤ). Takeable n (storm a.closing l)) (sym numbers-are) made-takeable

-- ---- by our own table, whose entries are within their limits, and by one that passed check 20

entries-in : (m : ℕ) → m < 1001 → Between (pos 0) (pos 10000) (factor_entry m)
entries-in m h = record { from = (entry-rule m h).low; to = (entry-rule m h).high }

own-takeable : TakeableBy Makes
unfolding make_call make_of
own-takeable central edge radius x y seconds tide winds sites storm answer left k z =
    let a = asked factor_entry (hurricane_given central edge radius x y) (closing_given seconds tide) winds sites storm in
    let v = made-it a answer (check_of a) left k z in
    (takeable a entries-in v.passed left v.room-is, v.answer-is)

lent-takeable : (factors : List ℤ) → TakeableBy (MakesBy factors)
unfolding make_by_call make_by
lent-takeable factors central edge radius x y seconds tide winds sites storm answer left k z =
    let a = asked (at factors) (hurricane_given central edge radius x y) (closing_given seconds tide) winds sites storm in
    let v = made-it a answer (check_by factors a) left k z in
    let t = check-by-passed factors a v.passed in
    let table = profile-table factors (profile-in factors t.0) in
    (takeable a (λ m h. record { from = table.low m h; to = table.high m h }) t.1 left v.room-is, v.answer-is)

pub made-is-takeable : MadeTakeable
made-is-takeable = record { own = own-takeable; lent = lent-takeable }

pub own-table : OwnTable
unfolding make_call make_by_call
own-table factors r central edge radius x y seconds tide winds sites storm answer left k =
    k ∙ ap (λ (m : LeftMade). make_with m storm answer) ((own-passes factors r).same (hurricane_given central edge radius x y) (closing_given seconds tide) winds sites storm)
