-- `make_with` meets its contract: the checks, then the points. Assumes nothing.
use Rattle.std.proofs.Common.{◌≡◌, ℕ, ℤ, refl, sym, ap, ◌∙◌, Err, List, rules, ◌*◌, ◌≤◌, arith}
use lib.Seq.{length-take-le}
use Rattle.records.specs.CheckOrder.{Pass}
use Rattle.records.specs.Groups.{at}
use Rattle.hurricane.specs.declared.Hurricane.{Hurricane}
use Rattle.hurricane.specs.Groups.{site_count}
use Rattle.hurricane.specs.Checks.{make_check}
use Rattle.hurricane.specs.Make.{asked, make_of}
use Rattle.hurricane.proofs.MakeLaws.{make-in, made-left}
use Rattle.hurricane.proofs.make.make_with.Goals as goal

-- past the checks the points fit the room
fits : (h : Hurricane) (winds sites : List ℤ) (room n : ℕ) → make_check h winds sites room ≡ Pass → n ≡ site_count sites → 3 * n ≤ room
fits h winds sites room n e k = rw k (make-in h winds sites room e).fits

few : (h : Hurricane) (winds sites : List ℤ) (room n : ℕ) → make_check h winds sites room ≡ Pass → n ≡ site_count sites → n ≤ 65
few h winds sites room n e k = rw k (make-in h winds sites room e).to

pub returns-in_err-check_make : goal.returns-in_err-check_make
unfolding make_of
returns-in_err-check_make c =
    let e : c.from_residual.result ≡ Err c.in_err-check_make.field-0.0 = search rules in
    rw (e, sym c.check_make.ensures ∙ c.in_err-check_make.was) refl

pub overflow_mul-size : goal.overflow_mul-size
overflow_mul-size c =
    let m = few _ _ _ _ _ (sym c.check_make.ensures ∙ c.in_ok-check_make.was) c.count-size.ensures in
    omega arith

pub invariant_of-field : goal.invariant_of-field
invariant_of-field c =
    let m = make-in _ _ _ _ (sym c.check_make.ensures ∙ c.in_ok-check_make.was) in
    record { table_in = c.requires; hurricane_in = m.hurricane; winds_in = m.winds-in }

pub slice_bounds-fill-end : goal.slice_bounds-fill-end
slice_bounds-fill-end c = fits _ _ _ _ _ (sym c.check_make.ensures ∙ c.in_ok-check_make.was) c.count-size.ensures

pub slice_bounds-fill-end-2 : goal.slice_bounds-fill-end-2
slice_bounds-fill-end-2 c =
    let f = fits _ _ _ _ _ (sym c.check_make.ensures ∙ c.in_ok-check_make.was) c.count-size.ensures in
    sym (length-take-le (3 * c.count-size.result) c.args.room.now f)

pub fill-requires : goal.fill-requires
fill-requires c =
    let e = sym c.check_make.ensures ∙ c.in_ok-check_make.was in
    let f = fits _ _ _ _ _ e c.count-size.ensures in
    let m = make-in _ _ _ _ e in
    (m.sites_in, length-take-le (3 * c.count-size.result) c.args.room.now f ∙ ap (λ (n : ℕ). 3 * n) c.count-size.ensures)

pub returns : goal.returns
returns c =
    made-left (asked (at c.args.table.now) c.args.h c.args.closing c.args.winds.now c.args.sites.now c.args.room.now) c.count-size.result _
    (sym c.check_make.ensures ∙ c.in_ok-check_make.was) c.count-size.ensures c.fill.ensures
