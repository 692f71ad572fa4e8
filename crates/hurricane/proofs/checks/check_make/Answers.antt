-- `check_make` meets its contract: the first that fails decides. Assumes nothing.
use Rattle.std.proofs.Common.{◌≡◌, ℕ, ℤ, sym, ◌∙◌, ◌&&◌, List, [], ◌∷◌, ◌*◌, length, leb, rules, Err}
use Rattle.records.specs.declared.Kind.TheVariants.{Lent, StormValue, WindRadii}
use Rattle.records.specs.declared.Refusal.{Refusal}
use Rattle.records.specs.CheckOrder.{Check, Pass, Fail, need, each, first_of}
use Rattle.records.specs.Limits.{count_ok}
use Rattle.records.specs.Refusals.{refusal}
use Rattle.records.proofs.CheckOrderLaws.{then-pass}
use Rattle.records.proofs.GroupLaws.{wholes-fit}
use Rattle.hurricane.specs.declared.Hurricane.{Hurricane}
use Rattle.hurricane.specs.Groups.{wind_count, site_count}
use Rattle.hurricane.specs.Limits.{hurricane_ok, wind_count_ok}
use Rattle.hurricane.specs.Checks.{wind_rows_ok, sites_ok, rising_ok, make_checks, make_check}
use Rattle.hurricane.proofs.checks.check_make.Goals as goal

-- the checks with the counts that the code has
by-counts : (h : Hurricane) (winds sites : List ℤ) (room rows points : ℕ) (x : Check) → rows ≡ wind_count winds → points ≡ site_count sites →
    x ≡ first_of (need (hurricane_ok h && (wind_count_ok rows && count_ok points)) (refusal StormValue 0) ∷ each StormValue (wind_rows_ok winds) rows
    ∷ each StormValue (sites_ok sites) points ∷ each WindRadii (rising_ok winds) rows ∷ need (leb (3 * points) room) (refusal Lent 0) ∷ []) →
    x ≡ make_check h winds sites room
unfolding make_checks
by-counts h winds sites room rows points x e f k = rw (e, f) at k

-- the first of a list fails, or passes and the rest decides
stops : {c : Check} {r : Refusal} (l : List Check) → c ≡ Fail r → Fail r ≡ first_of (c ∷ l)
unfolding first_of
stops l e = rw e

passes : {c x : Check} (l : List Check) → c ≡ Pass → x ≡ first_of l → x ≡ first_of (c ∷ l)
unfolding first_of
passes l e k = rw e k

ends : {c x : Check} → x ≡ c → x ≡ first_of (c ∷ [])
unfolding first_of
ends {c} e = e ∙ sym (then-pass c)

pub returns-in_err-need : goal.returns-in_err-need
returns-in_err-need c =
    let e : c.from_residual.result ≡ Err c.in_err-need.field-0.0 = search rules in
    let a = rw (c.numbers_ok.ensures, c.new.ensures) at c.need.ensures in
    by-counts _ _ _ _ c.count-rows.result c.count-points.result _ c.count-rows.ensures c.count-points.ensures (e ∙ stops _ (sym a ∙ c.in_err-need.was))

pub each-requires : goal.each-requires
each-requires c = let f = wholes-fit 2 (length c.args.winds.now) in λ i h. let e = c.count-rows.ensures in search rules

pub returns-in_err-each : goal.returns-in_err-each
returns-in_err-each c =
    let e : c.from_residual-in_err-each.result ≡ Err c.in_err-each.field-0.0 = search rules in
    let a = rw (c.numbers_ok.ensures, c.new.ensures) at c.need.ensures in
    let b = c.each.ensures (wind_rows_ok c.args.winds.now) (λ i b h p. search rules) in
    by-counts _ _ _ _ c.count-rows.result c.count-points.result _ c.count-rows.ensures c.count-points.ensures
    (passes _ (sym a ∙ c.in_ok-need.was) (e ∙ stops _ (sym b ∙ c.in_err-each.was)))

pub each-requires-2 : goal.each-requires-2
each-requires-2 c = let f = wholes-fit 3 (length c.args.sites.now) in λ i h. let e = c.count-points.ensures in search rules

pub returns-in_err-each-2 : goal.returns-in_err-each-2
returns-in_err-each-2 c =
    let e : c.from_residual-in_err-each-2.result ≡ Err c.in_err-each-2.field-0.0 = search rules in
    let a = rw (c.numbers_ok.ensures, c.new.ensures) at c.need.ensures in
    let b = c.each.ensures (wind_rows_ok c.args.winds.now) (λ i b h p. search rules) in
    let d = c.each-2.ensures (sites_ok c.args.sites.now) (λ i b h p. search rules) in
    by-counts _ _ _ _ c.count-rows.result c.count-points.result _ c.count-rows.ensures c.count-points.ensures
    (passes _ (sym a ∙ c.in_ok-need.was) (passes _ (sym b ∙ c.in_ok-each.was) (e ∙ stops _ (sym d ∙ c.in_err-each-2.was))))

pub each-requires-3 : goal.each-requires-3
each-requires-3 c = let f = wholes-fit 2 (length c.args.winds.now) in λ i h. let e = c.count-rows.ensures in search rules

pub returns-in_err-each-3 : goal.returns-in_err-each-3
returns-in_err-each-3 c =
    let e : c.from_residual-in_err-each-3.result ≡ Err c.in_err-each-3.field-0.0 = search rules in
    let a = rw (c.numbers_ok.ensures, c.new.ensures) at c.need.ensures in
    let b = c.each.ensures (wind_rows_ok c.args.winds.now) (λ i b h p. search rules) in
    let d = c.each-2.ensures (sites_ok c.args.sites.now) (λ i b h p. search rules) in
    let f = c.each-3.ensures (rising_ok c.args.winds.now) (λ i b h p. search rules) in
    by-counts _ _ _ _ c.count-rows.result c.count-points.result _ c.count-rows.ensures c.count-points.ensures
    (passes _ (sym a ∙ c.in_ok-need.was) (passes _ (sym b ∙ c.in_ok-each.was) (passes _ (sym d ∙ c.in_ok-each-2.was) (e ∙ stops _ (sym f ∙ c.in_err-each-3.was)))))

pub overflow_mul-points : goal.overflow_mul-points
overflow_mul-points c = let f = wholes-fit 3 (length c.args.sites.now) in let e = c.count-points.ensures in search rules

pub returns : goal.returns
returns c =
    let a = rw (c.numbers_ok.ensures, c.new.ensures) at c.need.ensures in
    let b = c.each.ensures (wind_rows_ok c.args.winds.now) (λ i b h p. search rules) in
    let d = c.each-2.ensures (sites_ok c.args.sites.now) (λ i b h p. search rules) in
    let f = c.each-3.ensures (rising_ok c.args.winds.now) (λ i b h p. search rules) in
    let g = rw c.new-2.ensures at c.need-2.ensures in
    by-counts _ _ _ _ c.count-rows.result c.count-points.result _ c.count-rows.ensures c.count-points.ensures
    (passes _ (sym a ∙ c.in_ok-need.was) (passes _ (sym b ∙ c.in_ok-each.was) (passes _ (sym d ∙ c.in_ok-each-2.was) (passes _ (sym f ∙ c.in_ok-each-3.was) (ends g)))))
