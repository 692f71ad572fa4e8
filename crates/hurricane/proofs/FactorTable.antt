-- The rule of the table of e^(-m/100). antt computes the tests over all entries on the sum over one denominator, 100⁴⁰·40!, which has the value of
-- document 02's; the laws of `ranges` carry them to each entry. Assumes nothing.
use mathlib.Core.Path.{◌≡◌, refl, sym, subst}
use mathlib.Core.List.{List}
use Prim.Native.Nat.{ℕ, suc, ◌+◌, ◌-◌, ◌≤◌, ◌<◌}
use native.Mathlib.Omega.{arith}
use lib.Dec.{T, le→leb}
use lib.IntN.{ℤ, pos}
use lib.ListN.{length, get_or}
use lib.Signed.{le_z, ◌≤ℤ◌, ◌<ℤ◌, le_z_yes}
use mir.Syntax.{w64}
use mir.Val.{SFits}
use Rattle.ranges.specs.Fraction.{Frac, ◌≈F◌, whole, ◌/F◌}
use Rattle.ranges.specs.Nearest.{nearest_whole, TableHolds}
use Rattle.ranges.proofs.ComputedTests.{below, below_at}
use Rattle.ranges.proofs.FractionLaws.{≈F-sym, div-cong}
use Rattle.ranges.proofs.IntegerOrder.{le_antisymm}
use Rattle.ranges.proofs.NearestLaws.{nearest-near, Passes, passed-rule, rule-same, rule_fits, table-holds}
use Rattle.ranges.proofs.SeriesLaws.{common_sum, common-same, sum-above}
use Rattle.hurricane.specs.Factor.{hundredths, power_sum, scaled_factor, near_factor, factor_entry, FactorRule, TableRule, TableRight}

-- ---- over one denominator

abbrev pub common_factor : ℕ → Frac
common_factor m = whole (pos 10000) /F common_sum (hundredths m) 40

-- document 02 divides by a sum above nought
divided : (m : ℕ) → pos 0 <ℤ (power_sum m).num
divided m = sum-above (hundredths m) 40 (le_z_yes (le→leb 0 m (omega arith)))

common-factor : (m : ℕ) → common_factor m ≈F scaled_factor m
unfolding scaled_factor
common-factor m =
    let n = whole (pos 10000) in
    ≈F-sym (div-cong n n (power_sum m) (common_sum (hundredths m) 40) (divided m) (record { same = refl }) (common-same (hundredths m) 40))

-- a table that passes the test on it has document 02's rule, and so holds the definition's entries
module _ (table : ℕ → ℤ) (t : Passes common_factor 1001 table) where
  factor-rule : (m : ℕ) → m < 1001 → FactorRule m (table m)
  factor-rule m h = rule-same (common-factor m) (passed-rule common_factor 1001 table t m h)

  factor-holds : TableHolds 1001 factor_entry table
  unfolding factor_entry
  factor-holds = table-holds factor-rule

-- ---- the definition's entries

pub entry-near : (m : ℕ) → T (near_factor m (factor_entry m))
unfolding factor_entry
entry-near m = nearest-near (scaled_factor m)

-- worked out sooner
abbrev common_entry : ℕ → ℤ
common_entry m = nearest_whole (common_factor m)

all_pass : Passes common_factor 1001 common_entry
unfolding ◌/F◌
all_pass = tt

entry-is : (m : ℕ) → m < 1001 → common_entry m ≡ factor_entry m
entry-is m h = (factor-holds common_entry all_pass).entry m h

pub entry-rule : (m : ℕ) → m < 1001 → FactorRule m (factor_entry m)
entry-rule m h = subst (FactorRule m) (entry-is m h) (factor-rule common_entry all_pass m h)

-- none is above the one before
all-fall : T (below (λ (m : ℕ). le_z (common_entry (suc m)) (common_entry m)) 1000)
unfolding ◌/F◌
all-fall = tt

pub falling : (m : ℕ) → suc m < 1001 → factor_entry (suc m) ≤ℤ factor_entry m
falling m h =
    let k : m < 1000 = omega arith in
    let l : m < 1001 = omega arith in
    let f : common_entry (suc m) ≤ℤ common_entry m = le_z_yes (below_at (λ (m : ℕ). le_z (common_entry (suc m)) (common_entry m)) 1000 all-fall m k) in
    subst (λ (x : ℤ). factor_entry (suc m) ≤ℤ x) (entry-is m l) (subst (λ (x : ℤ). x ≤ℤ common_entry m) (entry-is (suc m) h) f)

first : factor_entry 0 ≡ pos 10000
unfolding ◌/F◌
first = sym (entry-is 0 (omega arith))

-- entries 991 to 1,000
last_none : T (below (λ (k : ℕ). le_z (common_entry (991 + k)) (pos 0)) 10)
unfolding ◌/F◌
last_none = tt

last : (m : ℕ) → 991 ≤ m → m < 1001 → factor_entry m ≡ pos 0
last m l h =
    let k : m - 991 < 10 = omega arith in
    let e : 991 + (m - 991) ≡ m = omega arith in
    let f : common_entry (991 + (m - 991)) ≤ℤ pos 0 = le_z_yes (below_at (λ (k : ℕ). le_z (common_entry (991 + k)) (pos 0)) 10 last_none (m - 991) k) in
    let g : common_entry m ≤ℤ pos 0 = subst (λ (n : ℕ). common_entry n ≤ℤ pos 0) e f in
    le_antisymm (subst (λ (x : ℤ). x ≤ℤ pos 0) (entry-is m h) g) (entry-rule m h).low

-- all together
pub table-rule : TableRule
table-rule = record { divided = divided; entry = entry-rule; first = first; last = last; falling = falling }

-- ---- a table of numbers

pub table-right : (table : List ℤ) → length table ≡ 1001 → Passes common_factor 1001 (λ (m : ℕ). get_or table m (pos 0)) → TableRight table
table-right table e t = record { long = e; holds = factor-holds (λ (m : ℕ). get_or table m (pos 0)) t }

-- its entries have the rule: they lie from 0 to 10,000, and fit an `i64`
module _ (table : List ℤ) (r : TableRight table) (m : ℕ) (h : m < 1001) where
  pub right-rule : FactorRule m (get_or table m (pos 0))
  right-rule = subst (FactorRule m) (sym (r.holds.entry m h)) (entry-rule m h)

  pub right-fits : SFits w64 (get_or table m (pos 0))
  right-fits = rule_fits right-rule
