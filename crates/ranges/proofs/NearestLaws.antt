-- The rule "within half a unit" of a table's entries. One test, which antt computes over all entries, says that each is nearer than half a unit to
-- its value; one law carries it to each entry. Assumes nothing.
use mathlib.Core.Path.{◌≡◌, sym}
use mathlib.Core.Bool.{Bool, ◌&&◌}
use mathlib.Core.List.{[], ◌∷◌}
use Prim.Native.Nat.{ℕ, ◌<◌}
use native.Mathlib.Omega.{arith}
use lib.Dec.{T}
use lib.IntN.{ℤ, pos, ◌+ℤ◌, ◌-ℤ◌, ◌*ℤ◌}
use lib.Signed.{le_z, lt_z, ◌≤ℤ◌, ◌<ℤ◌, le_z_yes, lt_z_yes}
use mir.Syntax.{w64}
use mir.Val.{SFits}
use Rattle.ranges.specs.Fraction.{Frac, ◌≈F◌, pos-mul}
use Rattle.ranges.specs.Nearest.{within_half, nearest_whole, NearestRule, TableHolds}
use Rattle.ranges.proofs.ComputedTests.{both, and, below, below_at}
use Rattle.ranges.proofs.DivisionLaws.{floor-is}
use Rattle.ranges.proofs.FractionLaws.{≈F-sym}
use Rattle.ranges.proofs.IntegerOrder.{lt-le, mul-le, cancel-le, cancel-lt}
use Rattle.ranges.proofs.LinearSolver.{zomega, says, ◌&◌}

-- ---- half a unit, of a fraction N over D

-- x nearer than half a unit leaves no room for another z
only_one : (N D x z : ℤ) → pos 0 <ℤ D → (pos 2 *ℤ N -ℤ D) <ℤ (pos 2 *ℤ x *ℤ D) → (pos 2 *ℤ x *ℤ D) <ℤ (pos 2 *ℤ N +ℤ D) →
    (pos 2 *ℤ N -ℤ D) ≤ℤ (pos 2 *ℤ z *ℤ D) → (pos 2 *ℤ z *ℤ D) ≤ℤ (pos 2 *ℤ N +ℤ D) → z ≡ x
only_one N D x z p l h l' h' =
    let ρ = N ∷ D ∷ x ∷ z ∷ [] in
    let below_next : z <ℤ (x +ℤ pos 1) = cancel-lt z (x +ℤ pos 1) D p (zomega ρ (l & h') (search says depth 20) (omega arith)) in
    let above-last : (x -ℤ pos 1) <ℤ z = cancel-lt (x -ℤ pos 1) z D p (zomega ρ (h & l') (search says depth 20) (omega arith)) in
    zomega (x ∷ z ∷ []) (below_next & above-last) (search says depth 20) (omega arith)

-- what is half a unit higher, rounded down, is within half a unit
rounded-low : (N D q : ℤ) → (pos 2 *ℤ N +ℤ D) <ℤ ((q +ℤ pos 1) *ℤ (pos 2 *ℤ D)) → (pos 2 *ℤ N -ℤ D) ≤ℤ (pos 2 *ℤ q *ℤ D)
rounded-low N D q h = zomega (N ∷ D ∷ q ∷ []) h (search says depth 20) (omega arith)

rounded-high : (N D q : ℤ) → (q *ℤ (pos 2 *ℤ D)) ≤ℤ (pos 2 *ℤ N +ℤ D) → (pos 2 *ℤ q *ℤ D) ≤ℤ (pos 2 *ℤ N +ℤ D)
rounded-high N D q h = zomega (N ∷ D ∷ q ∷ []) h (search says depth 20) (omega arith)

pub nearest-near : (y : Frac) → T (within_half y (nearest_whole y))
nearest-near y =
    let two : pos 0 <ℤ pos 2 = lt_z_yes tt in
    let twice : pos 0 <ℤ (pos 2 *ℤ y.den) = pos-mul {a = pos 2} {b = y.den} two y.den_pos in
    let q = nearest_whole y in
    let f = floor-is (pos 2 *ℤ y.num +ℤ y.den) (pos 2 *ℤ y.den) twice in
    and (le_z (pos 2 *ℤ y.num -ℤ y.den) (pos 2 *ℤ q *ℤ y.den)) (le_z (pos 2 *ℤ q *ℤ y.den) (pos 2 *ℤ y.num +ℤ y.den))
    (rounded-low y.num y.den q f.high).le (rounded-high y.num y.den q f.low).le

-- ---- the rule of an entry

-- x is nearer than half a unit to y
abbrev pub nearer : Frac → ℤ → Bool
nearer y x = lt_z (pos 2 *ℤ y.num -ℤ y.den) (pos 2 *ℤ x *ℤ y.den) && lt_z (pos 2 *ℤ x *ℤ y.den) (pos 2 *ℤ y.num +ℤ y.den)

-- and from 0 to 10,000
abbrev pub ruled : Frac → ℤ → Bool
ruled y x = nearer y x && (le_z (pos 0) x && le_z x (pos 10000))

lt-le_z : (a b : ℤ) → T (lt_z a b) → T (le_z a b)
lt-le_z a b t = let k : a ≤ℤ b = lt-le (lt_z_yes t) in k.le

pub rule : (y : Frac) (x : ℤ) → T (ruled y x) → NearestRule y x
rule y x t =
    let a = pos 2 *ℤ y.num -ℤ y.den in
    let b = pos 2 *ℤ x *ℤ y.den in
    let c = pos 2 *ℤ y.num +ℤ y.den in
    let parts = both (nearer y x) (le_z (pos 0) x && le_z x (pos 10000)) t in
    let near = both (lt_z a b) (lt_z b c) parts.0 in
    let size = both (le_z (pos 0) x) (le_z x (pos 10000)) parts.1 in
    record {
      near = and (le_z a b) (le_z b c) (lt-le_z a b near.0) (lt-le_z b c near.1);
      only = λ z s. let other = both (le_z a (pos 2 *ℤ z *ℤ y.den)) (le_z (pos 2 *ℤ z *ℤ y.den) c) s in
          only_one y.num y.den x z y.den_pos (lt_z_yes near.0) (lt_z_yes near.1) (le_z_yes other.0) (le_z_yes other.1);
      low = le_z_yes size.0;
      high = le_z_yes size.1;
    }

-- an entry fits an `i64`
pub rule_fits : {y : Frac} {x : ℤ} → NearestRule y x → SFits w64 x
rule_fits {y} {x} r = zomega (x ∷ []) (r.low & r.high) (search says depth 20) (omega arith)

-- ---- two fractions of the same value

within_low : (N D N' D' z : ℤ) → pos 0 <ℤ D → pos 0 <ℤ D' → N *ℤ D' ≡ N' *ℤ D →
    (pos 2 *ℤ N -ℤ D) ≤ℤ (pos 2 *ℤ z *ℤ D) → (pos 2 *ℤ N' -ℤ D') ≤ℤ (pos 2 *ℤ z *ℤ D')
within_low N D N' D' z p p' e h =
    let k = mul-le h (lt-le p') in
    cancel-le (pos 2 *ℤ N' -ℤ D') (pos 2 *ℤ z *ℤ D') D p (zomega (N ∷ D ∷ N' ∷ D' ∷ z ∷ []) (e & k) (search says depth 20) (omega arith))

within-high : (N D N' D' z : ℤ) → pos 0 <ℤ D → pos 0 <ℤ D' → N *ℤ D' ≡ N' *ℤ D →
    (pos 2 *ℤ z *ℤ D) ≤ℤ (pos 2 *ℤ N +ℤ D) → (pos 2 *ℤ z *ℤ D') ≤ℤ (pos 2 *ℤ N' +ℤ D')
within-high N D N' D' z p p' e h =
    let k = mul-le h (lt-le p') in
    cancel-le (pos 2 *ℤ z *ℤ D') (pos 2 *ℤ N' +ℤ D') D p (zomega (N ∷ D ∷ N' ∷ D' ∷ z ∷ []) (e & k) (search says depth 20) (omega arith))

-- what is within half a unit of one is so of the other
pub within_same : {y y' : Frac} (z : ℤ) → y ≈F y' → T (within_half y z) → T (within_half y' z)
within_same {y} {y'} z e t =
    let parts = both (le_z (pos 2 *ℤ y.num -ℤ y.den) (pos 2 *ℤ z *ℤ y.den)) (le_z (pos 2 *ℤ z *ℤ y.den) (pos 2 *ℤ y.num +ℤ y.den)) t in
    and (le_z (pos 2 *ℤ y'.num -ℤ y'.den) (pos 2 *ℤ z *ℤ y'.den)) (le_z (pos 2 *ℤ z *ℤ y'.den) (pos 2 *ℤ y'.num +ℤ y'.den))
    (within_low y.num y.den y'.num y'.den z y.den_pos y'.den_pos e.same (le_z_yes parts.0)).le
    (within-high y.num y.den y'.num y'.den z y.den_pos y'.den_pos e.same (le_z_yes parts.1)).le

-- so the rule of an entry may be tested on whichever is worked out sooner
pub rule-same : {y y' : Frac} {x : ℤ} → y ≈F y' → NearestRule y x → NearestRule y' x
rule-same {y} {y'} {x} e r = record {
  near = within_same x e r.near;
  only = λ z s. r.only z (within_same z (≈F-sym e) s);
  low = r.low;
  high = r.high;
}

-- ---- the rule of a table

-- every entry passes the test
abbrev pub Passes : (ℕ → Frac) → ℕ → (ℕ → ℤ) → Type 0
Passes value count table = T (below (λ (n : ℕ). ruled (value n) (table n)) count)

-- so each has the rule
pub passed-rule : (value : ℕ → Frac) (count : ℕ) (table : ℕ → ℤ) → Passes value count table → (n : ℕ) → n < count → NearestRule (value n) (table n)
passed-rule value count table t n h = rule (value n) (table n) (below_at (λ (n : ℕ). ruled (value n) (table n)) count t n h)

-- and is the nearest whole number, since there is no other
pub rule-nearest : {y : Frac} {x : ℤ} → NearestRule y x → x ≡ nearest_whole y
rule-nearest {y} r = sym (r.only (nearest_whole y) (nearest-near y))

pub table-holds : {value : ℕ → Frac} {count : ℕ} {table : ℕ → ℤ} → ((n : ℕ) → n < count → NearestRule (value n) (table n)) →
    TableHolds count (λ (n : ℕ). nearest_whole (value n)) table
table-holds rules = record { entry = λ n h. rule-nearest (rules n h) }
