-- A damped sum held between -c and c, where c = b·δ/1,000 grows with δ: its least and greatest value over all v, f and δ, rounded outward. It is
-- document 02's Q-6, the flux limit of TM-35's errata: "the new flux is held between -c and c, c = bδ/1,000 .. for each choice of v, F and δ".
-- `LimitedRight` says that the range is just that of the choices; `proofs/LimitedOutward.antt` has it as `limited-right`.
use Rattle.std.specs.Prelude.{ℤ, pos, neg_ℤ, ◌*ℤ◌, ◌≤ℤ◌}
use Rattle.ranges.specs.declared.Range.{Range}
use Rattle.ranges.specs.Damped.{DampedChoice, damped_at, damped_of}
use Rattle.ranges.specs.Division.{floor_div, ceil_div}
use Rattle.ranges.specs.Ends.{EndRule, low_rule, high_rule}
use Rattle.ranges.specs.Fraction.{Frac, whole, ◌*F◌, ◌/F◌, minus_f, lesser_f, greater_f}
use Rattle.ranges.specs.Outward.{Outward}
use Rattle.ranges.specs.Range.{Ordered, Positive, lesser, greater}

-- ---- of fractions

-- c
unfoldable pub limit : ℤ → Frac → Frac
limit b δ = (whole b *F δ) /F whole (pos 1000)

-- x, held between -c and c
unfoldable pub limited : ℤ → Frac → Frac → Frac
limited b δ x = greater_f (minus_f (limit b δ)) (lesser_f (limit b δ) x)

-- a choice's damped sum, held by the c of its own δ
abbrev pub limited_at : (b c : ℤ) {v f δ : Range} → DampedChoice v f δ → Frac
limited_at b c x = limited b x.δ-is (damped_at c x)

-- ---- of ranges

abbrev pub thousand : ℤ
thousand = pos 1000

-- c over δ's range, rounded outward
abbrev pub limit_of : ℤ → Range → Range
limit_of b δ = record { low = floor_div (b *ℤ δ.low) thousand; high = ceil_div (b *ℤ δ.high) thousand }

-- x, held between two whole numbers
abbrev pub between : ℤ → ℤ → ℤ → ℤ
between least most x = greater least (lesser most x)

-- an end x of the damped sum's range, held by the range of c. From zero on its value lies at the δ of the same end, and so does its c; below zero at the
-- δ of the other end, and so does its -c
abbrev pub limited_end : EndRule → Range → ℤ → ℤ
limited_end e c x = between (neg_ℤ (e.other c)) (e.own c) x

unfoldable pub limited_low : ℤ → Range → ℤ → ℤ
limited_low b δ x = limited_end low_rule (limit_of b δ) x

unfoldable pub limited_high : ℤ → Range → ℤ → ℤ
limited_high b δ x = limited_end high_rule (limit_of b δ) x

-- the range of the damped sum, held
abbrev pub limited_of : ℤ → Range → Range → Range
limited_of b δ r = record { low = limited_low b δ r.low; high = limited_high b δ r.high }

-- "inside the range step, for each choice of v, F and δ": holding the ends so gives the outward range of what the choices give, each held by itself
pub record LimitedRight : Type 0 where
  pub outward : (b c : ℤ) (v f δ : Range) → pos 0 ≤ℤ b → pos 0 ≤ℤ c → Positive δ → Ordered v → Ordered f → Ordered δ →
      Outward (λ (x : DampedChoice v f δ). limited_at b c x) (limited_of b δ (damped_of c v f δ))
