-- The two ends of a range. A value is rounded down at the low end and up at the high one, and of two values the low end takes the lesser
-- and the high end the greater. So what is worked out at both ends is defined one time, over the rule of an end.
use Rattle.std.specs.Prelude.{◌≡◌, ◌⊎◌, ℤ, pos, ◌*ℤ◌, ◌<ℤ◌}
use Rattle.ranges.specs.declared.Range.{Range}
use Rattle.ranges.specs.Division.{floor_div, ceil_div}
use Rattle.ranges.specs.Range.{Ordered, lesser, greater}

pub record EndRule : Type 0 where
  -- the fraction n / d as a whole number
  pub rounded : ℤ → ℤ → ℤ
  -- of two values, the one further out
  pub further : ℤ → ℤ → ℤ
  -- this end of a range, and the other one
  pub own : Range → ℤ
  pub other : Range → ℤ

abbrev pub low_rule : EndRule
low_rule = record { rounded = floor_div; further = lesser; own = λ r. r.low; other = λ r. r.high }

abbrev pub high_rule : EndRule
high_rule = record { rounded = ceil_div; further = greater; own = λ r. r.high; other = λ r. r.low }

-- what is asked of a rule. That a is no less far out than b is said by `further`: of the two it is a
pub record EndLaws (e : EndRule) : Type 0 where
  -- it is the rule of one of the two ends
  pub is : (e ≡ low_rule) ⊎ (e ≡ high_rule)
  -- a fraction is rounded outward, and a whole number stays what it is
  pub outward : (n d : ℤ) → pos 0 <ℤ d → e.further (e.rounded n d *ℤ d) n ≡ e.rounded n d *ℤ d
  pub exact : (n d : ℤ) → pos 0 <ℤ d → e.rounded (n *ℤ d) d ≡ n
  -- the further of two is no less far out than either
  pub past_first : (a b : ℤ) → e.further a (e.further a b) ≡ e.further a b
  pub past_second : (a b : ℤ) → e.further b (e.further a b) ≡ e.further a b
  -- the two ends are those of the range, and it has nothing further out than its own end
  pub ends : (r : Range) → ((e.own r ≡ r.low) × (e.other r ≡ r.high)) ⊎ ((e.own r ≡ r.high) × (e.other r ≡ r.low))
  pub outermost : (r : Range) → Ordered r → e.further (e.own r) (e.other r) ≡ e.own r
