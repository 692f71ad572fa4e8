-- The rule of the sine table: antt computes the test over all entries of the definition, and `ranges` carries it to each. Assumes nothing.
use Prim.Native.Nat.{ℕ, ◌<◌}
use lib.Dec.{T}
use Rattle.ranges.specs.Fraction.{◌/F◌}
use Rattle.ranges.proofs.NearestLaws.{nearest-near, passed-rule}
use Rattle.forcing.specs.Sine.{scaled_sine, near_sine, sine_entry, SineRule}

pub entry-near : (n : ℕ) → T (near_sine n (sine_entry n))
unfolding sine_entry
entry-near n = nearest-near (scaled_sine n)

-- the definition's entries pass the test, so each has the rule
pub entry-rule : (n : ℕ) → n < 901 → SineRule n (sine_entry n)
unfolding ◌/F◌ scaled_sine sine_entry
entry-rule n h = passed-rule scaled_sine 901 sine_entry tt n h
