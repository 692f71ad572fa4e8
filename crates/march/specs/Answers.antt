-- What a call answers, in document 01's terms: for each case of the code's answers, this paper's number and values. The promises of the calls open
-- to callers are stated with these.
use Rattle.std.specs.Prelude.{ℕ, ℤ, Result, Ok, Err}
use Rattle.ranges.specs.declared.Range.{Range}
use Rattle.records.specs.declared.Refusal.{Refusal}
use Rattle.records.specs.Refusals.{number_of}
use Rattle.records.specs.CheckOrder.{Check}
use Rattle.march.specs.declared.State.{State}

-- a record: elapsed seconds, low and high of the shore height; or the refusal's number and place
pub data Told : Type 0 where
  accepted : ℤ → ℤ → ℤ → Told
  refused : ℕ → ℕ → Told

-- the code answers the height; the elapsed seconds are those of the state after it
abbrev pub told_of : Result Range Refusal → State → Told
told_of (Ok height) st = accepted st.elapsed height.low height.high
told_of (Err refusal) st = refused (number_of refusal.kind) refusal.place

-- a traverse
pub data ToldOpen : Type 0 where
  opened : ToldOpen
  not_opened : ℕ → ℕ → ToldOpen

abbrev pub told_open : Check → ToldOpen
told_open (Ok _) = opened
told_open (Err refusal) = not_opened (number_of refusal.kind) refusal.place
