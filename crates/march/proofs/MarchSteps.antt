-- A segment of a march, of a traverse and a record: what it leaves where it passes, and that the code's segment between two ends is the
-- definition's. Assumes nothing.
use mathlib.Core.Path.{◌≡◌, refl, subst, sym}
use native.Mathlib.Omega.{arith}
use mathlib.Core.Bool.{Bool}
use mathlib.Core.List.{List}
use Prim.Native.Nat.{ℕ, ◌+◌, ◌-◌, ◌≤◌}
use lib.ListN.{get_or}
use lib.IntN.{ℤ}
use Rattle.std.specs.Prelude.{Result, Ok}
use Rattle.ranges.specs.declared.Range.{Range}
use Rattle.records.specs.declared.Row.{Row}
use Rattle.records.specs.declared.Refusal.{Refusal}
use Rattle.records.specs.Groups.{row_at}
use Rattle.records.specs.Shapes.{Traverse, Record}
use Rattle.segment.specs.declared.Leg.{Leg}
use Rattle.segment.specs.Segment.{SetupIn}
use Rattle.segment.proofs.SegmentLaws.{Passed, segment-on, passed-setup}
use Rattle.march.specs.declared.End.{End}
use Rattle.march.specs.declared.Setting.{Setting}
use Rattle.march.specs.March.{done, march_by, march_of, no_setup, site_at, weather_at, working_row, segment_at, end_at, setting_of, segment_between}
use Rattle.march.specs.Take.{no_leg}
use Rattle.march.proofs.MarchLaws.{march-done, setup_into}

-- segment i between the ends at its two points
abbrev pub between_at : Setting → List ℤ → List ℤ → List ℤ → ℕ → Range → Result Leg Refusal
between_at k points winds rows i s = segment_between (i + 1) k (end_at points winds i) (end_at points winds (i + 1)) (row_at rows i) s

-- an answer at the ends and the row that were read
pub between_is : (k : Setting) (points winds rows : List ℤ) (i : ℕ) (s : Range) (a b : End) (v : Row) (answer : Result Leg Refusal) → answer ≡ segment_between (i + 1) k a b v s →
    a ≡ end_at points winds i → b ≡ end_at points winds (i + 1) → v ≡ row_at rows i → between_at k points winds rows i s ≡ answer
between_is k points winds rows i s a b v answer e f g h = sym (rw (f, g, h) at e)

-- the setup after it is within its limits
pub between-setup : (k : Setting) (points winds rows : List ℤ) (i : ℕ) (s : Range) (leg : Leg) → between_at k points winds rows i s ≡ Ok leg → SetupIn leg.setup
between-setup k points winds rows i s leg e = passed-setup (segment-on (i + 1) k.first _ _ _ s leg e)

-- with what is the same for every segment of t and r, it is the definition's
pub as-segments : (t : Traverse) (r : Record) (first : Bool) (rows : List ℤ) (n : ℕ) (k : Setting) → k ≡ setting_of t.head r.closing first →
    march_by (between_at k t.points r.points rows) n 0 no_setup ≡ march_of t r first rows n
unfolding end_at segment_at
as-segments t r first rows n k e = subst (λ (z : Setting). march_by (between_at z t.points r.points rows) n 0 no_setup ≡ march_of t r first rows n) (sym e) refl

module _ (t : Traverse) (r : Record) (first : Bool) (rows : List ℤ) (i : ℕ) (s : Range) (leg : Leg) (e : segment_at t r first rows i s ≡ Ok leg) where
  pub segment-passed : Passed first (site_at t i) (weather_at t r i) (working_row t first rows i) s leg
  unfolding segment_at
  segment-passed = segment-on (i + 1) first (site_at t i) (weather_at t r i) (working_row t first rows i) s leg e

-- the last setup of a march that is done is within its limits
pub last-setup : (t : Traverse) (r : Record) (first : Bool) (rows : List ℤ) (n : ℕ) (legs : List Leg) → march_of t r first rows n ≡ done legs → 1 ≤ n → SetupIn (get_or legs (n - 1) no_leg).setup
last-setup t r first rows n legs e h =
    let d = march-done (segment_at t r first rows) n 0 no_setup legs e in
    passed-setup (segment-passed t r first rows (0 + (n - 1)) (setup_into no_setup legs (n - 1)) (get_or legs (n - 1) no_leg) (d.each (n - 1) (omega arith)))
