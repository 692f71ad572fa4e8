-- What the inner functions of taking a record are given.
use Rattle.std.specs.Prelude.{◌≡◌, ℕ, ◌+◌, ◌*◌, ◌-◌, ◌≤◌, List, length, ℤ, pos, ◌+ℤ◌}
use Rattle.std.specs.Int.{w64}
use Rattle.std.proofs.Common.{SFits}
use Rattle.ranges.specs.declared.Range.{Range}
use Rattle.ranges.specs.Bounds.{Sized}
use Rattle.records.specs.Groups.{row_count, point_at}
use Rattle.records.specs.Limits.{most_points}
use Rattle.records.specs.Shapes.{Traverse, Record}
use Rattle.segment.specs.Segment.{SetupIn}
use Rattle.march.specs.declared.State.{State}
use Rattle.march.specs.Given.{segments}
use Rattle.march.specs.MarchBounds.{SettingIn}

abbrev pub lesser : ℕ → ℕ → ℕ
lesser a b = a - (a - b)

-- how many segments there can be: as many as the rows, but no more than a traverse may have, in this build and at all
abbrev pub most_segments : ℕ → List ℤ → ℕ
most_segments most rows = lesser (most_points - 1) (lesser (most - 1) (row_count rows))

-- n is the place of the shore point
pub record ShoreAt (t : Traverse) (r : Record) (n : ℕ) : Type 0 where
  pub is : n ≡ segments t
  pub long : 3 * (n + 1) ≤ length r.points
  pub setting : SettingIn t.head r.closing
  pub deficit : Sized (pos 300) (point_at r.points n).deficit

pub record AcceptIn (seconds base : ℤ) (st : State) (s : Range) : Type 0 where
  pub fits : SFits w64 (st.elapsed +ℤ seconds)
  pub base-in : Sized (pos 1000000) base
  pub last-in : SetupIn s
