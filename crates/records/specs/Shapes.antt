-- A traverse and a storm record: a small struct, and the numbers of the points.
use Rattle.std.specs.Prelude.{List, ℕ, ℤ}
use Rattle.records.specs.declared.Head.{Head}
use Rattle.records.specs.declared.Closing.{Closing}
use Rattle.records.specs.declared.Traverse as OfTraverse
use Rattle.records.specs.declared.StormRecord as OfStorm
use Rattle.records.specs.Groups.{station_count}

-- two numbers a point, sea to shore
pub record Traverse : Type 0 where
  pub head : Head
  pub points : List ℤ

abbrev pub traverse : Head → List ℤ → Traverse
traverse head points = record { head = head; points = points }

-- one as it is lent
abbrev pub traverse_of : OfTraverse.Traverse → Traverse
traverse_of t = traverse t.head t.points.now

-- how many points it has
abbrev pub count : Traverse → ℕ
count t = station_count t.points

-- three numbers a point, in the order of the traverse
pub record Record : Type 0 where
  pub closing : Closing
  pub points : List ℤ

abbrev pub storm : Closing → List ℤ → Record
storm closing points = record { closing = closing; points = points }

-- one as it is lent
abbrev pub storm_of : OfStorm.StormRecord → Record
storm_of r = storm r.closing r.points.now
