-- Each kind of group keeps the laws of `Groups`. Assumes nothing.
use Rattle.std.specs.Prelude.{◌≡◌, refl, List, length, ℤ}
use Rattle.std.proofs.Common.{rules}
use Rattle.ranges.specs.declared.Range.{Range}
use Rattle.records.specs.declared.Head.{Head}
use Rattle.records.specs.declared.Closing.{Closing}
use Rattle.records.specs.declared.Station.{Station}
use Rattle.records.specs.declared.Point.{Point}
use Rattle.records.specs.declared.Row.{Row}
use Rattle.records.specs.Groups.{GroupLaws, at, head_of, of_head, closing_of, of_closing, station_of, of_station, point_of, of_point, row_of, of_row, range_of, of_range}

-- one that is made of its two numbers, or of its three
module _ {A : Type 0} (numbers : A → List ℤ) where
  pub laws-of-two : (make : ℤ → ℤ → A) → ((x : A) → make (at (numbers x) 0) (at (numbers x) 1) ≡ x) → ((x : A) → length (numbers x) ≡ 2)
      → GroupLaws A 2 (λ f. make (f 0) (f 1)) numbers
  laws-of-two make back long = record { some = search rules; near = λ f g h. rw (h 0 (search rules), h 1 (search rules)) refl; back = back; long = long }

  pub laws-of-three : (make : ℤ → ℤ → ℤ → A) → ((x : A) → make (at (numbers x) 0) (at (numbers x) 1) (at (numbers x) 2) ≡ x)
      → ((x : A) → length (numbers x) ≡ 3) → GroupLaws A 3 (λ f. make (f 0) (f 1) (f 2)) numbers
  laws-of-three make back long = record { some = search rules; near = λ f g h. rw (h 0 (search rules), h 1 (search rules), h 2 (search rules)) refl; back = back; long = long }

pub head-laws : GroupLaws Head 3 head_of of_head
head-laws = laws-of-three of_head (λ a b c. record { latitude = a; friction = b; initial = c }) (λ x. refl) (λ x. refl)

pub closing-laws : GroupLaws Closing 2 closing_of of_closing
closing-laws = laws-of-two of_closing (λ a b. record { seconds = a; tide = b }) (λ x. refl) (λ x. refl)

pub station-laws : GroupLaws Station 2 station_of of_station
station-laws = laws-of-two of_station (λ a b. record { distance = a; depth = b }) (λ x. refl) (λ x. refl)

pub point-laws : GroupLaws Point 3 point_of of_point
point-laws = laws-of-three of_point (λ a b c. record { wind = a; angle = b; deficit = c }) (λ x. refl) (λ x. refl)

pub row-laws : GroupLaws Row 3 row_of of_row
row-laws = laws-of-three of_row (λ a b c. record { low = a; high = b; cross = c }) (λ x. refl) (λ x. refl)

pub range-laws : GroupLaws Range 2 range_of of_range
range-laws = laws-of-two of_range (λ a b. record { low = a; high = b }) (λ x. refl) (λ x. refl)
