-- Groups of numbers in a list: how many there are, what one stands for, and the list with one of them written.
use Rattle.std.specs.Prelude.{◌≡◌, cond, List, [], ◌∷◌, ◌++◌, ℕ, zero, suc, ◌+◌, ◌*◌, ◌%◌, ◌/◌, ◌<◌, eqb, length, get_or, ℤ, pos}
use Rattle.std.proofs.lemmas.List.Edits.{sets}
use Rattle.ranges.specs.declared.Range.{Range}
use Rattle.records.specs.declared.Head.{Head}
use Rattle.records.specs.declared.Closing.{Closing}
use Rattle.records.specs.declared.Station.{Station}
use Rattle.records.specs.declared.Point.{Point}
use Rattle.records.specs.declared.Row.{Row}

-- how many groups of `width` so many numbers are; a length that is no multiple counts as none
unfoldable pub wholes : ℕ → ℕ → ℕ
wholes width len = cond (eqb (len % width) 0) (len / width) 0

-- the number at a place
abbrev pub at : List ℤ → ℕ → ℤ
at l i = get_or l i (pos 0)

-- number k of those from a place on
abbrev pub from : List ℤ → ℕ → ℕ → ℤ
from l place zero = at l place
from l place (suc k) = at l (place + suc k)

-- what a view makes of group i of n numbers
unfoldable pub group_at : {A : Type 0} → ((ℕ → ℤ) → A) → ℕ → List ℤ → ℕ → A
group_at view n l i = view (from l (n * i))

unfoldable pub put_group : {A : Type 0} → (A → List ℤ) → ℕ → List ℤ → ℕ → A → List ℤ
put_group numbers n l i x = sets l (n * i) (numbers x)

-- what is asked of n numbers that stand for one of A: no number past its own is looked at, and what is written reads back
pub record GroupLaws (A : Type 0) (n : ℕ) (view : (ℕ → ℤ) → A) (numbers : A → List ℤ) : Type 0 where
  pub some : 0 < n
  pub near : (f g : ℕ → ℤ) → ((k : ℕ) → k < n → f k ≡ g k) → view f ≡ view g
  pub back : (x : A) → view (at (numbers x)) ≡ x
  pub long : (x : A) → length (numbers x) ≡ n

-- ---- what a traverse has beside its points: latitude, friction, initial level

abbrev pub head_of : (ℕ → ℤ) → Head
head_of f = record { latitude = f 0; friction = f 1; initial = f 2 }

abbrev pub of_head : Head → List ℤ
of_head h = h.latitude ∷ h.friction ∷ h.initial ∷ []

-- ---- what a record has beside its points: seconds, tide

abbrev pub closing_of : (ℕ → ℤ) → Closing
closing_of f = record { seconds = f 0; tide = f 1 }

abbrev pub of_closing : Closing → List ℤ
of_closing c = c.seconds ∷ c.tide ∷ []

-- ---- a point of a traverse: distance, depth

abbrev pub station_count : List ℤ → ℕ
station_count l = wholes 2 (length l)

abbrev pub station_of : (ℕ → ℤ) → Station
station_of f = record { distance = f 0; depth = f 1 }

abbrev pub station_at : List ℤ → ℕ → Station
station_at = group_at station_of 2

abbrev pub of_station : Station → List ℤ
of_station s = s.distance ∷ s.depth ∷ []

abbrev pub put_station : List ℤ → ℕ → Station → List ℤ
put_station = put_group of_station 2

-- ---- a point of a record: wind, angle, deficit

abbrev pub point_count : List ℤ → ℕ
point_count l = wholes 3 (length l)

abbrev pub point_of : (ℕ → ℤ) → Point
point_of f = record { wind = f 0; angle = f 1; deficit = f 2 }

abbrev pub point_at : List ℤ → ℕ → Point
point_at = group_at point_of 3

abbrev pub of_point : Point → List ℤ
of_point p = p.wind ∷ p.angle ∷ p.deficit ∷ []

abbrev pub put_point : List ℤ → ℕ → Point → List ℤ
put_point = put_group of_point 3

-- ---- a row: "flux low, flux high, and the last sum of the two cross stresses"

abbrev pub row_count : List ℤ → ℕ
row_count l = wholes 3 (length l)

abbrev pub row_of : (ℕ → ℤ) → Row
row_of f = record { low = f 0; high = f 1; cross = f 2 }

abbrev pub row_at : List ℤ → ℕ → Row
row_at = group_at row_of 3

abbrev pub of_row : Row → List ℤ
of_row v = v.low ∷ v.high ∷ v.cross ∷ []

abbrev pub put_row : List ℤ → ℕ → Row → List ℤ
put_row = put_group of_row 3

-- ---- a range: low, high

abbrev pub range_of : (ℕ → ℤ) → Range
range_of f = record { low = f 0; high = f 1 }

abbrev pub range_at : List ℤ → ℕ → Range
range_at = group_at range_of 2

abbrev pub of_range : Range → List ℤ
of_range r = r.low ∷ r.high ∷ []

abbrev pub put_range : List ℤ → ℕ → Range → List ℤ
put_range = put_group of_range 2

-- ---- lists of groups

-- the first n by a view
unfoldable pub groups : {A : Type 0} → (ℕ → A) → ℕ → List A
groups view zero = []
groups view (suc n) = groups view n ++ (view n ∷ [])

-- the numbers of groups, one after the other
unfoldable pub flat : {A : Type 0} → (A → List ℤ) → List A → List ℤ
flat numbers [] = []
flat numbers (x ∷ l) = numbers x ++ flat numbers l
