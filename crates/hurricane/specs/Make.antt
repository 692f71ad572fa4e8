-- Making a storm record: the answer, and every number of the room, for every input whatever.
use Rattle.std.specs.Prelude.{◌≡◌, List, ◌∷◌, ◌++◌, ℕ, ◌*◌, length, drop, ℤ, Result, Ok, Err}
use Rattle.records.specs.declared.Closing.{Closing}
use Rattle.records.specs.declared.Point.{Point}
use Rattle.records.specs.declared.Refusal.{Refusal}
use Rattle.records.specs.CheckOrder.{Check, Pass, first_of}
use Rattle.records.specs.Groups.{at, of_point, groups, flat}
use Rattle.records.specs.Refusals.{number_of}
use Rattle.hurricane.specs.declared.Hurricane.{Hurricane}
use Rattle.hurricane.specs.Groups.{site_count, plane_point_at}
use Rattle.hurricane.specs.Checks.{make_checks, make_check}
use Rattle.hurricane.specs.Factor.{factor_entry, TableRight}
use Rattle.hurricane.specs.Field.{point_for}
use Rattle.hurricane.specs.Profile.{profile_check}

-- what a call is given. A new argument comes in here
pub record Asked : Type 0 where
  -- e^(-m/100) in ten-thousandths, m from 0 to 1,000
  pub factor : ℕ → ℤ
  pub hurricane : Hurricane
  pub closing : Closing
  pub winds : List ℤ
  pub sites : List ℤ
  pub room : List ℤ

abbrev pub asked : (ℕ → ℤ) → Hurricane → Closing → List ℤ → List ℤ → List ℤ → Asked
asked factor hurricane closing winds sites room = record { factor = factor; hurricane = hurricane; closing = closing; winds = winds; sites = sites; room = room }

abbrev pub check_of : Asked → Check
check_of a = make_check a.hurricane a.winds a.sites (length a.room)

-- ---- the answer and the room

-- "seconds and tide passed on as given"; or the refusal's number and place
pub data ToldMade : Type 0 where
  made : Closing → ToldMade
  not_made : ℕ → ℕ → ToldMade

abbrev pub told_made : Result Closing Refusal → ToldMade
told_made (Ok closing) = made closing
told_made (Err refusal) = not_made (number_of refusal.kind) refusal.place

-- all that a call leaves
pub record LeftMade : Type 0 where
  pub answer : ToldMade
  pub room : List ℤ

-- the points of the record, in the order of the sites
abbrev pub point_made : Asked → ℕ → Point
point_made a i = point_for a.factor a.hurricane a.winds (plane_point_at a.sites i)

abbrev pub made_numbers : Asked → List ℤ
made_numbers a = flat of_point (groups (point_made a) (site_count a.sites))

-- "spare room stays as lent"
abbrev pub after_check : Check → Asked → LeftMade
after_check (Ok u) a = record { answer = made a.closing; room = made_numbers a ++ drop (3 * site_count a.sites) a.room }
after_check (Err refusal) a = record { answer = not_made (number_of refusal.kind) refusal.place; room = a.room }

unfoldable pub make_of : Asked → LeftMade
make_of a = after_check (check_of a) a

-- Q-7, by a table that is lent in place of ours: 20 "before check 13", and "the same rule over the loaded table"
abbrev pub check_by : List ℤ → Asked → Check
check_by table a = first_of (profile_check table ∷ make_checks a.hurricane a.winds a.sites (length a.room))

unfoldable pub make_by : List ℤ → Hurricane → Closing → List ℤ → List ℤ → List ℤ → LeftMade
make_by table h closing winds sites room = after_check (check_by table (asked (at table) h closing winds sites room)) (asked (at table) h closing winds sites room)

-- our own table is such a profile, and by it the call is Q-1's: a statement, proved in proofs/ProfileLaws.antt
pub record OwnProfile (table : List ℤ) : Type 0 where
  pub passes : profile_check table ≡ Pass
  pub same : (h : Hurricane) (closing : Closing) (winds sites room : List ℤ) → make_by table h closing winds sites room ≡ make_of (asked factor_entry h closing winds sites room)

abbrev pub OwnPasses : Type 0
OwnPasses = (table : List ℤ) → TableRight table → OwnProfile table

-- what the code answers and leaves
abbrev pub left_by : Result Closing Refusal → List ℤ → LeftMade
left_by x room = record { answer = told_made x; room = room }
