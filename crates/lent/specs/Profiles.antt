-- The call that loads the table of a customer's own pressure profile, whatever it is given: what is returned, and everything that was lent. It is
-- `profile`'s own definition (`load_of`). `LoadsProfile` is the promise itself. And the statement that the table that it loaded is the text's, and is made
-- records by.
use Rattle.std.specs.Prelude.{◌≡◌, cond, List, ℕ, eqb, length, take, ℤ, pos, Ok, Err}
use Rattle.records.specs.declared.Closing.{Closing}
use Rattle.records.specs.CheckOrder.{Check}
use Rattle.records.specs.Groups.{at}
use Rattle.records.specs.Refusals.{number_of}
use Rattle.reader.specs.Lines.{Leaves}
use Rattle.hurricane.specs.declared.Hurricane.{Hurricane}
use Rattle.hurricane.specs.Make.{asked, make_of, make_by}
use Rattle.profile.specs.Entries.{entries_of}
use Rattle.profile.specs.Load.{load_of}
use Rattle.lent.specs.Numbers.{answer_numbers, refused_answer, wrong_buffer}

pub record LeftProfile : Type 0 where
  pub number : ℕ
  pub factors : List ℤ
  pub answer : List ℤ

abbrev pub left_profile : ℕ → List ℤ → List ℤ → LeftProfile
left_profile number factors answer = record { number = number; factors = factors; answer = answer }

-- the room is `load_of`'s in either case; the answer has nothing but the place of a refusal
abbrev pub after_loaded : Check → List ℤ → LeftProfile
after_loaded (Ok u) factors = left_profile 0 factors (answer_numbers (pos 0) (pos 0) (pos 0))
after_loaded (Err refusal) factors = left_profile (number_of refusal.kind) factors (refused_answer refusal.place)

abbrev pub profile_with : Leaves Check → List ℤ → List ℤ → LeftProfile
profile_with x factors answer = cond (eqb (length answer) 3) (after_loaded x.answer x.numbers) (left_profile wrong_buffer factors answer)

unfoldable pub load_call : List ℕ → List ℤ → List ℤ → LeftProfile
load_call text factors answer = profile_with (load_of text factors) factors answer

-- the promise of the call, on these and with this left
abbrev pub LoadsProfile : List ℕ → List ℤ → List ℤ → LeftProfile → Type 0
LoadsProfile text factors answer left = left ≡ load_call text factors answer

-- ---- the table that it loaded, lent to a call that makes a record

-- the first numbers of the room
abbrev pub factors_loaded : LeftProfile → List ℤ
factors_loaded x = take 1001 x.factors

-- a call that kept its promise and returned 0
pub record ProfileLoading (text : List ℕ) : Type 0 where
  pub factors : List ℤ
  pub answer : List ℤ
  pub left : LeftProfile
  pub kept : LoadsProfile text factors answer left
  pub accepted : left.number ≡ 0

-- the table is the text's entries, and making a record by it refuses no entry: it makes what the rule makes of them
pub record LoadedTold (text : List ℕ) (table : List ℤ) : Type 0 where
  pub entries-are : entries_of text ≡ Ok table
  pub makes : (h : Hurricane) (closing : Closing) (winds sites room : List ℤ) → make_by table h closing winds sites room ≡ make_of (asked (at table) h closing winds sites room)

abbrev pub LoadThenMake : Type 0
LoadThenMake = (text : List ℕ) (x : ProfileLoading text) → LoadedTold text (factors_loaded x.left)
