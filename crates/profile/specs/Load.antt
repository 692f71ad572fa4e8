-- Document 02, Q-7: what loading a table answers, and every number of the room that it is lent, for any text and any room.
use Rattle.std.specs.Prelude.{◌≡◌, List, [], ◌∷◌, ℕ, length, leb, take, ℤ, Ok, Err}
use Rattle.records.specs.declared.Kind.TheVariants.{Lent}
use Rattle.records.specs.CheckOrder.{Check, Pass, Fail, need, first_of}
use Rattle.records.specs.Refusals.{refusal}
use Rattle.reader.specs.Lines.{Leaves, leaves, laid}
use Rattle.hurricane.specs.Profile.{entries, profile_check}
use Rattle.profile.specs.Entries.{Entries, entries_of}

-- what is asked of the entries, once every line has one: 20, "first bad, missing or surplus"; and last the room for them, 8 with place 0
abbrev pub load_check : List ℤ → ℕ → Check
load_check l room = first_of (profile_check l ∷ need (leb entries room) (refusal Lent 0) ∷ [])

-- the table goes to the front of the room, and what is behind stays as lent
abbrev pub after_check : Check → List ℤ → List ℤ → Leaves Check
after_check (Ok u) l room = leaves Pass (laid l room)
after_check (Err r) l room = leaves (Fail r) room

abbrev pub after_entries : Entries → List ℤ → Leaves Check
after_entries (Ok l) room = after_check (load_check l (length room)) l room
after_entries (Err r) room = leaves (Fail r) room

unfoldable pub load_of : List ℕ → List ℤ → Leaves Check
load_of s room = after_entries (entries_of s) room

-- ---- what a call that loaded a table leaves: a statement, proved in proofs/LoadLaws.antt

-- the front of the room is the text's entries, and a profile that no call refuses
pub record Loaded (s : List ℕ) (left : List ℤ) : Type 0 where
  pub entries-are : entries_of s ≡ Ok (take 1001 left)
  pub passes : profile_check (take 1001 left) ≡ Pass

abbrev pub LoadedIsProfile : Type 0
LoadedIsProfile = (s : List ℕ) (room : List ℤ) → (load_of s room).answer ≡ Pass → Loaded s (load_of s room).numbers

-- ---- in the code's terms, which judges the entries as the lines are read: 2 of any line before 20 of any entry
abbrev pub entries_check : Entries → Check
entries_check (Ok l) = profile_check l
entries_check (Err r) = Fail r
