-- Loading a table: what the call leaves, from what the lines and the entries on them were, and that what it loaded is a profile: the statement of
-- `specs/Load.antt`. Assumes nothing.
use mathlib.Core.Path.{◌≡◌, refl, sym, ap, ◌∙◌}
use mathlib.Core.List.{List, [], ◌∷◌}
use borrow.Author.Tests.{le-leb, lt-leb}
use Prim.Native.Nat.{ℕ, ◌≤◌, ◌<◌}
use lib.Dec.{leb}
use lib.ListN.{length, take, drop}
use lib.Seq.{take_at}
use lib.IntN.{ℤ}
use Rattle.std.specs.Prelude.{Result, Ok, Err}
use Rattle.records.specs.declared.Kind.TheVariants.{Lent}
use Rattle.records.specs.declared.Refusal.{Refusal}
use Rattle.records.specs.CheckOrder.{Check, Pass, Fail, need, first_of, AllPass}
use Rattle.records.specs.Refusals.{refusal}
use Rattle.records.proofs.CheckOrderLaws.{first-passed}
use Rattle.reader.specs.Lines.{Leaves, leaves, laid, LinesRead, lines_read, lines_at, lines_left, names_at}
use Rattle.reader.specs.declared.Cursor.{Cursor}
use Rattle.hurricane.specs.Profile.{entries, profile_check}
use Rattle.hurricane.proofs.ProfileLaws.{profile-in}
use Rattle.profile.specs.Entries.{factor_name, Entries, entries_by, entries_of}
use Rattle.profile.specs.Load.{load_check, after_check, after_entries, load_of, Loaded, LoadedIsProfile, entries_check}
use Rattle.profile.proofs.EntryLaws.{entries-kept}

module _ (s : List ℕ) (room : List ℤ) where
  pub name-refused : (r : Refusal) → names_at s factor_name 0 0 ≡ Err r → leaves (Fail r) room ≡ load_of s room
  unfolding load_of entries_of
  name-refused r e = rw e

  -- past the names line
  module _ (first : Cursor) (e : names_at s factor_name 0 0 ≡ Ok first) where
    abbrev behind : Entries
    behind = entries_by s (length s) first.at first.line

    load-behind : after_entries behind room ≡ load_of s room
    unfolding load_of entries_of
    load-behind = rw e

    pub entries-refused : (r : Refusal) → entries_check behind ≡ Fail r → leaves (Fail r) room ≡ load_of s room
    unfolding first_of
    entries-refused r f = go behind f ∙ load-behind
      where
        go : (x : Entries) → entries_check x ≡ Fail r → leaves (Fail r) room ≡ after_entries x room
        go (Ok l) f = rw f
        go (Err q) f = let k : q ≡ r = cc in rw k

    -- a table that passes its check
    record Passed : Type 0 where
      table : List ℤ
      is : behind ≡ Ok table
      passes : profile_check table ≡ Pass

    passed : entries_check behind ≡ Pass → Passed
    passed f = go behind refl f
      where
        go : (x : Entries) → behind ≡ x → entries_check x ≡ Pass → Passed
        go (Ok l) q f = record { table = l; is = q; passes = f }
        go (Err r) q f = absurd cc

    -- by whether there is room
    load-passed : (p : Passed) → after_check (need (leb entries (length room)) (refusal Lent 0)) p.table room ≡ load_of s room
    unfolding first_of
    load-passed p = by (need (leb entries (length room)) (refusal Lent 0)) ∙ sym (ap (λ (x : Entries). after_entries x room) p.is ∙ ap (λ (c : Check). after_check (first_of (c ∷ need (leb entries (length room)) (refusal Lent 0) ∷ [])) p.table room) p.passes) ∙ load-behind
      where
        by : (c : Check) → after_check c p.table room ≡ after_check (first_of (Pass ∷ c ∷ [])) p.table room
        by (Ok u) = refl
        by (Err r) = refl

    pub room-refused : entries_check behind ≡ Pass → length room < 1001 → leaves (Fail (refusal Lent 0)) room ≡ load_of s room
    room-refused f h = rw (lt-leb 1001 (length room) h) at (load-passed (passed f))

    -- all lines are read at once, and their entries are the table
    module _ (f : entries_check behind ≡ Pass) (answer : Result Cursor Refusal) (out : List ℤ) (k : leaves answer out ≡ lines_left (lines_at s 1 0 1001 0 first.at first.line []) room) where
      loaded : (past : Cursor) → lines_at s 1 0 1001 0 first.at first.line [] ≡ lines_read (Ok past) (passed f).table → leaves answer out ≡ leaves (Ok past) (laid (passed f).table room)
      loaded past q = k ∙ ap (λ (x : LinesRead). lines_left x room) q

      all-lines : leaves answer out ≡ leaves (Ok (entries-kept s (length s) 0 first.at first.line [] (passed f).table (passed f).is).past) (laid (passed f).table room)
      all-lines =
          let p = passed f in
          let x = entries-kept s (length s) 0 first.at first.line [] p.table p.is in
          let full : length p.table ≡ 1001 = (profile-in p.table p.passes).full in
          loaded x.past (rw full at x.is)

      pub not-refused : (r : Refusal) → answer ≡ Err r → ⊥
      not-refused r q = let z = sym q ∙ ap (λ (x : Leaves (Result Cursor Refusal)). x.answer) all-lines in absurd cc

      pub table-loaded : 1001 ≤ length room → leaves Pass out ≡ load_of s room
      table-loaded h =
          let o : out ≡ laid (passed f).table room = ap (λ (x : Leaves (Result Cursor Refusal)). x.numbers) all-lines in
          ap (leaves Pass) o ∙ (rw (le-leb 1001 (length room) h) at (load-passed (passed f)))

-- ---- what was loaded

pub loaded-is-profile : LoadedIsProfile
unfolding load_of AllPass
loaded-is-profile s room e = go (entries_of s) refl e
  where
    front : (l : List ℤ) → profile_check l ≡ Pass → entries_of s ≡ Ok l → Loaded s (laid l room)
    front l f q =
        let t : take 1001 (laid l room) ≡ l = take_at l (drop (length l) room) 1001 (profile-in l f).full in
        record { entries-are = rw t q; passes = rw t f }

    by : (l : List ℤ) → entries_of s ≡ Ok l → (c : Check) → load_check l (length room) ≡ c → (after_check c l room).answer ≡ Pass → Loaded s (after_check c l room).numbers
    by l q (Ok u) f z = front l (first-passed (profile_check l ∷ need (leb entries (length room)) (refusal Lent 0) ∷ []) f).0 q
    by l q (Err r) f z = absurd cc

    go : (x : Entries) → entries_of s ≡ x → (after_entries x room).answer ≡ Pass → Loaded s (after_entries x room).numbers
    go (Ok l) q z = by l q (load_check l (length room)) refl z
    go (Err r) q z = absurd cc
