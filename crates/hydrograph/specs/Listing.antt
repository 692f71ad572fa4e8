-- The listing that the program prints, as a function of the bytes of `traverse.txt` and `storm.txt`. Document 01: "The names line is printed once
-- `traverse.txt` is accepted. A refusal prints one last line." "`traverse.txt` is checked entirely before `storm.txt` is read; storm text is
-- checked record by record."
use Rattle.std.specs.Prelude.{List, [], ◌∷◌, ◌++◌, ℕ, ℤ}
use Rattle.records.specs.declared.Refusal.{Refusal}
use Rattle.records.specs.Refusals.{number_of}
use Rattle.records.specs.Limits.{most_points}
use Rattle.records.specs.Shapes.{Traverse, Record, count}
use Rattle.listing.specs.Lines.{names_line, record_line, refused_line}
use Rattle.reader.specs.Lines.{Outcome, read, refused}
use Rattle.reader.specs.Storm.{Stop, ended, stopped, paused, unread, Storm, storm_of}
use Rattle.reader.specs.Traverse.{traverse_of}
use Rattle.march.specs.declared.State.{State}
use Rattle.march.specs.Answers.{Told, ToldOpen, opened, not_opened}
use Rattle.march.specs.Answers as answers
use Rattle.march.specs.Checks.{open_of}
use Rattle.march.specs.Take.{Left, take_of}
use Rattle.march.specs.Demand3.{fresh_rows}

-- the last line of a run that is refused
abbrev pub refusal_line : Refusal → List ℕ
refusal_line r = refused_line (number_of r.kind) r.place

-- a record that was taken, with Level B's setup buffer of length 0: its line and what follows, or the refusal
abbrev pub after_taken : Told → State → List ℤ → (State → List ℤ → List ℕ) → List ℕ
after_taken (answers.accepted elapsed low high) st rows next = record_line elapsed low high ++ next st rows
after_taken (answers.refused number place) st rows next = refused_line number place

abbrev pub taken_by : Traverse → Record → State → List ℤ → Left
taken_by t r st rows = take_of (record { most = most_points; traverse = t; storm = r; state = st; rows = rows; setup = [] })

-- how reading the storm ended: with the text, or with a refusal
abbrev pub stop_line : Stop → List ℕ
stop_line ended = []
stop_line (stopped refusal) = refusal_line refusal
stop_line (paused at line) = []
stop_line unread = []

-- a line for each accepted record, in order, until one is refused or reading ends
unfoldable pub hydrograph_lines : Traverse → State → List ℤ → List Record → Stop → List ℕ
hydrograph_lines t st rows [] stop = stop_line stop
hydrograph_lines t st rows (r ∷ records) stop =
    after_taken (taken_by t r st rows).answer (taken_by t r st rows).state (taken_by t r st rows).rows (λ st' rows'. hydrograph_lines t st' rows' records stop)

-- the records that reading gives, marched from a state and rows on
abbrev pub storm_lines : Traverse → State → List ℤ → Storm → List ℕ
storm_lines t st rows storm = hydrograph_lines t st rows storm.records storm.stop

-- a traverse that was opened: the names line, and the storm from fresh rows on
abbrev pub after_opening : ToldOpen → State → Traverse → Storm → List ℕ
after_opening opened st t storm = names_line ++ storm_lines t st (fresh_rows t) storm
after_opening (not_opened number place) st t storm = refused_line number place

abbrev pub after_traverse : Outcome Traverse → List ℕ → List ℕ
after_traverse (read t at line) storm = after_opening (open_of most_points t).answer (open_of most_points t).state t (storm_of storm (count t))
after_traverse (refused refusal) storm = refusal_line refusal

-- the whole listing
unfoldable pub listing_of : List ℕ → List ℕ → List ℕ
listing_of traverse storm = after_traverse (traverse_of traverse) storm
