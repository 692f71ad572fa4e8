-- Judging the lines from here on is judging all of them.
use Rattle.std.proofs.Common.{length, ◌-◌, ◌≡◌}
use Rattle.profile.specs.Entries.{entries_by}
use Rattle.profile.specs.Load.{entries_check}
use Rattle.profile.proofs.EntryLaws.{rest_at}
use Rattle.profile.proofs.check_entries.Given as goal

abbrev pub invariant-loop-c : goal.invariant-loop-c
invariant-loop-c l = rest_at l.s l.judged l.c.at l.c.line ≡ entries_check (entries_by l.s (length l.s) l.fn.first.at l.fn.first.line)

abbrev pub decreases-loop-c : goal.decreases-loop-c
decreases-loop-c l = length l.s - l.c.at
