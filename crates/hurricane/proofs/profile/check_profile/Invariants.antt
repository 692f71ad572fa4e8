-- Judging the entries from here on is judging them from the first on.
use Rattle.std.proofs.Common.{◌≡◌, drop}
use Rattle.hurricane.specs.Profile.{none_judged}
use Rattle.hurricane.proofs.ProfileLaws.{judged_from}
use Rattle.hurricane.proofs.profile.check_profile.Given as goal

abbrev pub invariant-loop-factor : goal.invariant-loop-factor
invariant-loop-factor l = judged_from l.judged (drop l.factor-index l.table) ≡ judged_from none_judged l.table
