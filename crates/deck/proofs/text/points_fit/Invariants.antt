-- `points_fit`: the lines that are left fit what is spare where all fit the room. Assumes nothing.
use Rattle.std.proofs.Common.{◌≡◌, ◌-◌, length}
use lib.Dec.{leb}
use Rattle.deck.specs.Walk.{lines_from}
use Rattle.deck.proofs.text.points_fit.Given as goal

abbrev pub invariant-loop : goal.invariant-loop
invariant-loop l =
    leb (length (lines_from l.s (l.n - l.counter) l.points.distance.at l.points.depth.at)) l.spare
    ≡ leb (length (lines_from l.s l.n l.fn.first.distance.at l.fn.first.depth.at)) l.room
