-- `write_points`: writing the lines that are left makes the whole. Assumes nothing.
use Rattle.std.proofs.Common.{◌≡◌, ◌+◌, ◌-◌, length}
use Rattle.listing.specs.Put.{written}
use Rattle.deck.specs.Walk.{lines_from}
use Rattle.deck.proofs.text.write_points.Given as goal

abbrev pub invariant-loop : goal.invariant-loop
invariant-loop l = record {
  size : length l.out ≡ length l.initial.out;
  ends : l.place + length (lines_from l.s (l.n - l.counter) l.points.distance.at l.points.depth.at)
      ≡ l.at + length (lines_from l.s l.n l.fn.first.distance.at l.fn.first.depth.at);
  whole : written (lines_from l.s (l.n - l.counter) l.points.distance.at l.points.depth.at) l.place l.out
      ≡ written (lines_from l.s l.n l.fn.first.distance.at l.fn.first.depth.at) l.at l.initial.out;
}
