-- In turn, the lines, the values of a line and the digits of a value. Of the digits: those read so far are the value's first. Of the values: the rest
-- of the line from here is the rest from its start. Of the lines: the rest of them from here is the rest from the cursor. Of both: the numbers
-- before the next place are those that were kept. Assumes nothing.
use Rattle.std.proofs.Common.{◌≡◌, ◌-◌, ◌≤◌, true, [], length, take}
use Rattle.reader.specs.Lines.{values_at, lines_at}
use Rattle.reader.proofs.Digits.{Scan}
use Rattle.reader.proofs.Laws.{Keeping, number_place}
use Rattle.reader.proofs.Cursor.lines.Given as goal

abbrev pub invariant-loop-d : goal.invariant-loop-d
invariant-loop-d l = record {
  scan : Scan 10 l.s l.initial.c.at l.c.at l.count l.value;
  few : l.count ≤ 9;
  line : l.c.line ≡ l.initial.c.line;
}

abbrev pub decreases-loop-d : goal.decreases-loop-d
decreases-loop-d l = length l.s - l.c.at

abbrev pub invariant-loop-k : goal.invariant-loop-k
invariant-loop-k l = record {
  line : l.c.line ≡ l.initial.c.line;
  keeping : Keeping l.initial.out l.initial.kept.next l.out l.kept.next;
  place : l.kept.next ≡ number_place l.width l.shared l.i l.k;
  rest : values_at l.s l.shared l.i (l.width - l.k) l.k l.c.at (take l.kept.next l.out) l.kept.same
      ≡ values_at l.s l.shared l.i l.width 0 l.initial.c.at (take l.initial.kept.next l.initial.out) l.initial.kept.same;
}

abbrev pub invariant-loop-i : goal.invariant-loop-i
invariant-loop-i l = record {
  keeping : Keeping l.fn.out 0 l.out l.kept.next;
  place : l.kept.next ≡ number_place l.width l.shared l.i 0;
  same : l.kept.same ≡ true;
  rest : lines_at l.s l.width l.shared (l.n - l.i) l.i l.c.at l.c.line (take l.kept.next l.out)
      ≡ lines_at l.s l.width l.shared l.n 0 l.fn.self.at l.fn.self.line [];
}
