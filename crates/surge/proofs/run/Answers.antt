-- `run` meets its contract. Assumes nothing.
use Rattle.std.proofs.Common.{◌≡◌, ◌*◌, ◌-◌, ◌≤◌, ℕ, List, length, take, sym, ap, arith, ℤ, Ok}
use lib.Seq.{length-take-le}
use Rattle.records.proofs.GroupLaws.{wholes-fit}
use Rattle.reader.specs.declared.traverse.TraverseRead.{TraverseRead}
use Rattle.files.specs.TraverseFile.{HasPoints, LoadsSome}
use Rattle.files.proofs.PointsRead.{loads-has}
use Rattle.surge.specs.Standing.{no_rows}
use Rattle.surge.proofs.run.Goals as goal

-- a traverse that was read has its points in those lent, and rows for each segment
module _ {window : List ℕ} {points : List ℤ} {file : TraverseRead} {window' : List ℕ} {points' : List ℤ} (l : LoadsSome window points (Ok file) window' points') where
  has : HasPoints (Ok file) (length points')
  has = loads-has _ _ _ _ _ _ l.loads

  rows_there : (rows : List ℤ) → rows ≡ no_rows → 3 * (file.count - 1) ≤ length rows
  rows_there rows f = let n : length rows ≡ 192 = ap length f in omega (arith, has)

pub overflow_mul-traverse : goal.overflow_mul-traverse
overflow_mul-traverse c = record { fits = omega (arith, has c.in-Ok.ensures) }

pub slice_bounds-traverse-end : goal.slice_bounds-traverse-end
slice_bounds-traverse-end c = omega (arith, has c.in-Ok.ensures)

pub slice_bounds-traverse-end-in-Ok : goal.slice_bounds-traverse-end-in-Ok
slice_bounds-traverse-end-in-Ok c = sym (length-take-le _ _ (has c.in-Ok.ensures).1)

pub overflow_sub-rows_end : goal.overflow_sub-rows_end
overflow_sub-rows_end c = omega (arith, has c.in-Ok.ensures)

pub overflow_mul-rows_end : goal.overflow_mul-rows_end
overflow_mul-rows_end c = record { fits = omega (arith, has c.in-Ok.ensures) }

pub slice_bounds-print_run-end : goal.slice_bounds-print_run-end
slice_bounds-print_run-end c = rows_there c.in-Ok.ensures _ c.requires.rows-fresh

pub slice_bounds-print_run-end-in-Ok : goal.slice_bounds-print_run-end-in-Ok
slice_bounds-print_run-end-in-Ok c = sym (length-take-le _ _ (rows_there c.in-Ok.ensures _ c.requires.rows-fresh))

pub print_run-waits-requires : goal.print_run-waits-requires
print_run-waits-requires c =
    let k = c.read_traverse in
    let p = c.requires in
    let h = has c.in-Ok.ensures in
    let w = wholes-fit 2 (length (take (2 * c.in-Ok.read.count) k.new.points)) in
    record {
      window-holds = omega (arith, p.window-holds, k.auto.buf);
      record-holds = omega (arith, p.record-holds, w, length-take-le (2 * c.in-Ok.read.count) k.new.points h.1, h.2);
      out-holds = p.out-holds;
    }
