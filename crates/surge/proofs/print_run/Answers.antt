-- `print_run` meets its contract. Assumes nothing.
use Rattle.std.proofs.Common.{◌≡◌, ℕ, ◌≤◌, List, [], length, take, inl, inr, Bool, true, refl, arith, ℤ, rules}
use lib.Seq.{length-take-le}
use Rattle.records.specs.Shapes.{Traverse, traverse_of}
use Rattle.hydrograph.specs.declared.Turn.{Turn}
use Rattle.hydrograph.specs.declared.Turn.TheVariants as turn
use Rattle.hydrograph.specs.Turns.{LeftTurn, left_turn}
use Rattle.surge.specs.Standing.{went_out}
use Rattle.surge.specs.Printed.{begin_on, AfterBegin, Prints}
use Rattle.surge.proofs.Begun.{Begun, begin-begun, prints, begun-told}
use Rattle.surge.proofs.print_run.Goals as goal
use Rattle.surge.proofs.print_run.Goals.{After-begin-turn}

-- of what `begin` answered
module _ (c : After-begin-turn) (k : Turn) (e : c.begin-turn.result.0 ≡ k) where
  abbrev made : LeftTurn
  made = left_turn k c.begin-turn.result.1 [] [] c.begin-turn.new.out

  told : made ≡ begin_on (traverse_of c.args.traverse) c.args.out.now
  told = begun-told _ _ _ _ _ _ c.begin-turn.ensures e

  begun : Begun (traverse_of c.args.traverse) c.args.out.now c.requires.out-holds k made.run
  begun = begin-begun (traverse_of c.args.traverse) c.args.out.now c.requires.out-holds k made.run made.out told c.begin-turn.auto.out

  -- what was done, from the answer's case
  done : (wrote : Bool) (window : List ℕ) (numbers rows : List ℤ) (waits : ℕ) (window' : List ℕ) (numbers' rows' : List ℤ) (out' : List ℕ)
      → AfterBegin (traverse_of c.args.traverse) window numbers rows waits window' numbers' rows' out' k wrote made
      → Prints (traverse_of c.args.traverse) window numbers rows c.args.out.now waits window' numbers' rows' out'
  done = prints (traverse_of c.args.traverse) c.args.out.now c.requires.out-holds k made.run made.out told

-- the names line, where that was put: its bytes are in the output
module _ (c : After-begin-turn) (k : ℕ) (e : c.begin-turn.result.0 ≡ turn.Line k) where
  within : k ≤ length c.begin-turn.new.out
  within = let g = begun c (turn.Line k) e in omega (arith, g, c.begin-turn.auto.out)

  names-long : length (take k c.begin-turn.new.out) ≡ k
  names-long = length-take-le k c.begin-turn.new.out within

pub slice_bounds-flush-end : goal.slice_bounds-flush-end
slice_bounds-flush-end c = omega (arith, within (goal.at.slice_bounds-flush-end c).After-begin-turn _ c.in-Line.is)

pub slice_bounds-flush-end-in-Line : goal.slice_bounds-flush-end-in-Line
slice_bounds-flush-end-in-Line c = omega (arith, names-long (goal.at.slice_bounds-flush-end-in-Line c).After-begin-turn _ c.in-Line.is)

pub print-requires : goal.print-requires
print-requires c =
    let here = (goal.at.print-requires c).After-begin-turn in
    record {
      written = rw (names-long here _ c.in-Line.is) at c.flush-named.ensures;
      place = (begun here _ c.in-Line.is).1;
      waits = omega (arith, within here _ c.in-Line.is);
    }

pub unreachable-requires : goal.unreachable-requires
unreachable-requires c =
    let here = (goal.at.unreachable-requires c).After-begin-turn in
    elim c.in-More.is [ inl e ↦ begun here turn.More e | inr e ↦ begun here turn.Full e ]

-- what lies in the lent slices once the storm is done with is what it left there
left : {t : Traverse} {window : List ℕ} {numbers rows : List ℤ} {out : List ℕ} {waits : ℕ} {window' window₁ : List ℕ} {numbers' rows' numbers₁ rows₁ : List ℤ} {out' out₁ : List ℕ}
    → window' ≡ window₁ → numbers' ≡ numbers₁ → rows' ≡ rows₁ → out' ≡ out₁
    → (waits ≤ length out₁) × Prints t window numbers rows out waits window₁ numbers₁ rows₁ out₁ → (waits ≤ length out') × Prints t window numbers rows out waits window' numbers' rows' out'
left a b c d p = rw a (rw b (rw c (rw d p)))

pub returns-in-Line : goal.returns-in-Line
returns-in-Line c =
    let p = c.print.ensures in
    left (search rules) (search rules) (search rules) (search rules)
    (p.within, done (goal.at.returns-in-Line c).After-begin-turn _ c.in-Line.is (went_out c.flush-named.result) _ _ _ _ _ _ _ _ p.printed)

pub returns-in-End : goal.returns-in-End
returns-in-End c =
    let here = (goal.at.returns-in-End c).After-begin-turn in
    let g = begun here _ c.in-End.is in (
      omega (arith, g, c.begin-turn.auto.out),
      done here _ c.in-End.is true _ _ _ _ _ _ _ _ (refl, refl, record { window_same = refl; numbers-same = refl; rows_same = refl }),
    )
