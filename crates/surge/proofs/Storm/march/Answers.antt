-- `Storm::march` meets its contract. Assumes nothing.
use Rattle.std.proofs.Common.{◌≡◌, ◌+◌, ◌-◌, Bool, true, false, not, refl, sym, arith, rules, List, length, ℕ, ℤ}
use Rattle.records.specs.Shapes.{Traverse}
use Rattle.hydrograph.specs.declared.Run.{Run}
use Rattle.surge.specs.Standing.{memory}
use Rattle.surge.specs.Printed.{TurnMade, begun_at}
use Rattle.files.specs.Chain.{most_turns}
use Rattle.files.specs.declared.Held.{Held}
use Rattle.files.proofs.Walked.{Walked, never, walked_none, walked_more}
use Rattle.surge.proofs.Storm.march.Goals as goal

-- no byte was read, and a file that is not there has ended
begins : {t : Traverse} {run : Run} {used : ℕ} {held : Held} {window : List ℕ} {numbers rows : List ℤ} {out : List ℕ} (opened : Bool) → held ≡ record { have = 0; last = not opened }
    → Walked (TurnMade t) (memory (begun_at opened run used) true window numbers rows out) (memory (record { run = run; window = held; used = used }) true window numbers rows out) most_turns
begins opened e = rw e (walked_none _)

pub loop-init : goal.loop-init
loop-init c =
    record {
      keeps = search rules;
      stands = record { place = rw c.before-window.ensures c.requires.place; held = rw c.before-window.ensures (omega arith); waits = c.requires.waits };
      walked = begins _ c.before-window.ensures;
    }

pub returns-in-Break-clause-marched : goal.returns-in-Break-clause-marched
returns-in-Break-clause-marched c =
    let i = c.loop.invariant in
    let w = walked_more _ _ _ (most_turns - (c.loop.counter + 1)) i.walked (refl, rw i.keeps.traverse_same at c.in-Break.ensures.turned.moved) (omega (arith, c.loop-test.true)) in
    record { earlier = w.earlier; standing = _; on = false; reached = w.reached; ended = λ e. absurd {A = length w.earlier ≡ most_turns} (never (sym e)); waits-are = refl }

pub loop-preserved : goal.loop-preserved
loop-preserved c =
    let i = c.loop.invariant in
    let k = c.in-Continue.ensures.turned in
    record { keeps = search rules; stands = k.stands; walked = walked_more _ _ _ _ i.walked (refl, rw i.keeps.traverse_same at k.moved) (omega (arith, c.loop-test.true)) }
