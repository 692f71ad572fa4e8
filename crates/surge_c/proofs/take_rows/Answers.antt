-- `take_rows` meets its contract. Assumes nothing.
use Rattle.std.proofs.Common.{arith, ap, ◌≡◌, ◌∙◌, ◌*◌, length, List, drop, ◌++◌, pos}
use Rattle.std.proofs.lemmas.List.{length-replicate}
use Rattle.records.specs.declared.Row.{Row}
use Rattle.records.specs.Shapes.{traverse_of, storm_of}
use Rattle.surge_c.proofs.RowLaws.{laid-front, backed-front}
use Rattle.surge_c.proofs.NumberLaws.{rows-taken, rows-kept}
use Rattle.surge_c.proofs.take_rows.Given.{Over}
use Rattle.surge_c.proofs.take_rows.Goals as goal
use Rattle.surge_c.proofs.take_rows.Goals.{After-lay_rows}

-- there is room for SEGMENTS rows
size : (c : Over) (g : After-lay_rows c) → length g.lay_rows.new.numbers ≡ 3 * c.row.SEGMENTS
size c g = omega (arith, g.lay_rows.auto.numbers, length-replicate c.row.NUMBERS (pos 0), g.requires.1.1)

pub returns-then-number-eq0 : goal.returns-then-number-eq0
returns-then-number-eq0 c g =
    let a = g.args in
    let m = g.min-m.result in
    rw (ap (λ (l : List Row). l ++ drop m a.rows.now) g.put_back.ensures ∙ backed-front m g.take_numbers-number.new.numbers a.rows.now)
    (rows-taken a.most c.row.SEGMENTS (traverse_of a.traverse) (storm_of a.storm) a.state.now a.rows.now a.setup.now a.answer.now _ g.requires.0 g.requires.1.0 m (omega arith)
    _ (g.lay_rows.ensures ∙ laid-front m a.rows.now _) (size c (goal.at.returns-then-number-eq0 c g).After-lay_rows) _ _ _ _ _ g.take_numbers-number.ensures)

pub returns-else-number-eq0 : goal.returns-else-number-eq0
returns-else-number-eq0 c g =
    let a = g.args in
    let m = g.min-m.result in
    rows-kept a.most c.row.SEGMENTS (traverse_of a.traverse) (storm_of a.storm) a.state.now a.rows.now a.setup.now a.answer.now _ g.requires.0 g.requires.1.0 m (omega arith)
    _ (g.lay_rows.ensures ∙ laid-front m a.rows.now _) (size c (goal.at.returns-else-number-eq0 c g).After-lay_rows) _ _ _ _ _ g.take_numbers-number.ensures g.if-number-eq0.false
