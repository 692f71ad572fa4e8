-- `places_ok` meets its contract. Assumes nothing.
use borrow.Author.Tests.{eq-eqb, ne_eqb}
use Rattle.records.proofs.GroupLaws.{halves, odd}
use Rattle.march.specs.Checks.{places_ok}
use Rattle.march.proofs.checks.places_ok.Goals as goal

pub returns-then-places-eq0 : goal.returns-then-places-eq0
unfolding places_ok
returns-then-places-eq0 c = simp (eq-eqb _ _ c.if-places-eq0.true)

pub returns-then-places-eq0-2 : goal.returns-then-places-eq0-2
unfolding places_ok
returns-then-places-eq0-2 c = rw (ne_eqb c.args.places 0 c.if-places-eq0.false) (halves _ c.args.n c.if-places-eq0-2.true)

pub returns-else-places-eq0-2 : goal.returns-else-places-eq0-2
unfolding places_ok
returns-else-places-eq0-2 c = rw (ne_eqb _ _ c.if-places-eq0-2.false, ne_eqb c.args.places 0 c.if-places-eq0.false, odd _ c.args.n c.if-places-eq0-2.false)
