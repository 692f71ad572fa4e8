-- `count` meets its contract. Assumes nothing.
use Rattle.std.proofs.Common.{refl}
use borrow.Author.Tests.{eq-eqb, ne_eqb}
use Rattle.records.specs.Groups.{wholes}
use Rattle.records.proofs.groups.count.Goals as goal

pub returns-then-len-NUMBERS-ne0 : goal.returns-then-len-NUMBERS-ne0
unfolding wholes
returns-then-len-NUMBERS-ne0 g c = let e = c.NUMBERS.ensures in let h = c.if-len-NUMBERS-ne0.true in rw (ne_eqb _ 0 (rw e at h)) refl

pub returns : goal.returns
unfolding wholes
returns g c = let e = c.NUMBERS.ensures in let h = c.if-len-NUMBERS-ne0.false in rw (eq-eqb _ 0 (rw e at h), c.NUMBERS-2.ensures) refl
