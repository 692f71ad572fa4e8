-- `spacing_ok` meets its contract: distances that passed check 6 are small. Assumes nothing.
use borrow.Author.Tests.{eq-eqb, ne_eqb}
use Rattle.std.proofs.Common.{rules, arith, ◌≡◌, sym, ◌∙◌, true, ◌||◌, ℕ, ◌-◌, ◌<◌, eqb, w64, ◌-ℤ◌, FitsSigned}
use Rattle.std.proofs.lemmas.Int.{to_z-of_z}
use Rattle.std.specs.Prelude.{List, ℤ, pos}
use Rattle.ranges.specs.Bounds.{Sized}
use Rattle.records.specs.declared.Station.{Station}
use Rattle.records.specs.Groups.{station_at}
use Rattle.records.specs.Limits.{length_ok}
use Rattle.records.proofs.LimitLaws.{nn-sized}
use Rattle.march.specs.Checks.{stations_ok, spacing_ok}
use Rattle.march.proofs.ChecksPassed.{station-in}
use Rattle.march.proofs.checks.spacing_ok.Goals as goal
use Rattle.march.proofs.checks.spacing_ok.Goals.{After-length_ok}

-- a distance that was read
small : (l : List ℤ) (n i : ℕ) (s : Station) → ((j : ℕ) → j < n → stations_ok l j ≡ true) → i < n → s ≡ station_at l i → Sized (pos 6400) s.distance
small l n i s e h q = rw q (nn-sized (station-in (station_at l i) (e i h)).distance)

pub length_ok-requires : goal.length_ok-requires
length_ok-requires c =
    let a = small c.args.points.now c.args.n c.saturating_sub.result c.group_at-before.result c.requires.1.1 (omega (arith, c.requires.1.0)) c.group_at-before.ensures in
    let b = small c.args.points.now c.args.n c.args.i c.group_at-here.result c.requires.1.1 c.requires.1.0 c.group_at-here.ensures in
    let x : FitsSigned w64 c.group_at-before.result.distance = search rules in
    let y : FitsSigned w64 c.group_at-here.result.distance = search rules in
    simp (to_z-of_z, x, y) (a, b)

length : (c : After-length_ok) →
    c.length_ok.result ≡ (eqb c.args.i 0 || length_ok ((station_at c.args.points.now (c.args.i - 1)).distance -ℤ (station_at c.args.points.now c.args.i).distance))
length c =
    let x : FitsSigned w64 c.group_at-before.result.distance = search rules in
    let y : FitsSigned w64 c.group_at-here.result.distance = search rules in
    rw (c.group_at-before.ensures, c.group_at-here.ensures, c.saturating_sub.ensures) at (simp (to_z-of_z, x, y) at c.length_ok.ensures)

pub returns-then-i-n : goal.returns-then-i-n
unfolding spacing_ok
returns-then-i-n c =
    rw (ne_eqb _ _ c.if-i-n.true, sym (length (goal.at.returns-then-i-n c).After-length_ok) ∙ c.if-length_ok.true)

pub returns-else-i-n : goal.returns-else-i-n
unfolding spacing_ok
returns-else-i-n c =
    let y : FitsSigned w64 c.group_at-here.result.distance = search rules in
    rw (eq-eqb _ _ c.if-i-n.false, sym (length (goal.at.returns-else-i-n c).After-length_ok) ∙ c.if-length_ok.true, ← c.group_at-here.ensures)
    (simp (to_z-of_z, y) at c.inside.ensures)

pub returns-else-length_ok : goal.returns-else-length_ok
unfolding spacing_ok
returns-else-length_ok c = rw (sym (length (goal.at.returns-else-length_ok c).After-length_ok) ∙ c.if-length_ok.false) c.if-length_ok.false
