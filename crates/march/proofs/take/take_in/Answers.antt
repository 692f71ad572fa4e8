-- `take_in` meets its contract: the checks, the march and the commit in turn. Assumes nothing.
use Rattle.std.proofs.Common.{rules, arith, ◌≡◌, sym, ap, subst, ◌∙◌, true, ℕ, ◌*◌, ◌-◌, ◌≤◌, ◌<◌, length, take, w64, FitsSigned}
use lib.Seq.{length-take-le}
use Rattle.std.proofs.lemmas.Int.{to_z-of_z}
use Rattle.std.proofs.lemmas.Result.{err_from_is_err_and}
use Rattle.records.specs.CheckOrder.{Pass}
use Rattle.records.specs.Shapes.{Traverse, Record, traverse_of, storm_of}
use Rattle.records.proofs.GroupLaws.{wholes-exact}
use Rattle.march.specs.Given.{Given, given, segments}
use Rattle.march.specs.Checks.{places_ok, check_of}
use Rattle.march.specs.MarchBounds.{MarchIn}
use Rattle.march.specs.Take.{take_of}
use Rattle.march.proofs.ChecksPassed.{Passed, passed}
use Rattle.march.proofs.MarchFits.{march-in}
use Rattle.march.proofs.TakeLaws.{shore-at, accept-in, taken-stopped, taken-accepted}
use Rattle.march.proofs.take.take_in.Goals as goal
use Rattle.march.proofs.take.take_in.Goals.{After-count-n}

pub returns-in_err-check_all : goal.returns-in_err-check_all
unfolding take_of
returns-in_err-check_all c = search rules

-- ---- past the checks

module _ (g : After-count-n) where
  abbrev t : Traverse
  t = traverse_of g.args.traverse

  abbrev r : Record
  r = storm_of g.args.storm

  abbrev lent : Given
  lent = given g.args.most t r g.args.state.now g.args.rows.now g.args.setup.now

  abbrev n : ℕ
  n = g.count-n.result

  all : check_of lent ≡ Pass
  all = sym g.in_ok-check_all.ensures

  pass : Passed g.args.most t r g.args.state.now g.args.rows.now (length g.args.setup.now)
  pass = passed _ _ _ _ _ _ all

  many : n ≡ segments t
  many = g.count-n.ensures ∙ pass.lent.rows_are

  some : 1 ≤ n
  some = omega (arith, many, pass.traverse.from)

  few : n ≤ length g.args.legs.now
  few = omega (arith, many, pass.traverse.to, pass.traverse.build, g.count-n.ensures, g.requires)

  whole : length g.args.rows.now ≡ 3 * n
  whole = wholes-exact _ n g.count-n.ensures some

  places : places_ok (length g.args.setup.now) n ≡ true
  places = ap (places_ok (length g.args.setup.now)) many ∙ pass.lent.places-are

  marches : MarchIn t r g.args.rows.now n
  marches = subst (MarchIn t r g.args.rows.now) (sym many) (march-in _ _ _ _ _ _ pass)

  size : length (take n g.args.legs.now) ≡ n
  size = length-take-le _ _ few

pub slice_bounds-legs-end : goal.slice_bounds-legs-end
slice_bounds-legs-end c = few c

pub slice_bounds-legs-end-2 : goal.slice_bounds-legs-end-2
slice_bounds-legs-end-2 c = sym (size (goal.at.slice_bounds-legs-end-2 c).After-count-n)

pub march-requires : goal.march-requires
march-requires c = let g = (goal.at.march-requires c).After-count-n in rw (size g) (marches g)

pub returns-in_err-march : goal.returns-in_err-march
returns-in_err-march c =
    let g = (goal.at.returns-in_err-march c).After-count-n in
    let p = err_from_is_err_and c.from_residual-in_err-march.result c.from_residual-in_err-march.ensures.1 in
    rw (p.1, p.2) (taken-stopped (lent g) c.march.new.legs (n g) _ (all g) (many g) (c.march.auto.legs ∙ size g) (rw (size g) at c.march.ensures) _ c.in_err-march.was)

-- ---- past the march: it left as many legs

pub shore_of-base-requires : goal.shore_of-base-requires
shore_of-base-requires c = let g = (goal.at.shore_of-base-requires c).After-count-n in shore-at _ _ _ _ (marches g) (many g)

pub commit-requires : goal.commit-requires
commit-requires c =
    let g = (goal.at.commit-requires c).After-count-n in
    let l : length c.march.new.legs ≡ n g = c.march.auto.legs ∙ size g in
    record { some = omega (arith, l, some g); room = rw l (whole g); places = rw l (places g) }

pub overflow_sub-n : goal.overflow_sub-n
overflow_sub-n c = some (goal.at.overflow_sub-n c).After-count-n

pub offset_bounds-legs-n : goal.offset_bounds-legs-n
offset_bounds-legs-n c =
    let g = (goal.at.offset_bounds-legs-n c).After-count-n in
    let h : n g - 1 < length c.args.legs.now = omega (arith, some g, few g) in
    search (rules, h)

pub bounds-legs-n : goal.bounds-legs-n
bounds-legs-n c =
    let g = (goal.at.bounds-legs-n c).After-count-n in
    omega (arith, some g, size g, c.march.auto.legs)

pub accepted-requires : goal.accepted-requires
accepted-requires c =
    let g = (goal.at.accepted-requires c).After-count-n in
    let f : FitsSigned w64 c.args.storm.closing.seconds = search rules in
    let b : FitsSigned w64 c.shore_of-base.result = search rules in
    simp (to_z-of_z, f, b)
    (accept-in (lent g) c.march.new.legs (n g) _ (all g) (many g) (c.march.auto.legs ∙ size g) (rw (size g) at c.march.ensures) c.in_ok-march.was _ c.shore_of-base.ensures)

pub returns : goal.returns
returns c =
    let g = (goal.at.returns c).After-count-n in
    let f : FitsSigned w64 c.args.storm.closing.seconds = search rules in
    let b : FitsSigned w64 c.shore_of-base.result = search rules in
    taken-accepted (lent g) c.march.new.legs (n g) _ (all g) (many g) (c.march.auto.legs ∙ size g) (rw (size g) at c.march.ensures) _ _ _ _ _ c.in_ok-march.was c.shore_of-base.ensures
    (simp (to_z-of_z, b) at c.accepted.ensures.height) (simp (to_z-of_z, f) at c.accepted.ensures.later) c.commit.ensures.rows c.commit.ensures.setup
