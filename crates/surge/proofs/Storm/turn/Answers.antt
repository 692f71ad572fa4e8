-- `Storm::turn` meets its contract. Assumes nothing.
use Rattle.std.proofs.Common.{◌≡◌, ℕ, ◌≤◌, List, length, true, refl, subst, arith, rules, ControlFlow}
use Rattle.std.proofs.lemmas.List.{take-append-drop}
use Rattle.records.specs.Shapes.{traverse_of}
use Rattle.hydrograph.specs.declared.Turn.{Turn}
use Rattle.hydrograph.specs.Turns.{LeftTurn, left_turn}
use Rattle.surge.specs.declared.Standing.{Standing}
use Rattle.surge.specs.Standing.{memory, Memory, Stands, standing_with, left_by, goes_on, Waits, Moves, AfterTurn}
use Rattle.surge.specs.Storm.{memory_of}
use Rattle.surge.proofs.TurnEnds.{Placed, Told, turn-stays, after, stands-with, stands_read}
use Rattle.surge.proofs.Storm.turn.Goals as goal
use Rattle.surge.proofs.Storm.turn.Goals.{After-storm_turn}

-- of the turn that `hydrograph` made
module _ (c : After-storm_turn) (k : Turn) (e : c.storm_turn.result ≡ k) where
  abbrev before : Memory
  before = memory_of c.args.x true c.args.self.now

  abbrev made : LeftTurn
  made = let s = c.storm_turn.new in left_turn k s.run s.numbers s.rows s.out

  told : Told (traverse_of c.args.self.now.traverse) before k made.run made.numbers made.rows made.out
  told = subst (λ (z : Turn). Told (traverse_of c.args.self.now.traverse) before z made.run made.numbers made.rows made.out) e c.storm_turn.ensures

  -- the cursor and the place of the turn, which are in the window and in the buffer
  placed : (made.run.cursor.at ≤ c.args.x.window.have) × Placed c.args.x.window.have (length c.args.self.now.out.now) made.run.cursor.at c.args.x.used k
  placed =
      let p = c.requires in
      let r = c.args.self.now.room in
      turn-stays (traverse_of c.args.self.now.traverse) before k made.run made.numbers made.rows made.out p.held p.place p.waits r.out-holds r.record-holds c.storm_turn.auto.out told

  -- what was done with its answer, from the answer's case
  done : (flow : ControlFlow ℕ Standing) (window out : List ℕ) → Stands (left_by flow c.args.x made.run) (length window) (length out)
      → Moves k made before (memory (left_by flow c.args.x made.run) (goes_on flow) window made.numbers made.rows out) → AfterTurn (traverse_of c.args.self.now.traverse) before flow window made.numbers made.rows out
  done = after (traverse_of c.args.self.now.traverse) before k made.run made.numbers made.rows made.out told

  -- where no more is read, n bytes wait then
  waits : (flow : ControlFlow ℕ Standing) (n : ℕ) (window out : List ℕ) → window ≡ c.args.self.now.buf.now → out ≡ made.out → left_by flow c.args.x made.run ≡ standing_with c.args.x made.run n → n ≤ length c.args.self.now.out.now
      → (Waits n (goes_on flow) made before (memory (left_by flow c.args.x made.run) (goes_on flow) window made.numbers made.rows out)
      → Moves k made before (memory (left_by flow c.args.x made.run) (goes_on flow) window made.numbers made.rows out))
      → AfterTurn (traverse_of c.args.self.now.traverse) before flow window made.numbers made.rows out
  waits flow n window out w o f h m =
      done flow window out (stands-with c.args.x made.run n _ _ _ f placed.0 (rw w c.requires.held) (rw o (omega (arith, h, c.storm_turn.auto.out))))
      (m (record { same = f; goes = refl; window = w; out = o }))

pub refilled-requires : goal.refilled-requires
refilled-requires c =
    let q = placed (goal.at.refilled-requires c).After-storm_turn _ c.in-More.is in
    (record { place = q.0; held = simp take-append-drop c.requires.held; room = simp take-append-drop (omega (arith, q, c.args.self.now.room.window-holds)) }, omega (arith, q, c.storm_turn.auto.out))

pub returns-in-More-clause-turned : goal.returns-in-More-clause-turned
returns-in-More-clause-turned c =
    let here = (goal.at.returns-in-More-clause-turned c).After-storm_turn in
    let q = placed here _ c.in-More.is in
    let f = c.refilled in
    let r = simp take-append-drop at f.ensures.read in
    let s = stands_read (goes_on f.result) _ c.args.x _ _ _ _ _ r q.0 (omega (arith, c.requires.held, f.ensures.keeps.window.long)) (omega (arith, q, c.storm_turn.auto.out, f.ensures.keeps.out.long)) in
    rw f.ensures.record_same (rw f.ensures.rows_same (done here _ c.in-More.is f.result f.new.self.buf.now f.new.self.out.now s r))

pub returns-in-Line-clause-turned : goal.returns-in-Line-clause-turned
returns-in-Line-clause-turned c =
    let here = (goal.at.returns-in-Line-clause-turned c).After-storm_turn in
    waits here _ c.in-Line.is _ _ _ _ (take-append-drop _ _) refl refl (placed here _ c.in-Line.is).1 (λ w. w)

pub returns-in-End-clause-turned : goal.returns-in-End-clause-turned
returns-in-End-clause-turned c =
    let here = (goal.at.returns-in-End-clause-turned c).After-storm_turn in
    waits here _ c.in-End.is _ _ _ _ (take-append-drop _ _) refl refl (placed here _ c.in-End.is).1 (λ w. w)

pub returns-in-Full-clause-turned : goal.returns-in-Full-clause-turned
returns-in-Full-clause-turned c =
    let here = (goal.at.returns-in-Full-clause-turned c).After-storm_turn in
    waits here _ c.in-Full.is _ 0 _ _ (take-append-drop _ _) (search (rules, take-append-drop)) c.after_write.ensures.leaves (omega arith) (λ w. ((placed here _ c.in-Full.is).1, w))
