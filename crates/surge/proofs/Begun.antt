-- Opening a traverse that was read puts the names line or the refusal, since there is room for either, and asks for nothing. Assumes nothing.
use mathlib.Core.Path.{◌≡◌, sym, ap, subst, ◌∙◌}
use mathlib.Core.Bool.{Bool}
use mathlib.Core.List.{List, []}
use native.Mathlib.Omega.{arith}
use Prim.Native.Nat.{ℕ, ◌+◌, ◌≤◌}
use lib.ListN.{length}
use lib.IntN.{ℤ}
use borrow.Author.Tests.{le-leb}
use Rattle.records.specs.Limits.{most_points}
use Rattle.records.specs.Shapes.{Traverse}
use Rattle.listing.specs.Lines.{names_line, refused_line}
use Rattle.march.specs.Answers.{ToldOpen, opened, not_opened}
use Rattle.march.specs.Checks.{open_of}
use Rattle.hydrograph.specs.declared.Turn.{Turn}
use Rattle.hydrograph.specs.declared.Turn.TheVariants as turn
use Rattle.hydrograph.specs.declared.Run.{Run}
use Rattle.hydrograph.specs.Turns.{line_room, said_open, begin_of, LeftTurn, left_turn, printed, turn_left, fresh_run}
use Rattle.surge.specs.Printed.{begin_on, AfterBegin, Prints}
use Rattle.surge.proofs.TurnEnds.{written-within}

module _ (t : Traverse) (out : List ℕ) (room : line_room ≤ length out) where
  -- what is put, by what opening answered
  abbrev pub begun_by : ToldOpen → LeftTurn
  begun_by told = printed (said_open told (open_of most_points t).state []) fresh_run [] [] out 0

  pub begin-is : begin_on t out ≡ begun_by (open_of most_points t).answer
  unfolding begin_on turn_left begin_of
  begin-is = rw (le-leb (0 + line_room) (length out) (omega arith))

  -- the cursor stands at the start, and the place is within the buffer
  abbrev pub Begun : Turn → Run → Type 0
  Begun (turn.Line k) run = (k ≤ length out) × (run.cursor.at ≤ 0)
  Begun (turn.End k) run = k ≤ length out
  Begun turn.More run = ⊥
  Begun turn.Full run = ⊥

  pub begin-begun : (k : Turn) (run : Run) (out' : List ℕ) → left_turn k run [] [] out' ≡ begin_on t out → length out' ≡ length out → Begun k run
  begin-begun k run out' e n =
      let g : left_turn k run [] [] out' ≡ begun_by (open_of most_points t).answer = e ∙ begin-is in
      subst (λ (l : LeftTurn). Begun l.turn l.run) (sym g) (by (open_of most_points t).answer (ap (λ (l : LeftTurn). length l.out) (sym g) ∙ n))
    where
      by : (told : ToldOpen) → length (begun_by told).out ≡ length out → Begun (begun_by told).turn (begun_by told).run
      by opened q = (written-within names_line 0 out (omega arith) q, omega arith)
      by (not_opened number place) q = written-within (refused_line number place) 0 out (omega arith) q

  -- what was done, from the case of the answer
  pub prints : (k : Turn) (run : Run) (out₁ : List ℕ) → left_turn k run [] [] out₁ ≡ begin_on t out → (wrote : Bool) (window : List ℕ) (numbers rows : List ℤ) (waits : ℕ) (window' : List ℕ) (numbers' rows' : List ℤ) (out' : List ℕ)
      → AfterBegin t window numbers rows waits window' numbers' rows' out' k wrote (left_turn k run [] [] out₁) → Prints t window numbers rows out waits window' numbers' rows' out'
  prints k run out₁ e wrote window numbers rows waits window' numbers' rows' out' m =
      record { wrote = wrote; after = subst (λ (l : LeftTurn). AfterBegin t window numbers rows waits window' numbers' rows' out' l.turn wrote l) e m }

-- of what `begin` promises, in the case k of its answer
pub begun-told : (t : Traverse) (out out' : List ℕ) (j k : Turn) (run : Run) → left_turn j run [] [] out' ≡ turn_left (record { said = begin_of t []; numbers = [] }) fresh_run [] [] out 0 → j ≡ k
    → left_turn k run [] [] out' ≡ begin_on t out
unfolding begin_on
begun-told t out out' j k run e f = rw f at e
