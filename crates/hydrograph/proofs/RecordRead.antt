-- A record that was read into lent numbers: it has its place there, and the numbers are those that the text alone gives. Assumes nothing.
use mathlib.Core.Path.{◌≡◌, refl, sym, ap, ◌∙◌}
use mathlib.Core.Bool.{Bool, true, false, cond, ◌&&◌}
use mathlib.Core.List.{List}
use native.Mathlib.Omega.{arith}
use Prim.Native.Nat.{ℕ, ◌≤◌}
use lib.Dec.{ltb, eqb}
use lib.ListN.{length}
use lib.IntN.{ℤ}
use borrow.Author.Tests.{le-ltb}
use Rattle.records.specs.Limits.{count_ok}
use Rattle.records.specs.Shapes.{Traverse, Record, count}
use Rattle.reader.specs.declared.Cursor.{Cursor}
use Rattle.std.specs.Prelude.{Option, Some, Result, Ok}
use Rattle.reader.specs.declared.storm.Halt.{Halt}
use Rattle.reader.specs.Lines.{read, refused, Leaves, leaves}
use Rattle.reader.specs.Storm.{Seen, record_size, record_in, one, none, next_of, too_few, needs-more, seen, record_step, record_step_left}
use Rattle.march.specs.declared.State.{State}
use Rattle.hydrograph.specs.Turns.{taken_said, said_seen, start_turn, record_turn, turn_of, said_step, Heard, record_heard, turn_heard}
use Rattle.reader.specs.Lent.{seen_answer}
use Rattle.reader.proofs.LentLaws.{step-has-record, step-spares, step-answers}

-- a record was read into numbers that have room for it
pub step_room : (w : List ℕ) (last : Bool) (n at line : ℕ) (lent out : List ℤ) (p : Result (Option Cursor) Halt) (c : Cursor) → leaves p out ≡ record_step_left w last n at line lent →
    p ≡ Ok (Some c) → record_size n ≤ length lent
step_room w last n at line lent out p c e f =
    let h = step-has-record w last n at line lent c (sym (ap (λ (x : Leaves (Result (Option Cursor) Halt)). x.answer) e) ∙ f) in
    omega (arith, h.0.room, (step-spares w last n at line lent).size)

-- lent numbers with room for a record are not too few
room-enough : (n size : ℕ) → record_size n ≤ size → too_few n size ≡ false
unfolding too_few
room-enough n size h = go (count_ok n)
  where
    go : (b : Bool) → (b && ltb size (record_size n)) ≡ false
    go true = le-ltb size (record_size n) h
    go false = refl

module _ (t : Traverse) (w : List ℕ) (last : Bool) (at line : ℕ) (st : State) (rows lent : List ℤ) (room : record_size (count t) ≤ length lent) where
  -- where there is room for a record, the lent numbers say what the text alone says
  pub step-seen : (record_heard t w last at line st rows lent).said ≡ record_turn t w last at line st rows
  unfolding next_of
  step-seen = by (record_step w last (count t) at line) refl (step-answers w last (count t) at line lent (room-enough (count t) (length lent) room))
    where
      x : Leaves (Result (Option Cursor) Halt)
      x = record_step_left w last (count t) at line lent

      by : (s : Seen) → record_step w last (count t) at line ≡ s → x.answer ≡ seen_answer s → said_step x.answer x.numbers t st rows ≡ said_seen s t st rows
      by needs-more e a = rw a
      by (seen (read (one r) end lines)) e a =
          let h = sym e ∙ (step-has-record w last (count t) at line lent (record { at = end; line = lines }) a).1 in
          let q : r ≡ record_in (count t) x.numbers = cc in
          rw a (ap (λ (z : Record). taken_said t z end lines st rows) (sym q))
      by (seen (read none end lines)) e a = rw a
      by (seen (refused r)) e a = rw a

  pub turn-seen : (turn_heard t w last at line st rows lent).said ≡ turn_of t w last at line st rows
  unfolding turn_heard turn_of
  turn-seen = go (eqb line 0)
    where
      go : (b : Bool) → (cond {A = Heard} b (record { said = start_turn w last; numbers = lent }) (record_heard t w last at line st rows lent)).said ≡ cond b (start_turn w last) (record_turn t w last at line st rows)
      go true = refl
      go false = step-seen
