-- Demand 3 on lent rows is `march`'s, and not proved a second time: by its promise a call leaves what `march`'s list has, since rows and state are read
-- back as they were written. Of texts it is the same again, since what is read is what the texts have. Assumes nothing.
use mathlib.Core.Path.{◌≡◌, refl, sym, ap, subst, ◌∙◌}
use mathlib.Core.List.{List, [], ◌∷◌, map, map-map}
use Prim.Native.Nat.{ℕ, ◌*◌}
use lib.ListN.{length, length-map}
use lib.IntN.{ℤ}
use Rattle.records.specs.declared.Head.{Head}
use Rattle.records.specs.declared.Row.{Row}
use Rattle.records.specs.Groups.{of_row, groups}
use Rattle.records.specs.Shapes.{Traverse, traverse, count}
use Rattle.records.proofs.GroupLaws.{groups-length, flat-length}
use Rattle.march.specs.declared.State.{State}
use Rattle.march.specs.Answers.{Told, accepted, refused}
use Rattle.march.specs.Given.{Given, segments}
use Rattle.march.specs.Checks.{open_of}
use Rattle.march.specs.March.{fresh_row_at}
use Rattle.march.specs.Take.{take_of}
use Rattle.march.specs.Take as march
use Rattle.march.specs.Exact.{Exact, exact_fresh}
use Rattle.march.specs.Demand3.{called_with, called, CallSound, AllSound, fresh_rows}
use Rattle.march.proofs.Demand3.{demand3}
use Rattle.march.proofs.TakeLaws.{rows_long}
use Rattle.lent.specs.Numbers.{state_numbers, buffers_ok}
use Rattle.lent.specs.Again.{head_left, points_left, record_left}
use Rattle.lent.proofs.Again.{open-again, traverse-again, storm-again}
use Rattle.surge_c.specs.Rows.{rows_from}
use Rattle.surge_c.specs.Calls.{LeftRows, after_taken, take_call, Takes}
use Rattle.surge_c.specs.Demand3.{LentCall, brought, AllKept, AllTold, LentDemand3, taking, TextDemand3}
use Rattle.surge_c.proofs.Again.{rows-again, state-again}

module _ (most : ℕ) (head : Head) (points : List ℤ) where
  -- a call that keeps its promise, on numbers that the march's list has
  call-told : (st : State) (l : List ℤ) (k : ℕ) → length l ≡ 3 * k → (c : LentCall) → length c.answer ≡ 3
      → Takes most head.latitude head.friction head.initial points c.seconds c.tide c.storm (state_numbers st) (rows_from l) c.setup c.answer c.left
      → let x = called most (traverse head points) st l (brought c) in c.left ≡ after_taken x.answer x (state_numbers st) (rows_from l)
  unfolding take_call buffers_ok
  call-told st l k long c three e = e ∙ rw (three, state-again st, rows-again.back l k long)

  -- what it leaves is what the march's next call has
  next : (told : Told) (g : Given) (x : Exact) (w : march.Left) → CallSound told g x w → let a = after_taken told w (state_numbers g.state) (rows_from g.rows) in
      (a.state ≡ state_numbers w.state) × (a.rows ≡ rows_from w.rows)
  next (accepted elapsed low high) g x w s = (refl, refl)
  next (refused number place) g x w s = (ap state_numbers (sym s.same-state), ap rows_from (sym s.same_rows))

  carried : (st : State) (l : List ℤ) (k : ℕ) (x : Exact) (calls : List LentCall) → length l ≡ 3 * k → AllKept most head points (state_numbers st) (rows_from l) calls
      → AllSound most (traverse head points) st l x (map brought calls) → AllTold most head points st l calls
  unfolding AllKept AllTold AllSound
  carried st l k x [] long kept sound = tt
  carried st l k x (c ∷ calls) long kept sound = (here, carried w.state w.rows k _ calls (rows_long g ∙ long) (lent-next kept.1.1) sound.1)
    where
      g : Given
      g = called_with most (traverse head points) st l (brought c)

      w : march.Left
      w = take_of g

      here : c.left ≡ after_taken w.answer w (state_numbers st) (rows_from l)
      here = call-told st l k long c kept.0 kept.1.0

      after : ((after_taken w.answer w (state_numbers st) (rows_from l)).state ≡ state_numbers w.state) × ((after_taken w.answer w (state_numbers st) (rows_from l)).rows ≡ rows_from w.rows)
      after = next w.answer g x w sound.0

      lent-next : AllKept most head points c.left.state c.left.rows calls → AllKept most head points (state_numbers w.state) (rows_from w.rows) calls
      lent-next all =
          subst (λ (s : List ℤ). AllKept most head points s (rows_from w.rows) calls) (ap (λ (z : LeftRows). z.state) here ∙ after.0)
          (subst (λ (rs : List Row). AllKept most head points c.left.state rs calls) (ap (λ (z : LeftRows). z.rows) here ∙ after.1) all)

rows-fresh : (t : Traverse) → length (fresh_rows t) ≡ 3 * segments t
rows-fresh t = flat-length 3 of_row (groups (fresh_row_at t) (segments t)) (λ v. refl) ∙ ap (λ (n : ℕ). 3 * n) (groups-length (fresh_row_at t) (segments t))

pub lent-demand3 : LentDemand3
lent-demand3 most head points x calls kept =
    let t = traverse head points in
    let o = open-again most head points x in
    let sound = demand3 most t o.0 (map brought calls) in
    (carried most head points (open_of most t).state (fresh_rows t) (segments t) exact_fresh calls (rows-fresh t) (rw o.1 at kept) sound, sound)

-- ---- the same of texts

pub text-demand3 : TextDemand3
text-demand3 most traverse-text storm-text short r nought x steps all kept =
    let n = count (traverse (head_left r.left) (points_left r.left)) in
    let s = storm-again storm-text short n (map (λ s. s.reading) steps) all in
    let d = lent-demand3 most (head_left r.left) (points_left r.left) x (map (taking n) steps) kept in
    record {
      traverse-is = (traverse-again traverse-text r).accepted nought;
      read-are = s;
      taken-are = sym (map-map (λ c. record_left n c.left) (λ s. s.reading) steps) ∙ s.begun ∙ rw (length-map steps (λ s. s.reading));
      told = d.0;
      sound = rw (map-map brought (taking n) steps) at d.1;
    }
