-- Reading a traverse file step by step: what the loop keeps, what it comes to, and that its answer is that of the text that was read, and of every
-- text that goes on from it where its end was not seen. Assumes nothing.
use Rattle.std.specs.Prelude.{Result, Ok, Err}
use mathlib.Core.Path.{◌≡◌, refl, sym, ap, subst, ◌∙◌}
use mathlib.Core.Bool.{Bool, false}
use mathlib.Core.List.{List, [], ◌∷◌, ◌++◌, append_assoc}
use native.Mathlib.Omega.{arith}
use Prim.Native.Nat.{ℕ, ◌+◌, ◌-◌, ◌≤◌}
use lib.ListN.{length, take}
use lib.Seq.{length-take-le}
use lib.IntN.{ℤ}
use Rattle.records.specs.declared.Refusal.{Refusal}
use Rattle.reader.specs.declared.Cursor.{Cursor}
use Rattle.reader.specs.declared.traverse.Known.{Known}
use Rattle.reader.specs.declared.traverse.Progress.{Progress}
use Rattle.reader.specs.declared.traverse.Progress.TheVariants as progress
use Rattle.reader.specs.declared.traverse.TraverseRead.{TraverseRead}
use Rattle.reader.specs.Lines.{Leaves, leaves}
use Rattle.reader.specs.Traverse.{held, rest_at, read_left, traverse_left, traverse_step}
use Rattle.reader.specs.Window.{carried_by, carried}
use Rattle.reader.proofs.Ends.{Stands, traverse-stands, Asks, traverse-asks}
use Rattle.reader.proofs.Steps.{traverse-step-holds}
use Rattle.files.specs.declared.Stop.{Stop}
use Rattle.files.specs.declared.Stop.TheVariants.{Failed}
use Rattle.files.specs.Chain.{Chain, most_turns}
use Rattle.files.specs.Filled.{HeldWindow, read_behind}
use Rattle.files.specs.TraverseFile.{file_by, Reading, begun, step_of, asked_at, left_from, Follows, Reached, text_read, KeptWindow, Loads, Continues, Tells, FileTells}
use Rattle.files.proofs.Walked.{never, Walked, walked_more}
use Rattle.files.proofs.Ending.{Ending, ending-none, ending-more, ending-shows}

-- ---- the loop

abbrev pub reading : Known → List ℤ → ℕ → List ℕ → ℕ → Bool → Reading
reading k points line window have last = record { held = held k points; line = line; window = window; have = have; last = last }

-- a step from x
module _ (x : Reading) (s : Result Progress Refusal) (out : List ℤ) (e : leaves s out ≡ traverse_step (take x.have x.window) x.last x.held 0 x.line) where
  step_is : leaves s out ≡ step_of x
  unfolding step_of
  step_is = e

  answer-is : s ≡ (step_of x).answer
  answer-is = ap (λ (y : Leaves (Result Progress Refusal)). y.answer) step_is

  -- which asked for more from there
  pub asked : (c : Cursor) (k : Known) → s ≡ Ok (progress.More c k) → left_from x ≡ c.at
  asked c k f = ap asked_at (sym answer-is ∙ f)

  -- and the refill
  pub walked_on : {a : Reading} (turns : ℕ) → Walked Follows a x turns → (c : Cursor) (k : Known) → s ≡ Ok (progress.More c k) → (window' : List ℕ) (n : ℕ) (last : Bool)
      → HeldWindow x.window window' c.at x.have n last → (turns' : ℕ) → turns ≡ turns' + 1 → Walked Follows a (reading k out c.line window' n last) turns'
  walked_on turns w c k f window' n last h turns' t =
      let p : left_from x ≡ c.at = asked c k f in
      walked_more x _ turns turns' w
      (record {
        asked = sym answer-is ∙ f ∙ ap (λ (a : ℕ). Ok (progress.More (record { at = a; line = c.line }) k)) (sym p);
        points = ap (λ (y : Leaves (Result Progress Refusal)). y.numbers) step_is;
        window = subst (λ (a : ℕ). HeldWindow x.window window' a x.have n last) (sym p) h;
      })
      t

module _ (opened : Bool) (window : List ℕ) (points : List ℤ) (x : Reading) (turns : ℕ) (w : Walked Follows (begun opened window points) x turns) where
  -- a step's answer is the file's
  pub answered : (s : Result Progress Refusal) (out : List ℤ) → leaves s out ≡ traverse_step (take x.have x.window) x.last x.held 0 x.line → (r : Result TraverseRead Stop) (window' : List ℕ)
      → r ≡ file_by s → KeptWindow r x window' → Loads opened window points r window' out
  answered s out e r window' f k =
      record {
        earlier = w.earlier;
        at = x;
        reached = w.reached;
        file = f ∙ ap file_by (answer-is x s out e);
        points-left = ap (λ (y : Leaves (Result Progress Refusal)). y.numbers) (step_is x s out e);
        window-left = k;
      }

  -- the turns are spent: the last step asked for more
  pub walked-out : turns ≡ 0 → (r : Result TraverseRead Stop) → r ≡ Err Failed → Loads opened window points r x.window x.held.points
  unfolding Chain
  walked-out z r f = go w.earlier w.reached w.spent
    where
      go : (earlier : List Reading) → Reached (begun opened window points) earlier x → turns + length earlier ≡ most_turns → Loads opened window points r x.window x.held.points
      go [] q l = absurd (omega arith)
      go (v ∷ earlier) q l =
          record {
            earlier = earlier;
            at = v;
            reached = q.1;
            file = f ∙ ap file_by (sym q.0.asked);
            points-left = q.0.points;
            window-left = subst (λ (s : Result TraverseRead Stop). KeptWindow s v x.window) (sym f) q.0.window.left;
          }

-- ---- the text

-- x after the text s was read: the window has the end of s, and reading on from there is reading the whole, whatever may follow
pub record Told (points : List ℤ) (x : Reading) (s : List ℕ) : Type 0 where
  pub from : ℕ
  pub ending : Ending s x.window from x.have
  pub tells : (e : List ℕ) → Continues x.last e → read_left (rest_at (s ++ e) x.held from x.line) ≡ traverse_left (s ++ e) points

-- no step asks for more where the text has ended, so whatever was read since goes on from the text before
not-ended : (x : Reading) (c : Cursor) (k : Known) → (step_of x).answer ≡ Ok (progress.More c k) → x.last ≡ false
unfolding step_of
not-ended x c k e = (subst (Asks (length (take x.have x.window)) x.last) e (traverse-asks (take x.have x.window) x.last x.held 0 x.line)).1

module _ (points : List ℤ) where
  -- a step from x, on the whole text
  step-tells : (x : Reading) (s : List ℕ) (h : Told points x s) (e : List ℕ) → Continues x.last e → carried (s ++ e) h.from (step_of x) ≡ traverse_left (s ++ e) points
  unfolding step_of
  step-tells x s h e c =
      let z : h.from + 0 ≡ h.from = omega arith in
      traverse-step-holds (s ++ e) (take x.have x.window) h.from x.last (ending-shows s x.window h.from x.have x.last h.ending e c) x.held 0 x.line
      ∙ ap (λ (k : ℕ). read_left (rest_at (s ++ e) x.held k x.line)) z
      ∙ h.tells e c

  -- what was left of the window was in it
  left-held : (x : Reading) → x.have ≤ length x.window → left_from x ≤ x.have
  unfolding step_of
  left-held x h = go (step_of x).answer (traverse-stands (take x.have x.window) x.last (length (take x.have x.window)) (omega arith) x.held 0 x.line (omega arith))
    where
      go : (p : Result Progress Refusal) → Stands 0 (length (take x.have x.window)) p → asked_at p ≤ x.have
      go (Ok (progress.Read t)) q = omega arith
      go (Ok (progress.More c k)) q = omega (arith, q.1, length-take-le x.have x.window h)
      go (Err r) q = omega arith

  follows-told : (x y : Reading) (s : List ℕ) → Told points x s → Follows x y → Told points y (s ++ read_behind (x.have - left_from x) y.have y.window)
  follows-told x y s h f =
      record {
        from = h.from + left_from x;
        ending = ending-more s x.window y.window h.from (left_from x) x.have y.have y.last h.ending (left-held x h.ending.held) f.window;
        tells = λ e c. subst (λ (t : List ℕ). read_left (rest_at t y.held (h.from + left_from x) y.line) ≡ traverse_left t points) (sym (append_assoc s got e)) (on e);
      }
    where
      got : List ℕ
      got = read_behind (x.have - left_from x) y.have y.window

      on : (e : List ℕ) → read_left (rest_at (s ++ (got ++ e)) y.held (h.from + left_from x) y.line) ≡ traverse_left (s ++ (got ++ e)) points
      on e =
          let t = s ++ (got ++ e) in
          ap (λ (l : List ℤ). read_left (rest_at t (held y.held.known l) (h.from + left_from x) y.line)) f.points
          ∙ ap (λ (p : Result Progress Refusal). carried_by t h.from p (step_of x).numbers) (sym f.asked)
          ∙ step-tells x s h (got ++ e) (λ l. absurd (never (sym l ∙ not-ended x _ _ f.asked)))

  pub reached-told : (opened : Bool) (window : List ℕ) (earlier : List Reading) (x : Reading) → Reached (begun opened window points) earlier x → Told points x (text_read earlier x)
  unfolding Chain text_read traverse_left
  reached-told opened window [] x q =
      subst (λ (y : Reading). Told points y []) (sym q)
      (record { from = 0; ending = ending-none window; tells = λ e c. refl })
  reached-told opened window (w ∷ earlier) x q = follows-told w x (text_read earlier w) (reached-told opened window earlier w q.1) q.0

pub file-tells : FileTells
file-tells opened window points r window' points' l e c =
    let t = text_read l.earlier l.at in
    let h = reached-told points opened window l.earlier l.at l.reached in
    subst (λ (f : Result TraverseRead Stop). Tells f (t ++ e) points points') (sym l.file)
    (subst (λ (p : List ℤ). Tells (file_by (step_of l.at).answer) (t ++ e) points p) (sym l.points-left)
    (go (step_of l.at).answer (step-tells points l.at t h e c)))
  where
    go : (p : Result Progress Refusal) → carried_by (text_read l.earlier l.at ++ e) (reached-told points opened window l.earlier l.at l.reached).from p (step_of l.at).numbers ≡ traverse_left (text_read l.earlier l.at ++ e) points
        → Tells (file_by p) (text_read l.earlier l.at ++ e) points (step_of l.at).numbers
    go (Ok (progress.Read t)) q = sym q
    go (Ok (progress.More c k)) q = tt
    go (Err r) q = sym q
