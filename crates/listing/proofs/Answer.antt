-- Laws of `put_of`: what an open call answers, from the test for room and from what was written. Assumes nothing.
use mathlib.Core.Path.{◌≡◌, refl, sym, ap, ◌∙◌}
use native.Mathlib.Omega.{arith}
use mathlib.Core.Bool.{Bool, true, false}
use mathlib.Core.List.{List}
use Rattle.std.specs.Prelude.{Option, Some, None}
use Prim.Native.Nat.{ℕ, ◌+◌, ◌≤◌}
use lib.ListN.{length}
use lib.Dec.{leb}
use borrow.Author.Tests.{leb-true, le-leb}
use Rattle.listing.specs.Put.{AfterPut, after_put, written, put_of, Wrote}
use Rattle.listing.proofs.Written.{length-written}

module _ (line : List ℕ) (at : ℕ) (s : List ℕ) (count : ℕ) (long : count ≡ length line)
    (room : Bool) (test : room ≡ leb (at + count) (length s)) where
  -- there is no room, and nothing is written
  pub put_full : room ≡ false → after_put None s ≡ put_of line at s
  unfolding put_of
  put_full e = let f : leb (at + count) (length s) ≡ false = sym test ∙ e in rw (← long, f)

  -- there is room, and the line is written
  pub put_next : room ≡ true → {next : ℕ} {t : List ℕ} → Wrote line at s next t → after_put (Some next) t ≡ put_of line at s
  unfolding put_of
  put_next e {next} {t} h =
      let f : leb (at + length line) (length s) ≡ true = rw long at (sym test ∙ e) in
      rw (f, h.place, h.buffer)

-- ---- for callers

-- an answer with a place: the line fits, the place is behind it, and it is written
pub record Fitted (line : List ℕ) (at : ℕ) (s : List ℕ) (next : ℕ) (t : List ℕ) : Type 0 where
  pub place : next ≡ at + length line
  pub within : next ≤ length s
  pub buffer : t ≡ written line at s
  pub long : length t ≡ length s

module _ (line : List ℕ) (at : ℕ) (s : List ℕ) where
  pub next-told : (next : ℕ) (t : List ℕ) → after_put (Some next) t ≡ put_of line at s → Fitted line at s next t
  unfolding put_of
  next-told next t e = by (leb (at + length line) (length s)) refl
    where
      by : (f : Bool) → leb (at + length line) (length s) ≡ f → Fitted line at s next t
      by true l =
          let g : after_put (Some next) t ≡ after_put (Some (at + length line)) (written line at s) = rw l at e in
          let p : next ≡ at + length line = cc (ap (λ (x : AfterPut). x.answer) g) in
          let b : t ≡ written line at s = ap (λ (x : AfterPut). x.out) g in
          let w : at + length line ≤ length s = leb-true (at + length line) (length s) l in
          record { place = p; within = omega arith; buffer = b; long = ap length b ∙ length-written line at s w }
      by false l =
          let g : after_put (Some next) t ≡ after_put None s = rw l at e in
          let z : ◌≡◌ {A = ℕ} 0 1 = cc (ap (λ (x : AfterPut). x.answer) g) in
          let no : ⊥ = omega arith in
          elim no [ ]

  -- `None` leaves the buffer as lent
  pub full-told : (t : List ℕ) → after_put None t ≡ put_of line at s → t ≡ s
  unfolding put_of
  full-told t e = by (leb (at + length line) (length s)) refl
    where
      by : (f : Bool) → leb (at + length line) (length s) ≡ f → t ≡ s
      by true l =
          let g : after_put None t ≡ after_put (Some (at + length line)) (written line at s) = rw l at e in
          let z : ◌≡◌ {A = ℕ} 0 1 = cc (ap (λ (x : AfterPut). x.answer) g) in
          let no : ⊥ = omega arith in
          elim no [ ]
      by false l =
          let g : after_put None t ≡ after_put None s = rw l at e in
          ap (λ (x : AfterPut). x.out) g

  -- where there is room, the line goes in
  pub put-fits : at + length line ≤ length s → put_of line at s ≡ after_put (Some (at + length line)) (written line at s)
  unfolding put_of
  put-fits h = rw (le-leb (at + length line) (length s) h)

  -- so the place behind it is the answer
  pub put-some : (r : Option ℕ) (t : List ℕ) → after_put r t ≡ put_of line at s → at + length line ≤ length s → r ≡ Some (at + length line)
  put-some r t e h = ap (λ (x : AfterPut). x.answer) (e ∙ put-fits h)
