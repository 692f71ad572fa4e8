-- Laws of the loops that go over a deck and write its lines: what one turn more does, and what is left where a loop ends. Assumes nothing.
use Rattle.std.proofs.Common.{Ok, Err}
use mathlib.Core.Path.{◌≡◌, refl, sym, ap, subst, ◌∙◌}
use mathlib.Core.Bool.{Bool, true, false, cond}
use mathlib.Core.List.{List, [], ◌++◌, append_assoc}
use Prim.Native.Nat.{ℕ, zero, suc, ◌+◌, ◌-◌, ◌<◌, ◌≤◌}
use native.Mathlib.Omega.{arith}
use lib.ListN.{length, length-append}
use lib.Dec.{ltb, leb, eqb}
use mir.Syntax.{w64}
use mir.Val.{SFits, to_z, of_z}
use mir.Facts.{to_z-of_z}
use borrow.Author.Tests.{lt-ltb, le-ltb, ltb-false, ne_eqb, le-leb, leb-true}
use Rattle.records.specs.declared.Head.{Head}
use Rattle.records.specs.declared.Kind.TheVariants.{Lent}
use Rattle.records.specs.Refusals.{refusal}
use Rattle.listing.specs.Decimal.{decimal_of}
use Rattle.listing.specs.Lines.{space, feed, values_line}
use Rattle.listing.specs.Put.{written, Wrote}
use Rattle.listing.proofs.Lines.{record-most}
use Rattle.listing.proofs.Written.{written_none, written_on, wrote_on}
use Rattle.reader.specs.Text.{byte}
use Rattle.reader.specs.Traverse.{head_names, point_names}
use Rattle.reader.proofs.Laws.{fits-leb, short-leb}
use Rattle.deck.specs.declared.walk.Point.{Point}
use Rattle.deck.specs.declared.walk.Points.{Points}
use Rattle.deck.specs.declared.walk.Step.{Step}
use Rattle.deck.specs.declared.CardCursor.{CardCursor}
use Rattle.deck.specs.Number.{cursor}
use Rattle.deck.specs.Deck.{point_line, head_lines, left_deck, put_text}
use Rattle.deck.specs.Walk.{past_spaces, past_space, first_at, step_at, walked, lines_from, points_at}

-- ---- past the spaces of a card's front

pub spaces-none : (s : List ℕ) (n k at : ℕ) → k ≡ 0 → past_spaces s n k at ≡ at
unfolding past_spaces
spaces-none s zero k at e = refl
spaces-none s (suc n) k at e = rw e

pub spaces-ended : (s : List ℕ) (n k at : ℕ) → length s ≤ at → past_spaces s n k at ≡ at
unfolding past_spaces
spaces-ended s zero k at h = refl
spaces-ended s (suc n) zero at h = refl
spaces-ended s (suc n) (suc k) at h = rw (le-ltb _ _ h)

-- the next one stands here, or not
pub space-here : (s : List ℕ) (n m at : ℕ) → n ≡ suc m → at < length s → byte s at ≡ 32 → past_spaces s n 1 at ≡ at + 1
unfolding past_spaces
space-here s n m at e h q = rw (e, lt-ltb _ _ h, q) (spaces-none s m 0 (at + 1) refl)

pub space-on : (s : List ℕ) (n m at : ℕ) → n ≡ suc m → at < length s → (byte s at ≡ 32 → ⊥) → past_spaces s m 1 (at + 1) ≡ past_spaces s n 1 at
unfolding past_spaces
space-on s n m at e h q = rw (e, lt-ltb _ _ h, ne_eqb _ _ q)

-- with fuel for as many bytes as the text has left, it does not matter for how many
pub spaces-fuel : (s : List ℕ) (n m k at : ℕ) → length s ≤ at + n → length s ≤ at + m → past_spaces s n k at ≡ past_spaces s m k at
unfolding past_spaces
spaces-fuel s zero m k at p q = sym (spaces-ended s m k at (omega arith))
spaces-fuel s (suc n) zero k at p q = spaces-ended s (suc n) k at (omega arith)
spaces-fuel s (suc n) (suc m) zero at p q = refl
spaces-fuel s (suc n) (suc m) (suc k) at p q =
    ap (λ (x : ℕ). cond (ltb at (length s)) x at) (spaces-fuel s n m (cond (eqb (byte s at) 32) k (suc k)) (at + 1) (omega arith) (omega arith))

-- past two of them is past the next, twice
spaces-two : (s : List ℕ) (n at : ℕ) → length s ≤ at + n → past_spaces s n 2 at ≡ past_space s (past_spaces s n 1 at)
unfolding past_spaces past_space
spaces-two s zero at h = sym (spaces-ended s (length s) 1 at (omega arith))
spaces-two s (suc n) at h = go (ltb at (length s)) refl (eqb (byte s at) 32) (spaces-two s n (at + 1) (omega arith))
  where
    go : (t : Bool) → ltb at (length s) ≡ t → (u : Bool) → past_spaces s n 2 (at + 1) ≡ past_spaces s (length s) 1 (past_spaces s n 1 (at + 1))
        → cond t (past_spaces s n (cond u 1 2) (at + 1)) at ≡ past_spaces s (length s) 1 (cond t (past_spaces s n (cond u 0 1) (at + 1)) at)
    go false e u r = sym (spaces-ended s (length s) 1 at (ltb-false _ _ e))
    go true e true r = spaces-fuel s n (length s) 1 (at + 1) (omega arith) (omega arith) ∙ ap (past_spaces s (length s) 1) (sym (spaces-none s n 0 (at + 1) refl))
    go true e false r = r

pub first-twice : (s : List ℕ) (at : ℕ) → past_space s (past_space s at) ≡ first_at s at
unfolding past_space first_at
first-twice s at = sym (spaces-two s (length s) at (omega arith))

-- ---- past numbers

pub walked-none : (s : List ℕ) (n at : ℕ) → n ≡ 0 → walked s n at ≡ at
unfolding walked
walked-none s n at e = rw e

pub walked-more : (s : List ℕ) (n m at : ℕ) (x : Step) → n ≡ suc m → x ≡ step_at s at → walked s m x.next.at ≡ walked s n at
unfolding step_at walked
walked-more s n m at x e q = rw (e, q)

-- ---- the lines before the points

-- the line of the given values, as the code reads them back from their bits
abbrev pub bits_line : Head → List ℕ
bits_line h = values_line (to_z w64 (of_z w64 h.latitude)) (to_z w64 (of_z w64 h.friction)) (to_z w64 (of_z w64 h.initial))

-- they fit 64 bits
abbrev pub HeadFits : Head → Type 0
HeadFits h = SFits w64 h.latitude × (SFits w64 h.friction × SFits w64 h.initial)

-- so that this is their line; it is short
module _ (h : Head) (f : HeadFits h) where
  bits-line : bits_line h ≡ values_line h.latitude h.friction h.initial
  bits-line = rw (to_z-of_z f.0, to_z-of_z f.1.0, to_z-of_z f.1.1)

  pub bits-short : length (bits_line h) ≤ 63
  bits-short = rw bits-line (record-most _ _ _ f.0 f.1.0 f.1.1)

  pub head-length : length (head_lines h) ≡ 26 + length (bits_line h) + 15
  unfolding head_lines
  head-length = rw bits-line (simp length-append (omega arith))

  pub head-parts : head_names ++ bits_line h ++ point_names ≡ head_lines h
  unfolding head_lines
  head-parts = rw bits-line

-- ---- the lines of the points

pub point-parts : (d h : ℕ) → (decimal_of d ++ space) ++ (decimal_of h ++ feed) ≡ point_line d h
unfolding point_line
point-parts d h = simp append_assoc

pub point-length : (d h : ℕ) → length (point_line d h) ≡ length (decimal_of d) + length (decimal_of h) + 2
unfolding point_line
point-length d h = simp length-append (omega arith)

lines-none : (s : List ℕ) (n d h : ℕ) → n ≡ 0 → lines_from s n d h ≡ []
unfolding lines_from
lines-none s n d h e = rw e

-- no line is left: it needs no room, and all is written
pub fit-none : (s : List ℕ) (n d h spare : ℕ) → n ≡ 0 → true ≡ leb (length (lines_from s n d h)) spare
fit-none s n d h spare e = rw (lines-none s n d h e) (sym (le-leb 0 spare (omega arith)))

pub write-none : (s : List ℕ) (n d h : ℕ) {bytes : List ℕ} {at next : ℕ} {lent out : List ℕ} → n ≡ 0
    → next + length (lines_from s n d h) ≡ at + length bytes → written (lines_from s n d h) next out ≡ written bytes at lent → Wrote bytes at lent next out
write-none s n d h {next = next} {out = out} e p q =
    let z = lines-none s n d h e in
    let l = ap length z in
    record { place = omega arith; buffer = sym (written_none next out) ∙ (rw z at q) }

-- one line more: the point at two cursors
module _ (s : List ℕ) (n m : ℕ) (x : Points) (r : Point × Points) (e : n ≡ suc m) (p : r ≡ points_at s x) where
  abbrev pub line : List ℕ
  line = point_line r.0.distance r.0.depth

  abbrev pub behind : List ℕ
  behind = lines_from s m r.1.distance.at r.1.depth.at

  lines-more : line ++ behind ≡ lines_from s n x.distance.at x.depth.at
  unfolding lines_from points_at
  lines-more = rw (e, p)

  pub lines-length : length (lines_from s n x.distance.at x.depth.at) ≡ length line + length behind
  lines-length = rw (← lines-more) (length-append line behind)

  -- the room that it needs
  module _ (need spare : ℕ) (k : need ≡ length line) where
    fit-length : leb (length behind + need) spare ≡ leb (length (lines_from s n x.distance.at x.depth.at)) spare
    fit-length = let l : length behind + need ≡ length (lines_from s n x.distance.at x.depth.at) = omega (arith, lines-length) in rw l

    pub fit-more : need ≤ spare → leb (length behind) (spare - need) ≡ leb (length (lines_from s n x.distance.at x.depth.at)) spare
    fit-more l = fits-leb _ spare need l ∙ fit-length

    pub fit_short : spare < need → false ≡ leb (length (lines_from s n x.distance.at x.depth.at)) spare
    fit_short l = short-leb (length behind) spare need l ∙ fit-length

  -- its line, written
  module _ {at to : ℕ} {t v : List ℕ} (w : Wrote line at t to v) (room : at + length (lines_from s n x.distance.at x.depth.at) ≤ length t) where
    pub ends-more : to + length behind ≡ at + length (lines_from s n x.distance.at x.depth.at)
    ends-more = omega (arith, lines-length, w.place)

    pub write-more : written behind to v ≡ written (lines_from s n x.distance.at x.depth.at) at t
    write-more = rw (w.place, w.buffer, ← lines-more) (written_on line behind at t (omega (arith, lines-length)))

-- the lines before the points and those of the points have room together
pub fits-room : (head lines : List ℕ) (room : ℕ) → leb (length (head ++ lines)) room ≡ true → length head + length lines ≤ room
fits-room head lines room e = omega (arith, leb-true (length (head ++ lines)) room e, length-append head lines)

-- ---- the whole text: the distances begin in the first card, the depths behind the last distance

module _ (s : List ℕ) (n : ℕ) (x y : CardCursor) (p : x ≡ cursor (first_at s 0)) (q : y ≡ cursor (walked s n x.at)) (head room : List ℕ) where
  abbrev pub whole : List ℕ
  whole = head ++ lines_from s n (first_at s 0) (walked s n (first_at s 0))

  whole_is : head ++ lines_from s n x.at y.at ≡ whole
  whole_is = rw (q, p)

  pub put-short : leb (length (head ++ lines_from s n x.at y.at)) (length room) ≡ false → left_deck (Err (refusal Lent 0)) room ≡ put_text whole room
  unfolding put_text
  put-short e = let g : leb (length whole) (length room) ≡ false = rw whole_is at e in rw g

  pub put_whole : {at next : ℕ} {t u : List ℕ} → Wrote head 0 room at t → Wrote (lines_from s n x.at y.at) at t next u
      → leb (length (head ++ lines_from s n x.at y.at)) (length room) ≡ true → left_deck (Ok next) u ≡ put_text whole room
  unfolding put_text
  put_whole {next = next} {u = u} f g h =
      let k = fits-room head (lines_from s n x.at y.at) (length room) h in
      let w : Wrote whole 0 room next u = subst (λ (l : List ℕ). Wrote l 0 room next u) whole_is (wrote_on f g (omega arith)) in
      let l : leb (length whole) (length room) ≡ true = rw whole_is at h in
      let e : next ≡ length whole = omega (arith, w.place) in
      rw (l, e, w.buffer)
