-- `damped_furthest` meets its contract. Assumes nothing.
use mathlib.Core.Path.{◌≡◌, refl, sym, subst, ap, ap₂, ◌∙◌}
use mathlib.Core.Bool.{Bool, true, false, cond, not, ◌&&◌}
use lib.IntN.{ℤ, pos}
use lib.Signed.{lt_z}
use mir.Facts.{to_z-of_z}
use mir.Syntax.{w64}
use mir.Val.{SFits}
use Rattle.std.proofs.Common.{is_le, is_lt, Ordering, Less, Equal, Greater, arith}
use Rattle.std.proofs.lemmas.Int.{ints}
use Rattle.ranges.specs.declared.Range.{Range}
use Rattle.ranges.specs.Bounds.{DampedBounds, DampedSpan}
use Rattle.ranges.specs.Rises.{ordered, rises_at, rises}
use Rattle.ranges.specs.Range.{Positive, spans_zero}
use Rattle.ranges.specs.Ends.{EndRule, EndLaws}
use Rattle.ranges.specs.Damped.{damped_end}
use Rattle.ranges.proofs.DampedOutward.{with_zero, without_zero}
use Rattle.ranges.proofs.DampedRises.{RisesIn, furthest-is}
use Rattle.ranges.proofs.EndsLaws.{of_own}
use Rattle.ranges.proofs.Branches.{le-true, false-true}
use Rattle.ranges.proofs.DampedFits.{c-fits, v-fits, f-fits}
use Rattle.ranges.proofs.Fits.{held}
use Rattle.ranges.proofs.drag.damped_furthest.Goals as goal

-- a ≤ b and a < b, as the library compares, and what `contains` is of zero
abbrev order : ℤ → ℤ → Ordering
order a b = cond (lt_z a b) Less (cond (lt_z b a) Greater Equal)

abbrev holds_zero : ℤ → ℤ → Bool → Bool
holds_zero low high spent = is_le (order low (pos 0)) && cond spent (is_lt (order (pos 0) high)) (is_le (order (pos 0) high))

is_le-order : (a b : ℤ) → is_le (order a b) ≡ not (lt_z b a)
is_le-order a b = grind (arith, ints)

spans_zero-is : (v : Range) {low high : ℤ} {spent b : Bool} → SFits w64 v.low → SFits w64 v.high →
    low ≡ held v.low → high ≡ held v.high → spent ≡ false → b ≡ holds_zero low high spent → spans_zero v ≡ b
unfolding spans_zero
spans_zero-is v fl fh el eh es h =
    sym ((simp (el, eh, es, to_z-of_z, fl, fh) at h) ∙ ap₂ ◌&&◌ (is_le-order v.low (pos 0)) (is_le-order (pos 0) v.high))

module _ {c f : ℤ} {v δ : Range} (s : DampedSpan c v f δ) where
  divisors : Positive δ
  divisors = record { low = s.low.d-pos; high = s.high.d-pos }

  -- both ends of v tried
  ends : (e : EndRule) {a b r : ℤ} → SFits w64 a → SFits w64 b →
      a ≡ damped_end e (held c) (held v.low) (held f) δ →
      b ≡ damped_end e (held c) (held v.high) (held f) δ →
      r ≡ e.further (held a) (held b) →
      r ≡ e.further (damped_end e c v.low f δ) (damped_end e c v.high f δ)
  ends e ha hb ea eb er =
      (simp (to_z-of_z, ha, hb) at er)
      ∙ ap₂ e.further (simp (to_z-of_z, c-fits s.low, f-fits s.low, v-fits s.low) at ea) (simp (to_z-of_z, c-fits s.high, f-fits s.high, v-fits s.high) at eb)

  zero_is : {low high : ℤ} {spent b : Bool} → low ≡ held v.low → high ≡ held v.high → spent ≡ false → b ≡ holds_zero low high spent → spans_zero v ≡ b
  zero_is = spans_zero-is v (v-fits s.low) (v-fits s.high)

-- ---- where the value rises with v

own-bounds : {c x f : ℤ} {v δ : Range} {e : EndRule} → EndLaws e → DampedSpan c v f δ → x ≡ e.own v → (DampedBounds c x f δ.low) × (DampedBounds c x f δ.high)
own-bounds {c} {x} {f} {v} {δ} laws s is = subst Both (sym is) (of_own laws Both v (s.low, with-depth s.low s.high) (with-depth s.high s.low, s.high))
  where
    Both : ℤ → Type 0
    Both y = (DampedBounds c y f δ.low) × (DampedBounds c y f δ.high)

    with-depth : {y z d k : ℤ} → DampedBounds c y f d → DampedBounds c z f k → DampedBounds c y f k
    with-depth a b = record { c-nn = a.c-nn; c-in = a.c-in; v-in = a.v-in; f-in = a.f-in; d-pos = b.d-pos; d-in = b.d-in }

-- what the test told
and-true : (a b : Bool) → (a && b) ≡ true → (a ≡ true) × (b ≡ true)
and-true true b e = (refl, e)
and-true false b e = absurd (false-true e)

rises-told : (c f : ℤ) (v δ : Range) → rises c v f δ ≡ true → RisesIn c v f δ
unfolding rises
rises-told c f v δ e =
    let a = and-true (ordered v) (ordered δ && rises_at c f δ.low) e in
    let b = and-true (ordered δ) (rises_at c f δ.low) a.1 in
    record { v-ordered = le-true _ _ a.0; δ-ordered = le-true _ _ b.0; small = le-true _ _ b.1 }

module _ {c f : ℤ} {v δ : Range} (s : DampedSpan c v f δ) where
  told : {t : Bool} → t ≡ rises (held c) v (held f) δ → t ≡ true → RisesIn c v f δ
  told e h = rises-told c f v δ (sym (simp (to_z-of_z, c-fits s.low, f-fits s.low) at e) ∙ h)

  own-fits : (e : EndRule) → EndLaws e → SFits w64 (e.own v)
  own-fits e laws = of_own laws (SFits w64) v (v-fits s.low) (v-fits s.high)

pub damped_end-requires : goal.damped_end-requires
damped_end-requires g c =
    let s = c.requires in
    let laws = g.met.E.RangeEnd.laws in
    let own = own-fits s g.E.RangeEnd.rule laws in
    rw (c.ends-own.ensures.own, to_z-of_z own, to_z-of_z (c-fits s.low), to_z-of_z (f-fits s.low)) (own-bounds laws s refl)

pub returns-then-rises : goal.returns-then-rises
returns-then-rises g c =
    let s = c.requires in
    let e = g.E.RangeEnd.rule in
    let laws = g.met.E.RangeEnd.laws in
    let own = own-fits s e laws in
    let r : SFits w64 c.damped_end.result = record { sfits = c.damped_end.type_inv } in
    to_z-of_z r ∙ (simp (c.ends-own.ensures.own, to_z-of_z, own, c-fits s.low, f-fits s.low) at c.damped_end.ensures)
    ∙ sym (furthest-is c.args.c s.low.c-nn c.args.v c.args.f c.args.depth (divisors s) (told s c.rises.ensures c.if-rises.true) laws)

-- ---- elsewhere

pub returns-then-contains : goal.returns-then-contains
returns-then-contains g c =
    let e = g.E.RangeEnd.rule in
    let i = c.new.ensures in
    let zero = zero_is c.requires i.start i.end i.exhausted c.contains.ensures.value in
    let fa : SFits w64 c.damped_end-at_low.result = record { sfits = c.damped_end-at_low.type_inv } in
    let fb : SFits w64 c.damped_end-at_high.result = record { sfits = c.damped_end-at_high.type_inv } in
    let re : SFits w64 c.further-ends.result = record { sfits = c.further-ends.type_inv } in
    let r : SFits w64 c.further.result = record { sfits = c.further.type_inv } in
    to_z-of_z r ∙ (simp (to_z-of_z, c.ranges.f, re) at c.further.ensures)
    ∙ ap (e.further c.args.f) (ends c.requires e fa fb c.damped_end-at_low.ensures c.damped_end-at_high.ensures c.further-ends.ensures)
    ∙ sym (with_zero e g.met.E.RangeEnd.laws c.args.c c.args.v c.args.f c.args.depth (divisors c.requires) (zero ∙ c.if-contains.true))

pub returns : goal.returns
returns g c =
    let i = c.new.ensures in
    let zero = zero_is c.requires i.start i.end i.exhausted c.contains.ensures.value in
    let fa : SFits w64 c.damped_end-at_low.result = record { sfits = c.damped_end-at_low.type_inv } in
    let fb : SFits w64 c.damped_end-at_high.result = record { sfits = c.damped_end-at_high.type_inv } in
    let re : SFits w64 c.further-ends.result = record { sfits = c.further-ends.type_inv } in
    to_z-of_z re ∙ ends c.requires g.E.RangeEnd.rule fa fb c.damped_end-at_low.ensures c.damped_end-at_high.ensures c.further-ends.ensures
    ∙ sym (without_zero g.E.RangeEnd.rule g.met.E.RangeEnd.laws c.args.c c.args.v c.args.f c.args.depth (divisors c.requires) (zero ∙ c.if-contains.false))
