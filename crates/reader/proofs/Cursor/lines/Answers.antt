-- `reader::Cursor::lines` meets its contract. Assumes nothing.
use Rattle.std.proofs.Common.{Err, ◌≡◌, refl, sym, ap, ◌∙◌, ℕ, suc, ◌+◌, ◌-◌, ◌<◌, ◌≤◌, arith, Bool, true, false, ◌&&◌, List, length, take, eqb, ℤ, w64}
use borrow.Author.Tests.{not-true, not-false}
use mir.ValLaws.{to_z-of_z}
use Rattle.records.specs.declared.Kind.TheVariants.{Malformed, Differs}
use Rattle.records.specs.Refusals.{refusal}
use Rattle.reader.specs.Text.{more, byte, digit_at, good_of, signed_value, start_at, value_at, past_at, close_of}
use Rattle.reader.specs.Lines.{leaves, Line, bad, full, closed_at, values_at, LinesRead, lines_read, lines_at, lines_left}
use Rattle.reader.specs.declared.Cursor.{Cursor}
use Rattle.reader.proofs.Digits.{Scan, digit-some, digit-none, scan-more, scan-long}
use Rattle.reader.proofs.Laws.{too_long, good-is, value-is, past_is, closed_is, Keeping, keeping-on, number_place, place-line, KeepsOne, keeps-one, keep-room, values-bad, values-more, values-done, lines-done, lines-ended, lines-bad, lines-differ, lines_more, left_is}
use Rattle.reader.proofs.Cursor.lines.Goals as goal
use Rattle.records.specs.declared.Refusal.{Refusal}

at_of : {x y : Cursor} → x ≡ y → x.at ≡ y.at
at_of e = ap (λ (x : Cursor). x.at) e

line_of : {x y : Cursor} → x ≡ y → x.line ≡ y.line
line_of e = ap (λ (x : Cursor). x.line) e

-- the value at hand, once its digits are read
module _ {s : List ℕ} {from to count value b first : ℕ} (at : ℕ) (h : Scan 10 s from to count value) (e : from ≡ start_at s at) (p : 10 ≤ digit_at s to)
    (q : b ≡ byte s at) (f : first ≡ byte s from) where
  scan : Scan 10 s (start_at s at) to count value
  scan = rw e at h

  pasts : past_at s at ≡ to
  pasts = past_is s at scan p

  values : signed_value (eqb b 45) value ≡ value_at s at
  values = sym (value-is s at scan p (eqb b 45) (ap (λ (x : ℕ). eqb x 45) q))

  -- whether it is closed
  closed : (n : ℕ) (r : Bool) → r ≡ (good_of (eqb b 45) count first && eqb (byte s to) (close_of n)) → closed_at s n at ≡ r
  closed n r g =
      closed_is s n at to count (eqb b 45) first (good-is s at scan p (eqb b 45) first (ap (λ (x : ℕ). eqb x 45) q) (f ∙ ap (byte s) e)) pasts ∙ sym g

-- with more than nine digits it is not
long : {s : List ℕ} {from to count value : ℕ} (n at : ℕ) → Scan 10 s from to count value → from ≡ start_at s at → digit_at s to < 10 → count ≡ 9 → closed_at s n at ≡ false
long {s} {from} {to} {count} {value} n at h e p q =
    let g : Scan 10 s (start_at s at) to count value = rw e at h in
    rw (too_long s at (omega (arith, scan-long g p (omega arith))))

to-come : (n k : ℕ) → k < n → n - k ≡ suc (n - (k + 1))
to-come n k h = omega arith

-- ---- how a line ends the call, or leads to the next: `whole` is what the call reads
module _ (s : List ℕ) (width shared n i at line to l p : ℕ) (kept : List ℤ) (same : Bool) (whole : LinesRead) (lent out : List ℤ)
    (e : lines_at s width shared (n - i) i at line kept ≡ whole) (m : i < n) (h : at < length s) (t : to ≡ at) (f : same ≡ true) (g : l ≡ more line)
    (k : Keeping lent 0 out p) where
  -- a line that is malformed refuses the call
  fault : (r : Refusal) → r ≡ refusal Malformed l → values_at s shared i width 0 to kept same ≡ bad (take p out) → leaves (Err r) out ≡ lines_left whole lent
  fault r q v =
      left_is whole (Err r)
      (sym e
      ∙ lines-bad s width shared (n - i) (n - (i + 1)) i at line kept (to-come n i m) l _ h g (rw (t, f) at v)
      ∙ ap (λ (x : Refusal). lines_read (Err x) (take p out)) (sym q))
      k

  -- and so does one whose shared values differ
  differs : (r : Refusal) (a : ℕ) → r ≡ refusal Differs l → values_at s shared i width 0 to kept same ≡ full a (take p out) false
      → leaves (Err r) out ≡ lines_left whole lent
  differs r a q v =
      left_is whole (Err r)
      (sym e
      ∙ lines-differ s width shared (n - i) (n - (i + 1)) i at line kept (to-come n i m) l _ h g a (rw (t, f) at v)
      ∙ ap (λ (x : Refusal). lines_read (Err x) (take p out)) (sym q))
      k

  -- after any other, the next is to be read
  follows : (a : ℕ) → values_at s shared i width 0 to kept same ≡ full a (take p out) true → lines_at s width shared (n - (i + 1)) (i + 1) a l (take p out) ≡ whole
  follows a v = lines_more s width shared (n - i) (n - (i + 1)) i at line kept (to-come n i m) l _ h g a (rw (t, f) at v) ∙ e

-- the rest of a line that was read to its end
ended : (s : List ℕ) (shared i n k at : ℕ) (kept : List ℤ) (same b : Bool) (x : Line) → values_at s shared i n k at kept same ≡ x → n ≡ 0 → same ≡ b → x ≡ full at kept b
ended s shared i n k at kept same b x e z q = sym e ∙ values-done s shared i n k at kept same z ∙ ap (full at kept) q

pub loop-d-preserved : goal.loop-d-preserved
loop-d-preserved c = let d = digit-some c.args.s.now c.loop-d.c.at c.in-Some.d c.in-Some.ensures in record {
  scan = scan-more c.loop-d.invariant.scan _ _ d.0 d.1 (omega (arith, c.loop-d.invariant.few)) (at_of c.past-c.ensures);
  few = omega (arith, c.loop-d.invariant.few, c.if-count-eq-DIGITS.false);
  line = line_of c.past-c.ensures ∙ c.loop-d.invariant.line;
}

pub keep-kept-requires : goal.keep-kept-requires
keep-kept-requires c =
    keep-room c.args.width c.args.shared c.args.n c.loop-i.i c.loop-k.k _ _ _ c.repeated.ensures c.loop-k.invariant.place c.loop-k.invariant.keeping.within
    (omega (arith, c.requires.1, c.loop-k.auto.out)) c.requires.0 (omega arith) c.loop-k-test.true

pub loop-k-preserved : goal.loop-k-preserved
loop-k-preserved c =
    let z : c.signed.result ≡ value_at c.args.s.now c.loop-k.c.at = c.signed.ensures ∙ values c.loop-k.c.at c.loop-d.invariant.scan (at_of c.past_sign-c.ensures) (digit-none _ _ c.in_default.ensures) c.byte-negative.ensures c.byte-first.ensures in
    let y : closed_at c.args.s.now (c.args.width - (c.loop-k.k + 1)) c.loop-k.c.at ≡ true =
    closed c.loop-k.c.at c.loop-d.invariant.scan (at_of c.past_sign-c.ensures) (digit-none _ _ c.in_default.ensures) c.byte-negative.ensures c.byte-first.ensures _ _ c.closes.ensures ∙ c.if-not-closes.false
    in
    let o : KeepsOne c.args.width c.args.shared c.loop-i.i c.loop-k.k (value_at c.args.s.now c.loop-k.c.at) c.loop-k.kept c.loop-k.out c.keep-kept.result c.keep-kept.new.out =
    keeps-one c.args.width c.args.shared c.args.n c.loop-i.i c.loop-k.k _ _ _ _ _ _ _ c.keep-kept.ensures c.repeated.ensures
    (to_z-of_z w64 _ (record { sfits = c.signed.type_inv }) ∙ z)
    c.loop-k.invariant.place (omega (arith, c.requires.1, c.loop-k.auto.out)) c.loop-k.invariant.keeping.within c.requires.0 (omega arith) c.loop-k-test.true
    in
    record {
      line = line_of c.past-c-in-loop-k.ensures ∙ c.loop-d.invariant.line ∙ line_of c.past_sign-c.ensures ∙ c.loop-k.invariant.line;
      keeping = keeping-on c.loop-k.invariant.keeping o.keeping;
      place = o.place;
      rest = values-more _ _ _ _ _ _ _ _ _ (to-come c.args.width c.loop-k.k c.loop-k-test.true) y _ _ _ _ refl
          (at_of c.past-c-in-loop-k.ensures ∙ ap (λ (x : ℕ). x + 1) (sym (pasts c.loop-k.c.at c.loop-d.invariant.scan (at_of c.past_sign-c.ensures) (digit-none _ _ c.in_default.ensures) c.byte-negative.ensures c.byte-first.ensures))) o.kept o.same
          ∙ c.loop-k.invariant.rest;
    }

pub loop-i-preserved : goal.loop-i-preserved
loop-i-preserved c =
    let z : c.loop-k.k ≡ c.args.width = omega arith in
    record {
      keeping = keeping-on c.loop-i.invariant.keeping c.loop-k.invariant.keeping;
      place = c.loop-k.invariant.place ∙ ap (λ (k : ℕ). number_place c.args.width c.args.shared c.loop-i.i k) z ∙ sym (place-line c.args.width c.args.shared c.loop-i.i c.requires.0);
      same = not-false _ c.if-not-kept.false;
      rest = follows _ _ _ _ _ _ _ _ _ _ _ _ _ _ _ c.loop-i.invariant.rest (omega (arith, c.loop-i-test.true)) c.if-c-s.false
          (at_of c.next_line-c.ensures) c.loop-i.invariant.same (c.loop-k.invariant.line ∙ line_of c.next_line-c.ensures) (keeping-on c.loop-i.invariant.keeping c.loop-k.invariant.keeping)
          _ (ended _ _ _ _ _ _ _ _ _ _ c.loop-k.invariant.rest (omega arith) (not-false _ c.if-not-kept.false));
    }

pub returns-after-loop-i : goal.returns-after-loop-i
returns-after-loop-i c = left_is _ _ (sym c.loop-i.invariant.rest ∙ lines-done _ _ _ _ _ _ _ _ (omega arith)) c.loop-i.invariant.keeping

pub returns-then-c-s : goal.returns-then-c-s
returns-then-c-s c =
    left_is _ _
    (sym c.loop-i.invariant.rest
    ∙ lines-ended _ _ _ _ (c.args.n - (c.loop-i.i + 1)) _ _ _ _ (omega (arith, c.loop-i-test.true)) c.if-c-s.true
    ∙ ap (λ (x : Refusal). lines_read (Err x) (take c.loop-i.kept.next c.loop-i.out)) (sym c.new.ensures))
    c.loop-i.invariant.keeping

pub returns-then-count-eq-DIGITS : goal.returns-then-count-eq-DIGITS
returns-then-count-eq-DIGITS c =
    fault _ _ _ _ _ _ _ _ _ _ _ _ _ _ _ c.loop-i.invariant.rest (omega (arith, c.loop-i-test.true)) c.if-c-s.false
    (at_of c.next_line-c.ensures) c.loop-i.invariant.same (c.loop-d.invariant.line ∙ line_of c.past_sign-c.ensures ∙ c.loop-k.invariant.line ∙ line_of c.next_line-c.ensures) (keeping-on c.loop-i.invariant.keeping c.loop-k.invariant.keeping)
    _ c.new-then-count-eq-DIGITS.ensures
    (sym c.loop-k.invariant.rest
    ∙ values-bad _ _ _ _ _ _ _ _ _ (to-come c.args.width c.loop-k.k c.loop-k-test.true)
    (long _ _ c.loop-d.invariant.scan (at_of c.past_sign-c.ensures) (digit-some _ _ _ c.in-Some.ensures).1 c.if-count-eq-DIGITS.true))

pub returns-then-not-closes : goal.returns-then-not-closes
returns-then-not-closes c =
    fault _ _ _ _ _ _ _ _ _ _ _ _ _ _ _ c.loop-i.invariant.rest (omega (arith, c.loop-i-test.true)) c.if-c-s.false
    (at_of c.next_line-c.ensures) c.loop-i.invariant.same (c.loop-d.invariant.line ∙ line_of c.past_sign-c.ensures ∙ c.loop-k.invariant.line ∙ line_of c.next_line-c.ensures) (keeping-on c.loop-i.invariant.keeping c.loop-k.invariant.keeping)
    _ c.new-then-not-closes.ensures
    (sym c.loop-k.invariant.rest
    ∙ values-bad _ _ _ _ _ _ _ _ _ (to-come c.args.width c.loop-k.k c.loop-k-test.true)
    (closed c.loop-k.c.at c.loop-d.invariant.scan (at_of c.past_sign-c.ensures) (digit-none _ _ c.in_default.ensures) c.byte-negative.ensures c.byte-first.ensures _ _ c.closes.ensures ∙ c.if-not-closes.true))

pub returns-then-not-kept : goal.returns-then-not-kept
returns-then-not-kept c =
    differs _ _ _ _ _ _ _ _ _ _ _ _ _ _ _ c.loop-i.invariant.rest (omega (arith, c.loop-i-test.true)) c.if-c-s.false
    (at_of c.next_line-c.ensures) c.loop-i.invariant.same (c.loop-k.invariant.line ∙ line_of c.next_line-c.ensures) (keeping-on c.loop-i.invariant.keeping c.loop-k.invariant.keeping)
    _ _ c.new-then-not-kept.ensures (ended _ _ _ _ _ _ _ _ _ _ c.loop-k.invariant.rest (omega arith) (not-true _ c.if-not-kept.true))
