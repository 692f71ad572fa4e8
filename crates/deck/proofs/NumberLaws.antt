-- Of the numbers of a card: how many digits one has, how large it is and where it ends; and what the code makes of one, and of one after the other.
-- Assumes nothing.
use Rattle.std.specs.Bool.{then_some}
use Rattle.std.proofs.Common.{Option, Some, None}
use mathlib.Core.Path.{◌≡◌, refl, sym}
use mathlib.Core.Bool.{and_assoc, Bool, true, false, cond, ◌&&◌}
use mathlib.Core.List.{List}
use Prim.Native.Nat.{ℕ, suc, ◌+◌, ◌-◌, ◌*◌, ◌/◌, ◌%◌, ◌<◌, ◌≤◌, ◌^◌}
use native.Mathlib.Omega.{arith}
use native.Mathlib.Nat.{pow-le-pow_right, div-lt_iff_lt-mul}
use lib.ListN.{length}
use lib.Dec.{ltb, eqb}
use borrow.Author.Tests.{ltb-true, eqb-true, ne_eqb}
use Rattle.records.proofs.LimitLaws.{and_left, and_right}
use Rattle.reader.specs.Text.{byte, digits}
use Rattle.reader.proofs.Digits.{digits-most, digits-within, digits-worth, Scan, scan-count, scan-value}
use Rattle.reader.proofs.Laws.{present}
use Rattle.deck.specs.Number.{count_at, worth_at, count_good, point_at, part_from, part_count, part_worth, good_at, past_at, tenths_at, cursor, no_digit, run_at, part_at, decimal_at, number_at, whole_at}
use Rattle.deck.specs.declared.CardCursor.{CardCursor}
use Rattle.deck.specs.declared.numbers.Run.{Run}
use Rattle.deck.specs.declared.numbers.Number.{Number}
use Rattle.deck.specs.declared.cards.CardNumbers.{CardNumbers}
use Rattle.deck.specs.Cards.{Numbers, numbers, misshapen, before, numbers_at}
use Rattle.deck.specs.Checks.{counted}

-- ---- a run of digits

pub count-most : (s : List ℕ) (at : ℕ) → count_at s at ≤ 9
unfolding count_at
count-most s at = digits-most s 9 at

pub worth-small : (s : List ℕ) (at : ℕ) → worth_at s at < 10 ^ count_at s at
unfolding count_at worth_at
worth-small s at = omega (arith, digits-worth s 9 0 at)

worth-below : (s : List ℕ) (at k : ℕ) → count_at s at ≤ k → worth_at s at < 10 ^ k
worth-below s at k h = let m : 10 ^ count_at s at ≤ 10 ^ k = pow-le-pow_right {n = 10} (omega arith) h in omega (arith, worth-small s at)

pub count-within : (s : List ℕ) (at : ℕ) → at ≤ length s → at + count_at s at ≤ length s
unfolding count_at
count-within s at h = digits-within s 9 at h

-- ---- the part behind the point

pub part-small : (s : List ℕ) (at : ℕ) → part_worth s at < 10 ^ part_count s at
unfolding part_count part_worth
part-small s at = go (point_at s at)
  where
    go : (t : Bool) → cond t (worth_at s (part_from s at)) 0 < 10 ^ cond t (count_at s (part_from s at)) 0
    go true = worth-small s (part_from s at)
    go false = omega arith

-- ---- a number

good-count : (s : List ℕ) (at : ℕ) → good_at s at ≡ true → (0 < count_at s at + part_count s at) × (count_at s at + part_count s at < 9)
unfolding good_at count_good
good-count s at e =
    let n : ℕ = count_at s at + part_count s at in
    (ltb-true 0 n (and_left (ltb 0 n) (ltb n 9) e), ltb-true n 9 (and_right (ltb 0 n) (ltb n 9) e))

-- front is below k, and part below its scale: the tenths of both are below 10 k
tenths-below : (front k part scale : ℕ) → front < k → part < scale → 10 * front + 10 * part / scale < 10 * k
tenths-below front k part scale h g =
    let p : 0 < scale = omega arith in
    let d : 10 * part / scale < 10 = (div-lt_iff_lt-mul {k = scale} p).1 (omega arith) in
    omega arith

pub tenths-short : (s : List ℕ) (at : ℕ) → good_at s at ≡ true → tenths_at s at < 1000000000
unfolding tenths_at
tenths-short s at e =
    let g = good-count s at e in
    tenths-below (worth_at s at) (10 ^ 8) (part_worth s at) (10 ^ part_count s at) (worth-below s at 8 (omega arith)) (part-small s at)

pub number-past : (s : List ℕ) (at : ℕ) → good_at s at ≡ true → at < past_at s at
unfolding past_at part_from part_count
number-past s at e = go (point_at s at) (good-count s at e).0
  where
    go : (t : Bool) → 0 < count_at s at + cond t (count_at s (part_from s at)) 0 → at < cond t (part_from s at + cond t (count_at s (part_from s at)) 0) (at + count_at s at)
    go true h = omega arith
    go false h = omega arith

pub past-within : (s : List ℕ) (at : ℕ) → at ≤ length s → past_at s at ≤ length s
unfolding past_at part_from part_count point_at
past-within s at h = go (point_at s at) refl
  where
    go : (t : Bool) → point_at s at ≡ t → cond t (part_from s at + cond t (count_at s (part_from s at)) 0) (at + count_at s at) ≤ length s
    go true e =
        let p = present s (at + count_at s at) 46 (omega arith) (eqb-true _ _ e) in
        count-within s (part_from s at) (omega arith)
    go false e = count-within s at h

-- ---- a run in the code's terms

-- a run that was scanned to its end is the one at its start
pub run-is : {s : List ℕ} {start at count value : ℕ} (h : Scan 9 s start at count value) → digits s (9 - count) at ≡ 0
    → (scale : ℕ) → scale ≡ 10 ^ count → ◌≡◌ {A = Run} (record { past = cursor at; count = count; worth = value; scale = scale }) (run_at s start)
unfolding run_at worth_at count_at
run-is h z scale e = rw (scan-value h z, scan-count h z, e, h.place)

-- its digits are few, and worth less than its scale
pub record Small (r : Run) : Type 0 where
  pub few : r.count ≤ 9
  pub size : r.worth < 1000000000
  pub below : r.worth < r.scale

pub run-small : (s : List ℕ) (at : ℕ) {r : Run} → r ≡ run_at s at → Small r
unfolding run_at
run-small s at e = rw e (record { few = count-most s at; size = worth-below s at 9 (count-most s at); below = worth-small s at })

pub part-run : (s : List ℕ) (at : ℕ) {r : Run} → r ≡ part_at s at → Small r
unfolding part_at
part-run s at e = rw e (go (eqb (byte s at) 46))
  where
    go : (t : Bool) → Small (cond t (run_at s (at + 1)) (no_digit (cursor at)))
    go true = run-small s (at + 1) refl
    go false = record { few = omega arith; size = omega arith; below = omega arith }

-- the tenths of a run and of another behind its point
pub both-tenths : (front part : Run) → Small front → Small part → 10 * front.worth + 10 * part.worth / part.scale < 10000000000
both-tenths front part h g = tenths-below front.worth 1000000000 part.worth part.scale h.size g.below

-- a number is a run and the part behind it
part-is : (s : List ℕ) (at : ℕ) → part_at s (at + count_at s at) ≡ record { past = cursor (past_at s at); count = part_count s at; worth = part_worth s at; scale = 10 ^ part_count s at }
unfolding part_at run_at past_at part_count part_worth part_from point_at
part-is s at = go (eqb (byte s (at + count_at s at)) 46)
  where
    go : (t : Bool)
        → cond t (run_at s (at + count_at s at + 1)) (no_digit (cursor (at + count_at s at)))
        ≡ record {
          past = cursor (cond t (part_from s at + cond t (count_at s (part_from s at)) 0) (at + count_at s at));
          count = cond t (count_at s (part_from s at)) 0;
          worth = cond t (worth_at s (part_from s at)) 0;
          scale = 10 ^ cond t (count_at s (part_from s at)) 0;
        }
    go true = refl
    go false = refl

pub decimal-is : (s : List ℕ) (at : ℕ) {front part : Run} → front ≡ run_at s at → part ≡ part_at s front.past.at
    → ◌≡◌ {A = Number}
    (record {
      past = part.past;
      count = front.count + part.count;
      tenths = 10 * front.worth + 10 * part.worth / part.scale;
      whole = eqb (10 * part.worth % part.scale) 0;
    })
    (decimal_at s at)
unfolding decimal_at tenths_at whole_at run_at
decimal-is s at e f = rw (f, e, part-is s at)

-- where there is a number, and where there is none
pub number-some : (s : List ℕ) (at : ℕ) {x : Number} {good : Bool} → x ≡ decimal_at s at → good ≡ count_good x.count → then_some good x ≡ number_at s at
unfolding number_at good_at decimal_at
number-some s at {x} {good} e g = rw (g, e) (go (good_at s at))
  where
    go : (t : Bool) → then_some t (decimal_at s at) ≡ cond t (Some (decimal_at s at)) None
    go true = refl
    go false = refl

pub number-yes : (s : List ℕ) (at : ℕ) (x : Number) → Some x ≡ number_at s at → (good_at s at ≡ true) × (x ≡ decimal_at s at)
unfolding number_at
number-yes s at x e = go (good_at s at) e
  where
    go : (t : Bool) → Some x ≡ cond t (Some (decimal_at s at)) None → (t ≡ true) × (x ≡ decimal_at s at)
    go true e = (refl, cc)
    go false e = absurd cc

pub number-no : (s : List ℕ) (at : ℕ) → None ≡ number_at s at → good_at s at ≡ false
unfolding number_at
number-no s at e = go (good_at s at) e
  where
    go : (t : Bool) → ◌≡◌ {A = Option Number} None (cond t (Some (decimal_at s at)) None) → t ≡ false
    go true e = absurd cc
    go false e = refl

-- ---- the numbers of a card: n of them were there before, each a whole count or not, and x is the next

counted-before : (n t : ℕ) (w v : Bool) (ns : Numbers) → counted n w (before t v ns) ≡ counted (n + 1) (w && v) ns
counted-before n t w v misshapen = refl
counted-before n t w v (numbers ts vs past) = let p : n + suc (length ts) ≡ n + 1 + length ts = omega arith in rw (and_assoc, p)

module _ (s : List ℕ) (at n : ℕ) (w : Bool) where
  pub shape-none : 6 ≤ n → None ≡ counted n w (numbers_at s (6 - n) at)
  unfolding numbers_at
  shape-none h = let p : 6 - n ≡ 0 = omega arith in rw p

  module _ (h : n < 6) where
    one_more : 6 - n ≡ suc (6 - (n + 1))
    one_more = omega arith

    pub shape-bad : None ≡ number_at s at → None ≡ counted n w (numbers_at s (6 - n) at)
    unfolding numbers_at
    shape-bad e = rw (one_more, number-no s at e)

    module _ {x : Number} (e : Some x ≡ number_at s at) {close : ℕ} (c : close ≡ byte s x.past.at) where
      good-is : good_at s at ≡ true
      good-is = (number-yes s at x e).0

      number-is : x ≡ decimal_at s at
      number-is = (number-yes s at x e).1

      close-is : byte s (past_at s at) ≡ close
      unfolding decimal_at
      close-is = sym (rw number-is at c)

      pub shape-open : (close ≡ 10 → ⊥) → (close ≡ 32 → ⊥) → None ≡ counted n w (numbers_at s (6 - n) at)
      unfolding numbers_at
      shape-open p q = rw (one_more, good-is, close-is, ne_eqb _ _ p, ne_eqb _ _ q)

      module _ (whole : Bool) (i : whole ≡ (w && x.whole)) (past : CardCursor) (t : past ≡ cursor (x.past.at + 1)) where
        pub shape-last : close ≡ 10 → ◌≡◌ {A = Option CardNumbers} (Some (record { count = n + 1; whole = whole; past = past })) (counted n w (numbers_at s (6 - n) at))
        unfolding numbers_at decimal_at
        shape-last p = rw (one_more, good-is, close-is, p, t, i, number-is)

        pub shape-more : close ≡ 32 → counted (n + 1) whole (numbers_at s (6 - (n + 1)) past.at) ≡ counted n w (numbers_at s (6 - n) at)
        unfolding numbers_at decimal_at
        shape-more p =
            rw (one_more, good-is, close-is, p, t, i, number-is)
            (sym (counted-before n (tenths_at s at) w (whole_at s at) (numbers_at s (6 - (n + 1)) (past_at s at + 1))))
