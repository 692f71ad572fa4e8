-- The statements of specs/Lent.antt on a traverse: its points stand in the lent numbers, and they are those of the text whatever was lent. Assumes nothing.
use Rattle.std.proofs.Common.{Result, Ok, Err}
use mathlib.Core.Path.{◌≡◌, refl, sym, ap, subst, ◌∙◌}
use mathlib.Core.Bool.{Bool, true, false, cond}
use mathlib.Core.List.{List, ◌++◌}
use Prim.Native.Nat.{ℕ, zero, suc, ◌+◌, ◌*◌, ◌<◌, ◌≤◌}
use native.Mathlib.Omega.{arith}
use lib.ListN.{length, take}
use lib.Seq.{length-take-le, take-set-le, sets, length-sets}
use lib.Dec.{ltb, eqb}
use lib.IntN.{ℤ}
use borrow.Author.Tests.{lt-ltb, le-ltb, ltb-true, ltb-false}
use Rattle.records.specs.declared.Refusal.{Refusal}
use Rattle.records.specs.declared.Station.{Station}
use Rattle.records.specs.declared.Kind.TheVariants as kind
use Rattle.records.specs.Refusals.{refusal}
use Rattle.records.specs.Groups.{wholes, station_at, station_count, of_station, put_group}
use Rattle.records.specs.Limits.{count_ok, most_points}
use Rattle.records.specs.Shapes.{Traverse, traverse, count}
use Rattle.records.proofs.GroupLaws.{wholes-fit, sets-take}
use Rattle.records.proofs.GroupLaws.{wholes-times}
use Rattle.reader.specs.Text.{more}
use Rattle.reader.specs.Lines.{Outcome, read, refused, found, Leaves, leaves, names_at, holds}
use Rattle.reader.specs.Traverse.{head_names, point_names, Held, held, start, with_values, stored_at, one_more, with_point, value_line, line_by, line_at, counted_by, end_at, end_of, on_rest, rest_by, rest_at, traverse_read, traverse_left, no_points, traverse_by, traverse_of, end_step, end_left, on_step, more_step, step_at, traverse_step}
use Rattle.reader.specs.Lent.{HasTraverse, TraverseSize, StepHasTraverse, TraverseIsRead, TraverseIsRefused}
use Rattle.reader.specs.declared.traverse.Known.{Known}
use Rattle.reader.specs.declared.traverse.Known.TheVariants.{Names, Values, Columns, Points}
use Rattle.reader.specs.declared.traverse.TraverseRead.{TraverseRead}
use Rattle.reader.specs.declared.traverse.Progress.{Progress}
use Rattle.reader.specs.declared.traverse.Progress.TheVariants as progress
use Rattle.records.proofs.LimitLaws.{counts-in}
use Rattle.reader.specs.declared.Cursor.{Cursor}

-- ---- as many numbers as were lent

pub stored-size : (l : List ℤ) (i : ℕ) (x : Station) → length (stored_at l i x) ≡ length l
unfolding stored_at put_group
stored-size l i x = go (ltb i (station_count l))
  where
    go : (b : Bool) → length (cond b (sets l (2 * i) (of_station x)) l) ≡ length l
    go true = length-sets l (2 * i) (of_station x)
    go false = refl

abbrev SameSize : Held → Outcome Held → Type 0
SameSize h (read x a l) = length x.points ≡ length h.points
SameSize h (refused q) = Unit {0}

line-size : (s : List ℕ) (h : Held) (at line : ℕ) → SameSize h (line_at s h at line)
unfolding line_at with_point
line-size s h at line = go h.known
  where
    by : (r : Result Cursor Refusal) (x : Held) → length x.points ≡ length h.points → SameSize h (found r x)
    by (Ok c) x e = e
    by (Err q) x e = tt

    go : (k : Known) → SameSize h (line_by s k h.points at line)
    go Names = by (names_at s head_names at line) _ refl
    go Values = by (value_line s 3 at line).answer (held (with_values (value_line s 3 at line).kept) h.points) refl
    go (Columns d) = by (names_at s point_names at line) _ refl
    go (Points t) = by (value_line s 2 at line).answer (with_point (value_line s 2 at line).kept t h.points) (stored-size h.points t.count (station_at (value_line s 2 at line).kept 0))

module _ (w : List ℕ) (last : Bool) where
  step-size : (f : ℕ) (h : Held) (at line : ℕ) → length (step_at w last f h at line).numbers ≡ length h.points
  unfolding step_at
  step-size zero h at line = go last
    where
      go : (b : Bool) → length (cond b (end_left (end_of h at line)) (more_step h at line)).numbers ≡ length h.points
      go true = refl
      go false = refl
  step-size (suc f) h at line = go (holds (length w) last at 33) (ltb at (length w)) (line_at w h at line) (line-size w h at line) (λ k a l. step-size f k a l)
    where
      go : (b c : Bool) (r : Outcome Held) → SameSize h r → ((k : Held) (a l : ℕ) → length (step_at w last f k a l).numbers ≡ length k.points)
          → length (cond b (cond c (on_step h r (step_at w last f)) (end_left (end_of h at line))) (more_step h at line)).numbers ≡ length h.points
      go true true (read k a l) e ih = ih k a l ∙ e
      go true true (refused q) e ih = refl
      go true false r e ih = refl
      go false c r e ih = refl

pub traverse-size : TraverseSize
unfolding traverse_step
traverse-size w last h at line = step-size w last (length w) h at line

-- ---- a traverse that was read has a count that is allowed, and a place for each point

abbrev Fine : Outcome TraverseRead → List ℤ → Type 0
Fine (read t a l) points = (count_ok t.count ≡ true) × (t.count ≤ station_count points)
Fine (refused q) points = Unit {0}

end-fine : (h : Held) (at line : ℕ) → Fine (end_of h at line).answer h.points
unfolding end_at
end-fine h at line = go h.known
  where
    counted : (t : TraverseRead) (a b c : Bool) → count_ok t.count ≡ b → ltb (station_count h.points) t.count ≡ c
        → Fine (cond a (refused (refusal kind.Ended line)) (cond b (cond c (refused (refusal kind.Lent 0)) (read t at line)) (refused (refusal kind.Points t.count)))) h.points
    counted t true b c e f = tt
    counted t false true true e f = tt
    counted t false true false e f = (e, ltb-false (station_count h.points) t.count f)
    counted t false false c e f = tt

    go : (k : Known) → Fine (end_at (station_count h.points) k at line) h.points
    go Names = tt
    go Values = tt
    go (Columns d) = tt
    go (Points t) = unfold counted_by in counted t (eqb t.count 0) (count_ok t.count) (ltb (station_count h.points) t.count) refl refl

abbrev FineStep : Result Progress Refusal → List ℤ → Type 0
FineStep (Ok (progress.Read t)) points = (count_ok t.count ≡ true) × (t.count ≤ station_count points)
FineStep (Ok (progress.More c k)) points = Unit {0}
FineStep (Err q) points = Unit {0}

abbrev FineLeft : Leaves (Result Progress Refusal) → Type 0
FineLeft x = FineStep x.answer x.numbers

fine_end : (o : Outcome TraverseRead) (points : List ℤ) → Fine o points → FineLeft (leaves (end_step o) points)
unfolding end_step
fine_end (read k a l) points h = h
fine_end (refused q) points h = tt

module _ (w : List ℕ) (last : Bool) where
  step-fine : (f : ℕ) (h : Held) (at line : ℕ) → FineLeft (step_at w last f h at line)
  unfolding step_at
  step-fine zero h at line = go last
    where
      go : (b : Bool) → FineLeft (cond b (end_left (end_of h at line)) (more_step h at line))
      go true = fine_end (end_of h at line).answer h.points (end-fine h at line)
      go false = tt
  step-fine (suc f) h at line = go (holds (length w) last at 33) (ltb at (length w)) (line_at w h at line) (λ k a l. step-fine f k a l)
    where
      go : (b c : Bool) (r : Outcome Held) → ((k : Held) (a l : ℕ) → FineLeft (step_at w last f k a l))
          → FineLeft (cond b (cond c (on_step h r (step_at w last f)) (end_left (end_of h at line))) (more_step h at line))
      go true true (read k a l) ih = ih k a l
      go true true (refused q) ih = fine_end (refused q) h.points tt
      go true false r ih = fine_end (end_of h at line).answer h.points (end-fine h at line)
      go false c r ih = tt

has-traverse : (n : ℕ) (l : List ℤ) → count_ok n ≡ true → n ≤ station_count l → HasTraverse n l
has-traverse n l k h =
    let e : length (take (2 * n) l) ≡ 2 * n = length-take-le (2 * n) l (omega (arith, wholes-fit 2 (length l))) in
    record { counted = k; room = h; numbers = e; points = rw e (wholes-times 2 n (omega arith)) }

pub step-has-traverse : StepHasTraverse
unfolding traverse_step
step-has-traverse w last h at line t e =
    let f : FineStep (Ok (progress.Read t)) (step_at w last (length w) h at line).numbers = subst (λ (x : Result Progress Refusal). FineStep x (step_at w last (length w) h at line).numbers) e (step-fine w last (length w) h at line) in
    has-traverse t.count (step_at w last (length w) h at line).numbers f.0 f.1

-- ---- the same text, read into two slices that have room for the most points

-- how many points were read
abbrev points_read : Known → ℕ
points_read Names = 0
points_read Values = 0
points_read (Columns d) = 0
points_read (Points t) = t.count

-- two slices where the same is known: the points that were kept are the same
record Alike (k : Known) (l m : List ℤ) : Type 0 where
  pub room : most_points ≤ station_count l
  pub room' : most_points ≤ station_count m
  pub same : (n : ℕ) → n ≤ points_read k → n ≤ most_points → take (2 * n) l ≡ take (2 * n) m

-- a point that is stored further on changes none of the first
stored-before : (l : List ℤ) (i : ℕ) (x : Station) (n : ℕ) → n ≤ i → take (2 * n) (stored_at l i x) ≡ take (2 * n) l
unfolding stored_at put_group
stored-before l i x n h = go (ltb i (station_count l))
  where
    go : (b : Bool) → take (2 * n) (cond b (sets l (2 * i) (of_station x)) l) ≡ take (2 * n) l
    go true = take-set-le (2 * n) _ _ _ (omega arith) ∙ take-set-le (2 * n) l (2 * i) _ (omega arith)
    go false = refl

-- and where it is the last of them, it follows those before it
pub stored-at : (l : List ℤ) (i : ℕ) (x : Station) → i < station_count l → take (2 * (i + 1)) (stored_at l i x) ≡ take (2 * i) l ++ of_station x
unfolding stored_at put_group
stored-at l i x h =
    let e : 2 * (i + 1) ≡ 2 * i + 2 = omega arith in
    rw (lt-ltb _ _ h, e) (sets-take (of_station x) l (2 * i) (omega (arith, wholes-fit 2 (length l))))

pub more-most : (n : ℕ) → more n ≤ n + 1
unfolding more
more-most n = go (ltb n 18446744073709551615)
  where
    go : (b : Bool) → cond b (n + 1) n ≤ n + 1
    go true = omega arith
    go false = omega arith

-- one point more
alike-point : (t : TraverseRead) (l m v : List ℤ) → Alike (Points t) l m → Alike (Points (one_more t)) (stored_at l t.count (station_at v 0)) (stored_at m t.count (station_at v 0))
alike-point t l m v a =
    record {
      room = rw (stored-size l t.count (station_at v 0)) a.room;
      room' = rw (stored-size m t.count (station_at v 0)) a.room';
      same = λ n p q. go n p q (ltb t.count n) refl;
    }
  where
    go : (n : ℕ) → n ≤ more t.count → n ≤ most_points → (b : Bool) → ltb t.count n ≡ b → take (2 * n) (stored_at l t.count (station_at v 0)) ≡ take (2 * n) (stored_at m t.count (station_at v 0))
    go n p q true e =
        let f = more-most t.count in
        let g : t.count < n = ltb-true t.count n e in
        let u : n ≡ t.count + 1 = omega arith in
        rw (u, stored-at l t.count (station_at v 0) (omega (arith, a.room)), stored-at m t.count (station_at v 0) (omega (arith, a.room')), a.same t.count (omega arith) (omega arith))
    go n p q false e =
        let g : n ≤ t.count = ltb-false t.count n e in
        stored-before l t.count (station_at v 0) n g ∙ a.same n g q ∙ sym (stored-before m t.count (station_at v 0) n g)

-- before the first point
alike-none : {k j : Known} {l m : List ℤ} → points_read j ≡ 0 → Alike k l m → Alike j l m
alike-none e a = record { room = a.room; room' = a.room'; same = λ n p q. a.same n (omega (arith, e)) q }

abbrev AlikeBy : Outcome Held → Outcome Held → Type 0
AlikeBy (read x a i) (read y b j) = Alike x.known x.points y.points × (x.known ≡ y.known) × (a ≡ b) × (i ≡ j)
AlikeBy (read x a i) (refused q) = ⊥
AlikeBy (refused q) (read y b j) = ⊥
AlikeBy (refused q) (refused r) = q ≡ r

line-alike : (s : List ℕ) (k : Known) (l m : List ℤ) (at line : ℕ) → Alike k l m → AlikeBy (line_at s (held k l) at line) (line_at s (held k m) at line)
unfolding line_at
line-alike s k l m at line a = go k a
  where
    by : (r : Result Cursor Refusal) (j : Known) (x y : List ℤ) → Alike j x y → AlikeBy (found r (held j x)) (found r (held j y))
    by (Ok c) j x y z = (z, refl, refl, refl)
    by (Err q) j x y z = refl

    go : (k : Known) → Alike k l m → AlikeBy (line_by s k l at line) (line_by s k m at line)
    go Names z = by (names_at s head_names at line) Values l m (alike-none refl z)
    go Values z = unfold with_values in by (value_line s 3 at line).answer (with_values (value_line s 3 at line).kept) l m (alike-none refl z)
    go (Columns d) z = by (names_at s point_names at line) (Points (record { head = d; count = 0 })) l m (alike-none refl z)
    go (Points t) z = unfold with_point in by (value_line s 2 at line).answer (Points (one_more t)) _ _ (alike-point t l m (value_line s 2 at line).kept z)

-- the same answer, and the same traverse
record Agree (x y : Leaves (Outcome TraverseRead)) : Type 0 where
  pub answer : x.answer ≡ y.answer
  pub traverse : traverse_by x.answer x.numbers ≡ traverse_by y.answer y.numbers

agree-none : (q : Refusal) (l m : List ℤ) → Agree (leaves (refused q) l) (leaves (refused q) m)
agree-none q l m = record { answer = refl; traverse = refl }

end-alike : (k : Known) (l m : List ℤ) (at line : ℕ) → Alike k l m → Agree (end_of (held k l) at line) (end_of (held k m) at line)
unfolding end_at
end-alike k l m at line a = go k a
  where
    -- room for the most points is as good as more, and the points count that were kept
    counted : (t : TraverseRead) → Alike (Points t) l m → (a b : Bool) → count_ok t.count ≡ b
        → Agree (leaves (cond a (refused (refusal kind.Ended line)) (cond b (cond (ltb (station_count l) t.count) (refused (refusal kind.Lent 0)) (read t at line)) (refused (refusal kind.Points t.count)))) l)
        (leaves (cond a (refused (refusal kind.Ended line)) (cond b (cond (ltb (station_count m) t.count) (refused (refusal kind.Lent 0)) (read t at line)) (refused (refusal kind.Points t.count)))) m)
    counted t z true b e = agree-none _ l m
    counted t z false true e =
        let c = counts-in t.count e in
        rw (le-ltb (station_count l) t.count (omega (arith, z.room)), le-ltb (station_count m) t.count (omega (arith, z.room')))
        (record { answer = refl; traverse = rw (z.same t.count (omega arith) (omega arith)) })
    counted t z false false e = agree-none _ l m

    go : (k : Known) → Alike k l m → Agree (leaves (end_at (station_count l) k at line) l) (leaves (end_at (station_count m) k at line) m)
    go Names z = agree-none _ l m
    go Values z = agree-none _ l m
    go (Columns d) z = agree-none _ l m
    go (Points t) z = unfold counted_by in counted t z (eqb t.count 0) (count_ok t.count) refl

module _ (s : List ℕ) where
  rest-alike : (f : ℕ) (k : Known) (l m : List ℤ) (at line : ℕ) → Alike k l m → Agree (rest_by s f (held k l) at line) (rest_by s f (held k m) at line)
  unfolding rest_by
  rest-alike zero k l m at line a = end-alike k l m at line a
  rest-alike (suc f) k l m at line a = go (ltb at (length s)) (line_at s (held k l) at line) (line_at s (held k m) at line) (line-alike s k l m at line a) (λ j x y b i z. rest-alike f j x y b i z)
    where
      go : (t : Bool) (x y : Outcome Held) → AlikeBy x y → ((j : Known) (x y : List ℤ) (b i : ℕ) → Alike j x y → Agree (rest_by s f (held j x) b i) (rest_by s f (held j y) b i))
          → Agree (cond t (on_rest (held k l) x (rest_by s f)) (end_of (held k l) at line)) (cond t (on_rest (held k m) y (rest_by s f)) (end_of (held k m) at line))
      go true (read x b i) (read y c j) z ih = rw (← z.1, ← z.2, ← z.3) (ih x.known x.points y.points b i z.0)
      go true (read x b i) (refused q) z ih = absurd z
      go true (refused q) (read y c j) z ih = absurd z
      go true (refused q) (refused r) z ih = rw z (agree-none r l m)
      go false x y z ih = end-alike k l m at line a

  rest-fine : (f : ℕ) (h : Held) (at line : ℕ) → Fine (rest_by s f h at line).answer (rest_by s f h at line).numbers
  unfolding rest_by
  rest-fine zero h at line = end-fine h at line
  rest-fine (suc f) h at line = go (ltb at (length s)) (line_at s h at line) (λ k a l. rest-fine f k a l)
    where
      go : (c : Bool) (r : Outcome Held) → ((k : Held) (a l : ℕ) → Fine (rest_by s f k a l).answer (rest_by s f k a l).numbers)
          → Fine (cond c (on_rest h r (rest_by s f)) (end_of h at line)).answer (cond c (on_rest h r (rest_by s f)) (end_of h at line)).numbers
      go true (read k a l) ih = ih k a l
      go true (refused q) ih = tt
      go false r ih = end-fine h at line

  module _ (lent : List ℤ) (room : most_points ≤ station_count lent) where
    whole-alike : Agree (rest_at s (held start lent) 0 0) (rest_at s (held start no_points) 0 0)
    unfolding rest_at start wholes
    whole-alike =
        rest-alike (length s) start lent no_points 0 0
        (record { room = room; room' = omega arith; same = λ n p q. none n (omega arith) })
      where
        none : (n : ℕ) → n ≡ 0 → take (2 * n) lent ≡ take (2 * n) no_points
        none n e = rw e

    read_is : (o : Outcome TraverseRead) (l : List ℤ) (t : Traverse) (at line : ℕ) → Fine o l → traverse_by o l ≡ read t at line
        → (traverse_read o ≡ Ok (record { head = t.head; count = count t })) × (take (2 * count t) l ≡ t.points) × (count_ok (count t) ≡ true)
    unfolding traverse_read
    read_is (read k a b) l t at line f e =
        let u : traverse k.head (take (2 * k.count) l) ≡ t = cc in
        let z : station_count (take (2 * k.count) l) ≡ k.count = (has-traverse k.count l f.0 f.1).points in
        let c : count t ≡ k.count = ap count (sym u) ∙ z in
        (rw (c, ← u), rw c (ap (λ (x : Traverse). x.points) u), rw c f.0)
    read_is (refused q) l t at line f e = absurd cc

    refused-is : (o : Outcome TraverseRead) (l : List ℤ) (r : Refusal) → traverse_by o l ≡ refused r → traverse_read o ≡ Err r
    unfolding traverse_read
    refused-is (read k a b) l r e = absurd cc
    refused-is (refused q) l r e = let z : q ≡ r = cc in rw z

pub traverse-is-read : TraverseIsRead
unfolding traverse_of traverse_left rest_at
traverse-is-read s lent room t at line e =
    let x = rest_by s (length s) (held start lent) 0 0 in
    read_is s lent room x.answer x.numbers t at line (rest-fine s (length s) (held start lent) 0 0) ((whole-alike s lent room).traverse ∙ e)

pub traverse-is-refused : TraverseIsRefused
unfolding traverse_of traverse_left rest_at
traverse-is-refused s lent room r e =
    let x = rest_by s (length s) (held start lent) 0 0 in
    refused-is s lent room x.answer x.numbers r ((whole-alike s lent room).traverse ∙ e)
