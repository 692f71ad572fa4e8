-- The march that is left after the segments that are done: what the loop of `march` keeps, for any step. And what a march that is done says of
-- each of its segments. Assumes nothing.
use mathlib.Core.Path.{◌≡◌, refl, sym, ap, ◌∙◌}
use mathlib.Core.List.{List, [], ◌∷◌, ◌++◌, append_assoc, append-nil}
use native.Mathlib.Omega.{arith}
use Prim.Native.Nat.{ℕ, zero, suc, ◌+◌, ◌-◌, ◌≤◌, ◌<◌}
use lib.ListN.{length, length-set, get_or, take, set}
use lib.Seq.{take_all}
use Rattle.std.proofs.lemmas.List.{take_more_set}
use Rattle.std.specs.Prelude.{Result, Ok, Err}
use Rattle.ranges.specs.declared.Range.{Range}
use Rattle.segment.specs.declared.Leg.{Leg}
use Rattle.records.specs.declared.Refusal.{Refusal}
use Rattle.march.specs.March.{March, stopped, done, before, further, march_by, no_setup}
use Rattle.march.specs.Take.{no_leg}

-- ---- legs that are done, before a march

abbrev pub prepend : List Leg → March → March
prepend legs (stopped refusal) = stopped refusal
prepend legs (done rest) = done (legs ++ rest)

prepend-none : (m : March) → prepend [] m ≡ m
prepend-none (stopped refusal) = refl
prepend-none (done rest) = refl

prepend-before : (legs : List Leg) (leg : Leg) (m : March) → prepend legs (before leg m) ≡ prepend (legs ++ (leg ∷ [])) m
prepend-before legs leg (stopped refusal) = refl
prepend-before legs leg (done rest) = ap done (sym (append_assoc legs (leg ∷ []) rest))

-- ---- the loop: the march that is left, after what is done, is the whole march

pub record MarchInv (segment : ℕ → Range → Result Leg Refusal) (legs : List Leg) (s : Range) (i : ℕ) : Type 0 where
  pub reach : i ≤ length legs
  pub rest : prepend (take i legs) (march_by segment (length legs - i) i s) ≡ march_by segment (length legs) 0 no_setup

pub march-start : (segment : ℕ → Range → Result Leg Refusal) (legs : List Leg) → MarchInv segment legs no_setup 0
march-start segment legs = record {
  reach = omega arith;
  rest = let z : length legs - 0 ≡ length legs = omega arith in rw (none legs, z) (prepend-none (march_by segment (length legs) 0 no_setup));
}
  where
    none : (l : List Leg) → take 0 l ≡ []
    none [] = refl
    none (x ∷ l) = refl

module _ (segment : ℕ → Range → Result Leg Refusal) (legs : List Leg) (s : Range) (i : ℕ) (v : MarchInv segment legs s i) where
  one_more : i < length legs → length legs - i ≡ suc (length legs - (i + 1))
  one_more h = omega arith

  pub march-on : (leg : Leg) → i < length legs → segment i s ≡ Ok leg → MarchInv segment (set legs i leg) leg.setup (i + 1)
  unfolding march_by
  march-on leg h e =
      let r : prepend (take (i + 1) (set legs i leg)) (march_by segment (length legs - (i + 1)) (i + 1) leg.setup) ≡ prepend (take i legs) (march_by segment (length legs - i) i s)
      = rw (one_more h, e, take_more_set legs i leg h) (sym (prepend-before (take i legs) leg (march_by segment (length legs - (i + 1)) (i + 1) leg.setup))) in
      let l : i + 1 ≤ length legs = omega arith in
      record { reach = rw (length-set legs i leg) l; rest = rw (length-set legs i leg) (r ∙ v.rest) }

  pub march-stop : (refusal : Refusal) → i < length legs → segment i s ≡ Err refusal → stopped refusal ≡ march_by segment (length legs) 0 no_setup
  unfolding march_by
  march-stop refusal h e =
      let r : prepend (take i legs) (march_by segment (length legs - i) i s) ≡ stopped refusal = rw (one_more h, e) in
      sym r ∙ v.rest

  pub march-all : length legs ≤ i → done legs ≡ march_by segment (length legs) 0 no_setup
  unfolding march_by
  march-all h =
      let whole : take i legs ≡ legs = take_all i legs h in
      let z : length legs - i ≡ 0 = omega arith in
      let r : prepend legs (march_by segment 0 i s) ≡ march_by segment (length legs) 0 no_setup = rw (z, whole) at v.rest in
      ap done (sym (append-nil legs)) ∙ r

-- ---- a march that is done

-- it took its first step, and the rest is done
record Split (st : Result Leg Refusal) (rest : Range → March) (legs : List Leg) : Type 0 where
  pub leg : Leg
  pub tail : List Leg
  pub on : st ≡ Ok leg
  pub after : rest leg.setup ≡ done tail
  pub is : legs ≡ leg ∷ tail

never : (refusal : Refusal) (legs : List Leg) → stopped refusal ≡ done legs → ⊥
never refusal legs e = let z : ◌≡◌ {A = ℕ} 0 1 = cc in omega arith

split : (st : Result Leg Refusal) (rest : Range → March) (legs : List Leg) → further st rest ≡ done legs → Split st rest legs
split (Err refusal) rest legs e = absurd (never refusal legs e)
split (Ok leg) rest legs e = go (rest leg.setup) refl e
  where
    go : (m : March) → rest leg.setup ≡ m → before leg m ≡ done legs → Split (Ok leg) rest legs
    go (stopped refusal) h e = absurd (never refusal legs e)
    go (done tail) h e = record { leg = leg; tail = tail; on = refl; after = h; is = cc }

-- the setup range before leg j, where s is that before the first
abbrev pub setup_into : Range → List Leg → ℕ → Range
setup_into s legs zero = s
setup_into s legs (suc j) = (get_or legs j no_leg).setup

-- all k segments from segment i on passed, each with the setup that the one before left
pub record DoneBy (segment : ℕ → Range → Result Leg Refusal) (k i : ℕ) (s : Range) (legs : List Leg) : Type 0 where
  pub size : length legs ≡ k
  pub each : (j : ℕ) → j < k → segment (i + j) (setup_into s legs j) ≡ Ok (get_or legs j no_leg)

pub march-done : (segment : ℕ → Range → Result Leg Refusal) (k i : ℕ) (s : Range) (legs : List Leg) → march_by segment k i s ≡ done legs → DoneBy segment k i s legs
unfolding march_by
march-done segment zero i s legs e = record { size = sym (ap length (same [] legs e)); each = λ j h. absurd (none j h) }
  where
    same : (a b : List Leg) → done a ≡ done b → a ≡ b
    same a b e = cc

    none : (j : ℕ) → j < 0 → ⊥
    none j h = omega arith
march-done segment (suc k) i s legs e =
    let p = split (segment i s) (march_by segment k (i + 1)) legs e in
    let d = march-done segment k (i + 1) p.leg.setup p.tail p.after in
    record {
      size = rw p.is (ap suc d.size);
      each = λ j h. rw p.is (later p d j h);
    }
  where
    later : (p : Split (segment i s) (march_by segment k (i + 1)) legs) → DoneBy segment k (i + 1) p.leg.setup p.tail → (j : ℕ) → j < suc k →
        segment (i + j) (setup_into s (p.leg ∷ p.tail) j) ≡ Ok (get_or (p.leg ∷ p.tail) j no_leg)
    later p d zero h = let z : i + 0 ≡ i = omega arith in rw z p.on
    later p d (suc zero) h = let z : i + 1 ≡ i + 1 + 0 = omega arith in rw z (d.each 0 (omega arith))
    later p d (suc (suc j)) h = let z : i + suc (suc j) ≡ i + 1 + suc j = omega arith in rw z (d.each (suc j) (omega arith))
