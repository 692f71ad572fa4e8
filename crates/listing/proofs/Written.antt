-- Laws of `written`: what stores and calls one behind the other write together. Assumes nothing.
use mathlib.Core.Path.{◌≡◌, sym, ◌∙◌}
use mathlib.Core.List.{List, [], ◌∷◌, ◌++◌, append-nil}
use Prim.Native.Nat.{ℕ, suc, ◌+◌, ◌<◌, ◌≤◌}
use native.Mathlib.Omega.{arith}
use lib.ListN.{length, set, length-append, take-append-drop}
use lib.Seq.{sets, sets-eq, length-sets}
use Rattle.listing.specs.Put.{written, Wrote}

-- `written` is a run of stores, where the bytes fit
as-stores : (bytes : List ℕ) (at : ℕ) (s : List ℕ) → at + length bytes ≤ length s → written bytes at s ≡ sets s at bytes
unfolding written
as-stores bytes at s h = sym (sets-eq bytes s at h)

pub length-written : (bytes : List ℕ) (at : ℕ) (s : List ℕ) → at + length bytes ≤ length s → length (written bytes at s) ≡ length s
length-written bytes at s h = rw (as-stores bytes at s h) (length-sets s at bytes)

stores-on : (xs ys : List ℕ) (at : ℕ) (s : List ℕ) → sets (sets s at xs) (at + length xs) ys ≡ sets s at (xs ++ ys)
stores-on [] ys at s = let e : at + 0 ≡ at = omega arith in rw e
stores-on (x ∷ xs) ys at s =
    let e : at + suc (length xs) ≡ suc at + length xs = omega arith in
    rw e (stores-on xs ys (suc at) (set s at x))

-- no bytes
pub written_none : (at : ℕ) (s : List ℕ) → written [] at s ≡ s
unfolding written
written_none at s = let e : at + 0 ≡ at = omega arith in rw (e, append-nil) (take-append-drop at s)

-- bytes behind bytes
pub written_on : (xs ys : List ℕ) (at : ℕ) (s : List ℕ) → at + length xs + length ys ≤ length s
    → written ys (at + length xs) (written xs at s) ≡ written (xs ++ ys) at s
written_on xs ys at s h =
    let a : at + length xs ≤ length s = omega arith in
    let b : at + length (xs ++ ys) ≤ length s = omega (arith, length-append xs ys) in
    let k : length (sets s at xs) ≡ length s = length-sets s at xs in
    rw (as-stores xs at s a, as-stores (xs ++ ys) at s b)
    (as-stores ys (at + length xs) (sets s at xs) (omega arith) ∙ stores-on xs ys at s)

-- one byte
pub written_one : (b at : ℕ) (s : List ℕ) → at < length s → written (b ∷ []) at s ≡ set s at b
written_one b at s h = as-stores (b ∷ []) at s (omega arith)

-- one byte behind bytes
pub written-close : (xs : List ℕ) (b at : ℕ) (s : List ℕ) → at + length xs < length s
    → set (written xs at s) (at + length xs) b ≡ written (xs ++ (b ∷ [])) at s
written-close xs b at s h =
    let k : length (written xs at s) ≡ length s = length-written xs at s (omega arith) in
    sym (written_one b (at + length xs) (written xs at s) (omega arith)) ∙ written_on xs (b ∷ []) at s (omega arith)

-- ---- calls one behind the other

module _ {xs ys : List ℕ} {at : ℕ} {s : List ℕ} {next : ℕ} {t : List ℕ} (first : Wrote xs at s next t) where
  pub wrote_on : {last : ℕ} {u : List ℕ} → Wrote ys next t last u → at + length xs + length ys ≤ length s → Wrote (xs ++ ys) at s last u
  wrote_on then h = record {
    place = omega (arith, length-append xs ys);
    buffer = then.buffer ∙ rw (first.place, first.buffer) (written_on xs ys at s h);
  }

-- the place behind a number and the byte that closes it
pub wrote-next : (xs : List ℕ) (b : ℕ) {at : ℕ} {s : List ℕ} {next : ℕ} {t : List ℕ}
    → Wrote (xs ++ (b ∷ [])) at s next t → next ≡ at + length xs + 1
wrote-next xs b h = omega (arith, h.place, length-append xs (b ∷ []))

-- bytes, and one byte stored behind them
pub wrote_close : {xs : List ℕ} {at : ℕ} {s : List ℕ} {next : ℕ} {t : List ℕ} (b : ℕ) → Wrote xs at s next t → at + length xs < length s
    → Wrote (xs ++ (b ∷ [])) at s (next + 1) (set t next b)
wrote_close {xs} {at} {s} b w h = record {
  place = omega (arith, w.place, length-append xs (b ∷ []));
  buffer = rw (w.place, w.buffer) (written-close xs b at s h);
}
