-- What a call that puts a line into a lent buffer answers and leaves there. Assumes nothing.
use Rattle.std.specs.Prelude.{◌≡◌, cond, List, ◌++◌, ℕ, ◌+◌, length, take, drop, leb, Option, Some, None}

-- the buffer s with these bytes written over it from place `at` on
unfoldable pub written : List ℕ → ℕ → List ℕ → List ℕ
written bytes at s = take at s ++ bytes ++ drop (at + length bytes) s

-- the answer of a call, and the buffer as the call leaves it
pub record AfterPut : Type 0 where
  pub answer : Option ℕ
  pub out : List ℕ

abbrev pub after_put : Option ℕ → List ℕ → AfterPut
after_put r s = record { answer = r; out = s }

-- The line goes into the buffer s at place `at`, whole, and the answer is the place behind it;
-- or it does not fit, the answer is none, and the buffer stays as it is.
unfoldable pub put_of : List ℕ → ℕ → List ℕ → AfterPut
put_of line at s = cond (leb (at + length line) (length s)) (after_put (Some (at + length line)) (written line at s)) (after_put None s)

-- These bytes went into the buffer s at place `at`, which left it as t, and `next` is the place behind them.
pub record Wrote (bytes : List ℕ) (at : ℕ) (s : List ℕ) (next : ℕ) (t : List ℕ) : Type 0 where
  pub place : next ≡ at + length bytes
  pub buffer : t ≡ written bytes at s
