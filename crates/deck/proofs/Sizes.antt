-- How large the numbers of a deck are: each has nine digits at most, as a value of `traverse.txt`. Assumes nothing.
use mathlib.Core.List.{List, [], ◌∷◌}
use Prim.Native.Nat.{ℕ, ◌<◌}

abbrev pub Short : List ℕ → Type 0
Short [] = Unit
Short (n ∷ ns) = (n < 1000000000) × Short ns
