-- One standing after another, each in a relation to the one before it: the steps that read a file, the turns of a run. Assumes nothing.
use Rattle.std.specs.Prelude.{◌≡◌, List, [], ◌∷◌, ℕ}

-- from a to x; those before x, the newest first
unfoldable pub Chain : {A : Type 0} → (A → A → Type 0) → A → List A → A → Type 0
Chain R a [] x = x ≡ a
Chain R a (w ∷ earlier) x = R w x × Chain R a earlier w

-- how many turns a loop over a file may take: 2⁵⁶, which no file uses up
abbrev pub most_turns : ℕ
most_turns = 72057594037927936
