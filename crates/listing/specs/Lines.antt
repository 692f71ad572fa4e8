-- The lines that the program prints, from "Reference runs" of document 01. Assumes nothing.
use Rattle.std.specs.Prelude.{ℕ, List, [], ◌∷◌, ◌++◌, ℤ}
use Rattle.listing.specs.Decimal.{decimal_of, signed_text}
use Rattle.listing.specs.declared.Line.{Line}
use Rattle.listing.specs.declared.Line.TheVariants as line

-- one space between values, and a line feed at the end of every line
abbrev pub space : List ℕ
space = 32 ∷ []

abbrev pub feed : List ℕ
feed = 10 ∷ []

-- `seconds low high`
abbrev pub names_line : List ℕ
names_line = 115 ∷ 101 ∷ 99 ∷ 111 ∷ 110 ∷ 100 ∷ 115 ∷ 32 ∷ 108 ∷ 111 ∷ 119 ∷ 32 ∷ 104 ∷ 105 ∷ 103 ∷ 104 ∷ 10 ∷ []

-- a line of three values
unfoldable pub values_line : ℤ → ℤ → ℤ → List ℕ
values_line a b c = signed_text a ++ space ++ signed_text b ++ space ++ signed_text c ++ feed

-- an accepted record: elapsed seconds, and the low and the high end of the shore height
abbrev pub record_line : ℤ → ℤ → ℤ → List ℕ
record_line elapsed low high = values_line elapsed low high

-- `refused` and a space
abbrev pub refused_word : List ℕ
refused_word = 114 ∷ 101 ∷ 102 ∷ 117 ∷ 115 ∷ 101 ∷ 100 ∷ 32 ∷ []

-- a refusal: the word, its number and its place
unfoldable pub refused_line : ℕ → ℕ → List ℕ
refused_line number place = refused_word ++ decimal_of number ++ space ++ decimal_of place ++ feed

-- `failed`: the last line where the system failed a read. Not of document 01's listing: decision 24
abbrev pub failed_line : List ℕ
failed_line = 102 ∷ 97 ∷ 105 ∷ 108 ∷ 101 ∷ 100 ∷ 10 ∷ []

-- the text of a line, whichever it is
abbrev pub line_text : Line → List ℕ
line_text line.Names = names_line
line_text (line.Record elapsed low high) = record_line elapsed low high
line_text (line.Refused number place) = refused_line number place
line_text line.Failed = failed_line
