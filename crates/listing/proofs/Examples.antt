-- Worked examples of the definitions: numbers at the edges of their digits and of their types, and document 01's listing.
-- Assumes nothing.
use mathlib.Core.Path.{◌≡◌, refl}
use mathlib.Core.List.{[], ◌∷◌}
use lib.IntN.{pos, negsuc}
use Rattle.listing.specs.Decimal.{digits_of, decimal_of, signed_text}
use Rattle.listing.specs.Lines.{values_line, record_line, refused_line}

pub zero-digit : decimal_of 0 ≡ 48 ∷ []
unfolding decimal_of digits_of
zero-digit = refl

pub seven : decimal_of 7 ≡ 55 ∷ []
unfolding decimal_of digits_of
seven = refl

pub ten : decimal_of 10 ≡ 49 ∷ 48 ∷ []
unfolding decimal_of digits_of
ten = refl

pub minus-five : signed_text (negsuc 4) ≡ 45 ∷ 53 ∷ []
unfolding signed_text decimal_of digits_of
minus-five = refl

-- 1600
pub sixteen-hundred : decimal_of 1600 ≡ 49 ∷ 54 ∷ 48 ∷ 48 ∷ []
unfolding decimal_of digits_of
sixteen-hundred = refl

-- the greatest u64 and the least i64
pub greatest : decimal_of 18446744073709551615
    ≡ 49 ∷ 56 ∷ 52 ∷ 52 ∷ 54 ∷ 55 ∷ 52 ∷ 52 ∷ 48 ∷ 55 ∷ 51 ∷ 55 ∷ 48 ∷ 57 ∷ 53 ∷ 53 ∷ 49 ∷ 54 ∷ 49 ∷ 53 ∷ []
unfolding decimal_of digits_of
greatest = refl

pub least : signed_text (negsuc 9223372036854775807)
    ≡ 45 ∷ 57 ∷ 50 ∷ 50 ∷ 51 ∷ 51 ∷ 55 ∷ 50 ∷ 48 ∷ 51 ∷ 54 ∷ 56 ∷ 53 ∷ 52 ∷ 55 ∷ 55 ∷ 53 ∷ 56 ∷ 48 ∷ 56 ∷ []
unfolding signed_text decimal_of digits_of
least = refl

-- document 01's listing: `0 2325 2326` and `1600 7302 7303`
pub first-record : record_line (pos 0) (pos 2325) (pos 2326)
    ≡ 48 ∷ 32 ∷ 50 ∷ 51 ∷ 50 ∷ 53 ∷ 32 ∷ 50 ∷ 51 ∷ 50 ∷ 54 ∷ 10 ∷ []
unfolding values_line signed_text decimal_of digits_of
first-record = refl

pub second-record : record_line (pos 1600) (pos 7302) (pos 7303)
    ≡ 49 ∷ 54 ∷ 48 ∷ 48 ∷ 32 ∷ 55 ∷ 51 ∷ 48 ∷ 50 ∷ 32 ∷ 55 ∷ 51 ∷ 48 ∷ 51 ∷ 10 ∷ []
unfolding values_line signed_text decimal_of digits_of
second-record = refl

-- `refused 12 3`
pub a-refusal : refused_line 12 3
    ≡ 114 ∷ 101 ∷ 102 ∷ 117 ∷ 115 ∷ 101 ∷ 100 ∷ 32 ∷ 49 ∷ 50 ∷ 32 ∷ 51 ∷ 10 ∷ []
unfolding refused_line decimal_of digits_of
a-refusal = refl
