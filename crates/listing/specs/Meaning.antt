-- What a decimal number says, apart from how it is made: the measure for `decimal_of` and `signed_text`. Assumes nothing.
use Rattle.std.specs.Prelude.{◌≡◌, List, [], ◌∷◌, ℕ, ◌+◌, ◌-◌, ◌*◌, ◌≤◌, cond, eqb, ℤ, pos, neg_ℤ}

-- what digits are worth behind digits that are worth v
unfoldable pub worth_after : ℕ → List ℕ → ℕ
worth_after v [] = v
worth_after v (b ∷ bs) = worth_after (v * 10 + (b - 48)) bs

-- what digits are worth
abbrev pub worth : List ℕ → ℕ
worth bs = worth_after 0 bs

-- each byte is a digit
abbrev pub AllDigits : List ℕ → Type 0
AllDigits [] = Unit
AllDigits (b ∷ bs) = ((48 ≤ b) × (b ≤ 57)) × AllDigits bs

-- there is a first digit, and it is `0` only where it is the only one
abbrev pub NoLeadingZero : List ℕ → Type 0
NoLeadingZero [] = ⊥
NoLeadingZero (b ∷ bs) = b ≡ 48 → bs ≡ []

-- bs is the decimal number n
pub record Decimal (n : ℕ) (bs : List ℕ) : Type 0 where
  pub digits : AllDigits bs
  pub leading : NoLeadingZero bs
  pub worths : worth bs ≡ n

-- what digits with an optional minus are worth
unfoldable pub worth_signed : List ℕ → ℤ
worth_signed [] = pos 0
worth_signed (b ∷ bs) = cond (eqb b 45) (neg_ℤ (pos (worth bs))) (pos (worth (b ∷ bs)))
