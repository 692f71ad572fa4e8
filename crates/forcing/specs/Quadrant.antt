-- Sine and cosine of an angle in tenths of a degree, 0 to 3,599, in ten-thousandths. Document 01: "Other angles go by quadrant with the usual signs."
use Rattle.std.specs.Prelude.{Bool, true, false, cond, ℤ, pos, nat_abs, neg_ℤ, ◌+ℤ◌, ◌-ℤ◌, ◌≤ℤ◌}
use Rattle.std.specs.Int.Signed.{le_z, lt_z}
use Rattle.forcing.specs.declared.sines.Place.{Place}
use Rattle.forcing.specs.Sine.{sine_entry}

-- the limits of an angle
pub record Angle (a : ℤ) : Type 0 where
  pub low : pos 0 ≤ℤ a
  pub high : a ≤ℤ pos 3599

-- the limits of a place in the table
pub record InTable (z : ℤ) : Type 0 where
  pub low : pos 0 ≤ℤ z
  pub high : z ≤ℤ pos 900

-- an angle's place in the table, and whether the sine is negative there
abbrev pub place_of : ℤ → Place
place_of a =
    cond (le_z a (pos 900)) (record { at = nat_abs a; negative = false })
    (cond (le_z a (pos 1800)) (record { at = nat_abs (pos 1800 -ℤ a); negative = false })
    (cond (le_z a (pos 2700)) (record { at = nat_abs (a -ℤ pos 1800); negative = true })
    (record { at = nat_abs (pos 3600 -ℤ a); negative = true })))

-- a table entry with its sign
abbrev pub signed : Bool → ℤ → ℤ
signed true x = neg_ℤ x
signed false x = x

unfoldable pub sine_of : ℤ → ℤ
sine_of a = signed (place_of a).negative (sine_entry (place_of a).at)

-- a quarter turn on: 900 more, less 3,600 where that is past the circle
abbrev pub quarter_on : ℤ → ℤ
quarter_on a = cond (lt_z a (pos 2700)) (a +ℤ pos 900) (a -ℤ pos 2700)

unfoldable pub cosine_of : ℤ → ℤ
cosine_of a = sine_of (quarter_on a)
