-- `shore_base` meets its contract. Assumes nothing.
use Rattle.std.proofs.Common.{ℤ, pos, ◌+ℤ◌, ◌*ℤ◌, w64, FitsSigned}
use Rattle.std.proofs.lemmas.Int.{to_z-of_z}
use lib.Signed.{le_z_yes}
use Rattle.ranges.proofs.Fits.{sized-fits, sized-add, sized-mul, sized-literal}
use Rattle.segment.specs.Segment.{shore_base, ShoreIn}
use Rattle.segment.proofs.formulas.shore_base.Goals as goal

-- each number on the way fits
module _ {l d : ℤ} (h : ShoreIn l d) where
  level : FitsSigned w64 (pos 100 *ℤ l)
  level = sized-fits (le_z_yes tt) (sized-mul (sized-literal 100) h.level_in)

  deficit : FitsSigned w64 (pos 114 *ℤ d)
  deficit = sized-fits (le_z_yes tt) (sized-mul (sized-literal 114) h.deficit-in)

  base : FitsSigned w64 (pos 100 *ℤ l +ℤ pos 114 *ℤ d)
  base = sized-fits (le_z_yes tt) (sized-add (sized-mul (sized-literal 100) h.level_in) (sized-mul (sized-literal 114) h.deficit-in))

pub returns : goal.returns
unfolding shore_base
returns c = simp (to_z-of_z, c.ranges.level, c.ranges.deficit, level c.requires, deficit c.requires, base c.requires)
