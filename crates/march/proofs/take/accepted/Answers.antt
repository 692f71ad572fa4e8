-- `accepted` meets its contract. Assumes nothing.
use Rattle.std.proofs.Common.{w64, FitsSigned, ◌+ℤ◌}
use Rattle.std.proofs.lemmas.Int.{to_z-of_z}
use lib.Signed.{le_z_yes}
use Rattle.ranges.proofs.Fits.{sized-fits, sized-add}
use Rattle.march.proofs.take.accepted.Goals as goal

pub returns-clause-height : goal.returns-clause-height
returns-clause-height c =
    let s = c.args.setup in
    let v = c.requires in
    let low : FitsSigned w64 s.low = sized-fits (le_z_yes tt) v.last-in.low in
    let high : FitsSigned w64 s.high = sized-fits (le_z_yes tt) v.last-in.high in
    let low-base : FitsSigned w64 (s.low +ℤ c.args.base) = sized-fits (le_z_yes tt) (sized-add v.last-in.low v.base-in) in
    let high-base : FitsSigned w64 (s.high +ℤ c.args.base) = sized-fits (le_z_yes tt) (sized-add v.last-in.high v.base-in) in
    simp (to_z-of_z, low, high, c.ranges.base, low-base, high-base)
