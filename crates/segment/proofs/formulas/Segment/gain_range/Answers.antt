-- `gain_range` meets its contract. Assumes nothing.
use Rattle.std.proofs.Common.{◌≡◌, ◌∙◌, true, ℤ, pos, ◌*ℤ◌, w64, FitsSigned}
use mathlib.Core.Path.{ap₂}
use borrow.Author.Rules.{sfits_of}
use Rattle.std.proofs.lemmas.Int.{to_z-of_z}
use lib.Signed.{le_z_yes}
use Rattle.ranges.specs.declared.Range.{Range}
use Rattle.ranges.specs.Quotient.{quotient_of}
use Rattle.ranges.proofs.Fits.{sized-fits}
use Rattle.records.specs.Limits.{water_ok, flux_ok}
use Rattle.records.proofs.LimitLaws.{water-positive, water-low-in, water-high-in}
use Rattle.segment.specs.Segment.{gain_top, gain_of}
use Rattle.segment.proofs.SegmentFits.{ends-in, divisor-in, divisor-positive}
use Rattle.segment.proofs.formulas.Segment.gain_range.Goals as goal

-- each number on the way fits
module _ (v : Range) (e : flux_ok v ≡ true) where
  vl : FitsSigned w64 v.low
  vl = sized-fits (le_z_yes tt) (ends-in v e).low

  vh : FitsSigned w64 v.high
  vh = sized-fits (le_z_yes tt) (ends-in v e).high

module _ (d : Range) (e : water_ok d ≡ true) where
  dl : FitsSigned w64 d.low
  dl = sized-fits (le_z_yes tt) (water-low-in d e)

  dh : FitsSigned w64 d.high
  dh = sized-fits (le_z_yes tt) (water-high-in d e)

  bl : FitsSigned w64 (pos 1000000000 *ℤ d.low)
  bl = sized-fits (le_z_yes tt) (divisor-in (water-low-in d e))

  bh : FitsSigned w64 (pos 1000000000 *ℤ d.high)
  bh = sized-fits (le_z_yes tt) (divisor-in (water-high-in d e))

pub gain_top-low-requires : goal.gain_top-low-requires
gain_top-low-requires c = simp (to_z-of_z, vl c.args.flux c.requires.0) (ends-in c.args.flux c.requires.0).low

pub gain_top-high-requires : goal.gain_top-high-requires
gain_top-high-requires c = simp (to_z-of_z, vh c.args.flux c.requires.0) (ends-in c.args.flux c.requires.0).high

pub overflow_mul-bottom : goal.overflow_mul-bottom
overflow_mul-bottom c = simp (to_z-of_z, dl c.args.depth c.requires.1) (bl c.args.depth c.requires.1)

pub overflow_mul-bottom-2 : goal.overflow_mul-bottom-2
overflow_mul-bottom-2 c = simp (to_z-of_z, dh c.args.depth c.requires.1) (bh c.args.depth c.requires.1)

pub quotient-requires : goal.quotient-requires
quotient-requires c =
    let d = c.args.depth in
    let e = c.requires.1 in
    simp (to_z-of_z, dl d e, dh d e, bl d e, bh d e) (divisor-positive d (water-positive d e))

pub returns : goal.returns
unfolding gain_of
returns c =
    let d = c.args.depth in
    let e = c.requires.1 in
    let fl : FitsSigned w64 c.gain_top-low.result = sfits_of c.gain_top-low.type_inv in
    let fh : FitsSigned w64 c.gain_top-high.result = sfits_of c.gain_top-high.type_inv in
    let low : c.gain_top-low.result ≡ gain_top c.args.self.site c.args.self.weather c.args.flux.low = simp (to_z-of_z, vl c.args.flux c.requires.0) at c.gain_top-low.ensures in
    let high : c.gain_top-high.result ≡ gain_top c.args.self.site c.args.self.weather c.args.flux.high = simp (to_z-of_z, vh c.args.flux c.requires.0) at c.gain_top-high.ensures in
    (simp (to_z-of_z, dl d e, dh d e, bl d e, bh d e, fl, fh) at c.quotient.ensures)
    ∙ ap₂ (λ (x y : ℤ). quotient_of (record { low = x; high = y }) (record { low = pos 1000000000 *ℤ d.low; high = pos 1000000000 *ℤ d.high })) low high
