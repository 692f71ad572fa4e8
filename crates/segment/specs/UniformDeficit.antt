-- Equation 33's deficits in water depth and shore height. Document 01: "The 57 is half of the 114 that equation 33's 1.14 ft per inch gives." A
-- deficit that grows by the same at every point lifts the water at both ends of a segment, and at the shore, by 114 for each 0.01 inch: the
-- depth's two times 57 and the height's 114 say one thing. `UniformDeficit` is proved as `uniform-deficit` (`proofs/UniformDeficitLaws.antt`).
use Rattle.std.specs.Prelude.{◌≡◌, ℤ, pos, ◌+ℤ◌, ◌-ℤ◌, ◌*ℤ◌}
use Rattle.ranges.specs.declared.Range.{Range}
use Rattle.ranges.specs.Fraction.{Frac, ◌≈F◌, whole, ◌+F◌, ◌*F◌}
use Rattle.segment.specs.declared.Site.{Site}
use Rattle.segment.specs.declared.Weather.{Weather}
use Rattle.segment.specs.Segment.{depth_base, depth_of, shore_base}
use Rattle.segment.specs.ExactSegment.{exact_depth}

-- the weather of a segment with the deficit larger by e at both of its ends
abbrev pub larger_deficits : ℤ → Weather → Weather
larger_deficits e w = record { seconds = w.seconds; level = w.level; deficits = w.deficits +ℤ (e +ℤ e); cross = w.cross; onshore = w.onshore }

pub record UniformDeficit : Type 0 where
  -- what the water depth has beside S, before it is divided by 100, and what the shore height has beside S: both in 0.0001 ft
  pub depth : (a : Site) (w : Weather) (e : ℤ) → depth_base a (larger_deficits e w) ≡ depth_base a w +ℤ pos 114 *ℤ e
  pub height : (level deficit e : ℤ) → shore_base level (deficit +ℤ e) ≡ shore_base level deficit +ℤ pos 114 *ℤ e
  -- so, whatever the factor is: at any S, a hundred times the exact water depth moves just as the height does
  pub alike : (a : Site) (w : Weather) (level deficit e : ℤ) (s : Frac) →
      (whole (pos 100) *F exact_depth a (larger_deficits e w) s) ≈F (whole (pos 100) *F exact_depth a w s +F whole (shore_base level (deficit +ℤ e) -ℤ shore_base level deficit))
  -- and of the range, rounded as it is: for each half inch, 50 units, both of its ends rise by 0.57 ft
  pub range : (a : Site) (w : Weather) (s : Range) (k : ℤ) →
      depth_of a (larger_deficits (pos 50 *ℤ k) w) s ≡ record { low = (depth_of a w s).low +ℤ pos 57 *ℤ k; high = (depth_of a w s).high +ℤ pos 57 *ℤ k }
