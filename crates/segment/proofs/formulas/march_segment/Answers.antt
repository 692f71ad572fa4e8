-- `march_segment` meets its contract: each check in turn. Assumes nothing.
use Rattle.std.proofs.Common.{rules, sym, ◌∙◌}
use Rattle.records.proofs.CheckOrderLaws.{need-passed}
use Rattle.segment.specs.Segment.{segment_of}
use Rattle.segment.proofs.SegmentFits.{gain-in}
use Rattle.segment.proofs.formulas.march_segment.Goals as goal

pub next_setup-next-requires : goal.next_setup-next-requires
next_setup-next-requires c = (
  c.requires.setup,
  rw c.gain_range-gain.ensures
      (gain-in _ _ c.requires.site c.requires.weather (sym c.range_inside-2.ensures ∙ need-passed _ _ (sym c.in_ok-need-2.ensures))
      (sym c.range_inside.ensures ∙ need-passed _ _ (sym c.in_ok-need.ensures))),
)

pub returns : goal.returns
unfolding segment_of
returns c = search rules
