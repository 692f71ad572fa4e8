-- `limited` meets its contract. Assumes nothing.
use mir.Facts.{to_z-of_z}
use Rattle.ranges.proofs.LimitLaws.{limit_within}
use Rattle.ranges.proofs.limit.limited.Goals as goal

pub limited_end-low-requires : goal.limited_end-low-requires
limited_end-low-requires c = rw (c.limit_range-c.ensures, to_z-of_z c.ranges.b) (limit_within c.requires)

pub limited_end-high-requires : goal.limited_end-high-requires
limited_end-high-requires c = rw (c.limit_range-c.ensures, to_z-of_z c.ranges.b) (limit_within c.requires)
