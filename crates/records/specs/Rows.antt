-- The row of a segment.
use Rattle.std.specs.Prelude.{pos}
use Rattle.ranges.specs.declared.Range.{Range}
use Rattle.records.specs.declared.Row.{Row}

-- document 01: "A fresh traverse has the all-zero row everywhere"
abbrev pub fresh_row : Row
fresh_row = record { low = pos 0; high = pos 0; cross = pos 0 }

-- the flux range that a row holds
abbrev pub row_flux : Row → Range
row_flux v = record { low = v.low; high = v.high }
