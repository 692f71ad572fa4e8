-- Of the refusals' numbers. Assumes nothing.
use native.Mathlib.Omega.{arith}
use Prim.Native.Nat.{◌<◌}
use Rattle.records.specs.declared.Kind.{Kind}
use Rattle.records.specs.declared.Kind.TheVariants.{Names, Malformed, Ended, Differs, Points, TraverseValue, Distance, Lent, RecordValue, Depth, Flux, Setup, StormValue, WindRadii, CardOrder, CardUnit, CardCounts, CalmAngle, PanelPoints, ProfileEntry}
use Rattle.records.specs.Refusals.{number_of}

-- none is 0, which says that there is none
pub number-above : (k : Kind) → 0 < number_of k
number-above Names = omega arith
number-above Malformed = omega arith
number-above Ended = omega arith
number-above Differs = omega arith
number-above Points = omega arith
number-above TraverseValue = omega arith
number-above Distance = omega arith
number-above Lent = omega arith
number-above RecordValue = omega arith
number-above Depth = omega arith
number-above Flux = omega arith
number-above Setup = omega arith
number-above StormValue = omega arith
number-above WindRadii = omega arith
number-above CardOrder = omega arith
number-above CardUnit = omega arith
number-above CardCounts = omega arith
number-above CalmAngle = omega arith
number-above PanelPoints = omega arith
number-above ProfileEntry = omega arith
