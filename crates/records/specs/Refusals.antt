-- The number of each kind of refusal, 1 to 12 by document 01 and from 13 on by document 02: the one place where the definitions have them.
use Rattle.std.specs.Prelude.{ℕ}
use Rattle.records.specs.declared.Kind.{Kind}
use Rattle.records.specs.declared.Kind.TheVariants.{Names, Malformed, Ended, Differs, Points, TraverseValue, Distance, Lent, RecordValue, Depth, Flux, Setup, StormValue, WindRadii, CardOrder, CardUnit, CardCounts, CalmAngle, PanelPoints, ProfileEntry}
use Rattle.records.specs.declared.Refusal.{Refusal}

abbrev pub number_of : Kind → ℕ
number_of Names = 1
number_of Malformed = 2
number_of Ended = 3
number_of Differs = 4
number_of Points = 5
number_of TraverseValue = 6
number_of Distance = 7
number_of Lent = 8
number_of RecordValue = 9
number_of Depth = 10
number_of Flux = 11
number_of Setup = 12
number_of StormValue = 13
number_of WindRadii = 14
number_of CardOrder = 15
number_of CardUnit = 16
number_of CardCounts = 17
number_of CalmAngle = 18
number_of PanelPoints = 19
number_of ProfileEntry = 20

-- a refusal of a kind at a place
abbrev pub refusal : Kind → ℕ → Refusal
refusal kind place = record { kind = kind; place = place }
