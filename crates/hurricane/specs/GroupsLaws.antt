-- A row of the list of winds and a point of the plane keep the laws of groups. Assumes nothing.
use Rattle.std.specs.Prelude.{refl}
use Rattle.records.specs.Groups.{GroupLaws}
use Rattle.records.specs.GroupsLaws.{laws-of-two, laws-of-three}
use Rattle.hurricane.specs.declared.WindRow.{WindRow}
use Rattle.hurricane.specs.declared.PlanePoint.{PlanePoint}
use Rattle.hurricane.specs.Groups.{wind_row_of, of_wind_row, plane_point_of, of_plane_point}

pub wind_row-laws : GroupLaws WindRow 2 wind_row_of of_wind_row
wind_row-laws = laws-of-two of_wind_row (λ a b. record { radius = a; wind = b }) (λ x. refl) (λ x. refl)

pub plane_point-laws : GroupLaws PlanePoint 3 plane_point_of of_plane_point
plane_point-laws = laws-of-three of_plane_point (λ a b c. record { x = a; y = b; angle = c }) (λ x. refl) (λ x. refl)
