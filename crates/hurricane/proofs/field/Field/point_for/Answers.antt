-- `point_for` meets its contract. Assumes nothing.
use Rattle.std.proofs.Common.{◌≡◌, ℕ, ℤ, ap, ◌∙◌, nat_abs, rules}
use borrow.Author.Rules.{sfits_of}
use mir.Facts.{to_z-of_z}
use mir.Syntax.{w64}
use mir.Val.{SFits}
use Rattle.records.specs.Groups.{at}
use Rattle.records.proofs.GroupLaws.{same_point}
use Rattle.hurricane.specs.declared.Hurricane.{Hurricane}
use Rattle.hurricane.specs.declared.PlanePoint.{PlanePoint}
use Rattle.hurricane.specs.Bounds.{ApartIn, HurricaneIn, PlanePointIn}
use Rattle.hurricane.specs.Field.{distance_of, hundredths_of, deficit_of, wind_of, angle_for, point_for}
use Rattle.hurricane.proofs.FieldLaws.{read, distance-nn}
use Rattle.hurricane.proofs.field.Field.point_for.Goals as goal

apart : (h : Hurricane) (p : PlanePoint) → HurricaneIn h → PlanePointIn p → ApartIn h.x h.y p.x p.y
apart h p v w = record { x₀-in = v.x-in; y₀-in = v.y-in; x-in = w.x-in; y-in = w.y-in }

-- the distance as the machine reads it
distance-read : (h : Hurricane) (p : PlanePoint) → SFits w64 h.x → SFits w64 h.y → SFits w64 p.x → SFits w64 p.y → (r : ℤ) → SFits w64 r
    → r ≡ distance_of (read h.x) (read h.y) (read p.x) (read p.y) → read r ≡ distance_of h.x h.y p.x p.y
distance-read h p hx hy px py r f e = to_z-of_z f ∙ (rw (to_z-of_z hx, to_z-of_z hy, to_z-of_z px, to_z-of_z py) at e)

-- the place of the table
place-is : (radius r d : ℤ) (m : ℕ) → SFits w64 radius → read r ≡ d → m ≡ nat_abs (hundredths_of (read radius) (read r)) → m ≡ nat_abs (hundredths_of radius d)
place-is radius r d m f e k = rw (to_z-of_z f, e) at k

-- the angle beside the wind
angle-is : (wind angle x w : ℤ) → SFits w64 angle → read wind ≡ w → x ≡ angle_for (read wind) (read angle) → x ≡ angle_for w angle
angle-is wind angle x w f e k = rw (e, to_z-of_z f) at k

pub hundredths-requires : goal.hundredths-requires
hundredths-requires c =
    let h = c.args.self.now.hurricane in
    let v = c.args.self.now.hurricane_in in
    let f : SFits w64 c.distance-r.result = sfits_of c.distance-r.type_inv in
    let d = distance-read h c.args.p (search rules) (search rules) (search rules) (search rules) c.distance-r.result f c.distance-r.ensures in
    let r : SFits w64 h.radius = search rules in
    rw (to_z-of_z r, d) (v.radius-low, (v.radius-high, distance-nn _ _ _ _ (apart h c.args.p v c.requires)))

pub returns : goal.returns
unfolding point_for
returns c =
    let v = c.args.self.now in
    let h = v.hurricane in
    let f : SFits w64 c.distance-r.result = sfits_of c.distance-r.type_inv in
    let d = distance-read h c.args.p (search rules) (search rules) (search rules) (search rules) c.distance-r.result f c.distance-r.ensures in
    let m = place-is h.radius c.distance-r.result _ c.hundredths.result (search rules) d c.hundredths.ensures.value in
    let w : SFits w64 c.wind_at-wind.result = sfits_of c.wind_at-wind.type_inv in
    let g : SFits w64 c.deficit_at-deficit.result = sfits_of c.deficit_at-deficit.type_inv in
    let a : SFits w64 c.angle_for-angle.result = sfits_of c.angle_for-angle.type_inv in
    let e : c.wind_at-wind.result ≡ wind_of v.winds.now (distance_of h.x h.y c.args.p.x c.args.p.y) = rw d at c.wind_at-wind.ensures in
    same_point (to_z-of_z w ∙ e)
    (to_z-of_z a ∙ angle-is c.wind_at-wind.result c.args.p.angle c.angle_for-angle.result _ (search rules) (to_z-of_z w ∙ e) c.angle_for-angle.ensures)
    (to_z-of_z g ∙ c.deficit_at-deficit.ensures ∙ ap (deficit_of (at v.table.now) h.central h.edge) m)
