-- `wind_at` meets its contract. Assumes nothing.
use Rattle.std.proofs.Common.{◌≡◌, ◌∙◌, rules, arith}
use borrow.Author.Rules.{sfits_of}
use mir.Facts.{to_z-of_z}
use mir.Syntax.{w64}
use mir.Val.{SFits}
use Rattle.hurricane.specs.declared.WindRow.{WindRow}
use Rattle.hurricane.proofs.FieldLaws.{read, rows-some, rows-found, wind-first, wind-last, rows-around, wind-found}
use Rattle.hurricane.proofs.field.Field.wind_at.Goals as goal

-- a row's wind as the machine reads it
wind-is : {w v : WindRow} → SFits w64 w.wind → w ≡ v → read w.wind ≡ v.wind
wind-is f e = rw (to_z-of_z f, e)

pub bounds-rows-0 : goal.bounds-rows-0
bounds-rows-0 c = omega (arith, rows-some c.args.self.now.winds_in)

pub returns-in-0 : goal.returns-in-0
returns-in-0 c =
    let rows = c.as_chunks.ensures in
    let point = c.partition_point.ensures in
    let f = rows-found c.args.self.now.winds_in rows.front rows.front_len c.args.r point.bound point.partitioned (λ a b f k. search rules) in
    wind-is (search rules) c.read.ensures ∙ wind-first f c.in-0.is

pub returns-in_default : goal.returns-in_default
returns-in_default c =
    let rows = c.as_chunks.ensures in
    let point = c.partition_point.ensures in
    let f = rows-found c.args.self.now.winds_in rows.front rows.front_len c.args.r point.bound point.partitioned (λ a b f k. search rules) in
    wind-is (search rules) c.read-in_default.ensures ∙ wind-last f (omega arith) c.if-n-rows.true

pub wind_between-requires : goal.wind_between-requires
wind_between-requires c =
    let rows = c.as_chunks.ensures in
    let point = c.partition_point.ensures in
    let f = rows-found c.args.self.now.winds_in rows.front rows.front_len c.args.r point.bound point.partitioned (λ a b f k. search rules) in
    rw (to_z-of_z c.ranges.r, c.read-in_default-2.ensures, c.read-in_default-2-2.ensures) (rows-around f (omega arith) (omega arith))

pub returns-in_default-2 : goal.returns-in_default-2
returns-in_default-2 c =
    let rows = c.as_chunks.ensures in
    let point = c.partition_point.ensures in
    let f = rows-found c.args.self.now.winds_in rows.front rows.front_len c.args.r point.bound point.partitioned (λ a b f k. search rules) in
    let fits : SFits w64 c.wind_between.result = sfits_of c.wind_between.type_inv in
    to_z-of_z fits
    ∙ (rw (to_z-of_z c.ranges.r, c.read-in_default-2.ensures, c.read-in_default-2-2.ensures) at c.wind_between.ensures)
    ∙ wind-found f (omega arith) (omega arith)
