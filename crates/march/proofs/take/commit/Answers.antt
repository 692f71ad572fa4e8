-- `commit` meets its contract: `fill` writes the part of each leg. Assumes nothing.
use Rattle.std.proofs.Common.{◌<◌, ◌∙◌, ap, arith, rules, length, get_or}
use lib.Seq.{take_all}
use Rattle.records.specs.Groups.{of_row, of_range}
use Rattle.records.proofs.GroupLaws.{flat-list}
use Rattle.segment.specs.declared.Leg.{Leg}
use Rattle.march.specs.Take.{no_leg, row_numbers}
use Rattle.march.proofs.TakeLaws.{places-half, places-setup}
use Rattle.march.proofs.take.commit.Goals as goal

pub fill-requires-2-clause-callable : goal.fill-requires-2-clause-callable
fill-requires-2-clause-callable c = λ i h.
    let p = places-half _ _ c.requires.places in
    let k : i < length c.args.legs.now = omega (arith, p.1) in
    search rules

pub fill-requires-2-clause-room : goal.fill-requires-2-clause-room
fill-requires-2-clause-room c = (places-half _ _ c.requires.places).0

pub returns : goal.returns
returns c =
    let legs = c.args.legs.now in
    let whole = take_all (length legs) legs (omega arith) in
    record {
      rows =
          c.fill.ensures (λ i. (get_or legs i no_leg).row) (λ i x h p. search rules)
          ∙ flat-list of_row (λ (g : Leg). g.row) legs no_leg (length legs) (omega arith) ∙ ap row_numbers whole;
      setup =
          c.fill-2.ensures (λ i. (get_or legs i no_leg).setup) (λ i x h p. search rules)
          ∙ flat-list of_range (λ (g : Leg). g.setup) legs no_leg _ (places-half _ _ c.requires.places).1
          ∙ (rw whole at (places-setup _ (length legs) legs c.requires.places c.requires.some));
    }
