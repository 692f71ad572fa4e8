-- `text::write_head` meets its contract. Assumes nothing.
use Rattle.std.proofs.Common.{arith, rules, ◌+◌, ◌≤◌, length}
use Rattle.listing.proofs.Lines.{wrote-three}
use Rattle.deck.specs.Deck.{head_lines}
use Rattle.deck.proofs.TextLaws.{head-length, head-parts}
use Rattle.deck.proofs.text.write_head.Goals as goal

pub write_bytes-values-requires : goal.write_bytes-values-requires
write_bytes-values-requires c = omega (arith, head-length c.args.h (search rules))

pub write_values-names-requires : goal.write_values-names-requires
write_values-names-requires c =
    omega (arith, head-length c.args.h (search rules), c.write_bytes-values.ensures.place)

pub write_bytes-requires : goal.write_bytes-requires
write_bytes-requires c =
    omega (
      arith,
      head-length c.args.h (search rules),
      c.write_bytes-values.ensures.place,
      c.write_values-names.ensures.place,
    )

pub returns : goal.returns
returns c =
    let room : 0 + length (head_lines c.args.h) ≤ length c.args.out.now = omega arith in
    wrote-three (head-parts c.args.h (search rules)) room
    c.write_bytes-values.ensures
    c.write_values-names.ensures
    c.write_bytes.ensures
