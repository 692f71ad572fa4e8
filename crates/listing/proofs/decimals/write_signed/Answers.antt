-- `decimals::write_signed` meets its contract: what the library prints is its text. Assumes nothing.
use Rattle.std.proofs.Common.{◌≡◌, ◌∙◌, sym}
use mir.Facts.{to_z-of_z}
use Rattle.listing.specs.Decimal.{signed_text}
use Rattle.listing.proofs.Decimal.{signed-is}
use Rattle.listing.proofs.decimals.write_signed.Goals as goal
use Rattle.listing.proofs.decimals.write_signed.Goals.{After-as_bytes}

printed : (c : After-as_bytes) → c.as_bytes.result.now ≡ signed_text c.args.x
printed c = c.as_bytes.ensures.value ∙ (simp (to_z-of_z, c.ranges.x) at c.format.ensures.text) ∙ sym (signed-is c.args.x c.ranges.x)

pub write_closed-requires : goal.write_closed-requires
write_closed-requires c = rw (printed (goal.at.write_closed-requires c).After-as_bytes) c.requires

pub returns : goal.returns
returns c = rw (printed (goal.at.returns c).After-as_bytes) at c.write_closed.ensures
