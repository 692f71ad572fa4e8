-- `decimals::write_bytes` meets its contract. Assumes nothing.
use Rattle.std.proofs.Common.{length, refl, ◌∙◌, arith}
use Rattle.std.proofs.lemmas.Slice.{put_mid-paste}
use lib.Seq.{take-length}
use Rattle.listing.specs.Put.{written}
use Rattle.listing.proofs.decimals.write_bytes.Goals as goal

pub returns : goal.returns
unfolding written
returns c =
    let bytes = c.args.bytes.now in
    record {
      place = refl;
      buffer = put_mid-paste c.args.at _ c.args.out.now _ bytes (length bytes) c.copy_from_slice.ensures.after (omega arith) refl
          ∙ rw (take-length bytes);
    }
