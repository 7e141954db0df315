use Rattle.std.proofs.Common.{refl}
use Rattle.mp4_codec.specs.PutLaws.{◌then◌}
use Rattle.mp4_entry.proofs.hvcc.HvcCBox.default.Goals as goal

pub returns : goal.returns
returns c =
    let built = c.in_ok-put_u8.ensures then c.in_ok-put_zeros.ensures in
    let bytes = rw c.new-raw.ensures.items at built.is in
    rw (c.from.ensures, bytes) refl
