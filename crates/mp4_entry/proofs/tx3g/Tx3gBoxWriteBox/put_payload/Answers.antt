use Rattle.mp4_codec.specs.PutLaws.{◌then◌}
use Rattle.mp4_entry.specs.Tx3g.{tx3g_payload}
use Rattle.mp4_entry.proofs.tx3g.Tx3gBoxWriteBox.put_payload.Goals as goal

pub returns : goal.returns
unfolding tx3g_payload
returns c =
    c.in_ok-put_zeros.ensures
    then c.in_ok-put_u16.ensures
    then c.in_ok-put_bytes.ensures
