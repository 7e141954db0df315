use Rattle.mp4_codec.specs.PutLaws.{◌then◌}
use Rattle.mp4_entry.specs.Esds.{esds_payload}
use Rattle.mp4_entry.proofs.esds.EsdsBoxWriteBox.put_payload.Goals as goal

pub returns : goal.returns
unfolding esds_payload
returns c =
    c.in_ok-put_u8.ensures
    then c.in_ok-put_u24.ensures
    then c.in_ok-put.ensures
