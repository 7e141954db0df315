use Rattle.mp4_codec.specs.PutLaws.{◌then◌}
use Rattle.mp4_moof.specs.Mfhd.{mfhd_payload}
use Rattle.mp4_moof.proofs.mfhd.MfhdBoxWriteBox.put_payload.Goals as goal

pub returns : goal.returns
unfolding mfhd_payload
returns c =
    c.in_ok-put_u8.ensures
    then c.in_ok-put_u24.ensures
    then c.in_ok-put_u32.ensures
