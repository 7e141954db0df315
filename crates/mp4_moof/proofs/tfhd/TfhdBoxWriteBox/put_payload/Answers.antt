use Rattle.mp4_codec.specs.PutLaws.{◌then◌}
use Rattle.mp4_moof.specs.Tfhd.{tfhd_payload}
use Rattle.mp4_moof.proofs.tfhd.TfhdBoxWriteBox.put_payload.Goals as goal

pub returns : goal.returns
unfolding tfhd_payload
returns c =
    c.in_ok-put_u8.ensures
    then c.in_ok-put_u24.ensures
    then c.in_ok-put_u32.ensures
    then c.in_ok-put_flagged.ensures
    then c.in_ok-put_flagged-2.ensures
    then c.in_ok-put_flagged-3.ensures
    then c.in_ok-put_flagged-4.ensures
    then c.in_ok-put_flagged-5.ensures
