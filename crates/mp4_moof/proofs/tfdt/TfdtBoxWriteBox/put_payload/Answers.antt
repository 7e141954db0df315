use Rattle.mp4_codec.specs.PutLaws.{◌then◌}
use Rattle.mp4_moof.specs.Tfdt.{tfdt_payload}
use Rattle.mp4_moof.proofs.tfdt.TfdtBoxWriteBox.put_payload.Goals as goal

pub returns : goal.returns
unfolding tfdt_payload
returns c =
    c.in_ok-put_u8.ensures
    then c.in_ok-put_u24.ensures
    then c.in_ok-put_versioned.ensures
