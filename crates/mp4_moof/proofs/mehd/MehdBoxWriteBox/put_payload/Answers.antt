use Rattle.mp4_codec.specs.PutLaws.{◌then◌}
use Rattle.mp4_moof.specs.Mehd.{mehd_payload}
use Rattle.mp4_moof.proofs.mehd.MehdBoxWriteBox.put_payload.Goals as goal

pub returns : goal.returns
unfolding mehd_payload
returns c =
    c.in_ok-put_u8.ensures
    then c.in_ok-put_u24.ensures
    then c.in_ok-put_versioned.ensures
