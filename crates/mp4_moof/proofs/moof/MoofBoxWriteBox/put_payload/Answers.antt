use Rattle.mp4_codec.specs.PutLaws.{◌then◌}
use Rattle.mp4_moof.specs.Moof.{moof_payload}
use Rattle.mp4_moof.proofs.moof.MoofBoxWriteBox.put_payload.Goals as goal

pub returns : goal.returns
unfolding moof_payload
returns c =
    rw (← c.as_slice.ensures) (c.in_ok-put_box.ensures then c.in_ok-put_all.ensures)
