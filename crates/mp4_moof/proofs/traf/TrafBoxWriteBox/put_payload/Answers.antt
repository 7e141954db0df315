use Rattle.mp4_codec.specs.PutLaws.{◌then◌}
use Rattle.mp4_moof.specs.Traf.{traf_payload}
use Rattle.mp4_moof.proofs.traf.TrafBoxWriteBox.put_payload.Goals as goal

pub returns : goal.returns
unfolding traf_payload
returns c =
    rw (← c.as_slice.ensures) (c.in_ok-put_box.ensures then c.in_ok-put_optional.ensures then c.in_ok-put_all.ensures)
