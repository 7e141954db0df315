use Rattle.mp4_codec.specs.PutLaws.{◌then◌}
use Rattle.mp4_boxes.specs.Moov.{moov_payload}
use Rattle.mp4_boxes.proofs.moov.MoovBoxWriteBox.put_payload.Goals as goal

pub returns : goal.returns
unfolding moov_payload
returns c =
    rw (← c.as_slice.ensures)
    (c.in_ok-put_box.ensures
    then c.in_ok-put_all.ensures
    then c.in_ok-put_optional.ensures
    then c.in_ok-put_optional-2.ensures
    then c.in_ok-put_optional-3.ensures)
