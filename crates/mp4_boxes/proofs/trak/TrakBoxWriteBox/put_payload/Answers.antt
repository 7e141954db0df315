use Rattle.mp4_codec.specs.PutLaws.{◌then◌}
use Rattle.mp4_boxes.specs.Trak.{trak_payload}
use Rattle.mp4_boxes.proofs.trak.TrakBoxWriteBox.put_payload.Goals as goal

pub returns : goal.returns
unfolding trak_payload
returns c =
    c.in_ok-put_box.ensures
    then c.in_ok-put_optional.ensures
    then c.in_ok-put_optional-2.ensures
    then c.in_ok-put_box-2.ensures
