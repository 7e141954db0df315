use Rattle.mp4_codec.specs.PutLaws.{◌then◌}
use Rattle.mp4_boxes.specs.Stbl.{stbl_payload}
use Rattle.mp4_boxes.proofs.stbl.StblBoxWriteBox.put_payload.Goals as goal

pub returns : goal.returns
unfolding stbl_payload
returns c =
    c.in_ok-put_box.ensures then c.in_ok-put_box-2.ensures then c.in_ok-put_optional.ensures
    then c.in_ok-put_optional-2.ensures then c.in_ok-put_box-3.ensures then c.in_ok-put_box-4.ensures
    then c.in_ok-put_optional-3.ensures then c.in_ok-put_optional-4.ensures
