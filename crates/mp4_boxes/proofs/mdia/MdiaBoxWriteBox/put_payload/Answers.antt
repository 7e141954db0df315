use Rattle.mp4_codec.specs.PutLaws.{◌then◌}
use Rattle.mp4_boxes.specs.Mdia.{mdia_payload}
use Rattle.mp4_boxes.proofs.mdia.MdiaBoxWriteBox.put_payload.Goals as goal

pub returns : goal.returns
unfolding mdia_payload
returns c = c.in_ok-put_box.ensures then c.in_ok-put_box-2.ensures then c.in_ok-put_box-3.ensures
