use Rattle.mp4_codec.specs.PutLaws.{◌then◌}
use Rattle.mp4_meta.specs.Ilst.{ilst_payload}
use Rattle.mp4_meta.proofs.ilst.IlstBoxWriteBox.put_payload.Goals as goal

pub returns : goal.returns
unfolding ilst_payload
returns c =
    c.in_ok-put_item.ensures then c.in_ok-put_item-2.ensures then c.in_ok-put_item-3.ensures
    then c.in_ok-put_item-4.ensures
