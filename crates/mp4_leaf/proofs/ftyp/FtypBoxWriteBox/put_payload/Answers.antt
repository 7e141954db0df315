use Rattle.mp4_codec.specs.PutLaws.{◌then◌}
use Rattle.mp4_leaf.specs.Ftyp.{ftyp_payload}
use Rattle.mp4_leaf.proofs.ftyp.FtypBoxWriteBox.put_payload.Goals as goal

pub returns : goal.returns
unfolding ftyp_payload
returns c =
    c.in_ok-put_four_cc.ensures
    then c.in_ok-put_u32.ensures
    then (rw c.as_slice.ensures at c.in_ok-put_list.ensures)
