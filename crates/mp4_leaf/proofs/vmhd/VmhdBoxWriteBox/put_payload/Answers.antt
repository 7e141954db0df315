use Rattle.mp4_codec.specs.PutLaws.{◌then◌}
use Rattle.mp4_leaf.specs.Vmhd.{vmhd_payload}
use Rattle.mp4_leaf.proofs.vmhd.VmhdBoxWriteBox.put_payload.Goals as goal

pub returns : goal.returns
unfolding vmhd_payload
returns c =
    c.in_ok-put_u8.ensures
    then c.in_ok-put_u24.ensures
    then c.in_ok-put_u16.ensures
    then c.in_ok-put_u16-2.ensures
    then c.in_ok-put_u16-3.ensures
    then c.in_ok-put_u16-4.ensures
