use Rattle.mp4_codec.specs.PutLaws.{◌then◌}
use Rattle.mp4_table.specs.Stsz.{stsz_payload}
use Rattle.mp4_table.proofs.stsz.StszBoxWriteBox.put_payload.Goals as goal

pub returns : goal.returns
unfolding stsz_payload
returns c =
    c.in_ok-put_u8.ensures
    then c.in_ok-put_u24.ensures
    then c.in_ok-put_u32.ensures
    then c.in_ok-put_u32-2.ensures
    then (rw c.as_slice.ensures at c.in_ok-put_list.ensures)
