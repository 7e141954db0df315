use Rattle.mp4_codec.specs.PutLaws.{◌then◌, number_piece}
use Rattle.mp4_entry.specs.Stsd.{stsd_payload}
use Rattle.mp4_entry.proofs.stsd.StsdBoxWriteBox.put_payload.Goals as goal

pub returns : goal.returns
unfolding stsd_payload
returns c =
    rw (← c.first_entry-entry.ensures) (
    c.in_ok-put_u8.ensures
    then c.in_ok-put_u24.ensures
    then number_piece 4 _ _ c.count.ensures c.in_ok-put_u32.ensures
    then c.in_ok-put.ensures)
