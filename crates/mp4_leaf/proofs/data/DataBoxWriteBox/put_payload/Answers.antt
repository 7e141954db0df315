use Rattle.mp4_codec.specs.PutLaws.{◌then◌, number_piece}
use Rattle.mp4_leaf.specs.Data.{data_payload}
use Rattle.mp4_leaf.proofs.data.DataBoxWriteBox.put_payload.Goals as goal

pub returns : goal.returns
unfolding data_payload
returns c =
    number_piece 4 _ _ c.from.ensures c.in_ok-put_u32.ensures
    then c.in_ok-put_zeros.ensures
    then (rw (← c.as_slice.ensures) c.in_ok-put_bytes.ensures)
