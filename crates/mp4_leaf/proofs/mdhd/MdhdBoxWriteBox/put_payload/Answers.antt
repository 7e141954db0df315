use Rattle.mp4_codec.specs.PutLaws.{◌then◌, number_piece}
use Rattle.mp4_leaf.specs.Mdhd.{mdhd_payload}
use Rattle.mp4_leaf.proofs.mdhd.MdhdBoxWriteBox.put_payload.Goals as goal

pub returns : goal.returns
unfolding mdhd_payload
returns c =
    (rw (← c.header_times.ensures) c.in_ok-put_header_times.ensures)
    then c.in_ok-put_u32.ensures
    then c.in_ok-put_versioned.ensures
    then number_piece 2 _ _ c.pack_language.ensures c.in_ok-put_u16.ensures
    then c.in_ok-put_zeros.ensures
