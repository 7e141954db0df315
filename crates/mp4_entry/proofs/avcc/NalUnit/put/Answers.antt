use Rattle.mp4_codec.specs.PutLaws.{◌then◌, number_piece}
use Rattle.mp4_entry.specs.Avcc.{unit}
use Rattle.mp4_entry.proofs.avcc.NalUnit.put.Goals as goal

pub returns : goal.returns
unfolding unit
returns c =
    number_piece 2 _ _ c.len.ensures.value c.in_ok-put_low_u16.ensures
    then (rw (← c.as_slice.ensures) c.in_ok-put_bytes.ensures)
