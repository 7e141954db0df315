use Rattle.mp4_codec.specs.PutLaws.{◌then◌}
use Rattle.mp4_leaf.specs.Tkhd.{tkhd_payload}
use Rattle.mp4_leaf.proofs.tkhd.TkhdBoxWriteBox.put_payload.Goals as goal

pub returns : goal.returns
unfolding tkhd_payload
returns c =
    (rw (← c.header_times.ensures) c.in_ok-put_header_times.ensures)
    then c.in_ok-put_u32.ensures
    then c.in_ok-put_zeros.ensures
    then c.in_ok-put_versioned.ensures
    then c.in_ok-put_zeros-2.ensures
    then c.in_ok-put_u16.ensures
    then c.in_ok-put_u16-2.ensures
    then c.in_ok-put_u16-3.ensures
    then c.in_ok-put_zeros-3.ensures
    then c.in_ok-put_matrix.ensures
    then c.in_ok-put_u32-2.ensures
    then c.in_ok-put_u32-3.ensures
