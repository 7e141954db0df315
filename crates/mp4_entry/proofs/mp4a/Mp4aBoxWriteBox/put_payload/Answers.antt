use Rattle.mp4_codec.specs.PutLaws.{◌then◌}
use Rattle.mp4_entry.specs.Mp4a.{mp4a_payload}
use Rattle.mp4_entry.proofs.mp4a.Mp4aBoxWriteBox.put_payload.Goals as goal

pub returns : goal.returns
unfolding mp4a_payload
returns c =
    c.in_ok-put_zeros.ensures
    then c.in_ok-put_u16.ensures
    then c.in_ok-put_u16-2.ensures
    then c.in_ok-put_zeros-2.ensures
    then c.in_ok-put_u16-3.ensures
    then c.in_ok-put_u16-4.ensures
    then c.in_ok-put_zeros-3.ensures
    then c.in_ok-put_u32.ensures
    then c.in_ok-put_optional.ensures
