use Rattle.mp4_codec.specs.PutLaws.{◌then◌, number_piece}
use Rattle.mp4_moof.specs.Emsg.{emsg_1_payload}
use Rattle.mp4_moof.proofs.emsg.EmsgBox.put_version_1.Goals as goal

pub returns : goal.returns
unfolding emsg_1_payload
returns c =
    c.in_ok-put_u8.ensures
    then c.in_ok-put_u24.ensures
    then c.in_ok-put_u32.ensures
    then number_piece 8 _ _ c.unwrap_or.ensures c.in_ok-put_u64.ensures
    then c.in_ok-put_u32-2.ensures
    then c.in_ok-put_u32-3.ensures
    then c.in_ok-put_text.ensures
    then c.in_ok-put_text-2.ensures
    then (rw (← c.as_slice.ensures) c.in_ok-put_bytes.ensures)
