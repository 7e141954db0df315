use Rattle.mp4_codec.specs.PutLaws.{◌then◌}
use Rattle.mp4_moof.specs.Trex.{trex_payload}
use Rattle.mp4_moof.proofs.trex.TrexBoxWriteBox.put_payload.Goals as goal

pub returns : goal.returns
unfolding trex_payload
returns c =
    c.in_ok-put_u8.ensures
    then c.in_ok-put_u24.ensures
    then c.in_ok-put_u32.ensures
    then c.in_ok-put_u32-2.ensures
    then c.in_ok-put_u32-3.ensures
    then c.in_ok-put_u32-4.ensures
    then c.in_ok-put_u32-5.ensures
