use Rattle.mp4_codec.specs.PutLaws.{◌then◌}
use Rattle.mp4_moof.specs.Trun.{trun_payload}
use Rattle.mp4_moof.proofs.trun.TrunBoxWriteBox.put_payload.Goals as goal

pub returns : goal.returns
unfolding trun_payload
returns c =
    c.in_ok-put_u8.ensures
    then c.in_ok-put_u24.ensures
    then c.in_ok-put_u32.ensures
    then c.in_ok-put_flagged.ensures
    then c.in_ok-put_flagged-2.ensures
    then c.in_ok-put_rows.ensures
