use Rattle.mp4_codec.specs.PutLaws.{◌then◌}
use Rattle.mp4_moof.specs.Rows.{row}
use Rattle.mp4_moof.proofs.rows.Row.put.Goals as goal

pub returns : goal.returns
unfolding row
returns c =
    c.in_ok-put_flagged.ensures
    then c.in_ok-put_flagged-2.ensures
    then c.in_ok-put_flagged-3.ensures
    then c.in_ok-put_flagged-4.ensures
