use Rattle.mp4_codec.specs.PutLaws.{◌then◌}
use Rattle.mp4_moof.specs.Mvex.{mvex_payload}
use Rattle.mp4_moof.proofs.mvex.MvexBoxWriteBox.put_payload.Goals as goal

pub returns : goal.returns
unfolding mvex_payload
returns c =
    rw (← c.as_slice.ensures) (c.in_ok-put_optional.ensures then c.in_ok-put_all.ensures)
