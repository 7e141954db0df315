use Rattle.mp4_codec.specs.PutLaws.{◌then◌}
use Rattle.mp4_moof.specs.Emsg.{ended}
use Rattle.mp4_moof.proofs.emsg.put_text.Goals as goal

pub returns : goal.returns
unfolding ended
returns c = (rw (← c.as_slice.ensures) c.in_ok-put_bytes.ensures) then c.in_ok-put_zeros.ensures
