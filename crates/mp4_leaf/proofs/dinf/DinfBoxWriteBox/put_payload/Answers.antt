use Rattle.mp4_leaf.specs.Dinf.{dinf_payload}
use Rattle.mp4_leaf.proofs.dinf.DinfBoxWriteBox.put_payload.Goals as goal

pub returns : goal.returns
unfolding dinf_payload
returns c = c.in_ok-put_box.ensures
