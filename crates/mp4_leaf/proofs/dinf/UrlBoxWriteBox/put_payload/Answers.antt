use Rattle.mp4_codec.specs.PutLaws.{◌then◌}
use Rattle.mp4_leaf.specs.Dinf.{url_payload}
use Rattle.mp4_leaf.proofs.dinf.UrlBoxWriteBox.put_payload.Goals as goal

pub returns : goal.returns
unfolding url_payload
returns c =
    c.in_ok-put_u8.ensures
    then c.in_ok-put_u24.ensures
    then c.in_ok-put_location.ensures
