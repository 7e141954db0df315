use Rattle.mp4_codec.specs.PutLaws.{◌then◌}
use Rattle.mp4_leaf.specs.Times.{header_times}
use Rattle.mp4_leaf.proofs.times.put_header_times.Goals as goal

pub returns : goal.returns
unfolding header_times
returns c =
    c.in_ok-put_u8.ensures
    then c.in_ok-put_u24.ensures
    then c.in_ok-put_versioned.ensures
    then c.in_ok-put_versioned-2.ensures
