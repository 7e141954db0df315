use Rattle.mp4_codec.specs.PutLaws.{◌then◌}
use Rattle.mp4_leaf.specs.Hdlr.{hdlr_payload}
use Rattle.mp4_leaf.proofs.hdlr.HdlrBoxWriteBox.put_payload.Goals as goal

pub returns : goal.returns
unfolding hdlr_payload
returns c =
    c.in_ok-put_u8.ensures
    then c.in_ok-put_u24.ensures
    then c.in_ok-put_zeros.ensures
    then c.in_ok-put_four_cc.ensures
    then c.in_ok-put_zeros-2.ensures
    then (rw (← c.as_slice.ensures) c.in_ok-put_bytes.ensures)
    then c.in_ok-put_zeros-3.ensures
