use Rattle.std.proofs.Common.{rules}
use Rattle.mp4_codec.specs.PutLaws.{◌then◌, int16_piece}
use Rattle.mp4_leaf.specs.Smhd.{smhd_payload}
use Rattle.mp4_leaf.proofs.smhd.SmhdBoxWriteBox.put_payload.Goals as goal

pub returns : goal.returns
unfolding smhd_payload
returns c =
    c.in_ok-put_u8.ensures
    then c.in_ok-put_u24.ensures
    then int16_piece c.args.self.now.balance.raw (search rules) c.in_ok-put_i16.ensures
    then c.in_ok-put_zeros.ensures
