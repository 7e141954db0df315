use Rattle.std.proofs.Common.{◌+◌, ap}
use Rattle.mp4_codec.specs.PutLaws.{◌then◌, number_piece}
use Rattle.mp4_entry.specs.Avcc.{avcc_payload}
use Rattle.mp4_entry.proofs.avcc.AvcCBoxWriteBox.put_payload.Goals as goal

pub returns : goal.returns
unfolding avcc_payload
returns c =
    c.in_ok-put_u8.ensures
    then c.in_ok-put_u8-2.ensures
    then c.in_ok-put_u8-3.ensures
    then c.in_ok-put_u8-4.ensures
    then c.in_ok-put_low_u8.ensures
    then number_piece 1 _ _ (ap (λ n. 0xe0 + n) c.len.ensures.value) c.in_ok-put_low_u8-2.ensures
    then c.in_ok-put_units.ensures
    then number_piece 1 _ _ c.len-2.ensures.value c.in_ok-put_low_u8-3.ensures
    then c.in_ok-put_units-2.ensures
