use Rattle.std.proofs.Common.{sym}
use Rattle.mp4_codec.specs.PutLaws.{◌then◌, number_piece}
use Rattle.mp4_entry.specs.Descriptor.{descriptor}
use Rattle.mp4_entry.specs.Esds.{decoder_config}
use Rattle.mp4_entry.specs.EsdsLaws.{length-decoder_config}
use Rattle.mp4_entry.proofs.esds.DecoderConfigDescriptor.put.Goals as goal

pub returns : goal.returns
unfolding descriptor decoder_config
returns c =
    c.in_ok-put_u8.ensures
    then number_piece 1 _ _ (sym (length-decoder_config c.args.self.now)) c.in_ok-put_u8-2.ensures
    then c.in_ok-put_u8-3.ensures
    then c.in_ok-put_low_u8.ensures
    then c.in_ok-put_u24.ensures
    then c.in_ok-put_u32.ensures
    then c.in_ok-put_u32-2.ensures
    then c.in_ok-put.ensures
