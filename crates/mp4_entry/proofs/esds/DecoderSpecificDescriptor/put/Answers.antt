use Rattle.std.proofs.Common.{sym}
use Rattle.mp4_codec.specs.FieldLaws.{length-number}
use Rattle.mp4_codec.specs.PutLaws.{◌then◌, number_piece}
use Rattle.mp4_entry.specs.Descriptor.{descriptor}
use Rattle.mp4_entry.specs.Esds.{specific_word}
use Rattle.mp4_entry.proofs.esds.DecoderSpecificDescriptor.put.Goals as goal

pub returns : goal.returns
unfolding descriptor
returns c =
    c.in_ok-put_u8.ensures
    then number_piece 1 _ _ (sym (length-number 2 (specific_word c.args.self.now))) c.in_ok-put_u8-2.ensures
    then c.in_ok-put_low_u16.ensures
