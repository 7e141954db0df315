use Rattle.std.proofs.Common.{sym}
use Rattle.mp4_codec.specs.FieldLaws.{length-number}
use Rattle.mp4_codec.specs.PutLaws.{◌then◌, number_piece}
use Rattle.mp4_entry.specs.Descriptor.{descriptor}
use Rattle.mp4_entry.specs.Esds.{es_descriptor}
use Rattle.mp4_entry.specs.EsdsLaws.{length-es_descriptor}
use Rattle.mp4_entry.proofs.esds.ESDescriptor.put.Goals as goal

pub returns : goal.returns
unfolding descriptor es_descriptor
returns c =
    c.in_ok-put_u8.ensures
    then number_piece 1 _ _ (sym (length-es_descriptor c.args.self.now)) c.in_ok-put_u8-2.ensures
    then c.in_ok-put_u16.ensures
    then c.in_ok-put_u8-3.ensures
    then c.in_ok-put.ensures
    then c.in_ok-put_u8-4.ensures
    then number_piece 1 _ _ (sym (length-number 1 2)) c.in_ok-put_u8-5.ensures
    then c.in_ok-put_u8-6.ensures
