-- What kind of samples a track has, by its sample entry (ISO/IEC 14496-12, 8.5.2). The kind of the track itself is that
-- of its handler (8.4.3).
use Rattle.std.specs.Prelude.{Result, ok_or}
use Rattle.mp4_codec.specs.declared.four_cc.FourCC.{FourCC}
use Rattle.mp4_codec.specs.BoxType.{code_of}
use Rattle.mp4_codec.specs.Bytes.{coded}
use Rattle.mp4_codec.specs.Cause.{Cause, invalid_data, seen}
use Rattle.mp4_entry.specs.declared.media_type.MediaType.{MediaType}
use Rattle.mp4_entry.specs.MediaType.{entry_type}
use Rattle.mp4_entry.specs.Stsd.{first_entry}
use Rattle.mp4_boxes.specs.declared.trak.TrakBox.{TrakBox}
use Rattle.mp4_samples.specs.Coding.{coding_of}
use Rattle.mp4_samples.specs.Tables.{tables_of}

-- how the samples of a track are coded: by the first entry that is there, and not known without one
unfoldable pub media_type_of : TrakBox → Result MediaType Cause
media_type_of trak = ok_or (coding_of (first_entry (tables_of trak).stsd)) invalid_data

-- the type of that entry, as a code of four bytes
unfoldable pub box_type_of : TrakBox → Result FourCC Cause
box_type_of trak = seen (λ m. coded (code_of (entry_type m))) (media_type_of trak)
