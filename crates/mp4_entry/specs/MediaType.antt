-- The codings of media, by their sample entries.
use Rattle.mp4_codec.specs.declared.box_type.BoxType.{BoxType}
use Rattle.mp4_codec.specs.declared.box_type.BoxType.TheVariants.{Avc1Box, Hev1Box, Vp09Box, Mp4aBox, Tx3gBox}
use Rattle.mp4_entry.specs.declared.media_type.MediaType.{MediaType}
use Rattle.mp4_entry.specs.declared.media_type.MediaType.TheVariants.{H264, H265, VP9, AAC, TTXT}

-- the type of the sample entry of a coding
abbrev pub entry_type : MediaType → BoxType
entry_type H264 = Avc1Box
entry_type H265 = Hev1Box
entry_type VP9 = Vp09Box
entry_type AAC = Mp4aBox
entry_type TTXT = Tx3gBox
