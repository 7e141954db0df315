-- What the sample entry of a track is made from.
use Rattle.std.specs.Prelude.{ℕ, length, Option, Some, None, nat_lt, if◌then◌else◌}
use Rattle.mp4_codec.specs.Cause.{Cause, unrepresentable, ◌or◌}
use Rattle.mp4_entry.specs.declared.avc1.AvcConfig.{AvcConfig}
use Rattle.mp4_entry.specs.declared.mp4a.AacConfig.{AacConfig}
use Rattle.mp4_entry.specs.declared.config.MediaConfig.{MediaConfig}
use Rattle.mp4_entry.specs.declared.config.MediaConfig.TheVariants.{AvcConfig as Avc, HevcConfig as Hevc}
use Rattle.mp4_entry.specs.declared.config.MediaConfig.TheVariants.{Vp9Config as Vp9, AacConfig as Aac}
use Rattle.mp4_entry.specs.declared.config.MediaConfig.TheVariants.{TtxtConfig as Ttxt}
use Rattle.mp4_entry.specs.declared.media_type.MediaType.{MediaType}
use Rattle.mp4_entry.specs.declared.media_type.MediaType.TheVariants.{H264, H265, VP9, AAC, TTXT}
use Rattle.mp4_entry.specs.declared.track_type.TrackType.{TrackType}
use Rattle.mp4_entry.specs.declared.track_type.TrackType.TheVariants.{Video, Audio, Subtitle}
use Rattle.mp4_entry.specs.Narrow.{past}
use Rattle.mp4_entry.specs.Avc1.{IsInRangeAvcConfig, avc1_config_length}
use Rattle.mp4_entry.specs.Hev1.{IsInRangeHevcConfig, hev1_config_length}
use Rattle.mp4_entry.specs.Vp09.{IsInRangeVp9Config, vp09_config_length}
use Rattle.mp4_entry.specs.Mp4a.{IsInRangeAacConfig, mp4a_config_length}
use Rattle.mp4_entry.specs.Tx3g.{tx3g_length}

-- a sequence parameter set has its profile and level in the bytes 2 to 4, and the length of a set has 16 bits
abbrev pub avc_refusal : AvcConfig → Option Cause
avc_refusal c =
    if nat_lt (length c.seq_param_set) 4 then Some unrepresentable else
    (past 0xffff (length c.seq_param_set) or past 0xffff (length c.pic_param_set))

-- a type of sound is written where it is 1 to 30: it has five bits, of which all ones are an escape
abbrev pub aac_refusal : AacConfig → Option Cause
aac_refusal c = if nat_lt c.profile.number 1 then Some unrepresentable else past 30 c.profile.number

-- why an entry of a configuration is not written
abbrev pub media_refusal : MediaConfig → Option Cause
media_refusal (Avc c) = avc_refusal c
media_refusal (Hevc c) = None
media_refusal (Vp9 c) = None
media_refusal (Aac c) = aac_refusal c
media_refusal (Ttxt c) = None

-- the kind of track that a configuration is for
abbrev pub track_type_in : MediaConfig → TrackType
track_type_in (Avc c) = Video
track_type_in (Hevc c) = Video
track_type_in (Vp9 c) = Video
track_type_in (Aac c) = Audio
track_type_in (Ttxt c) = Subtitle

-- how its samples are coded
abbrev pub media_type_in : MediaConfig → MediaType
media_type_in (Avc c) = H264
media_type_in (Hevc c) = H265
media_type_in (Vp9 c) = VP9
media_type_in (Aac c) = AAC
media_type_in (Ttxt c) = TTXT

-- each number is within its type
abbrev pub IsInRangeMediaConfig : MediaConfig → Type 0
IsInRangeMediaConfig (Avc c) = IsInRangeAvcConfig c
IsInRangeMediaConfig (Hevc c) = IsInRangeHevcConfig c
IsInRangeMediaConfig (Vp9 c) = IsInRangeVp9Config c
IsInRangeMediaConfig (Aac c) = IsInRangeAacConfig c
IsInRangeMediaConfig (Ttxt c) = Unit {0}

-- the bytes of the entry that a configuration makes, its header included
abbrev pub entry_length : MediaConfig → ℕ
entry_length (Avc c) = avc1_config_length c
entry_length (Hevc c) = hev1_config_length c
entry_length (Vp9 c) = vp09_config_length c
entry_length (Aac c) = mp4a_config_length c
entry_length (Ttxt c) = tx3g_length
