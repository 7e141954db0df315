-- How samples are coded (ISO/IEC 14496-12, 8.5.2).
use Rattle.std.specs.Prelude.{Option, Some, None}
use Rattle.mp4_entry.specs.declared.media_type.MediaType.{MediaType}
use Rattle.mp4_entry.specs.declared.media_type.MediaType.TheVariants.{H264, H265, VP9, AAC, TTXT}
use Rattle.mp4_entry.specs.declared.sample_entry.SampleEntry.{SampleEntry}
use Rattle.mp4_entry.specs.declared.sample_entry.SampleEntry.TheVariants.{AvcVideo as avc_video}
use Rattle.mp4_entry.specs.declared.sample_entry.SampleEntry.TheVariants.{HevcVideo as hevc_video}
use Rattle.mp4_entry.specs.declared.sample_entry.SampleEntry.TheVariants.{Vp9Video as vp9_video, AacSound as aac_sound}
use Rattle.mp4_entry.specs.declared.sample_entry.SampleEntry.TheVariants.{Text as text, Other as other}
use Rattle.mp4_entry.specs.declared.sample_entry.SampleEntry.TheVariants.{NoKnown as no_known}

-- by the sample entry: the coding that it is of, and none where it is no known one
abbrev pub coding_of : SampleEntry → Option MediaType
coding_of (avc_video e) = Some H264
coding_of (hevc_video e) = Some H265
coding_of (vp9_video e) = Some VP9
coding_of (aac_sound e) = Some AAC
coding_of (text e) = Some TTXT
coding_of (other t) = None
coding_of no_known = None
