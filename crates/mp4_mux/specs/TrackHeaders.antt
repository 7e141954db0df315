-- A track that is written, and the headers that its box has (ISO/IEC 14496-12, 8.2.2, 8.3.2, 8.4.2, 8.4.3, 12.1.2 and
-- 12.2.2).
use Rattle.std.specs.Prelude.{ℕ, ◌+◌, ◌-◌, ◌*◌, ◌/◌, ◌^◌, List, Option, Some, None, nat_lt, if◌then◌else◌}
use Rattle.std.specs.List.{sum_by}
use Rattle.mp4_codec.specs.Bytes.{coded}
use Rattle.mp4_leaf.specs.declared.tkhd.TkhdBox.{TkhdBox}
use Rattle.mp4_leaf.specs.declared.mdhd.MdhdBox.{MdhdBox}
use Rattle.mp4_leaf.specs.declared.mvhd.MvhdBox.{MvhdBox}
use Rattle.mp4_leaf.specs.declared.hdlr.HdlrBox.{HdlrBox}
use Rattle.mp4_leaf.specs.declared.vmhd.VmhdBox.{VmhdBox}
use Rattle.mp4_leaf.specs.declared.smhd.SmhdBox.{SmhdBox}
use Rattle.mp4_leaf.specs.Tkhd.{default_tkhd}
use Rattle.mp4_leaf.specs.Mdhd.{default_mdhd}
use Rattle.mp4_leaf.specs.Mvhd.{default_mvhd}
use Rattle.mp4_leaf.specs.Hdlr.{default_hdlr}
use Rattle.mp4_leaf.specs.Vmhd.{default_vmhd}
use Rattle.mp4_leaf.specs.Smhd.{default_smhd}
use Rattle.mp4_entry.specs.declared.config.MediaConfig.{MediaConfig}
use Rattle.mp4_entry.specs.declared.config.MediaConfig.TheVariants.{AvcConfig as Avc, HevcConfig as Hevc}
use Rattle.mp4_entry.specs.declared.config.MediaConfig.TheVariants.{Vp9Config as Vp9, AacConfig as Aac}
use Rattle.mp4_entry.specs.declared.config.MediaConfig.TheVariants.{TtxtConfig as Ttxt}
use Rattle.mp4_entry.specs.declared.track_type.TrackType.{TrackType}
use Rattle.mp4_entry.specs.TrackType.{handler_number}
use Rattle.mp4_mux.specs.declared.config.TrackConfig.{TrackConfig}
use Rattle.mp4_mux.specs.declared.sample_info.SampleInfo.{SampleInfo}
use Rattle.mp4_mux.specs.declared.chunk_place.ChunkPlace.{ChunkPlace}
use Rattle.mp4_mux.specs.declared.durations.Durations.{Durations}

-- where a chunk lies in the file, of which track it is, and how many samples it has
pub record PlacedChunk : Type 0 where
  pub track_id : ℕ
  pub count : ℕ
  pub offset : ℕ

-- a track as it is written: what its tables say of its samples, and its chunks
pub record FinishedTrack : Type 0 where
  pub id : ℕ
  pub config : TrackConfig
  pub samples : List SampleInfo
  pub chunks : List PlacedChunk

-- a chunk of the track of this id, as it was noted when it was written
abbrev pub placed_of : ℕ → ChunkPlace → PlacedChunk
placed_of id c = record { track_id = id; count = c.count; offset = c.offset }

-- a duration of 32 bits is written in version 0 of a header, a longer one in version 1
abbrev pub version_for : ℕ → ℕ
version_for duration = if nat_lt (2 ^ 32 - 1) duration then 1 else 0

-- the bytes of a header: so many in version 0, and 12 more in version 1
abbrev pub header_length : ℕ → ℕ → ℕ
header_length short duration = if nat_lt (2 ^ 32 - 1) duration then short + 12 else short

-- how long samples last together, in ticks of their track
unfoldable pub media_duration : List SampleInfo → ℕ
media_duration ss = sum_by (λ s. s.duration) ss

-- the same in ticks of the movie: each duration is converted by itself and rounded down
unfoldable pub movie_duration : ℕ → ℕ → List SampleInfo → ℕ
movie_duration movie_timescale timescale ss = sum_by (λ s. s.duration * movie_timescale / timescale) ss

-- how long a track is in the movie
abbrev pub track_duration : ℕ → FinishedTrack → ℕ
track_duration movie_timescale t = movie_duration movie_timescale t.config.timescale t.samples

-- how long a track is, in both
abbrev pub durations_of : ℕ → FinishedTrack → Durations
durations_of movie_timescale t =
    record { media = media_duration t.samples; movie = track_duration movie_timescale t }

-- the width and the height that a track header has, in whole pixels
abbrev pub picture_size : MediaConfig → ℕ × ℕ
picture_size (Avc c) = (c.width, c.height)
picture_size (Hevc c) = (c.width, c.height)
picture_size (Vp9 c) = (c.width, c.height)
picture_size (Aac c) = (0, 0)
picture_size (Ttxt c) = (0, 0)

-- the header of a track of this id, of this duration in the movie
abbrev pub tkhd_for : ℕ → ℕ → MediaConfig → TkhdBox
tkhd_for id duration media =
    record default_tkhd {
      version = version_for duration;
      track_id = id;
      duration = duration;
      width = record { raw = (picture_size media).0 * 65536 };
      height = record { raw = (picture_size media).1 * 65536 };
    }

-- the header of its media, of this duration
abbrev pub mdhd_for : ℕ → TrackConfig → MdhdBox
mdhd_for duration config =
    record default_mdhd {
      version = version_for duration;
      timescale = config.timescale;
      duration = duration;
      language = config.language;
    }

-- the handler of its kind
abbrev pub hdlr_for : TrackType → HdlrBox
hdlr_for kind = record default_hdlr { handler_type = coded (handler_number kind) }

-- the header of video; a track of VP9 is written without it
abbrev pub vmhd_for : MediaConfig → Option VmhdBox
vmhd_for (Avc c) = Some default_vmhd
vmhd_for (Hevc c) = Some default_vmhd
vmhd_for (Vp9 c) = None
vmhd_for (Aac c) = None
vmhd_for (Ttxt c) = None

-- the header of sound
abbrev pub smhd_for : MediaConfig → Option SmhdBox
smhd_for (Avc c) = None
smhd_for (Hevc c) = None
smhd_for (Vp9 c) = None
smhd_for (Aac c) = Some default_smhd
smhd_for (Ttxt c) = None

-- the bytes of the one or the other
abbrev pub media_header_length : MediaConfig → ℕ
media_header_length (Avc c) = 20
media_header_length (Hevc c) = 20
media_header_length (Vp9 c) = 0
media_header_length (Aac c) = 16
media_header_length (Ttxt c) = 0

-- the header of a movie of this timescale and duration
abbrev pub mvhd_for : ℕ → ℕ → MvhdBox
mvhd_for timescale duration =
    record default_mvhd { version = version_for duration; timescale = timescale; duration = duration }
