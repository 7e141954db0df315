-- What a track is added with, by the row that a caller gives.
use Rattle.std.specs.Prelude.{◌≡◌, ℕ, List, [], ◌∷◌, ◌++◌, Option, Some, None, Ok, slice_index, encode_utf8, ◌==◌}
use Rattle.std.specs.Prelude.{if◌then◌else◌}
use Rattle.std.specs.Int.{w32, from_be_bytes}
use Rattle.mp4_codec.specs.Cause.{Cause, invalid_data, fault_of, ◌or◌}
use Rattle.mp4_entry.specs.declared.avc1.AvcConfig.{AvcConfig}
use Rattle.mp4_entry.specs.declared.mp4a.AacConfig.{AacConfig}
use Rattle.mp4_entry.specs.declared.config.MediaConfig.{MediaConfig}
use Rattle.mp4_entry.specs.declared.config.MediaConfig.TheVariants.{AvcConfig as Avc, HevcConfig as Hevc}
use Rattle.mp4_entry.specs.declared.config.MediaConfig.TheVariants.{Vp9Config as Vp9, AacConfig as Aac}
use Rattle.mp4_entry.specs.declared.config.MediaConfig.TheVariants.{TtxtConfig as Ttxt}
use Rattle.mp4_entry.specs.AudioObjectType.{object_type_of}
use Rattle.mp4_entry.specs.ChannelConfig.{channel_config_of}
use Rattle.mp4_entry.specs.Config.{track_type_in}
use Rattle.mp4_entry.specs.SampleFreqIndex.{freq_index_of}
use Rattle.mp4_mux.specs.declared.config.TrackConfig.{TrackConfig}
use Rattle.mp4_c.specs.declared.configs.NewTrack.{NewTrack}
use Rattle.mp4_c.specs.Parts.{part_at, part_fault}

-- the type of the sample entry of a row: its four bytes, as a number
abbrev pub entry_number : NewTrack → ℕ
entry_number row = from_be_bytes w32 row.sample_entry

-- AVC video: its parameter sets lie in the source
abbrev pub avc_in : List ℕ → NewTrack → AvcConfig
avc_in source row = record {
  width = row.width;
  height = row.height;
  seq_param_set = part_at source row.sequence_set row.sequence_set_size;
  pic_param_set = part_at source row.picture_set row.picture_set_size;
}

-- AAC sound, by its numbers
pub record IsSoundOf (row : NewTrack) (c : AacConfig) : Type 0 where
  pub bits_per_second : c.bitrate ≡ row.bits_per_second
  pub profile : object_type_of row.audio_profile ≡ Ok c.profile.number
  pub frequency : freq_index_of row.frequency_index ≡ Ok c.freq_index
  pub channels : channel_config_of row.channels ≡ Ok c.chan_conf

-- How samples are coded is what a row says: its sample entry is "avc1", "hev1", "vp09", "mp4a" or "tx3g".
unfoldable pub IsMediaOf : List ℕ → NewTrack → MediaConfig → Type 0
IsMediaOf source row (Avc c) = (entry_number row ≡ 0x61766331) × (c ≡ avc_in source row)
IsMediaOf source row (Hevc c) =
    (entry_number row ≡ 0x68657631) × (c ≡ record { width = row.width; height = row.height })
IsMediaOf source row (Vp9 c) =
    (entry_number row ≡ 0x76703039) × (c ≡ record { width = row.width; height = row.height })
IsMediaOf source row (Aac c) = (entry_number row ≡ 0x6d703461) × (IsSoundOf row c)
IsMediaOf source row (Ttxt c) = entry_number row ≡ 0x74783367

-- why the parameter sets of a row aren't had: the sequence parameter set first
abbrev pub sets_fault : List ℕ → NewTrack → Option Cause
sets_fault source row =
    part_fault source row.sequence_set row.sequence_set_size
    or part_fault source row.picture_set row.picture_set_size

-- why the numbers of a row are no sound: its type first, then its frequency, then its channels
abbrev pub sound_fault : NewTrack → Option Cause
sound_fault row =
    fault_of (object_type_of row.audio_profile)
    or (fault_of (freq_index_of row.frequency_index) or fault_of (channel_config_of row.channels))

-- why a row says no configuration: another sample entry than the five, or what its own says
unfoldable pub row_fault : List ℕ → NewTrack → Option Cause
row_fault source row =
    if entry_number row == 0x61766331 then sets_fault source row else
    if entry_number row == 0x6d703461 then sound_fault row else
    if entry_number row == 0x68657631 then None else
    if entry_number row == 0x76703039 then None else
    if entry_number row == 0x74783367 then None else
    Some invalid_data

-- a language of three characters; "und" where the first is zero
unfoldable pub language_in : List ℕ → List ℕ
language_in bytes =
    if slice_index bytes 0 == 0 then 0x75 ∷ 0x6e ∷ 0x64 ∷ [] else
    (encode_utf8 (slice_index bytes 0) ++ encode_utf8 (slice_index bytes 1)) ++ encode_utf8 (slice_index bytes 2)

-- a configuration is that of a row, whose parameter sets lie whole in the source
pub record IsConfigOf (source : List ℕ) (row : NewTrack) (config : TrackConfig) : Type 0 where
  pub no_fault : row_fault source row ≡ None
  pub media : IsMediaOf source row config.media_conf
  pub kind : config.track_type ≡ track_type_in config.media_conf
  pub timescale : config.timescale ≡ row.timescale
  pub language : config.language ≡ language_in row.language
