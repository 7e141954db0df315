-- What a track says of itself (ISO/IEC 14496-12, 8.3.2, 8.4.2, 8.4.3 and 8.5.2).
use Rattle.std.specs.Prelude.{◌≡◌, ℕ, List, [], ◌∷◌, ◌++◌, length, replicate, Result, Ok, Err, ◌==◌, if◌then◌else◌}
use Rattle.mp4_codec.specs.declared.four_cc.FourCC.{FourCC}
use Rattle.mp4_codec.specs.Cause.{Cause, ◌>>=◌, seen}
use Rattle.mp4_entry.specs.declared.avcc.AvcCBox.{AvcCBox}
use Rattle.mp4_entry.specs.ChannelConfig.{channel_number}
use Rattle.mp4_entry.specs.SampleFreqIndex.{freq_number}
use Rattle.mp4_lookup.specs.declared.track.Mp4Track.{Mp4Track}
use Rattle.mp4_lookup.specs.Codec.{audio_profile_of, channels_of, sample_freq_index_of, video_decoder_of}
use Rattle.mp4_lookup.specs.Codec.{video_profile_of}
use Rattle.mp4_lookup.specs.Headers.{height_of, width_of}
use Rattle.mp4_lookup.specs.Kind.{box_type_of}
use Rattle.mp4_lookup.specs.Rates.{bitrate_of, frame_rate_of, sample_count_of}
use Rattle.mp4_lookup.specs.TrackRuns.{track_runs}
use Rattle.mp4_c.specs.declared.tracks.Rates.{Rates}
use Rattle.mp4_c.specs.declared.tracks.Sound.{Sound}
use Rattle.mp4_c.specs.declared.tracks.TrackInfo.{TrackInfo}
use Rattle.mp4_c.specs.declared.tracks.Video.{Video}

-- what a track answers; 0 where that is refused
abbrev pub or_zero : Result ℕ Cause → ℕ
or_zero (Ok n) = n
or_zero (Err c) = 0

-- 1 for an answer, and 0 for a refusal
abbrev pub mark_of : {X : Type 0} → Result X Cause → ℕ
mark_of (Ok x) = 1
mark_of (Err c) = 0

-- what a track counts and measures
abbrev pub rates_of : Mp4Track → Rates
rates_of t = record {
  sample_count = or_zero (sample_count_of t.trak (track_runs t));
  has_sample_count = mark_of (sample_count_of t.trak (track_runs t));
  frames = or_zero (frame_rate_of t.trak (track_runs t));
  has_frames = mark_of (frame_rate_of t.trak (track_runs t));
  bits = or_zero (bitrate_of t.trak (track_runs t));
  has_bits = mark_of (bitrate_of t.trak (track_runs t));
}

-- the four bytes of a type that a track answers; zeros where that is refused
abbrev pub code_or_zeros : Result FourCC Cause → List ℕ
code_or_zeros (Ok code) = code.value
code_or_zeros (Err c) = replicate 4 0

-- a language of three letters with a zero after it; zeros for another
abbrev pub language_bytes : List ℕ → List ℕ
language_bytes text = if length text == 3 then text ++ 0 ∷ [] else replicate 4 0

-- the numbers of a track's sound
abbrev pub sound_of : Mp4Track → Sound
sound_of t = record {
  profile = or_zero (audio_profile_of t.trak);
  has_profile = mark_of (audio_profile_of t.trak);
  frequency_index = or_zero (seen freq_number (sample_freq_index_of t.trak));
  has_frequency_index = mark_of (sample_freq_index_of t.trak);
  channels = or_zero (seen channel_number (channels_of t.trak));
  has_channels = mark_of (channels_of t.trak);
}

-- the numbers of a decoder of video
abbrev pub video_numbers : Result AvcCBox Cause → Video
video_numbers (Ok d) = record {
  profile = d.avc_profile_indication;
  compatibility = d.profile_compatibility;
  level = d.avc_level_indication;
  is_known = 1;
}
video_numbers (Err c) = record { profile = 0; compatibility = 0; level = 0; is_known = 0 }

-- the numbers of a track's video; zeros where its profile isn't known
abbrev pub video_of : Mp4Track → Video
video_of t = video_numbers (video_profile_of t.trak >>= λ profile. video_decoder_of t.trak)

-- All that is said of the track with this number as its id: its headers, what it counts and measures, and its sample
-- entry.
pub record Describes (number : ℕ) (t : Mp4Track) (info : TrackInfo) : Type 0 where
  pub id : info.id ≡ number
  pub duration : info.duration ≡ t.trak.mdia.mdhd.duration
  pub timescale : info.timescale ≡ t.trak.mdia.mdhd.timescale
  pub handler : info.handler ≡ t.trak.mdia.hdlr.handler_type.value
  pub width : info.width ≡ width_of t.trak
  pub height : info.height ≡ height_of t.trak
  pub sample_count : info.sample_count ≡ or_zero (sample_count_of t.trak (track_runs t))
  pub has_sample_count : info.has_sample_count ≡ mark_of (sample_count_of t.trak (track_runs t))
  pub frames_per_second : info.frames_per_second ≡ or_zero (frame_rate_of t.trak (track_runs t))
  pub has_frames_per_second : info.has_frames_per_second ≡ mark_of (frame_rate_of t.trak (track_runs t))
  pub bits_per_second : info.bits_per_second ≡ or_zero (bitrate_of t.trak (track_runs t))
  pub has_bits_per_second : info.has_bits_per_second ≡ mark_of (bitrate_of t.trak (track_runs t))
  pub language : info.language ≡ language_bytes t.trak.mdia.mdhd.language
  pub sample_entry : info.sample_entry ≡ code_or_zeros (box_type_of t.trak)
  pub has_sample_entry : info.has_sample_entry ≡ mark_of (box_type_of t.trak)
  pub audio_profile : info.audio_profile ≡ (sound_of t).profile
  pub has_audio_profile : info.has_audio_profile ≡ (sound_of t).has_profile
  pub frequency_index : info.frequency_index ≡ (sound_of t).frequency_index
  pub has_frequency_index : info.has_frequency_index ≡ (sound_of t).has_frequency_index
  pub channels : info.channels ≡ (sound_of t).channels
  pub has_channels : info.has_channels ≡ (sound_of t).has_channels
  pub video_profile : info.video_profile ≡ (video_of t).profile
  pub video_compatibility : info.video_compatibility ≡ (video_of t).compatibility
  pub video_level : info.video_level ≡ (video_of t).level
  pub has_video_profile : info.has_video_profile ≡ (video_of t).is_known
  pub reserved : info.reserved ≡ replicate 2 0
