-- What the decoder of a track is started with, by its sample entry (ISO/IEC 14496-12, 8.5.2).
use Rattle.std.specs.Prelude.{ℕ, List, Option, Result, Ok, ok_or, option_map, slice_get}
use Rattle.mp4_codec.specs.declared.box_type.BoxType.{BoxType}
use Rattle.mp4_codec.specs.declared.box_type.BoxType.TheVariants.{Avc1Box as avc1, AvcCBox as avcc}
use Rattle.mp4_codec.specs.declared.box_type.BoxType.TheVariants.{Mp4aBox as mp4a, EsdsBox as esds}
use Rattle.mp4_codec.specs.Cause.{Cause, box_in_stbl_not_found, entry_in_stbl_not_found, ◌>>=◌, seen}
use Rattle.mp4_entry.specs.declared.avc_profile.AvcProfile.{AvcProfile}
use Rattle.mp4_entry.specs.declared.avcc.AvcCBox.{AvcCBox}
use Rattle.mp4_entry.specs.declared.avcc.NalUnit.{NalUnit}
use Rattle.mp4_entry.specs.declared.channel_config.ChannelConfig.{ChannelConfig}
use Rattle.mp4_entry.specs.declared.esds.DecoderSpecificDescriptor.{DecoderSpecificDescriptor}
use Rattle.mp4_entry.specs.declared.sample_freq_index.SampleFreqIndex.{SampleFreqIndex}
use Rattle.mp4_entry.specs.AudioObjectType.{object_type_of}
use Rattle.mp4_entry.specs.AvcProfile.{avc_profile_of}
use Rattle.mp4_entry.specs.ChannelConfig.{channel_config_of}
use Rattle.mp4_entry.specs.SampleFreqIndex.{freq_index_of}
use Rattle.mp4_boxes.specs.declared.trak.TrakBox.{TrakBox}
use Rattle.mp4_samples.specs.Tables.{tables_of}

-- a box of this type in the sample table of a track: where it isn't there, that is the refusal
abbrev pub box_in_stbl : {A : Type 0} → TrakBox → BoxType → Option A → Result A Cause
box_in_stbl trak type found = ok_or found (box_in_stbl_not_found trak.tkhd.track_id type)

-- what the decoder of sound is started with, as the esds of mp4a says (ISO/IEC 14496-14, 5.6)
unfoldable pub sound_decoder_of : TrakBox → Result DecoderSpecificDescriptor Cause
sound_decoder_of trak = do
  entry ← box_in_stbl trak mp4a (tables_of trak).stsd.mp4a
  stream ← box_in_stbl trak esds entry.esds
  Ok stream.es_desc.dec_config.dec_specific

-- the sampling frequency of the sound
unfoldable pub sample_freq_index_of : TrakBox → Result SampleFreqIndex Cause
sample_freq_index_of trak = sound_decoder_of trak >>= λ decoder. freq_index_of decoder.freq_index

-- its channels
unfoldable pub channels_of : TrakBox → Result ChannelConfig Cause
channels_of trak = sound_decoder_of trak >>= λ decoder. channel_config_of decoder.chan_conf

-- its type, by number
unfoldable pub audio_profile_of : TrakBox → Result ℕ Cause
audio_profile_of trak = sound_decoder_of trak >>= λ decoder. object_type_of decoder.profile

-- what the decoder of AVC video is started with, as the avcC of avc1 says (ISO/IEC 14496-15, 5.3.3.1)
unfoldable pub video_decoder_of : TrakBox → Result AvcCBox Cause
video_decoder_of trak = seen (λ entry. entry.avcc) (box_in_stbl trak avc1 (tables_of trak).stsd.avc1)

-- the profile of the video
unfoldable pub video_profile_of : TrakBox → Result AvcProfile Cause
video_profile_of trak = do
  decoder ← video_decoder_of trak
  avc_profile_of decoder.avc_profile_indication decoder.profile_compatibility

-- the bytes of the first of these parameter sets of a track
unfoldable pub first_set : ℕ → List NalUnit → Result (List ℕ) Cause
first_set track sets =
    ok_or (option_map (λ (u : NalUnit). u.bytes) (slice_get sets 0)) (entry_in_stbl_not_found track avcc 0)

-- the first sequence parameter set
unfoldable pub sequence_set_of : TrakBox → Result (List ℕ) Cause
sequence_set_of trak = do
  decoder ← video_decoder_of trak
  first_set trak.tkhd.track_id decoder.sequence_parameter_sets

-- the first picture parameter set
unfoldable pub picture_set_of : TrakBox → Result (List ℕ) Cause
picture_set_of trak = do
  decoder ← video_decoder_of trak
  first_set trak.tkhd.track_id decoder.picture_parameter_sets
