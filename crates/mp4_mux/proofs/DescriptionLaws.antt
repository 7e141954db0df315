-- The description of a written track's samples has the length of its configuration's, is written and reads back equal.
use Rattle.std.proofs.Common.{◌≡◌, ℕ, zero, suc, ◌+◌, ◌-◌, ◌^◌, ◌≤◌, ◌<◌, List, [], ◌∷◌, length, get_or, None, refl}
use Rattle.std.proofs.Common.{arith, lit<}
use Rattle.std.specs.List.{AllByRecursion}
use Rattle.std.proofs.lemmas.Bool.{le-ltb}
use Rattle.std.proofs.lemmas.Option.{unwrap_or-slice_get}
use Rattle.mp4_codec.specs.declared.box_type.BoxType.TheVariants.{Mp4aBox as mp4a}
use Rattle.mp4_codec.specs.Cause.{◌or◌}
use Rattle.mp4_codec.specs.FramingLaws.{length-box_bytes}
use Rattle.mp4_codec.specs.WriteLaws.{is_written, or_parts}
use Rattle.mp4_entry.specs.declared.config.MediaConfig.{MediaConfig}
use Rattle.mp4_entry.specs.declared.config.MediaConfig.TheVariants.{AvcConfig as Avc, HevcConfig as Hevc}
use Rattle.mp4_entry.specs.declared.config.MediaConfig.TheVariants.{Vp9Config as Vp9, AacConfig as Aac}
use Rattle.mp4_entry.specs.declared.config.MediaConfig.TheVariants.{TtxtConfig as Ttxt}
use Rattle.mp4_entry.specs.declared.avc1.AvcConfig.{AvcConfig}
use Rattle.mp4_entry.specs.declared.mp4a.AacConfig.{AacConfig}
use Rattle.mp4_entry.specs.declared.sample_freq_index.SampleFreqIndex.{SampleFreqIndex}
use Rattle.mp4_entry.specs.declared.sample_freq_index.SampleFreqIndex.TheVariants.{Freq96000, Freq88200, Freq64000}
use Rattle.mp4_entry.specs.declared.sample_freq_index.SampleFreqIndex.TheVariants.{Freq48000, Freq44100, Freq32000}
use Rattle.mp4_entry.specs.declared.sample_freq_index.SampleFreqIndex.TheVariants.{Freq24000, Freq22050, Freq16000}
use Rattle.mp4_entry.specs.declared.sample_freq_index.SampleFreqIndex.TheVariants.{Freq12000, Freq11025, Freq8000}
use Rattle.mp4_entry.specs.declared.sample_freq_index.SampleFreqIndex.TheVariants.{Freq7350}
use Rattle.mp4_entry.specs.declared.channel_config.ChannelConfig.{ChannelConfig}
use Rattle.mp4_entry.specs.declared.channel_config.ChannelConfig.TheVariants.{Mono, Stereo, Three, Four, Five}
use Rattle.mp4_entry.specs.declared.channel_config.ChannelConfig.TheVariants.{FiveOne, SevenOne}
use Rattle.mp4_entry.specs.ChannelConfig.{channel_number}
use Rattle.mp4_entry.specs.Visual.{visual_of_size, IsInRangeVisual}
use Rattle.mp4_entry.specs.Avcc.{byte_of}
use Rattle.mp4_entry.specs.Avc1.{avc1_of_config, IsInRangeAvc1, IsInRangeAvcConfig}
use Rattle.mp4_entry.specs.Hev1.{hev1_of_config, IsInRangeHev1}
use Rattle.mp4_entry.specs.Vp09.{vp09_of_config, IsInRangeVp09}
use Rattle.mp4_entry.specs.Tx3g.{default_tx3g, IsInRangeTx3g}
use Rattle.mp4_entry.specs.Narrow.{past}
use Rattle.mp4_entry.specs.Esds.{esds_refusal, specific_refusal}
use Rattle.mp4_entry.specs.EsdsLaws.{length-esds_payload}
use Rattle.mp4_entry.specs.Mp4a.{samplerate_of, esds_of_config, mp4a_payload, mp4a_refusal, IsInRangeMp4a}
use Rattle.mp4_entry.specs.Mp4a.{IsInRangeAacConfig, mp4a_config_length}
use Rattle.mp4_entry.specs.Mp4aLaws.{length-mp4a_payload}
use Rattle.mp4_entry.specs.Config.{media_refusal, IsInRangeMediaConfig, entry_length}
use Rattle.mp4_entry.proofs.ConfigLaws.{length-stsd_of_config, media_written}
use Rattle.mp4_entry.specs.Stsd.{stsd_payload, stsd_refusal, stsd_of_config, IsInRangeStsd, IsWellFormedStsd}
use Rattle.mp4_entry.specs.StsdLaws.{length-stsd_payload}
use Rattle.mp4_mux.specs.declared.sample_info.SampleInfo.{SampleInfo}
use Rattle.mp4_mux.specs.Description.{buffer_size, mp4a_with, stsd_for}

pub buffer_size-small : (ss : List SampleInfo) → buffer_size ss ≤ 2 ^ 24 - 1
unfolding buffer_size
buffer_size-small ss = omega arith

-- the size of a buffer doesn't change the length of an entry

length-mp4a_with : (size : ℕ) (c : AacConfig) → 8 + length (mp4a_payload (mp4a_with size c)) ≡ mp4a_config_length c
length-mp4a_with size c = simp (length-mp4a_payload, length-box_bytes, length-esds_payload) refl

pub length-stsd_for : (media : MediaConfig) (ss : List SampleInfo)
    → length (stsd_payload (stsd_for media ss)) ≡ 8 + entry_length media
length-stsd_for (Avc c) ss = length-stsd_of_config (Avc c)
length-stsd_for (Hevc c) ss = length-stsd_of_config (Hevc c)
length-stsd_for (Vp9 c) ss = length-stsd_of_config (Vp9 c)
length-stsd_for (Aac c) ss =
    omega (
      arith,
      length-stsd_payload (stsd_for (Aac c) ss),
      length-box_bytes mp4a (mp4a_payload (mp4a_with (buffer_size ss) c)),
      length-mp4a_with (buffer_size ss) c,
    )
length-stsd_for (Ttxt c) ss = length-stsd_of_config (Ttxt c)

-- an entry of a configuration that isn't refused fits a box
pub entry_length-small : (media : MediaConfig) → media_refusal media ≡ None → entry_length media < 2 ^ 32
entry_length-small media e =
    let written = is_written (stsd_payload (stsd_of_config media)) (stsd_refusal (stsd_of_config media))
    (media_written media e) in
    omega (arith, written.small, length-stsd_of_config media)

-- it is written where the configuration isn't refused

mp4a_with-sound : (size : ℕ) (c : AacConfig) → size ≤ 2 ^ 24 - 1 → stsd_refusal (stsd_of_config (Aac c)) ≡ None
    → mp4a_refusal (mp4a_with size c) ≡ None
unfolding mp4a_refusal esds_refusal
mp4a_with-sound size c small e =
    let first = specific_refusal (esds_of_config c).es_desc.dec_config.dec_specific or past 63 5 or past 1 0 in
    rw ((or_parts first (past (2 ^ 24 - 1) 0) e).0, le-ltb (2 ^ 24 - 1) size small) refl

pub stsd_for-sound : (media : MediaConfig) (ss : List SampleInfo) → media_refusal media ≡ None
    → stsd_refusal (stsd_for media ss) ≡ None
stsd_for-sound media ss e =
    sized media (is_written (stsd_payload (stsd_of_config media)) (stsd_refusal (stsd_of_config media))
    (media_written media e)).sound
  where
    sized : (media : MediaConfig) → stsd_refusal (stsd_of_config media) ≡ None
        → stsd_refusal (stsd_for media ss) ≡ None
    sized (Avc c) e = e
    sized (Hevc c) e = e
    sized (Vp9 c) e = e
    sized (Aac c) e = mp4a_with-sound (buffer_size ss) c (buffer_size-small ss) e
    sized (Ttxt c) e = e

-- its numbers are within their types

visual-in_range : (width height : ℕ) → width < 2 ^ 16 → height < 2 ^ 16
    → IsInRangeVisual (visual_of_size width height)
visual-in_range width height w h = record {
  data_reference_index = lit< tt;
  width = w;
  height = h;
  horizresolution = lit< tt;
  vertresolution = lit< tt;
  frame_count = lit< tt;
  depth = lit< tt;
}

get_or-byte : (bytes : List ℕ) (i : ℕ) → AllByRecursion (λ b. b < 2 ^ 8) bytes → get_or bytes i 0 < 2 ^ 8
get_or-byte [] i h = lit< tt
get_or-byte (b ∷ bs) zero h = h.0
get_or-byte (b ∷ bs) (suc i) h = get_or-byte bs i h.1

byte_of-byte : (bytes : List ℕ) (i : ℕ) → AllByRecursion (λ b. b < 2 ^ 8) bytes → byte_of bytes i < 2 ^ 8
byte_of-byte bytes i h = rw (unwrap_or-slice_get bytes i 0) (get_or-byte bytes i h)

avc1-in_range : (c : AvcConfig) → IsInRangeAvcConfig c → IsInRangeAvc1 (avc1_of_config c)
avc1-in_range c h = record {
  visual = visual-in_range c.width c.height h.width h.height;
  avcc = record {
    configuration_version = lit< tt;
    avc_profile_indication = byte_of-byte c.seq_param_set 1 h.seq_param_set;
    profile_compatibility = byte_of-byte c.seq_param_set 2 h.seq_param_set;
    avc_level_indication = byte_of-byte c.seq_param_set 3 h.seq_param_set;
    length_size_minus_one = lit< tt;
  };
}

samplerate-small : (index : SampleFreqIndex) → (samplerate_of index).raw < 2 ^ 32
samplerate-small Freq96000 = lit< tt
samplerate-small Freq88200 = lit< tt
samplerate-small Freq64000 = lit< tt
samplerate-small Freq48000 = lit< tt
samplerate-small Freq44100 = lit< tt
samplerate-small Freq32000 = lit< tt
samplerate-small Freq24000 = lit< tt
samplerate-small Freq22050 = lit< tt
samplerate-small Freq16000 = lit< tt
samplerate-small Freq12000 = lit< tt
samplerate-small Freq11025 = lit< tt
samplerate-small Freq8000 = lit< tt
samplerate-small Freq7350 = lit< tt

channel_number-small : (config : ChannelConfig) → channel_number config < 2 ^ 16
channel_number-small Mono = lit< tt
channel_number-small Stereo = lit< tt
channel_number-small Three = lit< tt
channel_number-small Four = lit< tt
channel_number-small Five = lit< tt
channel_number-small FiveOne = lit< tt
channel_number-small SevenOne = lit< tt

mp4a-in_range : (size : ℕ) (c : AacConfig) → IsInRangeAacConfig c → IsInRangeMp4a (mp4a_with size c)
mp4a-in_range size c h = record {
  data_reference_index = lit< tt;
  channelcount = channel_number-small c.chan_conf;
  samplesize = lit< tt;
  samplerate = samplerate-small c.freq_index;
  esds = record {
    version = lit< tt;
    es_id = lit< tt;
    object_type_indication = lit< tt;
    max_bitrate = h.bitrate;
    avg_bitrate = h.bitrate;
  };
}

pub stsd_for-in_range : (media : MediaConfig) (ss : List SampleInfo) → IsInRangeMediaConfig media
    → IsInRangeStsd (stsd_for media ss)
stsd_for-in_range (Avc c) ss h =
    record { version = lit< tt; avc1 = avc1-in_range c h; hev1 = tt; vp09 = tt; mp4a = tt; tx3g = tt }
stsd_for-in_range (Hevc c) ss h =
    let entry : IsInRangeHev1 (hev1_of_config c) =
    record { visual = visual-in_range c.width c.height h.width h.height } in
    record { version = lit< tt; avc1 = tt; hev1 = entry; vp09 = tt; mp4a = tt; tx3g = tt }
stsd_for-in_range (Vp9 c) ss h =
    let entry : IsInRangeVp09 (vp09_of_config c) =
    record { visual = visual-in_range c.width c.height h.width h.height } in
    record { version = lit< tt; avc1 = tt; hev1 = tt; vp09 = entry; mp4a = tt; tx3g = tt }
stsd_for-in_range (Aac c) ss h =
    let entry = mp4a-in_range (buffer_size ss) c h in
    record { version = lit< tt; avc1 = tt; hev1 = tt; vp09 = tt; mp4a = entry; tx3g = tt }
stsd_for-in_range (Ttxt c) ss h =
    let entry : IsInRangeTx3g default_tx3g = record { data_reference_index = lit< tt; raw = refl } in
    record { version = lit< tt; avc1 = tt; hev1 = tt; vp09 = tt; mp4a = tt; tx3g = entry }

-- and it has the one entry that it is written with

pub stsd_for-well_formed : (media : MediaConfig) (ss : List SampleInfo) → IsWellFormedStsd (stsd_for media ss)
stsd_for-well_formed (Avc c) ss = record { flags = lit< tt; entry = tt; only = refl }
stsd_for-well_formed (Hevc c) ss = record { flags = lit< tt; entry = tt; only = refl }
stsd_for-well_formed (Vp9 c) ss = record { flags = lit< tt; entry = tt; only = refl }
stsd_for-well_formed (Aac c) ss = record { flags = lit< tt; entry = lit< tt; only = refl }
stsd_for-well_formed (Ttxt c) ss = record { flags = lit< tt; entry = tt; only = refl }
