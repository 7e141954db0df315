-- The sample entry of MPEG-4 audio (ISO/IEC 14496-14, 5.6; ISO/IEC 14496-12, 12.2.3; sound version 1 and `wave`: the
-- QuickTime file format).
use Rattle.std.specs.Prelude.{ℕ, ◌*◌, ◌^◌, ◌<◌, List, Option, Some, None, Result, Ok, Err, IfSome, nat_lt, ◌==◌}
use Rattle.std.specs.Prelude.{if◌then◌else◌}
use Rattle.mp4_codec.specs.declared.box_type.BoxType.{BoxType}
use Rattle.mp4_codec.specs.declared.box_type.BoxType.TheVariants.{EsdsBox as esds, WaveBox as wave}
use Rattle.mp4_codec.specs.Cause.{Cause, ◌>>=◌}
use Rattle.mp4_codec.specs.Bytes.{bytes_at, number_at, number, zeros, ◌⧺◌}
use Rattle.mp4_codec.specs.Boxes.{IsCanonical, optional, optional_refusal}
use Rattle.mp4_codec.specs.Children.{children, gathered, fault_in, last_of}
use Rattle.mp4_codec.specs.declared.fixed_point.FixedPointU16.{FixedPointU16}
use Rattle.mp4_entry.specs.declared.esds.EsdsBox.{EsdsBox}
use Rattle.mp4_entry.specs.declared.mp4a.Mp4aBox.{Mp4aBox}
use Rattle.mp4_entry.specs.declared.mp4a.AacConfig.{AacConfig}
use Rattle.mp4_entry.specs.declared.sample_freq_index.SampleFreqIndex.{SampleFreqIndex}
use Rattle.mp4_entry.specs.ChannelConfig.{channel_number}
use Rattle.mp4_entry.specs.SampleFreqIndex.{freq_number, hertz}
use Rattle.mp4_entry.specs.Esds.{esds_of, esds_payload, esds_refusal, IsInRangeEsds, IsWellFormedEsds}

-- any payload, as it is
abbrev pub as_it_is : List ℕ → Result (List ℕ) Cause
as_it_is payload = Ok payload

-- the payload of the last child of this type; a broken tail is refused
abbrev pub last_payload : BoxType → List ℕ → Result (Option (List ℕ)) Cause
last_payload t bytes = gathered (fault_in t as_it_is) (last_of t as_it_is) (children bytes)

-- the esds whose payload was found, if one was; children that are no boxes have none
abbrev pub found_esds : Result (Option (List ℕ)) Cause → Result (Option EsdsBox) Cause
found_esds (Err c) = Ok None
found_esds (Ok None) = Ok None
found_esds (Ok (Some payload)) = esds_of payload >>= λ b. Ok (Some b)

-- the last esds in a wave, if there is a wave
abbrev pub wave_esds : Option (List ℕ) → Result (Option EsdsBox) Cause
wave_esds None = Ok None
wave_esds (Some payload) = found_esds (last_payload esds payload)

-- an esds, or else that of the last wave among these children
abbrev pub or_wave_esds : List ℕ → Option EsdsBox → Result (Option EsdsBox) Cause
or_wave_esds bytes (Some b) = Ok (Some b)
or_wave_esds bytes None = last_payload wave bytes >>= wave_esds

-- the last esds among children
abbrev pub direct_esds : List ℕ → Result (Option EsdsBox) Cause
direct_esds bytes = gathered (fault_in esds esds_of) (last_of esds esds_of) (children bytes)

-- the esds among children: the last, and where there is none, that of the last wave
unfoldable pub child_esds : List ℕ → Result (Option EsdsBox) Cause
child_esds bytes = do
  direct ← direct_esds bytes
  or_wave_esds bytes direct

-- the esds after the fields: children are there in sound version 0, and after 16 bytes more in 1
unfoldable pub versioned_esds : ℕ → List ℕ → Result (Option EsdsBox) Cause
versioned_esds version bytes =
    if version == 0 then child_esds bytes else
    if version == 1 then (bytes_at 16 bytes >>= λ more. child_esds more.1) else
    Ok None

-- the entry that a payload holds
unfoldable pub mp4a_of : List ℕ → Result Mp4aBox Cause
mp4a_of payload = do
  reserved ← bytes_at 6 payload
  data_reference_index ← number_at 2 reserved.1
  sound_version ← number_at 2 data_reference_index.1
  revision ← bytes_at 6 sound_version.1
  channelcount ← number_at 2 revision.1
  samplesize ← number_at 2 channelcount.1
  predefined ← bytes_at 4 samplesize.1
  samplerate ← number_at 4 predefined.1
  esds_there ← versioned_esds sound_version.0 samplerate.1
  Ok (record {
    data_reference_index = data_reference_index.0;
    channelcount = channelcount.0;
    samplesize = samplesize.0;
    samplerate = record { raw = samplerate.0 };
    esds = esds_there;
  })

-- the payload that holds an entry, in sound version 0
unfoldable pub mp4a_payload : Mp4aBox → List ℕ
mp4a_payload b =
    zeros 6
    ⧺ number 2 b.data_reference_index
    ⧺ number 2 0
    ⧺ zeros 6
    ⧺ number 2 b.channelcount
    ⧺ number 2 b.samplesize
    ⧺ zeros 4
    ⧺ number 4 b.samplerate.raw
    ⧺ optional esds esds_payload b.esds

-- an entry is not written where its esds is not
unfoldable pub mp4a_refusal : Mp4aBox → Option Cause
mp4a_refusal b = optional_refusal esds_refusal b.esds

-- each number is within its type
pub record IsInRangeMp4a (b : Mp4aBox) : Type 0 where
  pub data_reference_index : b.data_reference_index < 2 ^ 16
  pub channelcount : b.channelcount < 2 ^ 16
  pub samplesize : b.samplesize < 2 ^ 16
  pub samplerate : b.samplerate.raw < 2 ^ 32
  pub esds : IfSome b.esds IsInRangeEsds

-- its esds is well-formed
abbrev pub IsWellFormedMp4a : Mp4aBox → Type 0
IsWellFormedMp4a b = IfSome b.esds IsWellFormedEsds

-- an entry that is written and reads back equal
abbrev pub IsCanonicalMp4a : Mp4aBox → Type 0
IsCanonicalMp4a = IsCanonical IsInRangeMp4a IsWellFormedMp4a mp4a_payload mp4a_refusal

-- all zero, without an esds
abbrev pub default_mp4a : Mp4aBox
default_mp4a =
    record { data_reference_index = 0; channelcount = 0; samplesize = 0; samplerate = record { raw = 0 }; esds = None }

-- samples of sound in a second, as a number of 16.16 bits; 0 where they pass 65,535
abbrev pub samplerate_of : SampleFreqIndex → FixedPointU16
samplerate_of index = record { raw = if nat_lt 65535 (hertz index) then 0 else hertz index * 65536 }

-- what the decoder of a configuration is started with: MPEG-4 audio, of one bit rate
abbrev pub esds_of_config : AacConfig → EsdsBox
esds_of_config c = record {
  version = 0;
  flags = 0;
  es_desc = record {
    es_id = 1;
    dec_config = record {
      object_type_indication = 0x40;
      stream_type = 5;
      up_stream = 0;
      buffer_size_db = 0;
      max_bitrate = c.bitrate;
      avg_bitrate = c.bitrate;
      dec_specific = record {
        profile = c.profile.number;
        freq_index = freq_number c.freq_index;
        chan_conf = channel_number c.chan_conf;
      };
    };
    sl_config = record {};
  };
}

-- the entry of a configuration, in the first data reference, with samples of 16 bits
abbrev pub mp4a_of_config : AacConfig → Mp4aBox
mp4a_of_config c = record {
  data_reference_index = 1;
  channelcount = channel_number c.chan_conf;
  samplesize = 16;
  samplerate = samplerate_of c.freq_index;
  esds = Some (esds_of_config c);
}

-- the bytes of that entry, its header included
abbrev pub mp4a_config_length : AacConfig → ℕ
mp4a_config_length c = 75

-- each number is within its type
pub record IsInRangeAacConfig (c : AacConfig) : Type 0 where
  pub bitrate : c.bitrate < 2 ^ 32
  pub profile : c.profile.number < 2 ^ 8
