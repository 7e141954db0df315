-- What an MPEG-4 audio decoder is started with: the elementary stream descriptor (ISO/IEC 14496-14, 5.6) with the
-- descriptors in it (ISO/IEC 14496-1, 7.2.6), and the configuration of the decoder (ISO/IEC 14496-3, 1.6.2.1).
use Rattle.std.specs.Prelude.{ℕ, ◌+◌, ◌-◌, ◌*◌, ◌/◌, ◌%◌, ◌^◌, ◌<◌, Bool, List, drop, not, Option, Some, None}
use Rattle.std.specs.Prelude.{Result, Ok, nat_lt, ◌==◌, if◌then◌else◌}
use Rattle.std.specs.Int.Bits.{bit_and}
use Rattle.mp4_codec.specs.Cause.{Cause, unrepresentable, ◌>>=◌, ◌or◌}
use Rattle.mp4_codec.specs.Bytes.{number_at, number, ◌⧺◌}
use Rattle.mp4_codec.specs.Boxes.{IsCanonical}
use Rattle.mp4_entry.specs.Descriptor.{padded_at, first_of, descriptor}
use Rattle.mp4_entry.specs.Narrow.{past}
use Rattle.mp4_entry.specs.declared.esds.EsdsBox.{EsdsBox}
use Rattle.mp4_entry.specs.declared.esds.ESDescriptor.{ESDescriptor}
use Rattle.mp4_entry.specs.declared.esds.DecoderConfigDescriptor.{DecoderConfigDescriptor}
use Rattle.mp4_entry.specs.declared.esds.DecoderSpecificDescriptor.{DecoderSpecificDescriptor}

-- of a word of 48 bits, so many after the first ones
abbrev pub bits : ℕ → ℕ → ℕ → ℕ
bits before count word = word / 2 ^ (48 - before - count) % 2 ^ count

-- the object type has five bits; 31 says that six more follow, which count from 32
abbrev pub has_long_profile : ℕ → Bool
has_long_profile word = bits 0 5 word == 31

abbrev pub profile_in : ℕ → ℕ
profile_in word = if has_long_profile word then 32 + bits 5 6 word else bits 0 5 word

abbrev pub profile_end : ℕ → ℕ
profile_end word = if has_long_profile word then 11 else 5

-- the index of the frequency has four bits; 15 says that the frequency itself follows, in 24
abbrev pub frequency_in : ℕ → ℕ
frequency_in word = bits (profile_end word) 4 word

abbrev pub frequency_end : ℕ → ℕ
frequency_end word = if frequency_in word == 15 then profile_end word + 28 else profile_end word + 4

-- the configuration that a body holds in its first 48 bits
unfoldable pub decoder_specific_of : List ℕ → DecoderSpecificDescriptor
decoder_specific_of body =
    let word = (padded_at 6 body).0 in record {
      profile = profile_in word;
      freq_index = frequency_in word;
      chan_conf = bits (frequency_end word) 4 word;
    }

-- the decoder that a body describes; the configuration is the body of the first descriptor of tag 5 in it
unfoldable pub decoder_config_of : List ℕ → DecoderConfigDescriptor
decoder_config_of body =
    let object_type = padded_at 1 body in
    let stream = padded_at 1 object_type.1 in
    let buffer_size = padded_at 3 stream.1 in
    let max_bitrate = padded_at 4 buffer_size.1 in
    let avg_bitrate = padded_at 4 max_bitrate.1 in record {
      object_type_indication = object_type.0;
      stream_type = stream.0 / 4;
      up_stream = stream.0 / 2 % 2;
      buffer_size_db = buffer_size.0;
      max_bitrate = max_bitrate.0;
      avg_bitrate = avg_bitrate.0;
      dec_specific = decoder_specific_of (first_of 5 avg_bitrate.1);
    }

-- whether a flag, a number of one bit, is set
unfoldable pub is_set : ℕ → ℕ → Bool
is_set flags flag = not (bit_and flags flag == 0)

-- what is after the id of another stream, of two bytes, where its flag is set
abbrev pub after_id : Bool → List ℕ → List ℕ
after_id there bytes = if there then drop 2 bytes else bytes

-- what is after a URL with its length in one byte, where its flag is set
abbrev pub after_url : Bool → List ℕ → List ℕ
after_url there bytes = if there then (let size = padded_at 1 bytes in drop size.0 size.1) else bytes

-- what is after the fields that the flags of a stream ask for: the stream that it depends on, a URL, and the
-- stream of its clock
abbrev pub after_options : ℕ → List ℕ → List ℕ
after_options flags bytes =
    after_id (is_set flags 0x20) (after_url (is_set flags 0x40) (after_id (is_set flags 0x80) bytes))

-- the stream that a body describes; its decoder is the body of the first descriptor of tag 4 in it
unfoldable pub es_descriptor_of : List ℕ → ESDescriptor
es_descriptor_of body =
    let es_id = padded_at 2 body in
    let flags = padded_at 1 es_id.1 in record {
      es_id = es_id.0;
      dec_config = decoder_config_of (first_of 4 (after_options flags.0 flags.1));
      sl_config = record {};
    }

-- the box that a payload holds; its stream is the body of the first descriptor of tag 3 in it
unfoldable pub esds_of : List ℕ → Result EsdsBox Cause
esds_of payload = do
  version ← number_at 1 payload
  flags ← number_at 3 version.1
  Ok (record { version = version.0; flags = flags.0; es_desc = es_descriptor_of (first_of 3 flags.1) })

-- the 16 bits of a configuration; the last three are zero
abbrev pub specific_word : DecoderSpecificDescriptor → ℕ
specific_word d = d.profile * 2048 + d.freq_index * 128 + d.chan_conf * 8

-- six bits of the stream's type, one that says which way it goes, and a one
abbrev pub stream_byte : DecoderConfigDescriptor → ℕ
stream_byte d = d.stream_type * 4 + d.up_stream * 2 + 1

unfoldable pub decoder_config : DecoderConfigDescriptor → List ℕ
decoder_config d =
    number 1 d.object_type_indication
    ⧺ number 1 (stream_byte d)
    ⧺ number 3 d.buffer_size_db
    ⧺ number 4 d.max_bitrate
    ⧺ number 4 d.avg_bitrate
    ⧺ descriptor 5 (number 2 (specific_word d.dec_specific))

-- no flags; the synchronization layer is the one that is predefined for MP4 files, 2
unfoldable pub es_descriptor : ESDescriptor → List ℕ
es_descriptor d =
    number 2 d.es_id ⧺ number 1 0 ⧺ descriptor 4 (decoder_config d.dec_config) ⧺ descriptor 6 (number 1 2)

-- the payload that holds a box
unfoldable pub esds_payload : EsdsBox → List ℕ
esds_payload b = number 1 b.version ⧺ number 3 b.flags ⧺ descriptor 3 (es_descriptor b.es_desc)

-- why the numbers of a configuration are not written: the first that its bits don't encode
abbrev pub specific_refusal : DecoderSpecificDescriptor → Option Cause
specific_refusal d = past 30 d.profile or past 14 d.freq_index or past 15 d.chan_conf

abbrev pub config_refusal : DecoderConfigDescriptor → Option Cause
config_refusal d =
    specific_refusal d.dec_specific
    or past 63 d.stream_type
    or past 1 d.up_stream
    or past (2 ^ 24 - 1) d.buffer_size_db

-- why a box is not written: 31 and 15 say that more bits follow, which are not written
unfoldable pub esds_refusal : EsdsBox → Option Cause
esds_refusal b = config_refusal b.es_desc.dec_config

-- each number is within its type
pub record IsInRangeEsds (b : EsdsBox) : Type 0 where
  pub version : b.version < 2 ^ 8
  pub es_id : b.es_desc.es_id < 2 ^ 16
  pub object_type_indication : b.es_desc.dec_config.object_type_indication < 2 ^ 8
  pub max_bitrate : b.es_desc.dec_config.max_bitrate < 2 ^ 32
  pub avg_bitrate : b.es_desc.dec_config.avg_bitrate < 2 ^ 32

-- flags have 24 bits
abbrev pub IsWellFormedEsds : EsdsBox → Type 0
IsWellFormedEsds b = b.flags < 2 ^ 24

-- a box that is written and reads back equal
abbrev pub IsCanonicalEsds : EsdsBox → Type 0
IsCanonicalEsds = IsCanonical IsInRangeEsds IsWellFormedEsds esds_payload esds_refusal

abbrev pub default_esds : EsdsBox
default_esds = record {
  version = 0;
  flags = 0;
  es_desc = record {
    es_id = 0;
    dec_config = record {
      object_type_indication = 0;
      stream_type = 0;
      up_stream = 0;
      buffer_size_db = 0;
      max_bitrate = 0;
      avg_bitrate = 0;
      dec_specific = record { profile = 0; freq_index = 0; chan_conf = 0 };
    };
    sl_config = record {};
  };
}
