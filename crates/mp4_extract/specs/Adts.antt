-- Samples of sound with a header each (ISO/IEC 14496-3, 1.A.2.2.1).
use Rattle.std.specs.Prelude.{ℕ, ◌+◌, ◌*◌, ◌-◌, ◌^◌, nat_lt, nat_le, ◌&&◌, if◌then◌else◌, Bool}
use Rattle.std.specs.Prelude.{List, [], ◌∷◌, ◌++◌, length, Option, Some, None, Result, Ok, Err}
use Rattle.mp4_codec.specs.Bytes.{number}
use Rattle.mp4_codec.specs.Cause.{Cause, too_large, seen}
use Rattle.mp4_codec.specs.declared.error.Limit.TheVariants.{SampleBytes}
use Rattle.mp4_entry.specs.declared.esds.DecoderSpecificDescriptor.{DecoderSpecificDescriptor}
use Rattle.mp4_extract.specs.declared.adts.AdtsConfig.{AdtsConfig}

-- a field: how many bits it has, and its value
abbrev pub Field : Type 0
Field = ℕ × ℕ

-- fields one after the other, the first in the highest bits, after those that are there
abbrev pub packed : ℕ → List Field → ℕ
packed bits [] = bits
packed bits ((width, value) ∷ fields) = packed (bits * 2 ^ width + value) fields

-- the fields of a header: those of adts_fixed_header, and then those of adts_variable_header
abbrev pub header_fields : AdtsConfig → ℕ → List Field
header_fields config frame_length =
    (12, 0xfff)  -- syncword
    ∷ (1, 0)  -- ID: MPEG-4
    ∷ (2, 0)  -- layer
    ∷ (1, 1)  -- protection_absent: no checksum
    ∷ (2, config.object_type - 1)  -- profile_ObjectType
    ∷ (4, config.freq_index)  -- sampling_frequency_index
    ∷ (1, 0)  -- private_bit
    ∷ (3, config.chan_conf)  -- channel_configuration
    ∷ (1, 0)  -- original_copy
    ∷ (1, 0)  -- home
    ∷ (1, 0)  -- copyright_identification_bit
    ∷ (1, 0)  -- copyright_identification_start
    ∷ (13, frame_length)  -- aac_frame_length
    ∷ (11, 0x7ff)  -- adts_buffer_fullness: not said
    ∷ (2, 0)  -- number_of_raw_data_blocks_in_frame, less 1
    ∷ []

-- a header, 7 bytes
unfoldable pub header : AdtsConfig → ℕ → List ℕ
header config frame_length = number 7 (packed 0 (header_fields config frame_length))

-- a sample after its header, whose frame length counts both; one that passes 13 bits is refused
unfoldable pub frame_of : AdtsConfig → List ℕ → Result (List ℕ) Cause
frame_of config sample =
    if nat_lt 8191 (7 + length sample) then Err (too_large SampleBytes) else
    Ok (header config (7 + length sample) ++ sample)

-- an answer after bytes that are there
abbrev pub with_front : List ℕ → Result (List ℕ) Cause → Result (List ℕ) Cause
with_front front answer = seen (λ bytes. front ++ bytes) answer

-- whether a header can say a decoder's configuration: the object types 1 to 4, the frequencies of the standard's table,
-- and channels that aren't said elsewhere
abbrev pub is_sayable : DecoderSpecificDescriptor → Bool
is_sayable d =
    nat_le 1 d.profile && nat_le d.profile 4 && nat_le d.freq_index 12 && nat_le 1 d.chan_conf && nat_le d.chan_conf 7

-- the numbers that all headers of a track say, where they can: the object type, the place of the frequency, the
-- channels
abbrev pub AdtsNumbers : Type 0
AdtsNumbers = ℕ × ℕ × ℕ

abbrev pub numbers_of : AdtsConfig → AdtsNumbers
numbers_of config = (config.object_type, config.freq_index, config.chan_conf)

unfoldable pub adts_of : DecoderSpecificDescriptor → Option AdtsNumbers
adts_of d = if is_sayable d then Some (d.profile, d.freq_index, d.chan_conf) else None
