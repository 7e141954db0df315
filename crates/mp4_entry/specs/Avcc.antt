-- What a decoder of AVC video is started with (ISO/IEC 14496-15, 5.3.3.1).
use Rattle.std.specs.Prelude.{ℕ, ◌+◌, ◌^◌, ◌<◌, ◌%◌, List, [], ◌∷◌, length, slice_get, unwrap_or, Option}
use Rattle.std.specs.Prelude.{Result, Ok}
use Rattle.std.specs.List.{flat_map, AllByRecursion}
use Rattle.mp4_codec.specs.Cause.{Cause, ◌>>=◌, ◌or◌}
use Rattle.mp4_codec.specs.Bytes.{Reader, number_at, bytes_at, list_at, number, ◌⧺◌}
use Rattle.mp4_codec.specs.Boxes.{IsCanonical, all_refusal}
use Rattle.mp4_entry.specs.declared.avcc.NalUnit.{NalUnit}
use Rattle.mp4_entry.specs.declared.avcc.AvcCBox.{AvcCBox}
use Rattle.mp4_entry.specs.Narrow.{past}

-- the next parameter set: its length, and so many bytes
unfoldable pub unit_at : Reader NalUnit
unit_at bytes = do
  size ← number_at 2 bytes
  set ← bytes_at size.0 size.1
  Ok (record { bytes = set.0 }, set.1)

unfoldable pub unit : NalUnit → List ℕ
unit u = number 2 (length u.bytes) ⧺ u.bytes

-- what is left after so many sets
abbrev pub after_units : ℕ → List ℕ → Result (List ℕ) Cause
after_units count bytes = list_at unit_at count bytes >>= λ sets. Ok sets.1

-- whether a payload holds a configuration: its sets are passed over
unfoldable pub avcc_check : List ℕ → Result (Unit {0}) Cause
avcc_check payload = do
  configuration_version ← number_at 1 payload
  profile ← number_at 1 configuration_version.1
  compatibility ← number_at 1 profile.1
  level ← number_at 1 compatibility.1
  length_size ← number_at 1 level.1
  sequence_count ← number_at 1 length_size.1
  after_sequence_sets ← after_units (sequence_count.0 % 32) sequence_count.1
  picture_count ← number_at 1 after_sequence_sets
  after_picture_sets ← after_units picture_count.0 picture_count.1
  Ok tt

-- the configuration that a payload holds, field by field: of the length's size the low two bits count, of the number of
-- sequence parameter sets the low five; what follows the sets is skipped
unfoldable pub avcc_of : List ℕ → Result AvcCBox Cause
avcc_of payload = do
  configuration_version ← number_at 1 payload
  profile ← number_at 1 configuration_version.1
  compatibility ← number_at 1 profile.1
  level ← number_at 1 compatibility.1
  length_size ← number_at 1 level.1
  sequence_count ← number_at 1 length_size.1
  sequence_sets ← list_at unit_at (sequence_count.0 % 32) sequence_count.1
  picture_count ← number_at 1 sequence_sets.1
  picture_sets ← list_at unit_at picture_count.0 picture_count.1
  Ok (record {
    configuration_version = configuration_version.0;
    avc_profile_indication = profile.0;
    profile_compatibility = compatibility.0;
    avc_level_indication = level.0;
    length_size_minus_one = length_size.0 % 4;
    sequence_parameter_sets = sequence_sets.0;
    picture_parameter_sets = picture_sets.0;
  })

-- the payload that holds a configuration: the bits above the length's size and above the number of sequence parameter
-- sets are ones
unfoldable pub avcc_payload : AvcCBox → List ℕ
avcc_payload b =
    number 1 b.configuration_version
    ⧺ number 1 b.avc_profile_indication
    ⧺ number 1 b.profile_compatibility
    ⧺ number 1 b.avc_level_indication
    ⧺ number 1 (0xfc + b.length_size_minus_one)
    ⧺ number 1 (0xe0 + length b.sequence_parameter_sets)
    ⧺ flat_map unit b.sequence_parameter_sets
    ⧺ number 1 (length b.picture_parameter_sets)
    ⧺ flat_map unit b.picture_parameter_sets

-- a set past the two bytes of its length is not written
abbrev pub unit_refusal : NalUnit → Option Cause
unit_refusal u = past 0xffff (length u.bytes)

-- why a configuration is not written: the first number that its bits don't encode
unfoldable pub avcc_refusal : AvcCBox → Option Cause
avcc_refusal b =
    past 3 b.length_size_minus_one
    or past 31 (length b.sequence_parameter_sets)
    or past 255 (length b.picture_parameter_sets)
    or all_refusal unit_refusal b.sequence_parameter_sets
    or all_refusal unit_refusal b.picture_parameter_sets

-- each byte is within its type
abbrev pub IsInRangeNalUnit : NalUnit → Type 0
IsInRangeNalUnit u = AllByRecursion (λ b. b < 2 ^ 8) u.bytes

-- each number is within its type
pub record IsInRangeAvcC (b : AvcCBox) : Type 0 where
  pub configuration_version : b.configuration_version < 2 ^ 8
  pub avc_profile_indication : b.avc_profile_indication < 2 ^ 8
  pub profile_compatibility : b.profile_compatibility < 2 ^ 8
  pub avc_level_indication : b.avc_level_indication < 2 ^ 8
  pub length_size_minus_one : b.length_size_minus_one < 2 ^ 8

-- nothing beside what is written
abbrev pub IsWellFormedAvcC : AvcCBox → Type 0
IsWellFormedAvcC b = Unit {0}

-- a configuration that is written and reads back equal
abbrev pub IsCanonicalAvcC : AvcCBox → Type 0
IsCanonicalAvcC = IsCanonical IsInRangeAvcC IsWellFormedAvcC avcc_payload avcc_refusal

-- lengths of four bytes, and no sets
abbrev pub default_avcc : AvcCBox
default_avcc = record {
  configuration_version = 1;
  avc_profile_indication = 0;
  profile_compatibility = 0;
  avc_level_indication = 0;
  length_size_minus_one = 3;
  sequence_parameter_sets = [];
  picture_parameter_sets = [];
}

-- byte i of a set, counted from 0; 0 where it has none
abbrev pub byte_of : List ℕ → ℕ → ℕ
byte_of set i = unwrap_or (slice_get set i) 0

-- one set of each kind, and the profile, its constraints and the level that the sequence parameter set says
abbrev pub avcc_of_sets : List ℕ → List ℕ → AvcCBox
avcc_of_sets seq_set pic_set = record {
  configuration_version = 1;
  avc_profile_indication = byte_of seq_set 1;
  profile_compatibility = byte_of seq_set 2;
  avc_level_indication = byte_of seq_set 3;
  length_size_minus_one = 3;
  sequence_parameter_sets = record { bytes = seq_set } ∷ [];
  picture_parameter_sets = record { bytes = pic_set } ∷ [];
}
