-- The track fragment header (ISO/IEC 14496-12, 8.8.7).
use Rattle.std.specs.Prelude.{ℕ, ◌^◌, ◌<◌, List, Option, None, Result, Ok, IfSome}
use Rattle.mp4_codec.specs.Cause.{Cause, ◌>>=◌, ◌or◌}
use Rattle.mp4_codec.specs.Bytes.{number_at, number, ◌⧺◌}
use Rattle.mp4_codec.specs.Boxes.{IsCanonical}
use Rattle.mp4_moof.specs.Optional.{optional_at, optional_field, flag_refusal}
use Rattle.mp4_moof.specs.declared.tfhd.TfhdBox.{TfhdBox}

-- the track fragment header that a payload holds: after the track's id each field whose flag is set; what follows is
-- skipped
unfoldable pub tfhd_of : List ℕ → Result TfhdBox Cause
tfhd_of payload = do
  version ← number_at 1 payload
  flags ← number_at 3 version.1
  track_id ← number_at 4 flags.1
  base_data_offset ← optional_at (number_at 8) 0x1 flags.0 track_id.1
  sample_description_index ← optional_at (number_at 4) 0x2 flags.0 base_data_offset.1
  default_sample_duration ← optional_at (number_at 4) 0x8 flags.0 sample_description_index.1
  default_sample_size ← optional_at (number_at 4) 0x10 flags.0 default_sample_duration.1
  default_sample_flags ← optional_at (number_at 4) 0x20 flags.0 default_sample_size.1
  Ok (record {
    version = version.0;
    flags = flags.0;
    track_id = track_id.0;
    base_data_offset = base_data_offset.0;
    sample_description_index = sample_description_index.0;
    default_sample_duration = default_sample_duration.0;
    default_sample_size = default_sample_size.0;
    default_sample_flags = default_sample_flags.0;
  })

-- the payload that holds a track fragment header: each field that is there
unfoldable pub tfhd_payload : TfhdBox → List ℕ
tfhd_payload b =
    number 1 b.version
    ⧺ number 3 b.flags
    ⧺ number 4 b.track_id
    ⧺ optional_field (number 8) b.base_data_offset
    ⧺ optional_field (number 4) b.sample_description_index
    ⧺ optional_field (number 4) b.default_sample_duration
    ⧺ optional_field (number 4) b.default_sample_size
    ⧺ optional_field (number 4) b.default_sample_flags

-- a track fragment header is not written where a flag and its field disagree
unfoldable pub tfhd_refusal : TfhdBox → Option Cause
tfhd_refusal b =
    flag_refusal 0x1 b.flags b.base_data_offset
    or flag_refusal 0x2 b.flags b.sample_description_index
    or flag_refusal 0x8 b.flags b.default_sample_duration
    or flag_refusal 0x10 b.flags b.default_sample_size
    or flag_refusal 0x20 b.flags b.default_sample_flags

-- each number is within its type
pub record IsInRangeTfhd (b : TfhdBox) : Type 0 where
  pub version : b.version < 2 ^ 8
  pub track_id : b.track_id < 2 ^ 32
  pub base_data_offset : IfSome b.base_data_offset (λ n. n < 2 ^ 64)
  pub sample_description_index : IfSome b.sample_description_index (λ n. n < 2 ^ 32)
  pub default_sample_duration : IfSome b.default_sample_duration (λ n. n < 2 ^ 32)
  pub default_sample_size : IfSome b.default_sample_size (λ n. n < 2 ^ 32)
  pub default_sample_flags : IfSome b.default_sample_flags (λ n. n < 2 ^ 32)

-- flags have 24 bits
abbrev pub IsWellFormedTfhd : TfhdBox → Type 0
IsWellFormedTfhd b = b.flags < 2 ^ 24

-- a track fragment header that is written and reads back equal
abbrev pub IsCanonicalTfhd : TfhdBox → Type 0
IsCanonicalTfhd = IsCanonical IsInRangeTfhd IsWellFormedTfhd tfhd_payload tfhd_refusal

-- none of the fields that may be missing
abbrev pub default_tfhd : TfhdBox
default_tfhd = record {
  version = 0;
  flags = 0;
  track_id = 0;
  base_data_offset = None;
  sample_description_index = None;
  default_sample_duration = None;
  default_sample_size = None;
  default_sample_flags = None;
}
