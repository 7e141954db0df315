-- The track fragment run (ISO/IEC 14496-12, 8.8.8).
use Rattle.std.specs.Prelude.{◌≡◌, ℕ, ◌^◌, ◌<◌, List, [], Option, None, Result, Ok, IfSome, FitsSigned}
use Rattle.std.specs.Int.{w32}
use Rattle.std.specs.List.{flat_map, AllByRecursion}
use Rattle.mp4_codec.specs.Cause.{Cause, ◌>>=◌, ◌or◌}
use Rattle.mp4_codec.specs.Bytes.{number_at, int32_at, number, int32, ◌⧺◌}
use Rattle.mp4_codec.specs.Boxes.{IsCanonical}
use Rattle.mp4_moof.specs.Optional.{optional_at, optional_field, flag_refusal}
use Rattle.mp4_moof.specs.Rows.{columns_at, row_length, row, rows, longest, column_refusal}
use Rattle.mp4_moof.specs.declared.rows.Columns.{Columns}
use Rattle.mp4_moof.specs.declared.trun.TrunBox.{TrunBox}

-- the run that a payload holds: after the count each field whose flag is set, and then as many rows as it counts; what
-- follows is skipped
unfoldable pub trun_of : List ℕ → Result TrunBox Cause
trun_of payload = do
  version ← number_at 1 payload
  flags ← number_at 3 version.1
  sample_count ← number_at 4 flags.1
  data_offset ← optional_at int32_at 0x1 flags.0 sample_count.1
  first_sample_flags ← optional_at (number_at 4) 0x4 flags.0 data_offset.1
  samples ← columns_at flags.0 sample_count.0 first_sample_flags.1
  Ok (record {
    version = version.0;
    flags = flags.0;
    sample_count = sample_count.0;
    data_offset = data_offset.0;
    first_sample_flags = first_sample_flags.0;
    sample_durations = samples.0.durations;
    sample_sizes = samples.0.sizes;
    sample_flags = samples.0.flags;
    sample_cts = samples.0.cts;
  })

-- the flags of a payload
unfoldable pub flags_of : List ℕ → Result ℕ Cause
flags_of payload = do
  version ← number_at 1 payload
  flags ← number_at 3 version.1
  Ok flags.0

-- a payload whose flags ask for none of the four lists
pub record ListsNothing (payload : List ℕ) : Type 0 where
  pub flags : ℕ
  pub is : flags_of payload ≡ Ok flags
  pub no_rows : row_length flags ≡ 0

-- the four lists of a run
abbrev pub columns_of : TrunBox → Columns
columns_of b = record {
  durations = b.sample_durations;
  sizes = b.sample_sizes;
  flags = b.sample_flags;
  cts = b.sample_cts;
}

-- the payload that holds a run: each field that is there, and then as many rows as its longest list has values
unfoldable pub trun_payload : TrunBox → List ℕ
trun_payload b =
    number 1 b.version
    ⧺ number 3 b.flags
    ⧺ number 4 b.sample_count
    ⧺ optional_field int32 b.data_offset
    ⧺ optional_field (number 4) b.first_sample_flags
    ⧺ flat_map row (rows (columns_of b) (longest (columns_of b)))

-- a run is not written where a flag and its field disagree, or a list has too many values or too few
unfoldable pub trun_refusal : TrunBox → Option Cause
trun_refusal b =
    flag_refusal 0x1 b.flags b.data_offset
    or flag_refusal 0x4 b.flags b.first_sample_flags
    or column_refusal 0x100 b.flags b.sample_count b.sample_durations
    or column_refusal 0x200 b.flags b.sample_count b.sample_sizes
    or column_refusal 0x400 b.flags b.sample_count b.sample_flags
    or column_refusal 0x800 b.flags b.sample_count b.sample_cts

-- each number is within its type
pub record IsInRangeTrun (b : TrunBox) : Type 0 where
  pub version : b.version < 2 ^ 8
  pub sample_count : b.sample_count < 2 ^ 32
  pub data_offset : IfSome b.data_offset (FitsSigned w32)
  pub first_sample_flags : IfSome b.first_sample_flags (λ n. n < 2 ^ 32)
  pub sample_durations : AllByRecursion (λ n. n < 2 ^ 32) b.sample_durations
  pub sample_sizes : AllByRecursion (λ n. n < 2 ^ 32) b.sample_sizes
  pub sample_flags : AllByRecursion (λ n. n < 2 ^ 32) b.sample_flags
  pub sample_cts : AllByRecursion (λ n. n < 2 ^ 32) b.sample_cts

-- flags have 24 bits
abbrev pub IsWellFormedTrun : TrunBox → Type 0
IsWellFormedTrun b = b.flags < 2 ^ 24

-- a run that is written and reads back equal
abbrev pub IsCanonicalTrun : TrunBox → Type 0
IsCanonicalTrun = IsCanonical IsInRangeTrun IsWellFormedTrun trun_payload trun_refusal

-- no samples
abbrev pub default_trun : TrunBox
default_trun = record {
  version = 0;
  flags = 0;
  sample_count = 0;
  data_offset = None;
  first_sample_flags = None;
  sample_durations = [];
  sample_sizes = [];
  sample_flags = [];
  sample_cts = [];
}
