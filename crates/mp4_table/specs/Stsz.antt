-- How long samples are: one size for all, or a size for each (ISO/IEC 14496-12, 8.7.3.2).
use Rattle.std.specs.Prelude.{ℕ, ◌^◌, ◌<◌, List, [], length, Option, Some, None, Result, Ok, ◌==◌, if◌then◌else◌}
use Rattle.std.specs.List.{flat_map, AllByRecursion}
use Rattle.mp4_codec.specs.Cause.{Cause, invalid_data, ◌>>=◌}
use Rattle.mp4_codec.specs.Bytes.{number_at, list_at, number, ◌⧺◌}
use Rattle.mp4_table.specs.declared.stsz.StszBox.{StszBox}
use Rattle.mp4_codec.specs.Boxes.{IsCanonical}

-- how many sizes are listed: one for each sample, where no size is that of all
abbrev pub listed : ℕ → ℕ → ℕ
listed sample_size sample_count = if sample_size == 0 then sample_count else 0

-- the table of a payload
unfoldable pub stsz_of : List ℕ → Result StszBox Cause
stsz_of payload = do
  version ← number_at 1 payload
  flags ← number_at 3 version.1
  sample_size ← number_at 4 flags.1
  sample_count ← number_at 4 sample_size.1
  sample_sizes ← list_at (number_at 4) (listed sample_size.0 sample_count.0) sample_count.1
  Ok (record {
    version = version.0;
    flags = flags.0;
    sample_size = sample_size.0;
    sample_count = sample_count.0;
    sample_sizes = sample_sizes.0;
  })

-- the payload of a table
unfoldable pub stsz_payload : StszBox → List ℕ
stsz_payload b =
    number 1 b.version ⧺ number 3 b.flags ⧺ number 4 b.sample_size ⧺ number 4 b.sample_count
    ⧺ flat_map (number 4) b.sample_sizes

-- a list that has too many sizes or too few is not written
unfoldable pub stsz_refusal : StszBox → Option Cause
stsz_refusal b = if length b.sample_sizes == listed b.sample_size b.sample_count then None else Some invalid_data

-- each number is within its type
pub record IsInRangeStsz (b : StszBox) : Type 0 where
  pub version : b.version < 2 ^ 8
  pub sample_size : b.sample_size < 2 ^ 32
  pub sample_count : b.sample_count < 2 ^ 32
  pub sample_sizes : AllByRecursion (λ n. n < 2 ^ 32) b.sample_sizes

-- flags have 24 bits
abbrev pub IsWellFormedStsz : StszBox → Type 0
IsWellFormedStsz b = b.flags < 2 ^ 24

-- a table that is written and reads back equal
abbrev pub IsCanonicalStsz : StszBox → Type 0
IsCanonicalStsz = IsCanonical IsInRangeStsz IsWellFormedStsz stsz_payload stsz_refusal

abbrev pub default_stsz : StszBox
default_stsz = record { version = 0; flags = 0; sample_size = 0; sample_count = 0; sample_sizes = [] }
