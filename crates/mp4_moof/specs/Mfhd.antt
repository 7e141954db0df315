-- The movie fragment header (ISO/IEC 14496-12, 8.8.5).
use Rattle.std.specs.Prelude.{ℕ, ◌^◌, ◌<◌, List, Result, Ok}
use Rattle.mp4_codec.specs.Cause.{Cause, ◌>>=◌}
use Rattle.mp4_codec.specs.Bytes.{number_at, number, ◌⧺◌}
use Rattle.mp4_codec.specs.Boxes.{IsCanonical, no_refusal}
use Rattle.mp4_moof.specs.declared.mfhd.MfhdBox.{MfhdBox}

-- the movie fragment header that a payload holds, field by field; what follows is skipped
unfoldable pub mfhd_of : List ℕ → Result MfhdBox Cause
mfhd_of payload = do
  version ← number_at 1 payload
  flags ← number_at 3 version.1
  sequence_number ← number_at 4 flags.1
  Ok (record {
    version = version.0;
    flags = flags.0;
    sequence_number = sequence_number.0;
  })

-- the payload that holds a movie fragment header
unfoldable pub mfhd_payload : MfhdBox → List ℕ
mfhd_payload b =
    number 1 b.version
    ⧺ number 3 b.flags
    ⧺ number 4 b.sequence_number

-- each number is within its type
pub record IsInRangeMfhd (b : MfhdBox) : Type 0 where
  pub version : b.version < 2 ^ 8
  pub sequence_number : b.sequence_number < 2 ^ 32

-- flags have 24 bits
abbrev pub IsWellFormedMfhd : MfhdBox → Type 0
IsWellFormedMfhd b = b.flags < 2 ^ 24

-- a movie fragment header that is written and reads back equal
abbrev pub IsCanonicalMfhd : MfhdBox → Type 0
IsCanonicalMfhd = IsCanonical IsInRangeMfhd IsWellFormedMfhd mfhd_payload no_refusal

-- the first fragment
abbrev pub default_mfhd : MfhdBox
default_mfhd = record { version = 0; flags = 0; sequence_number = 1 }
