-- When a track fragment begins (ISO/IEC 14496-12, 8.8.12).
use Rattle.std.specs.Prelude.{ℕ, ◌^◌, ◌<◌, List, Option, Result, Ok}
use Rattle.mp4_codec.specs.Cause.{Cause, ◌>>=◌, ◌or◌}
use Rattle.mp4_codec.specs.Bytes.{number_at, versioned_at, number, versioned, ◌⧺◌, version_refusal, value_refusal}
use Rattle.mp4_codec.specs.Boxes.{IsCanonical}
use Rattle.mp4_moof.specs.declared.tfdt.TfdtBox.{TfdtBox}

-- the decode time of a track fragment that a payload holds, field by field; what follows is skipped
unfoldable pub tfdt_of : List ℕ → Result TfdtBox Cause
tfdt_of payload = do
  version ← number_at 1 payload
  flags ← number_at 3 version.1
  base_media_decode_time ← versioned_at version.0 flags.1
  Ok (record { version = version.0; flags = flags.0; base_media_decode_time = base_media_decode_time.0 })

-- the payload that holds a decode time of a track fragment
unfoldable pub tfdt_payload : TfdtBox → List ℕ
tfdt_payload b = number 1 b.version ⧺ number 3 b.flags ⧺ versioned b.version b.base_media_decode_time

-- why a decode time of a track fragment is not written: its version, then a number that its version has no room for
unfoldable pub tfdt_refusal : TfdtBox → Option Cause
tfdt_refusal b = version_refusal b.version or value_refusal b.version b.base_media_decode_time

-- each number is within its type
pub record IsInRangeTfdt (b : TfdtBox) : Type 0 where
  pub version : b.version < 2 ^ 8
  pub base_media_decode_time : b.base_media_decode_time < 2 ^ 64

-- flags have 24 bits
abbrev pub IsWellFormedTfdt : TfdtBox → Type 0
IsWellFormedTfdt b = b.flags < 2 ^ 24

-- a decode time of a track fragment that is written and reads back equal
abbrev pub IsCanonicalTfdt : TfdtBox → Type 0
IsCanonicalTfdt = IsCanonical IsInRangeTfdt IsWellFormedTfdt tfdt_payload tfdt_refusal

-- the start of the media
abbrev pub default_tfdt : TfdtBox
default_tfdt = record { version = 0; flags = 0; base_media_decode_time = 0 }
