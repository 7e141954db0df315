-- How long a movie with its fragments is (ISO/IEC 14496-12, 8.8.2).
use Rattle.std.specs.Prelude.{ℕ, ◌^◌, ◌<◌, List, Option, Result, Ok}
use Rattle.mp4_codec.specs.Cause.{Cause, ◌>>=◌, ◌or◌}
use Rattle.mp4_codec.specs.Bytes.{number_at, versioned_at, number, versioned, ◌⧺◌, version_refusal, value_refusal}
use Rattle.mp4_codec.specs.Boxes.{IsCanonical}
use Rattle.mp4_moof.specs.declared.mehd.MehdBox.{MehdBox}

-- the movie extends header that a payload holds, field by field; what follows is skipped
unfoldable pub mehd_of : List ℕ → Result MehdBox Cause
mehd_of payload = do
  version ← number_at 1 payload
  flags ← number_at 3 version.1
  fragment_duration ← versioned_at version.0 flags.1
  Ok (record { version = version.0; flags = flags.0; fragment_duration = fragment_duration.0 })

-- the payload that holds a movie extends header
unfoldable pub mehd_payload : MehdBox → List ℕ
mehd_payload b = number 1 b.version ⧺ number 3 b.flags ⧺ versioned b.version b.fragment_duration

-- why a movie extends header is not written: its version, then a number that its version has no room for
unfoldable pub mehd_refusal : MehdBox → Option Cause
mehd_refusal b = version_refusal b.version or value_refusal b.version b.fragment_duration

-- each number is within its type
pub record IsInRangeMehd (b : MehdBox) : Type 0 where
  pub version : b.version < 2 ^ 8
  pub fragment_duration : b.fragment_duration < 2 ^ 64

-- flags have 24 bits
abbrev pub IsWellFormedMehd : MehdBox → Type 0
IsWellFormedMehd b = b.flags < 2 ^ 24

-- a movie extends header that is written and reads back equal
abbrev pub IsCanonicalMehd : MehdBox → Type 0
IsCanonicalMehd = IsCanonical IsInRangeMehd IsWellFormedMehd mehd_payload mehd_refusal

-- no duration
abbrev pub default_mehd : MehdBox
default_mehd = record { version = 0; flags = 0; fragment_duration = 0 }
