-- The sound media header (ISO/IEC 14496-12, 12.2.2).
use Rattle.std.specs.Prelude.{ℕ, ◌^◌, ◌<◌, List, Result, Ok, FitsSigned, pos}
use Rattle.std.specs.Int.{w16}
use Rattle.mp4_codec.specs.Cause.{Cause, ◌>>=◌}
use Rattle.mp4_codec.specs.Bytes.{number_at, int16_at, bytes_at, number, int16, zeros, ◌⧺◌}
use Rattle.mp4_leaf.specs.declared.smhd.SmhdBox.{SmhdBox}
use Rattle.mp4_codec.specs.Boxes.{IsCanonical, no_refusal}

-- the sound media header that a payload holds, field by field; what follows is skipped
unfoldable pub smhd_of : List ℕ → Result SmhdBox Cause
smhd_of payload = do
  version ← number_at 1 payload
  flags ← number_at 3 version.1
  balance ← int16_at flags.1
  reserved ← bytes_at 2 balance.1
  Ok (record { version = version.0; flags = flags.0; balance = record { raw = balance.0 } })

-- the payload that holds a sound media header
unfoldable pub smhd_payload : SmhdBox → List ℕ
smhd_payload b = number 1 b.version ⧺ number 3 b.flags ⧺ int16 b.balance.raw ⧺ zeros 2

-- each number is within its type
pub record IsInRangeSmhd (b : SmhdBox) : Type 0 where
  pub version : b.version < 2 ^ 8
  pub balance : FitsSigned w16 b.balance.raw

-- flags have 24 bits
abbrev pub IsWellFormedSmhd : SmhdBox → Type 0
IsWellFormedSmhd b = b.flags < 2 ^ 24

-- a sound media header that is written and reads back equal
abbrev pub IsCanonicalSmhd : SmhdBox → Type 0
IsCanonicalSmhd = IsCanonical IsInRangeSmhd IsWellFormedSmhd smhd_payload no_refusal

-- sound in the centre
abbrev pub default_smhd : SmhdBox
default_smhd = record { version = 0; flags = 0; balance = record { raw = pos 0 } }
