-- What a decoder of HEVC video is started with (ISO/IEC 14496-15, 8.3.3.1), as the bytes that are there.
use Rattle.std.specs.Prelude.{ℕ, List, Result, Ok}
use Rattle.mp4_codec.specs.Cause.{Cause}
use Rattle.mp4_codec.specs.Bytes.{number, zeros, ◌⧺◌}
use Rattle.mp4_codec.specs.Boxes.{IsCanonical, no_refusal}
use Rattle.mp4_entry.specs.declared.hvcc.HvcCBox.{HvcCBox}

-- the configuration that a payload is
unfoldable pub hvcc_of : List ℕ → Result HvcCBox Cause
hvcc_of payload = Ok (record { raw = payload })

-- the payload that a configuration is
unfoldable pub hvcc_payload : HvcCBox → List ℕ
hvcc_payload b = b.raw

-- its bytes are not looked at
abbrev pub IsInRangeHvcC : HvcCBox → Type 0
IsInRangeHvcC b = Unit {0}

-- nothing beside what is written
abbrev pub IsWellFormedHvcC : HvcCBox → Type 0
IsWellFormedHvcC b = Unit {0}

-- a configuration that is written and reads back equal
abbrev pub IsCanonicalHvcC : HvcCBox → Type 0
IsCanonicalHvcC = IsCanonical IsInRangeHvcC IsWellFormedHvcC hvcc_payload no_refusal

-- version 1 of the configuration, and all else zero
abbrev pub default_hvcc : HvcCBox
default_hvcc = record { raw = number 1 1 ⧺ zeros 22 }
