-- The handler of a track or of metadata (ISO/IEC 14496-12, 8.4.3).
use Rattle.std.specs.Prelude.{ℕ, ◌^◌, ◌<◌, List, [], Result, Ok, replicate}
use Rattle.mp4_codec.specs.Cause.{Cause, ◌>>=◌}
use Rattle.mp4_codec.specs.Bytes.{number_at, bytes_at, four_cc_at, until_zero, number, zeros, four_cc, ◌⧺◌, IsCode}
use Rattle.mp4_codec.specs.Bytes.{HasNoZero}
use Rattle.mp4_leaf.specs.declared.hdlr.HdlrBox.{HdlrBox}
use Rattle.mp4_codec.specs.Boxes.{IsCanonical, no_refusal}

-- the handler that a payload holds; its name ends at the first zero byte, or at the end
unfoldable pub hdlr_of : List ℕ → Result HdlrBox Cause
hdlr_of payload = do
  version ← number_at 1 payload
  flags ← number_at 3 version.1
  predefined ← bytes_at 4 flags.1
  handler_type ← four_cc_at predefined.1
  reserved ← bytes_at 12 handler_type.1
  Ok (record { version = version.0; flags = flags.0; handler_type = handler_type.0; name = until_zero reserved.1 })

-- the payload that holds a handler
unfoldable pub hdlr_payload : HdlrBox → List ℕ
hdlr_payload b = number 1 b.version ⧺ number 3 b.flags ⧺ zeros 4 ⧺ four_cc b.handler_type ⧺ zeros 12 ⧺ b.name ⧺ zeros 1

-- each number is within its type
pub record IsInRangeHdlr (b : HdlrBox) : Type 0 where
  pub version : b.version < 2 ^ 8
  pub handler_type : IsCode b.handler_type

-- flags have 24 bits, and no byte of the name is zero
pub record IsWellFormedHdlr (b : HdlrBox) : Type 0 where
  pub flags : b.flags < 2 ^ 24
  pub name : HasNoZero b.name

-- a handler that is written and reads back equal
abbrev pub IsCanonicalHdlr : HdlrBox → Type 0
IsCanonicalHdlr = IsCanonical IsInRangeHdlr IsWellFormedHdlr hdlr_payload no_refusal

-- a handler of no type and no name
abbrev pub default_hdlr : HdlrBox
default_hdlr = record { version = 0; flags = 0; handler_type = record { value = replicate 4 0 }; name = [] }
