-- The video media header (ISO/IEC 14496-12, 12.1.2).
use Rattle.std.specs.Prelude.{ℕ, ◌^◌, ◌<◌, List, Result, Ok}
use Rattle.mp4_codec.specs.Cause.{Cause, ◌>>=◌}
use Rattle.mp4_codec.specs.Bytes.{number_at, number, ◌⧺◌}
use Rattle.mp4_leaf.specs.declared.vmhd.VmhdBox.{VmhdBox}
use Rattle.mp4_codec.specs.Boxes.{IsCanonical, no_refusal}

-- the video media header that a payload holds, field by field; what follows is skipped
unfoldable pub vmhd_of : List ℕ → Result VmhdBox Cause
vmhd_of payload = do
  version ← number_at 1 payload
  flags ← number_at 3 version.1
  graphics_mode ← number_at 2 flags.1
  red ← number_at 2 graphics_mode.1
  green ← number_at 2 red.1
  blue ← number_at 2 green.1
  Ok (record {
    version = version.0;
    flags = flags.0;
    graphics_mode = graphics_mode.0;
    op_color =
        record { red = red.0; green = green.0; blue = blue.0 };
  })

-- the payload that holds a video media header
unfoldable pub vmhd_payload : VmhdBox → List ℕ
vmhd_payload b =
    number 1 b.version
    ⧺ number 3 b.flags
    ⧺ number 2 b.graphics_mode
    ⧺ number 2 b.op_color.red
    ⧺ number 2 b.op_color.green
    ⧺ number 2 b.op_color.blue

-- each number is within its type
pub record IsInRangeVmhd (b : VmhdBox) : Type 0 where
  pub version : b.version < 2 ^ 8
  pub graphics_mode : b.graphics_mode < 2 ^ 16
  pub red : b.op_color.red < 2 ^ 16
  pub green : b.op_color.green < 2 ^ 16
  pub blue : b.op_color.blue < 2 ^ 16

-- flags have 24 bits
abbrev pub IsWellFormedVmhd : VmhdBox → Type 0
IsWellFormedVmhd b = b.flags < 2 ^ 24

-- a video media header that is written and reads back equal
abbrev pub IsCanonicalVmhd : VmhdBox → Type 0
IsCanonicalVmhd = IsCanonical IsInRangeVmhd IsWellFormedVmhd vmhd_payload no_refusal

-- video that covers what lies after it
abbrev pub default_vmhd : VmhdBox
default_vmhd = record { version = 0; flags = 1; graphics_mode = 0; op_color = record { red = 0; green = 0; blue = 0 } }
