-- The media data (ISO/IEC 14496-12, 8.1.1).
use Rattle.std.specs.Prelude.{◌≡◌, ℕ, ◌+◌, ◌-◌, ◌^◌, ◌++◌, List, take, drop, nat_lt, if◌then◌else◌, Option, Some, None}
use Rattle.mp4_codec.specs.declared.box_type.BoxType.TheVariants.{MdatBox as mdat, WideBox as wide}
use Rattle.mp4_codec.specs.BoxType.{code_of}
use Rattle.mp4_codec.specs.Bytes.{number, ◌⧺◌}

-- The 16 bytes that begin mdat, of n bytes in all: a header and an empty `wide` box, or a header with a largesize.
unfoldable pub mdat_header_of : ℕ → List ℕ
mdat_header_of n =
    if nat_lt (2 ^ 32 - 1) n
    then number 4 1 ⧺ number 4 (code_of mdat) ⧺ number 8 n
    else number 4 n ⧺ number 4 (code_of mdat) ⧺ number 4 8 ⧺ number 4 (code_of wide)

-- These bytes, with others after them, and the header of an mdat of n bytes over the 16 at its place.
abbrev pub with_header : List ℕ → ℕ → ℕ → List ℕ → List ℕ
with_header bytes place n tail = (take place bytes ++ (mdat_header_of n ++ drop (place + 16) bytes)) ++ tail

-- where the bytes are known, these are after them, and the header over those at its place; what isn't known stays so
abbrev pub IsFinished : Option (List ℕ) → Option (List ℕ) → ℕ → ℕ → List ℕ → Type 0
IsFinished None after place n tail = after ≡ None
IsFinished (Some bytes) after place n tail = after ≡ Some (with_header bytes place n tail)
