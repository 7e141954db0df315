-- The texts of user data, and their languages (QuickTime File Format, "User data text strings and language codes").
use Rattle.std.specs.Prelude.{ℕ, ◌-◌, ◌==◌, ◌||◌, ◌&&◌, nat_lt, nat_le, Bool, if◌then◌else◌}
use Rattle.std.specs.Prelude.{List, ◌∷◌, ◌++◌, length, map, drop, slice_index, codes, Option, Some, None}
use Rattle.std.specs.Str.{encode_utf8_all, is_utf8}
use Rattle.std.specs.Str.Lossy.{utf8_lossy}
use Rattle.mp4_leaf.specs.Language.{unpacked}
use Rattle.mp4_report.specs.TagValues.{utf16_text}

-- the characters of Mac OS Roman from 0x80 on, sixteen a line
unfoldable pub mac_roman : List ℕ
mac_roman =
    codes "ÄÅÇÉÑÖÜáàâäãåçéè"
    ++ codes "êëíìîïñóòôöõúùûü"
    ++ codes "†°¢£§•¶ß®©™´¨≠ÆØ"
    ++ codes "∞±≤≥¥µ∂∑∏π∫ªºΩæø"
    ++ codes "¿¡¬√ƒ≈∆«»…" ++ (0xa0 ∷ codes "ÀÃÕŒœ")
    ++ codes "–—“”‘’÷◊ÿŸ⁄€‹›ﬁﬂ"
    ++ codes "‡·‚„‰ÂÊÁËÈÍÎÏÌÓÔ"
    ++ (0xf8ff ∷ codes "ÒÚÛÙıˆ˜¯˘˙˚¸˝˛ˇ")

-- the character of a byte in it: below 0x80 that of ASCII
abbrev pub mac_char : ℕ → ℕ
mac_char byte = if nat_lt byte 0x80 then byte else slice_index mac_roman (byte - 0x80)

-- the text in it that bytes are
unfoldable pub roman_text : List ℕ → List ℕ
roman_text bytes = encode_utf8_all (map mac_char bytes)

-- bytes begin with the byte order mark of UTF-16, the high byte first
abbrev pub begins_utf16 : List ℕ → Bool
begins_utf16 bytes = nat_le 2 (length bytes) && slice_index bytes 0 == 0xfe && slice_index bytes 1 == 0xff

-- a text without one, in the language of a code: in UTF-8; where it isn't that, of a language of Macintosh in Mac OS
-- Roman, and else with U+FFFD for what isn't
unfoldable pub unmarked_text : List ℕ → ℕ → List ℕ
unmarked_text bytes language =
    if is_utf8 bytes then bytes else
    if nat_lt language 0x400 then roman_text bytes else utf8_lossy bytes

-- a text of user data: after a byte order mark in UTF-16
unfoldable pub mac_text : List ℕ → ℕ → List ℕ
mac_text bytes language =
    if begins_utf16 bytes then utf16_text (drop 2 bytes) else unmarked_text bytes language

-- the language of a code, if it is said by three letters
abbrev pub language_of : ℕ → Option (List ℕ)
language_of code = if nat_lt code 0x400 || code == 0x7fff then None else Some (unpacked code)
