-- The characters of the bytes so far.
use Rattle.std.proofs.Common.{◌≡◌, map, string_bytes, take}
use Rattle.std.specs.Str.{encode_utf8_all}
use Rattle.mp4_report.specs.UserData.{mac_char}
use Rattle.mp4_report.proofs.user_data.roman_text.Given as goal

abbrev pub invariant-loop-byte : goal.invariant-loop-byte
invariant-loop-byte l = string_bytes l.text ≡ encode_utf8_all (map mac_char (take l.byte-index l.bytes))
