-- What values of metadata are (QuickTime file format, "Well-known types").
use Rattle.std.specs.Prelude.{◌≡◌, ℕ, ◌+◌, ◌*◌, ◌/◌, ◌^◌, ◌==◌, ◌||◌, nat_lt, Bool, ◌++◌, if◌then◌else◌}
use Rattle.std.specs.Prelude.{List, [], length, fold, map, take, drop}
use Rattle.std.specs.Prelude.{Option, Some, None, IsSome, MatchOption, option_map, ℤ, pos, ◌-ℤ◌, codes}
use Rattle.std.specs.Option.{option_map_or}
use Rattle.std.specs.Char.Utf16.{utf16_lossy_chars}
use Rattle.std.specs.Str.{encode_utf8_all}
use Rattle.std.specs.Str.Lossy.{utf8_lossy}
use Rattle.std.specs.Fmt.{decimal, signed_decimal}
use Rattle.std.specs.Int.{w16, w32, from_be_bytes}
use Rattle.std.specs.Simd.{first_chunks}
use Rattle.mp4_codec.specs.declared.four_cc.FourCC.{FourCC}
use Rattle.mp4_report.specs.declared.tag_value.ValueForm.{ValueForm}
use Rattle.mp4_report.specs.declared.tag_value.ValueForm.TheVariants.{Picture, Utf8, Utf16, Number, Signed}
use Rattle.mp4_report.specs.declared.tag_value.ValueForm.TheVariants.{Position, PositionOf, Empty, Bytes}

-- the number that bytes say, the highest first
abbrev pub big_endian : List ℕ → ℕ
big_endian bytes = fold (λ above byte. above * 256 + byte) 0 bytes

-- the same, where they are a number: they are eight at most
unfoldable pub number_in : List ℕ → Option ℕ
number_in bytes = if nat_lt 8 (length bytes) then None else Some (big_endian bytes)

-- a number in two's complement, of so many numbers: those of the upper half are below 0
abbrev pub twos_complement : ℕ → ℕ → ℤ
twos_complement numbers number = if nat_lt (2 * number) numbers then pos number else pos number -ℤ pos numbers

-- the signed number that bytes say, where they are a number
unfoldable pub signed_in : List ℕ → Option ℤ
signed_in bytes = option_map (twos_complement (256 ^ length bytes)) (number_in bytes)

-- the number of a row and how many there are, in the third and fourth bytes and the two after them; 0 is not said
unfoldable pub position_form : List ℕ → ValueForm
position_form bytes =
    let number = from_be_bytes w16 (take 2 (drop 2 bytes)) in
    let all = from_be_bytes w16 (take 2 (drop 4 bytes)) in
    if nat_lt (length bytes) 6 then Empty else if all == 0 then Position number else PositionOf number all

-- a number, or bytes that are none
abbrev pub number_form : List ℕ → ValueForm
number_form value = option_map_or Number (number_in value) Bytes

abbrev pub signed_form : List ℕ → ValueForm
signed_form value = option_map_or Signed (signed_in value) Bytes

-- the type of an item is one of these
abbrev pub has_position : FourCC → Bool
has_position item =
    let code = from_be_bytes w32 item.value in
    (code == from_be_bytes w32 (codes "trkn")) || (code == from_be_bytes w32 (codes "disk"))

-- where no kind is said: a position, a number of up to four bytes, or bytes
unfoldable pub unsaid_form : FourCC → List ℕ → ValueForm
unsaid_form item value =
    if has_position item then position_form value else if nat_lt 4 (length value) then Bytes else number_form value

-- how a value of a kind is shown: texts are 1, 2, 4 and 5, pictures 13, 14 and 27, signed numbers 21, 65 to 67 and 74,
-- and other numbers 22 and 75 to 78
unfoldable pub form_of : ℕ → FourCC → List ℕ → ValueForm
form_of kind item value =
    if kind == 0 then unsaid_form item value else
    if (kind == 1) || (kind == 4) then Utf8 else
    if (kind == 2) || (kind == 5) then Utf16 else
    if (kind == 13) || (kind == 14) || (kind == 27) then Picture else
    if (kind == 21) || (kind == 65) || (kind == 66) || (kind == 67) || (kind == 74) then signed_form value else
    if (kind == 22) || (kind == 75) || (kind == 76) || (kind == 77) || (kind == 78) then number_form value else Bytes

-- the numbers of 16 bits in bytes, the high byte first; a last byte alone is in none
abbrev pub utf16_units : List ℕ → List ℕ
utf16_units bytes = map (from_be_bytes w16) (first_chunks 2 (length bytes / 2) bytes)

-- the text in UTF-16 that bytes are, with U+FFFD for each surrogate without its partner
unfoldable pub utf16_text : List ℕ → List ℕ
utf16_text bytes = encode_utf8_all (utf16_lossy_chars (utf16_units bytes))

-- the text of a value in its form; how bytes are counted isn't said here
abbrev pub IsValueText : ValueForm → List ℕ → Option (List ℕ) → Type 0
IsValueText Picture value text = text ≡ None
IsValueText Utf8 value text = text ≡ Some (utf8_lossy value)
IsValueText Utf16 value text = text ≡ Some (utf16_text value)
IsValueText (Number number) value text = text ≡ Some (decimal number)
IsValueText (Signed number) value text = text ≡ Some (signed_decimal number)
IsValueText (Position number) value text = text ≡ Some (decimal number)
IsValueText (PositionOf number all) value text = text ≡ Some (decimal number ++ (codes "/" ++ decimal all))
IsValueText Empty value text = text ≡ Some []
IsValueText Bytes value text = IsSome text

-- the form of what the bytes of `data` say in an item: its kind in four bytes, four more, and the value; none where it
-- is cut
unfoldable pub data_form : FourCC → List ℕ → Option ValueForm
data_form item bytes =
    if nat_lt (length bytes) 8 then None else Some (form_of (from_be_bytes w32 (take 4 bytes)) item (drop 8 bytes))

-- the text of what they say
abbrev pub IsShownValue : FourCC → List ℕ → Option (List ℕ) → Type 0
IsShownValue item bytes text =
    MatchOption (data_form item bytes) (text ≡ None) (λ form. IsValueText form (drop 8 bytes) text)
