-- Texts of samples, and when they are shown (3GPP TS 26.245, 5.2 and 5.17; ISO/IEC 14496-12, 8.4.2).
use Rattle.std.specs.Prelude.{◌⊎◌, IsUtf8}
use Rattle.std.specs.Prelude.{◌≡◌, ℕ, ◌+◌, ◌-◌, ◌*◌, ◌/◌, ◌^◌, nat_lt, nat_le, ◌==◌, ◌&&◌, Bool, true, false}
use Rattle.std.specs.Prelude.{if◌then◌else◌, List, [], length, drop, slice_index, Result, Ok, Err}
use Rattle.std.specs.Char.Utf16.{has_unpaired_surrogate}
use Rattle.std.specs.String.{IsUtf16Of}
use Rattle.mp4_codec.specs.Bytes.{number_at, bytes_at, list_at}
use Rattle.mp4_codec.specs.Cause.{Cause, invalid_data, zero_timescale, too_large, ◌>>=◌}
use Rattle.mp4_codec.specs.declared.error.Limit.TheVariants.{Value}

-- so many ticks, of which a second has `timescale`, in milliseconds: rounded to the nearest, and halves up. No time is
-- known without ticks in a second, nor where it passes 64 bits.
unfoldable pub milliseconds_of : ℕ → ℕ → Result ℕ Cause
milliseconds_of ticks timescale =
    if timescale == 0 then Err zero_timescale else
    if nat_lt (2 ^ 64 - 1) ((ticks * 2000 + timescale) / (2 * timescale)) then Err (too_large Value) else
    Ok ((ticks * 2000 + timescale) / (2 * timescale))

-- the bytes of the text of a sample: its length in two bytes, and as many bytes
unfoldable pub text_bytes : List ℕ → Result (List ℕ) Cause
text_bytes sample = do
  size ← number_at 2 sample
  text ← bytes_at size.0 size.1
  Ok text.0

-- whether a text is in UTF-16: it begins with a byte order mark
abbrev pub begins_utf16 : List ℕ → Bool
begins_utf16 bytes = nat_le 2 (length bytes) && slice_index bytes 0 == 0xfe && slice_index bytes 1 == 0xff

-- these units of two bytes are all that the bytes hold, and the text is theirs
abbrev pub IsUtf16Text : List ℕ → List ℕ → Type 0
IsUtf16Text bytes text =
    (units : List ℕ) × (list_at (number_at 2) (length bytes / 2) bytes ≡ Ok (units, [])) × (IsUtf16Of units text)

abbrev pub IsDecoded : Bool → List ℕ → List ℕ → Type 0
IsDecoded true bytes text = IsUtf16Text (drop 2 bytes) text
IsDecoded false bytes text = text ≡ bytes

-- the text of a sample, in UTF-8
abbrev pub IsTextOf : List ℕ → List ℕ → Type 0
IsTextOf sample text =
    (bytes : List ℕ) × (text_bytes sample ≡ Ok bytes) × (IsDecoded (begins_utf16 bytes) bytes text)

-- bytes are no text in UTF-16: they aren't units of two bytes, or a unit is one of a pair without the other
abbrev pub IsNoUtf16 : List ℕ → Type 0
IsNoUtf16 bytes =
    (¬ ((units : List ℕ) × (list_at (number_at 2) (length bytes / 2) bytes ≡ Ok (units, []))))
    ⊎ ((units : List ℕ) × (list_at (number_at 2) (length bytes / 2) bytes ≡ Ok (units, []))
    × (has_unpaired_surrogate units ≡ true))

abbrev pub IsUndecodable : Bool → List ℕ → Type 0
IsUndecodable true bytes = IsNoUtf16 (drop 2 bytes)
IsUndecodable false bytes = ¬ (IsUtf8 bytes)

-- a sample has no text: its length passes the sample's end, or it isn't encoded as it should be
abbrev pub HasNoText : List ℕ → Type 0
HasNoText sample =
    (text_bytes sample ≡ Err invalid_data)
    ⊎ ((bytes : List ℕ) × (text_bytes sample ≡ Ok bytes) × (IsUndecodable (begins_utf16 bytes) bytes))

-- memory is wanted for the text of a sample: its bytes are there, and encoded as they should be where they aren't in
-- UTF-16
abbrev pub WantsText : List ℕ → Type 0
WantsText sample =
    (bytes : List ℕ) × (text_bytes sample ≡ Ok bytes) × (begins_utf16 bytes ≡ false → IsUtf8 bytes)
