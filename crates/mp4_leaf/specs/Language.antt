-- The language of a media header: three letters of five bits each (ISO/IEC 14496-12, 8.4.2).
use Rattle.std.specs.Prelude.{ℕ, ◌+◌, ◌*◌, ◌/◌, ◌%◌, List, [], ◌∷◌, Option, Some, None, Bool, false, ◌&&◌, nat_le}
use Rattle.std.specs.Prelude.{if◌then◌else◌}
use Rattle.mp4_codec.specs.Cause.{Cause, unrepresentable}

-- the letter of the low five bits of a number
abbrev pub letter : ℕ → ℕ
letter n = n % 32 + 0x60

-- the three letters of a packed language; the highest bit is not looked at
abbrev pub unpacked : ℕ → List ℕ
unpacked n = letter (n / 1024) ∷ letter (n / 32) ∷ letter n ∷ []

-- a text of three letters in 15 bits; a text of another length, which is not written, is 0
abbrev pub packed : List ℕ → ℕ
packed (a ∷ b ∷ c ∷ []) = a % 32 * 1024 + b % 32 * 32 + c % 32
packed text = 0

abbrev pub is_letter : ℕ → Bool
is_letter c = nat_le 0x60 c && nat_le c 0x7f

abbrev pub is_language : List ℕ → Bool
is_language (a ∷ b ∷ c ∷ []) = is_letter a && (is_letter b && is_letter c)
is_language text = false

-- a text that isn't three letters is not written
unfoldable pub language_refusal : List ℕ → Option Cause
language_refusal text = if is_language text then None else Some unrepresentable
