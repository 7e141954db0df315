-- Fields as bytes, numbers the highest byte first (ISO/IEC 14496-12, 4.2): each is read from the front of
-- the bytes and leaves what is after it.
use Rattle.std.specs.Prelude.{◌≡◌, ℕ, zero, suc, ◌+◌, ◌<◌, ◌≤◌, ◌-◌, ◌*◌, ◌^◌, ℤ, List, [], ◌∷◌, ◌++◌, length, take}
use Rattle.std.specs.Prelude.{drop}
use Rattle.std.specs.Prelude.{Option}
use Rattle.std.specs.Prelude.{Some, None, Result, Ok, Err, nat_lt, ◌==◌, if◌then◌else◌, replicate, take_while, not}
use Rattle.std.specs.Prelude.{false}
use Rattle.std.specs.Int.{w16, w32, cast_signed, cast_unsigned, to_be_bytes, from_be_bytes}
use Rattle.byteorder.specs.Endian.{big_number, big_bytes}
use Rattle.mp4_codec.specs.declared.four_cc.FourCC.{FourCC}
use Rattle.mp4_codec.specs.declared.error.Limit.TheVariants.{Value}
use Rattle.mp4_codec.specs.Cause.{Cause, invalid_data, too_large, ◌>>=◌}

-- one field after another, in the order in which they are written
infixr 10 ◌⧺◌
unfoldable pub ◌⧺◌ : List ℕ → List ℕ → List ℕ
xs ⧺ ys = xs ++ ys

-- the new buffer is the old one with this piece at its end
pub record Appends (old new piece : List ℕ) : Type 0 where
  pub is : new ≡ old ++ piece

-- a reader of one field: the field and the bytes after it
abbrev pub Reader : Type 0 → Type 0
Reader A = List ℕ → Result (A × List ℕ) Cause

-- the first n bytes
unfoldable pub bytes_at : ℕ → Reader (List ℕ)
bytes_at n bytes = if nat_lt (length bytes) n then Err invalid_data else Ok (take n bytes, drop n bytes)

-- a number of n bytes, the highest first
unfoldable pub number_at : ℕ → Reader ℕ
number_at n bytes = if nat_lt (length bytes) n then Err invalid_data else Ok (big_number n (take n bytes), drop n bytes)

unfoldable pub number : ℕ → ℕ → List ℕ
number n x = big_bytes n x

-- n bytes that are written as zero and not looked at
unfoldable pub zeros : ℕ → List ℕ
zeros n = replicate n 0

-- so many fields of one kind
unfoldable pub list_at : {A : Type 0} → Reader A → ℕ → Reader (List A)
list_at read zero bytes = Ok ([], bytes)
list_at read (suc n) bytes = do
  first ← read bytes
  others ← list_at read n first.1
  Ok (first.0 ∷ others.0, others.1)

-- so many fields of n bytes each are refused where they pass the end
abbrev pub count_cause : ℕ → ℕ → List ℕ → Option Cause
count_cause count n bytes = if nat_lt (length bytes) (count * n) then Some invalid_data else None

-- signed numbers of two and of four bytes
unfoldable pub int16_at : Reader ℤ
int16_at bytes = do
  n ← number_at 2 bytes
  Ok (cast_signed w16 n.0, n.1)

unfoldable pub int16 : ℤ → List ℕ
int16 z = number 2 (cast_unsigned w16 z)

unfoldable pub int32_at : Reader ℤ
int32_at bytes = do
  n ← number_at 4 bytes
  Ok (cast_signed w32 n.0, n.1)

unfoldable pub int32 : ℤ → List ℕ
int32 z = number 4 (cast_unsigned w32 z)

-- a number of eight bytes in version 1, and of four in version 0; other versions are refused
unfoldable pub versioned_at : ℕ → Reader ℕ
versioned_at zero bytes = number_at 4 bytes
versioned_at (suc zero) bytes = number_at 8 bytes
versioned_at (suc (suc version)) bytes = Err invalid_data

-- a number of eight bytes in version 1, and of four in any other, where the version was looked at before
unfoldable pub sized_at : ℕ → Reader ℕ
sized_at version bytes = if version == 1 then number_at 8 bytes else number_at 4 bytes

-- a version that isn't 1 is written as 0
unfoldable pub versioned : ℕ → ℕ → List ℕ
versioned version x = if version == 1 then number 8 x else number 4 x

-- a version that isn't 0 or 1 is not written
abbrev pub version_refusal : ℕ → Option Cause
version_refusal version = if nat_lt 1 version then Some invalid_data else None

-- nor is a number that passes the four bytes that it has but in version 1
unfoldable pub value_refusal : ℕ → ℕ → Option Cause
value_refusal version x = if version == 1 then None else if nat_lt (2 ^ 32 - 1) x then Some (too_large Value) else None

-- a code of four bytes, by its number
abbrev pub coded : ℕ → FourCC
coded n = record { value = to_be_bytes w32 n }

-- the code that a text encodes
abbrev pub four_cc_of : List ℕ → Result FourCC Cause
four_cc_of text = if length text == 4 then Ok (record { value = text }) else Err invalid_data

unfoldable pub four_cc_at : Reader FourCC
four_cc_at bytes = do
  n ← number_at 4 bytes
  Ok (coded n.0, n.1)

unfoldable pub four_cc : FourCC → List ℕ
four_cc f = number 4 (from_be_bytes w32 f.value)

-- the bytes before the first zero, or all
unfoldable pub until_zero : List ℕ → List ℕ
until_zero bytes = take_while (λ b. not (b == 0)) bytes

-- the bytes before the first zero, which has to be there, and what is after it
unfoldable pub text_at : Reader (List ℕ)
text_at bytes = do
  text ← bytes_at (length (until_zero bytes)) bytes
  end ← bytes_at 1 text.1
  Ok (text.0, end.1)

-- what is read is n bytes long; bytes that are too few are refused, by one cause, and no others are
pub record HasLength {A : Type 0} (read : Reader A) (n : ℕ) : Type 0 where
  pub moves : (bytes : List ℕ) (x : A) (rest : List ℕ) → read bytes ≡ Ok (x, rest) → length bytes ≡ n + length rest
  pub refuses : (bytes : List ℕ) (c : Cause) → read bytes ≡ Err c → c ≡ invalid_data
  pub enough : (bytes : List ℕ) → n ≤ length bytes → (x : A × List ℕ) × (read bytes ≡ Ok x)

-- what is written by write is read by read, for each value that fits
pub record ReadsBack {A : Type 0} (read : Reader A) (write : A → List ℕ) (Fits : A → Type 0) : Type 0 where
  pub again : (x : A) (rest : List ℕ) → Fits x → read (write x ⧺ rest) ≡ Ok (x, rest)

-- what a field of either version holds
abbrev pub FitsVersion : ℕ → ℕ → Type 0
FitsVersion zero x = x < 2 ^ 32
FitsVersion (suc zero) x = x < 2 ^ 64
FitsVersion (suc (suc version)) x = ⊥

-- a code is of four bytes
abbrev pub IsCode : FourCC → Type 0
IsCode f = (n : ℕ) × (n < 2 ^ 32) × (f ≡ coded n)

-- a text that has no zero in it
abbrev pub HasNoZero : List ℕ → Type 0
HasNoZero [] = Unit {0}
HasNoZero (b ∷ bs) = ((b == 0) ≡ false) × HasNoZero bs
