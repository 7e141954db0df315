-- The value of a metadata item, as iTunes writes it.
use Rattle.std.specs.Prelude.{◌≡◌, ℕ, ◌^◌, ◌<◌, List, [], Result, Ok, ◌==◌, if◌then◌else◌}
use Rattle.mp4_codec.specs.Cause.{Cause, ◌>>=◌}
use Rattle.mp4_codec.specs.Bytes.{number_at, bytes_at, number, zeros, ◌⧺◌}
use Rattle.mp4_leaf.specs.declared.data.DataType.{DataType}
use Rattle.mp4_leaf.specs.declared.data.DataType.TheVariants.{Binary, Text, Image, TempoCpil, Other}
use Rattle.mp4_leaf.specs.declared.data.DataBox.{DataBox}
use Rattle.mp4_codec.specs.Boxes.{IsCanonical, no_refusal}

-- the number of a type
abbrev pub data_code : DataType → ℕ
data_code Binary = 0
data_code Text = 1
data_code Image = 13
data_code TempoCpil = 21
data_code (Other n) = n

-- the type of a number
abbrev pub data_type : ℕ → DataType
data_type n =
    if n == 0 then Binary else
    if n == 1 then Text else
    if n == 13 then Image else
    if n == 21 then TempoCpil else
    Other n

-- the value that a payload holds: its type, and the bytes to the end
unfoldable pub data_of : List ℕ → Result DataBox Cause
data_of payload = do
  code ← number_at 4 payload
  locale ← bytes_at 4 code.1
  Ok (record { data_type = data_type code.0; bytes = locale.1 })

-- the payload that holds a value
unfoldable pub data_payload : DataBox → List ℕ
data_payload b = number 4 (data_code b.data_type) ⧺ zeros 4 ⧺ b.bytes

-- its number has 32 bits
abbrev pub IsInRangeDataType : DataType → Type 0
IsInRangeDataType t = data_code t < 2 ^ 32

-- each number is within its type
pub record IsInRangeData (b : DataBox) : Type 0 where
  pub data_type : IsInRangeDataType b.data_type

-- a type is not one of the named ones by its number
abbrev pub IsWellFormedData : DataBox → Type 0
IsWellFormedData b = data_type (data_code b.data_type) ≡ b.data_type

-- a value that is written and reads back equal
abbrev pub IsCanonicalData : DataBox → Type 0
IsCanonicalData = IsCanonical IsInRangeData IsWellFormedData data_payload no_refusal

-- no bytes
abbrev pub default_data : DataBox
default_data = record { data_type = Binary; bytes = [] }
