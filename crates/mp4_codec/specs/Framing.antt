-- What ISO/IEC 14496-12 calls a box, in terms of the bytes and not of how they are read.
use Rattle.std.specs.Prelude.{◌≡◌, ◌<◌, ◌≤◌, ℕ, ◌+◌, ◌^◌, List, [], ◌∷◌, ◌++◌, length, drop, Option, Ok}
use Rattle.std.specs.List.{AllByRecursion}
use Rattle.byteorder.specs.Endian.{big_number}
use Rattle.mp4_codec.specs.declared.box_type.BoxType.{BoxType}
use Rattle.mp4_codec.specs.BoxType.{code_of, IsNamed}
use Rattle.mp4_codec.specs.Cause.{Cause, end_of_data, invalid_data}
use Rattle.mp4_codec.specs.Cursor.{take_at, head_at, header_at}
use Rattle.mp4_codec.specs.Bytes.{number, ◌⧺◌}
use Rattle.mp4_codec.specs.Boxes.{box_bytes}
use Rattle.mp4_codec.specs.Children.{ChildBox}

-- each element is a byte
abbrev pub IsBytes : List ℕ → Type 0
IsBytes bytes = AllByRecursion (λ b. b < 256) bytes

-- a payload after a header of 16 bytes, whose size of 1 says that the size is after the type, in 64 bits
unfoldable pub long_box_bytes : BoxType → List ℕ → List ℕ
long_box_bytes name payload = number 4 1 ⧺ number 4 (code_of name) ⧺ number 8 (16 + length payload) ⧺ payload

-- four bytes encode this type, and are read as this type
pub record IsEncodable (name : BoxType) : Type 0 where
  pub named : IsNamed name
  pub code : code_of name < 2 ^ 32

-- the bytes are a box of this type around this payload, with its size in one of its two encodings
pub data IsBox (name : BoxType) (payload bytes : List ℕ) : Type 0 where
  short : IsEncodable name → 8 + length payload < 2 ^ 32 → bytes ≡ box_bytes name payload → IsBox name payload bytes
  long : IsEncodable name → 16 + length payload < 2 ^ 64 → bytes ≡ long_box_bytes name payload
      → IsBox name payload bytes

-- Read at this place, the header says the type and eight more than the payload's length, whatever the encoding;
-- the payload is after the header, and the place after the payload is after the whole box.
pub record ReadsAsBox (name : BoxType) (payload box : List ℕ) (bytes : List ℕ) (place : ℕ) : Type 0 where
  pub header : ℕ
  pub whole : header + length payload ≡ length box
  pub head : header_at (record { bytes = bytes; position = place })
      ≡ Ok (record { name = name; size = 8 + length payload }, record { bytes = bytes; position = place + header })
  pub body : take_at (length payload) (record { bytes = bytes; position = place + header })
      ≡ Ok (payload, record { bytes = bytes; position = place + length box })

-- the eight bytes of a header with this size
abbrev pub short_header : BoxType → ℕ → List ℕ
short_header name size = number 4 size ⧺ number 4 (code_of name)

-- the sixteen bytes of a header with this 64-bit size
abbrev pub long_header : BoxType → ℕ → List ℕ
long_header name size = number 4 1 ⧺ number 4 (code_of name) ⧺ number 8 size

-- Where these bytes are, whatever is before them and after them, the header says this type and this length of the
-- whole box, or an
-- open end; and the place after it is that after the bytes.
abbrev pub SaysBox : BoxType → Option ℕ → (header before after : List ℕ) → Type 0
SaysBox name total header before after =
    let bytes = before ++ (header ++ after) in
    head_at (record { bytes = bytes; position = length before })
    ≡ Ok (
      record { name = name; header = length header; total = total },
      record { bytes = bytes; position = length before + length header },
    )

-- the size in a header
abbrev pub size_in : List ℕ → ℕ
size_in left = big_number 4 left

-- the 64-bit size after the type
abbrev pub large_size_in : List ℕ → ℕ
large_size_in left = big_number 8 (drop 8 left)

-- why no header is read off the bytes that are left, and what is answered then
pub data WhyNoHead (left : List ℕ) (c : Cause) : Type 0 where
  -- fewer than 8 bytes are left
  cut_short : length left < 8 → c ≡ end_of_data → WhyNoHead left c
  -- the size is 1, and fewer than the 16 bytes of such a header are left
  large_cut_short : 8 ≤ length left → size_in left ≡ 1 → length left < 16 → c ≡ end_of_data → WhyNoHead left c
  -- the size is 2 to 7, less than the header
  too_small : 8 ≤ length left → 2 ≤ size_in left → size_in left ≤ 7 → c ≡ invalid_data → WhyNoHead left c
  -- the size is 1, and the 64-bit size is 1 to 15, less than the header
  large_too_small : 16 ≤ length left → size_in left ≡ 1 → 1 ≤ large_size_in left → large_size_in left ≤ 15
      → c ≡ invalid_data → WhyNoHead left c

-- no box begins these bytes
abbrev pub NoBoxBegins : List ℕ → Type 0
NoBoxBegins bytes = (name : BoxType) (payload f rest : List ℕ) → IsBox name payload f → bytes ≡ f ++ rest → ⊥

-- where the children end: fewer bytes are left than a header has, or no box begins what is left
pub data EndsChildren (tail : List ℕ) : Type 0 where
  closed : length tail < 8 → EndsChildren tail
  broken : 8 ≤ length tail → NoBoxBegins tail → EndsChildren tail

-- the payload is a box around this child, and then others
pub record IsFirst (payload : List ℕ) (k : ChildBox) (Others : List ℕ → Type 0) : Type 0 where
  pub box : List ℕ
  pub rest : List ℕ
  pub is : payload ≡ box ++ rest
  pub boxes : IsBox k.0 k.1 box
  pub others : Others rest

-- the payload is a box around each child of the list, one after the other, and then the tail, where the children end
unfoldable pub AreChildren : List ℕ → List ChildBox → List ℕ → Type 0
AreChildren payload [] tail = (payload ≡ tail) × EndsChildren tail
AreChildren payload (k ∷ ks) tail = IsFirst payload k (λ rest. AreChildren rest ks tail)
