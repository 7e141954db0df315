-- Bytes and a place in them, and the headers that are there.
use Rattle.std.specs.Prelude.{ℕ, ◌+◌, ◌-◌, List, length, take, drop, Option, Some, None, Result, Ok, Err, nat_lt}
use Rattle.std.specs.Prelude.{◌==◌, if◌then◌else◌}
use Rattle.byteorder.specs.Endian.{big_number}
use Rattle.mp4_codec.specs.declared.box_type.BoxType.{BoxType}
use Rattle.mp4_codec.specs.declared.header.BoxHeader.{BoxHeader}
use Rattle.mp4_codec.specs.BoxType.{box_type}
use Rattle.mp4_codec.specs.Cause.{Cause, end_of_data, invalid_data, ◌>>=◌}

pub record Cursor : Type 0 where
  pub bytes : List ℕ
  pub position : ℕ

-- a place in bytes
abbrev pub here : List ℕ → ℕ → Cursor
here bytes n = record { bytes = bytes; position = n }

-- the bytes from the place on
abbrev pub left : Cursor → List ℕ
left cursor = drop cursor.position cursor.bytes

abbrev pub moved : ℕ → Cursor → Cursor
moved n cursor = record cursor { position = cursor.position + n }

-- the next n bytes, and the place after them
abbrev pub take_at : ℕ → Cursor → Result (List ℕ × Cursor) Cause
take_at n cursor =
    if nat_lt (length cursor.bytes) (cursor.position + n)
    then Err end_of_data else Ok (take n (left cursor), moved n cursor)

-- the type of a box, and the length of the whole box, its header included, which may be open
pub record Head : Type 0 where
  pub name : BoxType
  pub header : ℕ
  pub total : Option ℕ

-- a size of `total` bytes in a header of `header` bytes; 0 leaves the end open, and less than the header is none
abbrev pub head_with : BoxType → ℕ → ℕ → Result Head Cause
head_with name header total =
    if total == 0 then Ok (record { name = name; header = header; total = None }) else
    if nat_lt total header then Err invalid_data else
    Ok (record { name = name; header = header; total = Some total })

-- the same where the place is after the type; a size of 1 says that the size is there, in 64 bits
abbrev pub head_after : BoxType → ℕ → Cursor → Result (Head × Cursor) Cause
head_after name size cursor =
    if size == 1
    then (take_at 8 cursor >>= λ large. head_with name 16 (big_number 8 large.0) >>= λ head. Ok (head, large.1))
    else (head_with name 8 size >>= λ head. Ok (head, cursor))

-- the header at the place, and the place after it
unfoldable pub head_at : Cursor → Result (Head × Cursor) Cause
head_at cursor = do
  first ← take_at 8 cursor
  head_after (box_type (big_number 4 (drop 4 first.0))) (big_number 4 first.0) first.1

-- the size that a header reports: eight more than the payload's length, or 0 where the end is open
abbrev pub size_with : ℕ → Option ℕ → ℕ
size_with header None = 0
size_with header (Some total) = total - header + 8

abbrev pub reported : Head → BoxHeader
reported head = record { name = head.name; size = size_with head.header head.total }

-- a header of so many bytes that says this length of the whole box, as it is reported
abbrev pub header_saying : BoxType → ℕ → ℕ → Result BoxHeader Cause
header_saying name header total = head_with name header total >>= λ head. Ok (reported head)

-- the header whose first 8 bytes are these, and what follows them is at the place: as it is reported, and the place
-- after it
abbrev pub header_after : List ℕ → Cursor → Result (BoxHeader × Cursor) Cause
header_after first cursor =
    head_after (box_type (big_number 4 (drop 4 first))) (big_number 4 first) cursor >>= λ x. Ok (reported x.0, x.1)

-- the header at the place as it is reported, and the place after it
abbrev pub header_at : Cursor → Result (BoxHeader × Cursor) Cause
header_at cursor = head_at cursor >>= λ x. Ok (reported x.0, x.1)
