-- A movie box with other chunk offsets, byte for byte (ISO/IEC 14496-12, 4.2 and 8.7.5).
use Rattle.std.specs.Prelude.{◌≡◌, ◌⊎◌, ◌+◌, ◌-◌, ◌*◌, ◌/◌, ◌^◌, ◌<◌, ◌≤◌, ◌==◌, ◌||◌, ◌&&◌, ◌++◌, not, nat_lt}
use Rattle.std.specs.Prelude.{ℕ, zero, suc, min, Bool, false, if◌then◌else◌, List, [], ◌∷◌, length, take, drop}
use Rattle.std.specs.Prelude.{Option, Some, None}
use Rattle.std.specs.List.{flat_map, list_any}
use Rattle.byteorder.specs.Endian.{big_number, big_bytes}
use Rattle.mp4_codec.specs.BoxType.{code_of}
use Rattle.mp4_codec.specs.declared.box_type.BoxType.{BoxType}
use Rattle.mp4_codec.specs.declared.box_type.BoxType.TheVariants.{MoovBox, TrakBox, MdiaBox, MinfBox, StblBox}
use Rattle.mp4_codec.specs.declared.box_type.BoxType.TheVariants.{StcoBox, Co64Box}
use Rattle.mp4_codec.specs.declared.error.Error.{Error}
use Rattle.mp4_codec.specs.declared.error.Error.TheVariants.{OutOfMemory, TooLarge}
use Rattle.mp4_codec.specs.declared.error.Limit.TheVariants.{BoxSize}
use Rattle.mp4_remux.specs.declared.chunk_offsets.OffsetWidth.{OffsetWidth}
use Rattle.mp4_remux.specs.declared.chunk_offsets.OffsetWidth.TheVariants.{Narrow, Wide}
use Rattle.mp4_remux.specs.declared.data.Extent.{Extent}
use Rattle.mp4_remux.specs.declared.moves.Moves.{Moves}
use Rattle.mp4_remux.specs.declared.moves.Moves.TheVariants.{Listed, Front}
use Rattle.mp4_remux.specs.declared.movie_box.MovieEdit.{MovieEdit}
use Rattle.mp4_remux.specs.declared.top_level.TopBox.{TopBox}
use Rattle.mp4_remux.specs.Data.{AreClosedUp, closed_place}
use Rattle.mp4_remux.specs.Kept.{IsFirstBox}
use Rattle.mp4_remux.specs.References.{first_part}

-- HEADERS

-- how many bytes the size of a box has in a header of 8 bytes, and in one of 16
abbrev pub size_width : List ℕ → ℕ
size_width header = if nat_lt (length header) 16 then 4 else 8

-- a box with this header and so many bytes after it has a size that its header can say
abbrev pub HasRoom : List ℕ → ℕ → Type 0
HasRoom header n = length header + n < 256 ^ size_width header

-- the header with the size of a box that has so many bytes after it: in the first 4 bytes, or in the last 8 of 16
abbrev pub sized : List ℕ → ℕ → List ℕ
sized header n =
    if nat_lt (length header) 16 then big_bytes 4 (length header + n) ++ drop 4 header
    else take 8 header ++ big_bytes 8 (length header + n)

-- TABLES OF CHUNK OFFSETS

-- how many bytes an entry has
abbrev pub size_of : OffsetWidth → ℕ
size_of Narrow = 4
size_of Wide = 8

-- the same in a table of chunk offsets, by its type
abbrev pub entry_size : BoxType → Option ℕ
entry_size StcoBox = Some 4
entry_size Co64Box = Some 8
entry_size _ = None

-- how many entries of this size a table has whole, of those that it counts after its version and flags
abbrev pub entry_count : ℕ → List ℕ → ℕ
entry_count size payload = min (big_number 4 (drop 4 payload)) ((length payload - 8) / size)

-- so many numbers of this size, one after the other
abbrev pub numbers_in : ℕ → ℕ → List ℕ → List ℕ
numbers_in zero size bytes = []
numbers_in (suc n) size bytes = big_number size bytes ∷ numbers_in n size (drop size bytes)

-- the chunk offsets of a table
abbrev pub offsets_in : ℕ → List ℕ → List ℕ
offsets_in size payload = numbers_in (entry_count size payload) size (drop 8 payload)

-- an offset passes 32 bits where it is moved to
abbrev pub passes : (ℕ → ℕ) → ℕ → Bool
passes to offset = nat_lt (2 ^ 32 - 1) (to offset)

-- the new offsets have 64 bits: the old ones have, or a new one passes 32
abbrev pub is_wide : (ℕ → ℕ) → ℕ → List ℕ → Bool
is_wide to size payload = (size == 8) || list_any (passes to) (offsets_in size payload)

-- the type `co64` in a header
abbrev pub wide_header : Bool → List ℕ → List ℕ
wide_header wide header = if wide then take 4 header ++ (big_bytes 4 (code_of Co64Box) ++ drop 8 header) else header

-- an offset of 64 bits or of 32
abbrev pub wide_bytes : Bool → ℕ → List ℕ
wide_bytes wide offset = if wide then big_bytes 8 offset else big_bytes 4 offset

-- a payload whose entries are the new offsets: what is before them and after them stays
abbrev pub wide_payload : Bool → (ℕ → ℕ) → ℕ → List ℕ → List ℕ
wide_payload wide to size payload =
    take 8 payload ++ (flat_map (λ offset. wide_bytes wide (to offset)) (offsets_in size payload)
    ++ drop (8 + entry_count size payload * size) payload)

abbrev pub moved_payload : (ℕ → ℕ) → ℕ → List ℕ → List ℕ
moved_payload to size payload = wide_payload (is_wide to size payload) to size payload

-- the table with each offset where it is moved to
abbrev pub moved_table : (ℕ → ℕ) → ℕ → List ℕ → List ℕ → List ℕ
moved_table to size header payload =
    sized (wide_header (is_wide to size payload) header) (length (moved_payload to size payload))
    ++ moved_payload to size payload

-- THE MOVIE BOX

-- the boxes on the way to the tables of a track, by their level, which is 0 for the movie box
abbrev pub level_of : BoxType → Option ℕ
level_of MoovBox = Some 0
level_of TrakBox = Some 1
level_of MdiaBox = Some 2
level_of MinfBox = Some 3
level_of StblBox = Some 4
level_of _ = None

-- Bytes at a level and what they become when each chunk offset is moved: a box on the way has other bytes in it, and
-- its size; a table of chunk offsets, at level 5, has other offsets; every other box, and what is after the boxes,
-- stays. Bytes become one list of bytes alone (`moved_once`).
pub data IsMovedAt (to : ℕ → ℕ) : ℕ → List ℕ → List ℕ → Type 0 where
  no_box : (level : ℕ) (bytes : List ℕ) → first_part bytes ≡ None → IsMovedAt to level bytes bytes
  on_the_way : (level : ℕ) (before after rest rest_after : List ℕ) (name : BoxType)
      (header payload payload_after : List ℕ) → IsFirstBox before name header payload rest → level_of name ≡ Some level
      → IsMovedAt to (level + 1) payload payload_after → HasRoom header (length payload_after)
      → IsMovedAt to level rest rest_after
      → after ≡ sized header (length payload_after) ++ (payload_after ++ rest_after) → IsMovedAt to level before after
  of_offsets : (level : ℕ) (before after rest rest_after : List ℕ) (name : BoxType) (header payload : List ℕ)
      (size : ℕ) → IsFirstBox before name header payload rest → level ≡ 5 → entry_size name ≡ Some size
      → HasRoom header (length (moved_payload to size payload)) → IsMovedAt to level rest rest_after
      → after ≡ moved_table to size header payload ++ rest_after → IsMovedAt to level before after
  as_it_is : (level : ℕ) (before after rest rest_after : List ℕ) (name : BoxType) (header payload : List ℕ)
      → IsFirstBox before name header payload rest → (level_of name ≡ Some level → ⊥)
      → (level ≡ 5 → entry_size name ≡ None) → IsMovedAt to level rest rest_after
      → after ≡ header ++ (payload ++ rest_after) → IsMovedAt to level before after

-- PLACES

-- how many bytes of a box are before a place
abbrev pub bytes_before : TopBox → ℕ → ℕ
bytes_before b place = min place b.end - min place b.place

-- Where a byte of a file is when its file type is first, and next a movie box of so many bytes: one of the file type is
-- as far from its begin as before; any other is after these two and all bytes before it that are of neither.
abbrev pub place_in_front : TopBox → TopBox → ℕ → ℕ → ℕ
place_in_front file_type movie movie_len place =
    if not (nat_lt place file_type.place) && nat_lt place file_type.end then place - file_type.place else
    min (2 ^ 64 - 1) (place - bytes_before file_type place - bytes_before movie place
    + (file_type.end - file_type.place) + movie_len)

-- Where moves say that a byte is: where they close up bytes of the file, it is as far after the base as it is after the
-- first of these when they are closed up.
abbrev pub IsPlaceBy : Moves → ℕ → ℕ → Type 0
IsPlaceBy (Listed list base) place to = (extents : List Extent) → AreClosedUp extents list.now
    → to ≡ min (2 ^ 64 - 1) (base + closed_place extents place)
IsPlaceBy (Front file_type movie movie_len) place to = to ≡ place_in_front file_type movie movie_len place

-- the place from which those that moves list count
abbrev pub base_of : Moves → ℕ
base_of (Listed list base) = base
base_of (Front file_type movie movie_len) = 0

-- Moves are by this function: wherever they say that a byte is, it is where the function says.
pub record IsBy (moves : Moves) (to : ℕ → ℕ) : Type 0 where
  pub each : (place new : ℕ) → IsPlaceBy moves place new → new ≡ to place

-- THE EDIT

-- nothing but chunk offsets is other
pub record IsOfOffsets (edit : MovieEdit) : Type 0 where
  pub tracks : edit.tracks.items ≡ []
  pub duration : edit.duration ≡ None
  pub ids : edit.ids ≡ None
  pub gathered : edit.is_gathered ≡ false

-- as many bytes as before or more, and at most twice as many
abbrev pub IsUpToTwice : List ℕ → List ℕ → Type 0
IsUpToTwice before after = (length before ≤ length after) × (length after ≤ 2 * length before)

-- Why bytes aren't moved: out of memory; or a box with 32 bits for its size would have 2^32 bytes or more, for which
-- there have to be half as many.
abbrev pub IsWhyNotMoved : List ℕ → Error → Type 0
IsWhyNotMoved before e = (e ≡ OutOfMemory) ⊎ ((e ≡ TooLarge BoxSize) × (2 ^ 31 ≤ length before))
