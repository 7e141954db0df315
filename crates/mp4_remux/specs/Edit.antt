-- A movie box that is edited, byte for byte: tracks are left out, moved or made, and durations and references are
-- others (ISO/IEC 14496-12, 4.2 and 8.2 to 8.8).
use Rattle.std.specs.Prelude.{◌≡◌, ◌⊎◌, ◌+◌, ◌-◌, ◌*◌, ◌^◌, ◌==◌, ◌||◌, ◌++◌, nat_lt, ℕ, zero, suc, Bool, false}
use Rattle.std.specs.Prelude.{if◌then◌else◌, List, [], ◌∷◌, length, take, drop, Option, Some, None, slice_get}
use Rattle.std.specs.Prelude.{option_map, vec_items}
use Rattle.byteorder.specs.Endian.{big_number, big_bytes}
use Rattle.mp4_codec.specs.BoxType.{code_of}
use Rattle.mp4_codec.specs.declared.box_type.BoxType.{BoxType}
use Rattle.mp4_codec.specs.declared.box_type.BoxType.TheVariants.{MoovBox, TrakBox, MdiaBox, MinfBox, StblBox}
use Rattle.mp4_codec.specs.declared.box_type.BoxType.TheVariants.{EdtsBox, ElstBox, MdhdBox, MvexBox, MvhdBox, TkhdBox}
use Rattle.mp4_codec.specs.declared.box_type.BoxType.TheVariants.{Co64Box, CttsBox, StcoBox, StscBox, StsdBox, StssBox}
use Rattle.mp4_codec.specs.declared.box_type.BoxType.TheVariants.{StszBox, SttsBox}
use Rattle.mp4_codec.specs.declared.error.Error.{Error}
use Rattle.mp4_codec.specs.declared.error.Error.TheVariants.{OutOfMemory, TooLarge}
use Rattle.mp4_codec.specs.declared.error.Limit.TheVariants.{BoxSize, TrackDuration}
use Rattle.mp4_remux.specs.ChunkTable.{chunk_places, offsets_box}
use Rattle.mp4_remux.specs.Kept.{IsFirstBox}
use Rattle.mp4_remux.specs.Moved.{HasRoom, entry_size, is_wide, moved_payload, size_width, sized, wide_header}
use Rattle.mp4_remux.specs.References.{Part, contains_id, first_part}
use Rattle.mp4_remux.specs.declared.movie_box.MadeTrack.{MadeTrack}
use Rattle.mp4_remux.specs.declared.movie_box.MovieEdit.{MovieEdit}
use Rattle.mp4_remux.specs.declared.movie_box.TrackEdit.{TrackEdit}
use Rattle.mp4_remux.specs.declared.movie_box.TrackEdit.TheVariants.{Dropped, Moved, Made}
use Rattle.mp4_remux.specs.declared.track_tables.MadeTables.{MadeTables}

-- WHAT BECOMES OF A BOX

-- A box stays, is left out, or is entered, where boxes in it may be others; a table of chunk offsets of so many bytes
-- each is moved; a header, with so many bytes between its times and its duration, says this duration; an `edts` this
-- one for its last edit; a `tref` has the references to these tracks alone; or a box stays, and these tables follow.
pub data Change : Type 0 where
  kept : Change
  left_out : Change
  entered : Change
  moved : (size : ℕ) → Change
  timed : (more duration : ℕ) → Change
  shown : (last : ℕ) → Change
  referring : (ids : List ℕ) → Change
  tabled : (tables : MadeTables) → Change

-- this becomes of the box where it is said, and else it stays
abbrev pub kept_or : Option Change → Change
kept_or None = kept
kept_or (Some change) = change

-- what was made of a track, if its tables were
abbrev pub made_in : Option TrackEdit → Option MadeTrack
made_in None = None
made_in (Some Dropped) = None
made_in (Some Moved) = None
made_in (Some (Made m)) = Some m

abbrev pub made_at : MovieEdit → ℕ → Option MadeTrack
made_at edit track = made_in (slice_get edit.tracks.items track)

-- the movie box (8.2.1)
abbrev pub file_change : BoxType → Change
file_change MoovBox = entered
file_change name = kept

-- that of a track is left out, or entered (8.3.1)
abbrev pub trak_change : Option TrackEdit → Change
trak_change None = entered
trak_change (Some Dropped) = left_out
trak_change (Some Moved) = entered
trak_change (Some (Made m)) = entered

-- in the movie box: its header (8.2.2), what says that there are fragments (8.8.1), and the tracks
abbrev pub movie_change : MovieEdit → BoxType → ℕ → Change
movie_change edit MvhdBox track = kept_or (option_map (timed 4) edit.duration)
movie_change edit MvexBox track = if edit.is_gathered then left_out else kept
movie_change edit TrakBox track = trak_change (slice_get edit.tracks.items track)
movie_change edit name track = kept

-- how long a track's last edit is, where that is another
abbrev pub last_edit : Option MadeTrack → Option ℕ
last_edit None = None
last_edit (Some m) = m.shown.last

-- references stay, or those to some tracks alone do: `tref`, by its code (8.3.3)
abbrev pub tref_change : Option (List ℕ) → BoxType → Change
tref_change None name = kept
tref_change (Some ids) name = if code_of name == 0x74726566 then referring ids else kept

-- in the box of a track: its media, its header (8.3.2), its edits (8.6.5) and its references
abbrev pub track_change : MovieEdit → BoxType → ℕ → Change
track_change edit MdiaBox track = entered
track_change edit TkhdBox track =
    kept_or (option_map (λ (m : MadeTrack). timed 8 m.shown.total) (made_at edit track))
track_change edit EdtsBox track = kept_or (option_map shown (last_edit (made_at edit track)))
track_change edit name track = tref_change (option_map vec_items edit.ids) name

-- in that of its media: their header (8.4.2), and what has its tables (8.4.4)
abbrev pub media_change : MovieEdit → BoxType → ℕ → Change
media_change edit MinfBox track = entered
media_change edit MdhdBox track =
    kept_or (option_map (λ (m : MadeTrack). timed 4 m.tables.duration) (made_at edit track))
media_change edit name track = kept

-- in that, its tables (8.5.1)
abbrev pub minf_change : BoxType → Change
minf_change StblBox = entered
minf_change name = kept

-- of tables that were made, in their place: they follow the descriptions, and all others are left out ('stz2' too,
-- 8.7.3.3)
abbrev pub made_change : MadeTrack → BoxType → Change
made_change m StsdBox = tabled m.tables
made_change m SttsBox = left_out
made_change m CttsBox = left_out
made_change m StssBox = left_out
made_change m StscBox = left_out
made_change m StszBox = left_out
made_change m StcoBox = left_out
made_change m Co64Box = left_out
made_change m name = if code_of name == 0x73747a32 then left_out else kept

-- among its tables
abbrev pub table_change : Option MadeTrack → BoxType → Change
table_change None name = kept_or (option_map moved (entry_size name))
table_change (Some m) name = made_change m name

-- What becomes of a box, by its type, at this level, which is 0 for the movie box, and in the track of this number or,
-- at level 1, with so many tracks before it.
unfoldable pub change_of : MovieEdit → (level : ℕ) → BoxType → (track : ℕ) → Change
change_of edit zero name track = file_change name
change_of edit (suc zero) name track = movie_change edit name track
change_of edit (suc (suc zero)) name track = track_change edit name track
change_of edit (suc (suc (suc zero))) name track = media_change edit name track
change_of edit (suc (suc (suc (suc zero)))) name track = minf_change name
change_of edit (suc (suc (suc (suc (suc zero))))) name track = table_change (made_at edit track) name
change_of edit (suc (suc (suc (suc (suc (suc level)))))) name track = kept

-- one track more is before the boxes that come after one in the movie box
abbrev pub tracks_with : BoxType → ℕ → ℕ
tracks_with TrakBox track = track + 1
tracks_with name track = track

unfoldable pub track_after : (level : ℕ) → BoxType → (track : ℕ) → ℕ
track_after (suc zero) name track = tracks_with name track
track_after zero name track = track
track_after (suc (suc level)) name track = track

-- BOXES ANEW

-- the box with this header and this payload, and its size (4.2); none where its header can't say that
abbrev pub sized_box : (header payload : List ℕ) → Option (List ℕ)
sized_box header payload =
    if nat_lt (length header + length payload) (256 ^ size_width header)
    then Some (sized header (length payload) ++ payload) else None

-- the same of a payload that there may not be
abbrev pub box_of : (header : List ℕ) → Option (List ℕ) → Option (List ℕ)
box_of header None = None
box_of header (Some payload) = sized_box header payload

-- the same, but for a box that would be empty, which is left out
abbrev pub box_unless_empty : (header : List ℕ) → Option (List ℕ) → Option (List ℕ)
box_unless_empty header None = None
box_unless_empty header (Some []) = Some []
box_unless_empty header (Some (x ∷ xs)) = sized_box header (x ∷ xs)

-- some bytes after others
abbrev pub joined : Option (List ℕ) → Option (List ℕ) → Option (List ℕ)
joined None b = None
joined (Some a) None = None
joined (Some a) (Some b) = Some (a ++ b)

-- what bytes become that begin with a box, and those that begin with none
abbrev pub box_and : (BoxType → (header payload : List ℕ) → Option (List ℕ)) → (List ℕ → List ℕ) → List ℕ
    → Option Part → (ℕ → Option (List ℕ)) → Option (List ℕ)
box_and change last bytes None others = Some (last bytes)
box_and change last bytes (Some p) others =
    joined (change p.name (take (p.size - length p.payload) bytes) p.payload) (others (p.size - 1))

unfoldable pub boxes_after : (BoxType → (header payload : List ℕ) → Option (List ℕ)) → (List ℕ → List ℕ) → ℕ
    → List ℕ → Option (List ℕ)
boxes_after change last n [] = Some (last [])
boxes_after change last (suc n) (x ∷ xs) = boxes_after change last n xs
boxes_after change last zero (x ∷ xs) =
    box_and change last (x ∷ xs) (first_part (x ∷ xs)) (λ n. boxes_after change last n xs)

-- bytes in which each box becomes so, one after the other, and what comes after the last of them
abbrev pub each_box : (BoxType → (header payload : List ℕ) → Option (List ℕ)) → (List ℕ → List ℕ) → List ℕ
    → Option (List ℕ)
each_box change last bytes = boxes_after change last 0 bytes

-- HEADERS WITH ANOTHER DURATION (8.2.2, 8.3.2 and 8.4.2)

-- a box has version 1, which has times and durations of 64 bits; version 0 has 32
abbrev pub is_version_1 : (payload : List ℕ) → Bool
is_version_1 [] = false
is_version_1 (x ∷ xs) = x == 1

abbrev pub time_size : (payload : List ℕ) → ℕ
time_size payload = if is_version_1 payload then 8 else 4

-- bytes in which so many, from a place on, are this number
abbrev pub with_number : (size place number : ℕ) → List ℕ → List ℕ
with_number size place number bytes = take place bytes ++ (big_bytes size number ++ drop (place + size) bytes)

-- the place of a header's duration, after its version and flags, two times, and so many bytes more
abbrev pub duration_place : (more : ℕ) → (payload : List ℕ) → ℕ
duration_place more payload = 4 + 2 * time_size payload + more

-- a header of version 0 as one of version 1, with this duration
abbrev pub version_1 : (more duration : ℕ) → (payload : List ℕ) → List ℕ
version_1 more duration payload =
    1 ∷ (take 3 (drop 1 payload) ++ (big_bytes 8 (big_number 4 (drop 4 payload))
    ++ (big_bytes 8 (big_number 4 (drop 8 payload)) ++ (take more (drop 12 payload)
    ++ (big_bytes 8 duration ++ drop (16 + more) payload)))))

-- A header with this duration, in version 1 where that has no 32 bits, all of which set say that it isn't known; one
-- that is cut before its duration ends stays.
unfoldable pub with_duration : (more duration : ℕ) → (payload : List ℕ) → List ℕ
with_duration more duration payload =
    if nat_lt (length payload) (duration_place more payload + time_size payload) then payload else
    if is_version_1 payload || nat_lt duration (2 ^ 32 - 1)
    then with_number (time_size payload) (duration_place more payload) duration payload
    else version_1 more duration payload

-- EDIT LISTS (8.6.6)

-- how many bytes an edit has: its duration, the time in the media, and its rate
abbrev pub edit_size : (payload : List ℕ) → ℕ
edit_size payload = 2 * time_size payload + 4

abbrev pub edit_count : (payload : List ℕ) → ℕ
edit_count payload = big_number 4 (drop 4 payload)

-- the place of the last edit in a list, after its version, flags and count; none where it is empty or cut
abbrev pub last_edit_place : (payload : List ℕ) → Option ℕ
last_edit_place payload =
    if (edit_count payload == 0) || nat_lt (length payload) (8 + edit_count payload * edit_size payload) then None
    else Some (8 + (edit_count payload - 1) * edit_size payload)

-- with this duration for the edit at this place; none where version 0 can't say that
abbrev pub with_edit_at : Option ℕ → (last : ℕ) → (payload : List ℕ) → Option (List ℕ)
with_edit_at None last payload = Some payload
with_edit_at (Some place) last payload =
    if is_version_1 payload || nat_lt last (2 ^ 32) then Some (with_number (time_size payload) place last payload)
    else None

-- an edit list whose last edit lasts so long
unfoldable pub with_last_edit : (last : ℕ) → (payload : List ℕ) → Option (List ℕ)
with_last_edit last payload = with_edit_at (last_edit_place payload) last payload

-- a box in an `edts`
abbrev pub edit_box : (last : ℕ) → BoxType → (header payload : List ℕ) → Option (List ℕ)
edit_box last ElstBox header payload = box_of header (with_last_edit last payload)
edit_box last name header payload = Some (header ++ payload)

-- REFERENCES TO SOME TRACKS (8.3.3)

-- the references, of four bytes each, that are to these tracks
unfoldable pub references_to : (ids : List ℕ) → (payload : List ℕ) → List ℕ
references_to ids (a ∷ b ∷ c ∷ d ∷ rest) =
    if contains_id ids (big_number 4 (a ∷ b ∷ c ∷ d ∷ rest)) then a ∷ b ∷ c ∷ d ∷ references_to ids rest
    else references_to ids rest
references_to ids [] = []
references_to ids (a ∷ []) = []
references_to ids (a ∷ b ∷ []) = []
references_to ids (a ∷ b ∷ c ∷ []) = []

-- a box in a `tref`, with the references of one type
abbrev pub reference_box : (ids : List ℕ) → BoxType → (header payload : List ℕ) → Option (List ℕ)
reference_box ids name header payload = box_unless_empty header (Some (references_to ids payload))

-- TABLES THAT WERE MADE (8.7.5)

-- these tables, and that of their chunk offsets, of data that begins at this place
abbrev pub tables_at : (base : ℕ) → MadeTables → Option (List ℕ)
tables_at base tables =
    if nat_lt (length (offsets_box (chunk_places base tables.chunks.items))) (2 ^ 32)
    then Some (tables.bytes.items ++ offsets_box (chunk_places base tables.chunks.items)) else None

-- THE MOVIE BOX

-- a table of chunk offsets that are moved so
abbrev pub moved_box : (to : ℕ → ℕ) → (size : ℕ) → (header payload : List ℕ) → Option (List ℕ)
moved_box to size header payload =
    sized_box (wide_header (is_wide to size payload) header) (moved_payload to size payload)

-- The bytes that a box becomes that isn't entered, where chunk offsets are moved so, and the data of tables that were
-- made begins at this place; none where its size, or a duration in it, can't be said.
unfoldable pub changed_box : (to : ℕ → ℕ) → (base : ℕ) → Change → (header payload : List ℕ) → Option (List ℕ)
changed_box to base kept header payload = Some (header ++ payload)
changed_box to base left_out header payload = Some []
changed_box to base entered header payload = None
changed_box to base (moved size) header payload = moved_box to size header payload
changed_box to base (timed more duration) header payload = sized_box header (with_duration more duration payload)
changed_box to base (shown last) header payload =
    box_of header (each_box (edit_box last) (λ rest. rest) payload)
changed_box to base (referring ids) header payload =
    box_unless_empty header (each_box (reference_box ids) (λ rest. []) payload)
changed_box to base (tabled tables) header payload = joined (Some (header ++ payload)) (tables_at base tables)

-- Bytes at a level, in the track of this number, and what they become: boxes in one that is entered do, and its size;
-- every other box as is said of it; and what is after the boxes stays. Bytes become one list of bytes alone
-- (`edited_once`).
pub data IsEditedAt (edit : MovieEdit) (to : ℕ → ℕ) (base : ℕ) : (level track : ℕ) → (before after : List ℕ)
    → Type 0 where
  no_box : (level track : ℕ) (bytes : List ℕ) → first_part bytes ≡ None
      → IsEditedAt edit to base level track bytes bytes
  inside : (level track : ℕ) (before after rest rest_after : List ℕ) (name : BoxType)
      (header payload payload_after : List ℕ) → IsFirstBox before name header payload rest
      → change_of edit level name track ≡ entered
      → IsEditedAt edit to base (level + 1) track payload payload_after → HasRoom header (length payload_after)
      → IsEditedAt edit to base level (track_after level name track) rest rest_after
      → after ≡ sized header (length payload_after) ++ (payload_after ++ rest_after)
      → IsEditedAt edit to base level track before after
  changed : (level track : ℕ) (before after rest rest_after : List ℕ) (name : BoxType)
      (header payload box_after : List ℕ) → IsFirstBox before name header payload rest
      → changed_box to base (change_of edit level name track) header payload ≡ Some box_after
      → IsEditedAt edit to base level (track_after level name track) rest rest_after
      → after ≡ box_after ++ rest_after → IsEditedAt edit to base level track before after

-- Why bytes aren't edited: out of memory; or the size of a box or the duration of an edit is too large to be said, as
-- no bytes are what they become.
abbrev pub IsWhyNotEdited : MovieEdit → (to : ℕ → ℕ) → (base level track : ℕ) → (before : List ℕ) → Error → Type 0
IsWhyNotEdited edit to base level track before e =
    (e ≡ OutOfMemory) ⊎ (((e ≡ TooLarge BoxSize) ⊎ (e ≡ TooLarge TrackDuration))
    × ((after : List ℕ) → IsEditedAt edit to base level track before after → ⊥))
