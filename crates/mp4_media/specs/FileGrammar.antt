-- What a file is, and which fault comes first in bytes that are no file: said of the bytes and the places in them, and
-- not of how they are read (ISO/IEC 14496-12, 4.2 and 6.2).
use Rattle.std.specs.Prelude.{◌≡◌, ◌<◌, ◌≤◌, ℕ, ◌+◌, ◌-◌, ◌^◌, List, [], ◌∷◌, length, drop, take, Some, None, Result}
use Rattle.std.specs.Prelude.{Ok, Err}
use Rattle.mp4_codec.specs.declared.box_type.BoxType.{BoxType}
use Rattle.mp4_codec.specs.declared.box_type.BoxType.TheVariants.{FtypBox as ftyp, MoovBox as moov}
use Rattle.mp4_codec.specs.Cause.{Cause, end_of_data, invalid_data, box_not_found}
use Rattle.mp4_codec.specs.Cursor.{Cursor, header_at, here}
use Rattle.mp4_codec.specs.Children.{last}
use Rattle.mp4_codec.specs.Framing.{WhyNoHead}
use Rattle.mp4_boxes.specs.declared.moov.MoovBox.{MoovBox}
use Rattle.mp4_media.specs.FileBoxes.{FileBox, BoxContent, IsRead, Skipped}
use Rattle.mp4_media.specs.FileBoxes.{meaning_of, ftyps_in, moovs_in, moofs_in, moof_places_in, emsgs_in, OpenedFile}
use Rattle.mp4_media.specs.MovieTracks.{id_fault}

-- the bytes from one place to another
abbrev pub between : List ℕ → ℕ → ℕ → List ℕ
between bytes from to = take (to - from) (drop from bytes)

-- A box begins at a place of a file of `size` bytes: 8 bytes are left before `size`, and a header is there. It
-- says this type, and a payload from one place to another, where the box ends.
pub record Begins (size : ℕ) (bytes : List ℕ) (place : ℕ) (name : BoxType) (from to : ℕ) : Type 0 where
  pub room : place + 8 ≤ size
  pub head : header_at (here bytes place) ≡ Ok (record { name = name; size = to - from + 8 }, here bytes from)
  pub order : from ≤ to

-- What a box of this type holds, whose payload is between two places: what is read is within the bytes and has a
-- meaning; all else is skipped, and may end past the bytes, but not past 64 bits.
pub data Holds (bytes : List ℕ) (name : BoxType) (from to : ℕ) (content : BoxContent) : Type 0 where
  read : (value : List ℕ → Result BoxContent Cause) → meaning_of name ≡ Some value
      → to ≤ length bytes → value (between bytes from to) ≡ Ok content → Holds bytes name from to content
  skipped : meaning_of name ≡ None → to < 2 ^ 64 → content ≡ Skipped → Holds bytes name from to content

-- a box of a file of `size` bytes, from its first byte to the next box; its size, with a header of 8 bytes, is at
-- most `size`
pub record IsFileBox (size : ℕ) (bytes : List ℕ) (place next : ℕ) (b : FileBox) : Type 0 where
  pub name : BoxType
  pub from : ℕ
  pub begins : Begins size bytes place name from next
  pub fits : next - from + 8 ≤ size
  pub place_is : b.place ≡ place
  pub holds : Holds bytes name from next b.content

-- a file ends at a place that isn't before `size`, or at a box whose end is open
pub data EndsFile (size : ℕ) (bytes : List ℕ) (place : ℕ) : Type 0 where
  no_more : size ≤ place → EndsFile size bytes place
  open_end : place + 8 ≤ size → (name : BoxType) (from : ℕ)
      → header_at (here bytes place) ≡ Ok (record { name = name; size = 0 }, here bytes from)
      → EndsFile size bytes place

-- boxes of a file, one after the other, from a place to another
unfoldable pub AreFileBoxes : ℕ → List ℕ → ℕ → List FileBox → ℕ → Type 0
AreFileBoxes size bytes place [] next = next ≡ place
AreFileBoxes size bytes place (b ∷ bs) next =
    (after : ℕ) × IsFileBox size bytes place after b × AreFileBoxes size bytes after bs next

-- The bytes from this place on are a file of `size` bytes: boxes to its end, of which the last file type, the last
-- movie, all fragments and all event messages are what is opened. The ids of the movie's tracks and of its fragments
-- have no fault.
pub record IsFile (size : ℕ) (start : Cursor) (opened : OpenedFile) : Type 0 where
  pub boxes : List FileBox
  pub end : ℕ
  pub are : AreFileBoxes size start.bytes start.position boxes end
  pub ends : EndsFile size start.bytes end
  pub ftyp : last (ftyps_in boxes) ≡ Some opened.ftyp
  pub moov : last (moovs_in boxes) ≡ Some opened.moov
  pub moofs : opened.moofs ≡ moofs_in boxes
  pub moof_places : opened.moof_places ≡ moof_places_in boxes
  pub emsgs : opened.emsgs ≡ emsgs_in boxes
  pub ids : id_fault opened.moov opened.moofs ≡ None
  pub size_is : opened.size ≡ end - start.position

-- why a box of this type, whose payload is between two places, holds nothing
pub data HoldsNothing (bytes : List ℕ) (name : BoxType) (from to : ℕ) (c : Cause) : Type 0 where
  past_the_bytes : (value : List ℕ → Result BoxContent Cause) → meaning_of name ≡ Some value
      → length bytes < to → c ≡ end_of_data → HoldsNothing bytes name from to c
  meaningless : (value : List ℕ → Result BoxContent Cause) → meaning_of name ≡ Some value
      → to ≤ length bytes → value (between bytes from to) ≡ Err c → HoldsNothing bytes name from to c
  past_64_bits : meaning_of name ≡ None → 2 ^ 64 ≤ to → c ≡ invalid_data → HoldsNothing bytes name from to c

-- why neither a box of a file of `size` bytes begins at a place nor the file ends there
pub data IsFault (size : ℕ) (bytes : List ℕ) (place : ℕ) (c : Cause) : Type 0 where
  -- 1 to 7 bytes are left before `size`
  rest : place < size → size < place + 8 → c ≡ end_of_data → IsFault size bytes place c
  -- the header is cut, or says less than its own length
  no_header : place + 8 ≤ size → WhyNoHead (drop place bytes) c → IsFault size bytes place c
  -- the box is larger than the file
  larger : (name : BoxType) (from to : ℕ) → Begins size bytes place name from to
      → size < to - from + 8 → c ≡ invalid_data → IsFault size bytes place c
  -- the box holds nothing
  nothing : (name : BoxType) (from to : ℕ) → Begins size bytes place name from to
      → to - from + 8 ≤ size → HoldsNothing bytes name from to c → IsFault size bytes place c

-- The bytes from this place on are no file of `size` bytes, and this is the first fault: that of a box with only
-- faultless boxes before it; or, where no box up to the end has a fault, the missing file type, then the missing
-- movie, and then the fault of the ids of the last movie and of all fragments.
pub data IsFaultyFile (size : ℕ) (start : Cursor) (c : Cause) : Type 0 where
  faulty_box : (boxes : List FileBox) (place : ℕ) → AreFileBoxes size start.bytes start.position boxes place
      → IsFault size start.bytes place c → IsFaultyFile size start c
  no_ftyp : (boxes : List FileBox) (end : ℕ) → AreFileBoxes size start.bytes start.position boxes end
      → EndsFile size start.bytes end
      → ftyps_in boxes ≡ [] → c ≡ box_not_found ftyp → IsFaultyFile size start c
  no_moov : (boxes : List FileBox) (end : ℕ) → AreFileBoxes size start.bytes start.position boxes end
      → EndsFile size start.bytes end
      → (ftyps_in boxes ≡ [] → ⊥) → moovs_in boxes ≡ [] → c ≡ box_not_found moov → IsFaultyFile size start c
  wrong_ids : (boxes : List FileBox) (end : ℕ) → AreFileBoxes size start.bytes start.position boxes end
      → EndsFile size start.bytes end
      → (ftyps_in boxes ≡ [] → ⊥) → (m : MoovBox) → last (moovs_in boxes) ≡ Some m
      → id_fault m (moofs_in boxes) ≡ Some c → IsFaultyFile size start c

-- A box that is read begins at a place of a file of `size` bytes, and is whole within the bytes.
pub record IsWholeToRead (size : ℕ) (bytes : List ℕ) (place : ℕ) : Type 0 where
  pub name : BoxType
  pub from : ℕ
  pub to : ℕ
  pub begins : Begins size bytes place name from to
  pub fits : to - from + 8 ≤ size
  pub is_read : IsRead name
  pub inside : to ≤ length bytes

-- Memory may be requested when a file is opened that begins here: after boxes without a fault there is one that is
-- read, and it is whole.
pub record MayTakeMemory (size : ℕ) (start : Cursor) : Type 0 where
  pub boxes : List FileBox
  pub place : ℕ
  pub are : AreFileBoxes size start.bytes start.position boxes place
  pub box : IsWholeToRead size start.bytes place
