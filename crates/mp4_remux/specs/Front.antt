-- A file with its movie box in front: every byte outside of that box is there, in its order (ISO/IEC 14496-12, 6.2.3).
use Rattle.std.specs.Prelude.{◌≡◌, ◌+◌, ◌-◌, ◌≤◌, ◌<◌, ◌==◌, ◌++◌, ℕ, if◌then◌else◌, List, [], ◌∷◌, length, min, max}
use Rattle.std.specs.Prelude.{◌⊎◌, Option, Some, IfSome, Ok, slice_get}
use Rattle.mp4_codec.specs.declared.box_type.BoxType.{BoxType}
use Rattle.mp4_codec.specs.declared.box_type.BoxType.TheVariants.{FtypBox as ftyp, MoovBox as moov, MdatBox as mdat}
use Rattle.mp4_codec.specs.declared.header.BoxHeader.{BoxHeader}
use Rattle.mp4_codec.specs.Cursor.{Cursor, here, header_at}
use Rattle.mp4_source.specs.Sink.{IsAppended}
use Rattle.mp4_media.specs.FileBoxes.{OpenedFile}
use Rattle.mp4_media.specs.FileGrammar.{IsFile, between}
use Rattle.mp4_remux.specs.declared.top_level.TopBox.{TopBox}
use Rattle.mp4_remux.specs.Kept.{IsKept, offsets}
use Rattle.mp4_remux.specs.Remuxed.{IsRemuxed, ids_of}

-- a box of this type begins at its place, and ends where its header says, within the file
pub record IsBoxOf (bytes : List ℕ) (name : BoxType) (b : TopBox) : Type 0 where
  pub size : ℕ
  pub from : ℕ
  pub head : header_at (here bytes b.place) ≡ Ok (record { name = name; size = size }, here bytes from)
  pub end : b.end ≡ from + (size - 8)
  pub within : b.end ≤ length bytes

-- where a box ends whose header says this size and ends there: with the file where it says no end, or one past it
abbrev pub top_end : ℕ → ℕ → ℕ → ℕ
top_end size from len = if size == 0 then len else min (from + (size - 8)) len

-- a box of a file begins at its place, and ends where its header says
pub record IsTopBox (bytes : List ℕ) (b : TopBox) : Type 0 where
  pub size : ℕ
  pub from : ℕ
  pub head : header_at (here bytes b.place) ≡ Ok (record { name = b.name; size = size }, here bytes from)
  pub end : b.end ≡ top_end size from (length bytes)

-- these are all boxes of a file from a place on, one after the other: after them it has no room for a header (4.2)
unfoldable pub AreBoxes : List ℕ → ℕ → List TopBox → Type 0
AreBoxes bytes place [] = length bytes < place + 8
AreBoxes bytes place (b ∷ bs) = (b.place ≡ place) × (IsTopBox bytes b × AreBoxes bytes b.end bs)

-- a box of this type is the only one of these
pub record IsOnly (boxes : List TopBox) (name : BoxType) (b : TopBox) : Type 0 where
  pub i : ℕ
  pub there : slice_get boxes i ≡ Some b
  pub has_name : b.name ≡ name
  pub only : (c : TopBox) (j : ℕ) → slice_get boxes j ≡ Some c → c.name ≡ name → j ≡ i

-- none of these boxes has this type
abbrev pub HasNone : List TopBox → BoxType → Type 0
HasNone boxes name = (c : TopBox) (j : ℕ) → slice_get boxes j ≡ Some c → c.name ≡ name → ⊥

-- two boxes are within so many bytes, one after the other
pub record AreApart (len : ℕ) (one other : TopBox) : Type 0 where
  pub first : one.place ≤ one.end
  pub within : one.end ≤ len
  pub second : other.place ≤ other.end
  pub also : other.end ≤ len
  pub apart : (one.end ≤ other.place) ⊎ (other.end ≤ one.place)

-- no movie box comes after data
abbrev pub NoMovieAfterData : List TopBox → Type 0
NoMovieAfterData boxes = (d m : TopBox) (i j : ℕ) → i < j → slice_get boxes i ≡ Some d → slice_get boxes j ≡ Some m
    → d.name ≡ mdat → m.name ≡ moov → ⊥

-- the movie boxes of a file come before its data
pub record IsMovieFirst (bytes : List ℕ) : Type 0 where
  pub boxes : List TopBox
  pub are : AreBoxes bytes 0 boxes
  pub first : NoMovieAfterData boxes

-- where the bytes are known, a movie box of theirs comes after data
abbrev pub IsMovieLater : Option (List ℕ) → Type 0
IsMovieLater known = IfSome known (λ xs. IsMovieFirst xs → ⊥)

-- where they are known and are a file, its movie box has to be moved
abbrev pub HasToMove : Option (List ℕ) → Type 0
HasToMove known = IfSome known (λ xs. (opened : OpenedFile) → IsFile (length xs) (here xs 0) opened → IsMovieFirst xs
    → ⊥)

-- no header of a box is there
abbrev pub HasNoHeader : Option (List ℕ) → ℕ → Type 0
HasNoHeader known place = IfSome known (λ xs. (x : BoxHeader × Cursor) → header_at (here xs place) ≡ Ok x → ⊥)

-- the bytes of a file with one of its boxes first and other bytes in place of a second, then all else in its order
abbrev pub in_front : List ℕ → TopBox → TopBox → List ℕ → List ℕ
in_front bytes one other made =
    between bytes one.place one.end ++ (made ++ (between bytes 0 (min one.place other.place)
    ++ (between bytes (min one.end other.end) (max one.place other.place)
    ++ between bytes (max one.end other.end) (length bytes))))

-- The one file is the other with its file type first and its movie box next: of this the chunk offsets may be others,
-- all else is there in its order.
pub record IsMoved (before after : List ℕ) : Type 0 where
  pub file_type : TopBox
  pub movie : TopBox
  pub made : List ℕ
  pub has_file_type : IsBoxOf before ftyp file_type
  pub has_movie : IsBoxOf before moov movie
  pub kept : IsKept offsets [] (between before movie.place movie.end) made
  pub bytes : after ≡ in_front before file_type movie made

-- The one file is the other: as it is, where its movie box comes before its data; or with that box in front, where each
-- sample is read as before.
pub data IsFront (before after : List ℕ) : Type 0 where
  as_it_is : IsMovieFirst before → after ≡ before → IsFront before after
  moved : (opened rewritten : OpenedFile) → IsMoved before after
      → IsRemuxed before after opened rewritten (ids_of opened.moov) → IsFront before after

-- After the bytes that a sink had come those of a file with its movie box in front.
abbrev pub WritesFront : List ℕ → Option (List ℕ) → Option (List ℕ) → Type 0
WritesFront before had has = (after : List ℕ) × (IsAppended had has after × IsFront before after)
