-- A file with its movie box in front, as it is planned, and why none is (ISO/IEC 14496-12, 4.2, 4.3 and 8.2.1).
use Rattle.std.specs.Prelude.{◌≡◌, ◌⊎◌, ◌-◌, ◌<◌, ◌≤◌, ◌^◌, ℕ, min, max, List, [], ◌∷◌, length, slice_get}
use Rattle.mp4_codec.specs.declared.box_type.BoxType.{BoxType}
use Rattle.mp4_codec.specs.declared.box_type.BoxType.TheVariants.{FtypBox as ftyp, MoovBox as moov}
use Rattle.mp4_codec.specs.declared.error.Error.{Error}
use Rattle.mp4_codec.specs.declared.error.Error.TheVariants.{EndOfData, OutOfMemory, TooLarge}
use Rattle.mp4_codec.specs.declared.error.Limit.TheVariants.{BoxSize}
use Rattle.mp4_media.specs.FileBoxes.{OpenedFile}
use Rattle.mp4_media.specs.FileGrammar.{between}
use Rattle.mp4_remux.specs.Caused.{CausedBy}
use Rattle.mp4_remux.specs.Front.{AreBoxes, HasNone, IsBoxOf, IsOnly, in_front}
use Rattle.mp4_remux.specs.Moved.{IsMovedAt, place_in_front}
use Rattle.mp4_remux.specs.Named.{IsSingle}
use Rattle.mp4_remux.specs.Refused.{IsWhyMade}
use Rattle.mp4_remux.specs.Remuxed.{ids_of}
use Rattle.mp4_remux.specs.Splice.{AreStretches, Stretch, kept_stretch, made_stretch, spliced}
use Rattle.mp4_remux.specs.declared.error.RemuxError.{RemuxError}
use Rattle.mp4_remux.specs.declared.made.Made.TheVariants.{Offsets}
use Rattle.mp4_remux.specs.declared.piece.Piece.{Piece}
use Rattle.mp4_remux.specs.declared.top_level.TopBox.{TopBox}

-- a file has one box of this type, and this is it, whole
pub record IsTheBox (before : List ℕ) (boxes : List TopBox) (name : BoxType) (b : TopBox) : Type 0 where
  pub only : IsOnly boxes name b
  pub whole : IsBoxOf before name b

-- all bytes of a file of so many: those of one of its boxes, so many that are made in place of a second, then all else
-- in its order
abbrev pub front_stretches : ℕ → TopBox → TopBox → ℕ → List Stretch
front_stretches len one other made_len =
    kept_stretch one.place one.end ∷ made_stretch 0 made_len ∷ kept_stretch 0 (min one.place other.place)
    ∷ kept_stretch (min one.end other.end) (max one.place other.place)
    ∷ kept_stretch (max one.end other.end) len ∷ []

-- The bytes that were made and the pieces are those of a file with its movie box in front: the bytes are that box with
-- its chunk offsets moved to where the data is then, and nothing else other; the pieces put them after the file type,
-- and before all else. Each byte outside of the old movie box is where an offset of it is moved to.
pub record IsInFront (before made : List ℕ) (pieces : List Piece) : Type 0 where
  pub boxes : List TopBox
  pub file_type : TopBox
  pub movie : TopBox
  pub are : AreBoxes before 0 boxes
  pub has_file_type : IsTheBox before boxes ftyp file_type
  pub has_movie : IsTheBox before boxes moov movie
  pub moved : IsMovedAt (place_in_front file_type movie (length made)) 0 (between before movie.place movie.end) made
  pub stretches : AreStretches (length before) (length made)
      (front_stretches (length before) file_type movie (length made)) pieces
  pub bytes : (source : List ℕ) → length source ≡ length before
      → spliced source made pieces ≡ in_front source file_type movie made
  pub places : (place : ℕ) → place < length before → (place < movie.place) ⊎ (movie.end ≤ place)
      → slice_get (spliced before made pieces) (place_in_front file_type movie (length made) place)
      ≡ slice_get before place

-- the only box of a type is cut short, or its end is open
abbrev pub IsNotWhole : List ℕ → List TopBox → Error → Type 0
IsNotWhole before boxes error = (error ≡ EndOfData) × ((name : BoxType) × ((b : TopBox) × (IsSingle name
    × (IsOnly boxes name b × (IsBoxOf before name b → ⊥)))))

-- the movie box has half as many bytes as the size of a box counts in 32 bits, or more
abbrev pub IsTooLarge : List TopBox → Error → Type 0
IsTooLarge boxes error = (error ≡ TooLarge BoxSize) × ((b : TopBox) × (IsOnly boxes moov b
    × (2 ^ 31 ≤ b.end - b.place)))

-- Why no movie box is put in front, of a file with these boxes: out of memory; the file type or the movie box isn't
-- whole, or the movie box is too large; there is none of the two; or the file has half as many bytes as 64 bits count.
abbrev pub IsWhyNotPlanned : List ℕ → List TopBox → RemuxError → Type 0
IsWhyNotPlanned before boxes =
    CausedBy (λ error. (error ≡ OutOfMemory) ⊎ (IsNotWhole before boxes error ⊎ IsTooLarge boxes error))
    (HasNone boxes ftyp ⊎ (HasNone boxes moov ⊎ (2 ^ 63 ≤ length before)))

-- the movie box of a file has half as many bytes as the size of a box counts in 32 bits, or more
abbrev pub HasLargeMovie : List ℕ → Type 0
HasLargeMovie before = (b : TopBox) × (IsBoxOf before moov b × (2 ^ 31 ≤ b.end - b.place))

-- Why a file that opens isn't written with its movie box in front: out of memory; its movie box is too large, or the
-- file has half as many bytes as 64 bits count; or why the file that would be written isn't.
abbrev pub IsWhyNotInFront : List ℕ → OpenedFile → RemuxError → Type 0
IsWhyNotInFront before opened e =
    CausedBy (λ error. (error ≡ OutOfMemory) ⊎ ((error ≡ TooLarge BoxSize) × HasLargeMovie before))
    (2 ^ 63 ≤ length before) e
    ⊎ ((made : List ℕ) × ((pieces : List Piece) × (IsInFront before made pieces
    × IsWhyMade Offsets (ids_of opened.moov) before made pieces opened e)))
