-- Where a wrong id is: in the header that says it (ISO/IEC 14496-12, 8.3.2 and 8.8.7).
use Rattle.std.specs.Prelude.{◌≡◌, ◌<◌, ◌≤◌, ℕ, ◌+◌, ◌-◌, ◌^◌, Bool, List, [], ◌∷◌, length, Option, Some, None, Result}
use Rattle.std.specs.Prelude.{Ok, Err}
use Rattle.mp4_codec.specs.declared.box_type.BoxType.{BoxType}
use Rattle.mp4_codec.specs.declared.error.Error.{Error}
use Rattle.mp4_codec.specs.BoxType.{code_of}
use Rattle.mp4_codec.specs.Cursor.{header_at, here}
use Rattle.mp4_codec.specs.declared.error.Error.TheVariants.{OutOfMemory}
use Rattle.mp4_source.specs.Answers.{OnMp4}
use Rattle.mp4_source.specs.declared.file_error.FileError.{FileError}
use Rattle.mp4_source.specs.declared.file_error.FileError.TheVariants.{Mp4}
use Rattle.mp4_media.specs.FileGrammar.{between}
use Rattle.mp4_faults.specs.declared.child.PlacedBox.{PlacedBox}
use Rattle.mp4_faults.specs.declared.fault_place.PathStep.{PathStep}
use Rattle.mp4_faults.specs.declared.fault_place.FaultPlace.{FaultPlace}
use Rattle.mp4_faults.specs.declared.wrong_id.IdPlace.{IdPlace}
use Rattle.mp4_faults.specs.declared.wrong_id.IdHeader.{IdHeader}
use Rattle.mp4_faults.specs.Inner.{InnerBox, inner, end_of, box_within, AreWithin}
use Rattle.mp4_faults.specs.Innermost.{count_of, names_of, step_after}
use Rattle.mp4_faults.specs.TopLevel.{IsUnread}

-- a step leads from a container to this one of its children, which begin with its payload
pub record IsStepTo (payload : List ℕ) (step : PathStep) (b : InnerBox) : Type 0 where
  pub before : List InnerBox
  pub place : ℕ
  pub are : AreWithin payload 0 before place
  pub is : box_within payload place ≡ Some b
  pub step_is : step ≡ step_after b.name (names_of before)

-- the child of a payload with this number of this type, and the step to it
pub record IsNthOf (payload : List ℕ) (name : BoxType) (number : ℕ) (step : PathStep) (b : InnerBox) : Type 0 where
  pub leads : IsStepTo payload step b
  pub named : code_of b.name ≡ code_of name
  pub numbered : step.number ≡ number

-- the last child of this type, and the step to it
pub record IsLastOf (payload : List ℕ) (name : BoxType) (step : PathStep) (b : InnerBox) : Type 0 where
  pub leads : IsStepTo payload step b
  pub named : code_of b.name ≡ code_of name
  pub after : List InnerBox
  pub end : ℕ
  pub are : AreWithin payload (end_of b) after end
  pub ends : box_within payload end ≡ None
  pub none : count_of name (names_of after) ≡ 0

-- A header that says an id is in the payload of a box, which begins at a place of the file: it is the last of its type
-- in the track or the track fragment with its number.
pub record IsWithinBox (payload : List ℕ) (from : ℕ) (id : IdPlace) (h : IdHeader) : Type 0 where
  pub container : InnerBox
  pub is_container : IsNthOf payload id.name id.number h.middle container
  pub header : InnerBox
  pub is_header : IsLastOf container.payload id.header h.last header
  pub place : h.place ≡ from + (container.from + header.place)

-- the same in a file, whose outermost box begins at the place that is known
pub record IsHeaderOf (bytes : List ℕ) (id : IdPlace) (h : IdHeader) : Type 0 where
  pub name : BoxType
  pub from : ℕ
  pub to : ℕ
  pub begins : header_at (here bytes id.place) ≡ Ok (record { name = name; size = to - from + 8 }, here bytes from)
  pub within : IsWithinBox (between bytes from to) from id h

-- a fault is in the header that says an id
pub record IsWrongId (bytes : List ℕ) (id : IdPlace) (f : FaultPlace) : Type 0 where
  pub h : IdHeader
  pub is : IsHeaderOf bytes id h
  pub path : f.path ≡ id.top ∷ h.middle ∷ h.last ∷ []
  pub place : f.place ≡ h.place

-- WHERE A HEADER IS FOUND

-- A payload has so many children of a type, and each child of that type has a header of another: said of the children
-- up to a place where none is.
pub record HasOwner (payload : List ℕ) (name : BoxType) (number : ℕ) (header : BoxType) : Type 0 where
  pub counted : 0 < number
  pub enough : (bs : List InnerBox) (end : ℕ) → AreWithin payload 0 bs end → box_within payload end ≡ None
      → number ≤ count_of name (names_of bs)
  pub headed : (before : List InnerBox) (place : ℕ) (b : InnerBox) → AreWithin payload 0 before place
      → box_within payload place ≡ Some b → code_of b.name ≡ code_of name
      → (bs : List InnerBox) (end : ℕ) → AreWithin b.payload 0 bs end → box_within b.payload end ≡ None
      → count_of header (names_of bs) ≡ 0 → ⊥

-- a payload has fewer children of a type, or none
pub record HasFewer (payload : List ℕ) (name : BoxType) (number : ℕ) : Type 0 where
  pub all : List InnerBox
  pub end : ℕ
  pub are : AreWithin payload 0 all end
  pub ends : box_within payload end ≡ None
  pub few : 0 < number → count_of name (names_of all) < number

-- what a call says of the child with a number, and of the last child
abbrev pub FindsNth : List ℕ → BoxType → ℕ → Option (PathStep × PlacedBox) → Type 0
FindsNth payload name number (Some x) = IsNthOf payload name number x.0 (inner x.1)
FindsNth payload name number None = HasFewer payload name number

abbrev pub FindsLast : List ℕ → BoxType → Option (PathStep × PlacedBox) → Type 0
FindsLast payload name (Some x) = IsLastOf payload name x.0 (inner x.1)
FindsLast payload name None = HasFewer payload name 1

-- what a call says of the header of an id in a payload that begins at a place
abbrev pub FindsWithin : List ℕ → ℕ → IdPlace → Option IdHeader → Type 0
FindsWithin payload from id (Some h) = from + length payload < 2 ^ 64 → IsWithinBox payload from id h
FindsWithin payload from id None = HasOwner payload id.name id.number id.header → ⊥

-- A box begins at the place of an id, and has what says it.
pub record HasHeader (bytes : List ℕ) (id : IdPlace) : Type 0 where
  pub name : BoxType
  pub from : ℕ
  pub to : ℕ
  pub begins : header_at (here bytes id.place) ≡ Ok (record { name = name; size = to - from + 8 }, here bytes from)
  pub order : from ≤ to
  pub inside : to ≤ length bytes
  pub owner : HasOwner (between bytes from to) id.name id.number id.header

-- what a call says where a read was refused: the bytes are at fault, or the refusal is handed on
abbrev pub IsLost : FileError → Result (Option IdHeader) FileError → Type 0
IsLost refusal (Ok found) = (found ≡ None) × ((e : Error) × (refusal ≡ Mp4 e) × (e ≡ OutOfMemory → ⊥))
IsLost refusal (Err u) = (u ≡ refusal) × OnMp4 refusal (λ e. e ≡ OutOfMemory)

-- What a call says of the header of an id that has one; or the source isn't read.
abbrev pub FindsHeader : List ℕ → IdPlace → Bool → Result (Option IdHeader) FileError → Type 0
FindsHeader bytes id can_refuse (Ok (Some h)) = IsHeaderOf bytes id h
FindsHeader bytes id can_refuse (Ok None) = ⊥
FindsHeader bytes id can_refuse (Err e) = IsUnread can_refuse e

-- What a call says of a wrong id that is refused by this error; or the source isn't read.
abbrev pub SaysWrongId : List ℕ → IdPlace → Error → Bool → Result FaultPlace FileError → Type 0
SaysWrongId bytes id error can_refuse (Ok f) = IsWrongId bytes id f × (f.error ≡ error)
SaysWrongId bytes id error can_refuse (Err e) = IsUnread can_refuse e
