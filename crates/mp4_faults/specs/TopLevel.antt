-- The boxes of a file up to its first fault, with their types, and where that fault is (ISO/IEC 14496-12, 4.2).
use Rattle.std.specs.Prelude.{◌≡◌, ◌⊎◌, ◌<◌, ◌≤◌, ℕ, ◌+◌, ◌-◌, ◌^◌, List, [], ◌∷◌, ◌++◌, length, map}
use Rattle.std.specs.Prelude.{Option, Some, None, option_map, Result, Ok, Err, Bool, IsTrue}
use Rattle.std.specs.List.{filter_map}
use Rattle.mp4_codec.specs.declared.box_type.BoxType.{BoxType}
use Rattle.mp4_codec.specs.declared.box_type.BoxType.TheVariants.{FtypBox, MoovBox, MoofBox, EmsgBox}
use Rattle.mp4_codec.specs.declared.header.BoxHeader.{BoxHeader}
use Rattle.mp4_codec.specs.declared.error.Error.{Error}
use Rattle.mp4_codec.specs.declared.error.Error.TheVariants.{OutOfMemory}
use Rattle.mp4_codec.specs.BoxType.{code_of}
use Rattle.mp4_codec.specs.Cause.{Cause, cause_of}
use Rattle.mp4_codec.specs.Children.{last}
use Rattle.mp4_codec.specs.Cursor.{header_at, here}
use Rattle.mp4_source.specs.Answers.{OnMp4}
use Rattle.mp4_source.specs.declared.file_error.FileError.{FileError}
use Rattle.mp4_source.specs.declared.file_error.FileError.TheVariants.{Mp4, Io}
use Rattle.mp4_media.specs.FileBoxes.{FileBox, ftyp_from, moov_from, moof_from, ftyps_in, moovs_in, moofs_in, later}
use Rattle.mp4_media.specs.FileBoxes.{moof_place_from, moof_places_in}
use Rattle.mp4_media.specs.FileBoxes.{and_one, BoxContent, meaning_of}
use Rattle.mp4_media.specs.FileGrammar.{between, Begins, IsFileBox, IsFault}
use Rattle.mp4_faults.specs.declared.fault_place.PathStep.{PathStep}
use Rattle.mp4_faults.specs.declared.fault_place.FaultPlace.{FaultPlace}
use Rattle.mp4_faults.specs.declared.top_level.SeenBoxes.{SeenBoxes}
use Rattle.mp4_faults.specs.declared.top_level.NextBox.{NextBox}
use Rattle.mp4_faults.specs.declared.top_level.NextBox.TheVariants.{Faultless, End, Faulty}
use Rattle.mp4_faults.specs.Inner.{InnerBox, end_of}
use Rattle.mp4_faults.specs.Innermost.{step_after, IsInnermost}
use Rattle.mp4_faults.specs.Refusal.{payload_fault}

-- a box of a file, and its type
abbrev pub NamedBox : Type 0
NamedBox = BoxType × FileBox

abbrev pub types_of : List NamedBox → List BoxType
types_of boxes = map (λ (b : NamedBox). b.0) boxes

abbrev pub boxes_of : List NamedBox → List FileBox
boxes_of boxes = map (λ (b : NamedBox). b.1) boxes

-- a faultless box of a file of `size` bytes, from its first byte to the next box, with its type
pub record IsNamedBox (size : ℕ) (bytes : List ℕ) (place next : ℕ) (b : NamedBox) : Type 0 where
  pub box : IsFileBox size bytes place next b.1
  pub name : box.name ≡ b.0

-- faultless boxes of a file with their types, one after the other, from a place to another
unfoldable pub AreNamedBoxes : ℕ → List ℕ → ℕ → List NamedBox → ℕ → Type 0
AreNamedBoxes size bytes place [] next = next ≡ place
AreNamedBoxes size bytes place (b ∷ bs) next =
    (after : ℕ) × IsNamedBox size bytes place after b × AreNamedBoxes size bytes after bs next

-- no header of a box is at a place of a file of `size` bytes
abbrev pub HasNoHeader : ℕ → List ℕ → ℕ → Cause → Type 0
HasNoHeader size bytes place c = (size < place + 8) ⊎ (header_at (here bytes place) ≡ Err c)

-- A box doesn't fit: it is larger than the file of `size` bytes, or ends past the bytes, or past 64 bits.
abbrev pub FitsNowhere : ℕ → List ℕ → (from to : ℕ) → Type 0
FitsNowhere size bytes from to = (size < to - from + 8) ⊎ (length bytes < to) ⊎ (2 ^ 64 ≤ to)

-- a box fits: it is no larger than the file of `size` bytes, and ends within the bytes, and below 64 bits
pub record Fits (size : ℕ) (bytes : List ℕ) (from to : ℕ) : Type 0 where
  pub small : to - from + 8 ≤ size
  pub within : to ≤ length bytes
  pub narrow : to < 2 ^ 64

-- the box whose first byte and payload are at these places of a file, and which ends at the last
abbrev pub outermost : List ℕ → BoxType → (place from to : ℕ) → InnerBox
outermost bytes name place from to =
    record { name = name; place = place; from = from; payload = between bytes from to }

-- Where a fault is that is met at a place of a file, after boxes of these types: the path to the innermost box, and
-- the place of its first byte.
pub data IsIn (size : ℕ) (bytes : List ℕ) (place : ℕ) (before : List BoxType) (c : Cause) (path : List PathStep)
    (at : ℕ) : Type 0 where
  -- no box begins there: the fault is the file's own
  no_box : HasNoHeader size bytes place c → path ≡ [] → at ≡ place → IsIn size bytes place before c path at
  -- it is that of a box that doesn't fit
  no_room : (name : BoxType) (from to : ℕ) → Begins size bytes place name from to → FitsNowhere size bytes from to
      → path ≡ step_after name before ∷ [] → at ≡ place → IsIn size bytes place before c path at
  -- it is in a box that fits and whose payload is refused: in the innermost box that is at fault
  refused : (name : BoxType) (from to : ℕ) → Begins size bytes place name from to → Fits size bytes from to
      → payload_fault name (between bytes from to) ≡ Some c
      → (inward : List PathStep) (b : InnerBox) → IsInnermost c (outermost bytes name place from to) inward b
      → path ≡ step_after name before ∷ inward → at ≡ b.place → IsIn size bytes place before c path at

-- a fault is met at a place of a file, and this is where it is
pub record IsFaultAt (size : ℕ) (bytes : List ℕ) (place : ℕ) (before : List BoxType) (f : FaultPlace) : Type 0 where
  pub fault : IsFault size bytes place (cause_of f.error)
  pub is_in : IsIn size bytes place before (cause_of f.error) f.path f.place

-- the place of a box, where it is a movie
abbrev pub moov_place_from : FileBox → Option ℕ
moov_place_from b = option_map (λ _. b.place) (moov_from b.content)

-- the places of the movies among the boxes of a file, in order
abbrev pub moov_places_in : List FileBox → List ℕ
moov_places_in = filter_map moov_place_from

-- these boxes were seen
pub record IsSeen (seen : SeenBoxes) (boxes : List NamedBox) : Type 0 where
  pub names : seen.names ≡ types_of boxes
  pub ftyp : seen.ftyp ≡ last (ftyps_in (boxes_of boxes))
  pub moov : seen.moov ≡ last (moovs_in (boxes_of boxes))
  pub moov_place : seen.moov_place ≡ last (moov_places_in (boxes_of boxes))
  pub moofs : seen.moofs ≡ moofs_in (boxes_of boxes)
  pub moof_places : seen.moof_places ≡ moof_places_in (boxes_of boxes)

-- what counts of a box is added to what was seen, but for its type
pub record AddsContent (old new : SeenBoxes) (b : FileBox) : Type 0 where
  pub names : new.names ≡ old.names
  pub ftyp : new.ftyp ≡ later (ftyp_from b.content) old.ftyp
  pub moov : new.moov ≡ later (moov_from b.content) old.moov
  pub moov_place : new.moov_place ≡ later (moov_place_from b) old.moov_place
  pub moofs : new.moofs ≡ and_one old.moofs (moof_from b.content)
  pub moof_places : new.moof_places ≡ and_one old.moof_places (moof_place_from b)

-- this box was seen after what was seen
pub record Sees (old new : SeenBoxes) (b : NamedBox) : Type 0 where
  pub names : new.names ≡ old.names ++ b.0 ∷ []
  pub ftyp : new.ftyp ≡ later (ftyp_from b.1.content) old.ftyp
  pub moov : new.moov ≡ later (moov_from b.1.content) old.moov
  pub moov_place : new.moov_place ≡ later (moov_place_from b.1) old.moov_place
  pub moofs : new.moofs ≡ and_one old.moofs (moof_from b.1.content)
  pub moof_places : new.moof_places ≡ and_one old.moof_places (moof_place_from b.1)

-- A box of this type begins at a place of a file of `size` bytes, and its end is open: it goes on to the end of the
-- file, and isn't read.
pub record IsOpenBox (size : ℕ) (bytes : List ℕ) (place : ℕ) (name : BoxType) : Type 0 where
  pub room : place + 8 ≤ size
  pub said : BoxType
  pub from : ℕ
  pub head : header_at (here bytes place) ≡ Ok (record { name = said; size = 0 }, here bytes from)
  pub named : code_of said ≡ code_of name

-- the boxes of a file end at a place: where one of this type has an open end, or where the file has no more bytes
abbrev pub EndsAt : ℕ → List ℕ → ℕ → Option BoxType → Type 0
EndsAt size bytes place (Some name) = IsOpenBox size bytes place name
EndsAt size bytes place None = size ≤ place

-- What a call says of a place of a file, with what was seen before it and after it, and the place after it.
abbrev pub SaysNext : ℕ → List ℕ → ℕ → SeenBoxes → SeenBoxes → ℕ → NextBox → Type 0
SaysNext size bytes place old new after Faultless =
    (b : NamedBox) × IsNamedBox size bytes place after b × Sees old new b
SaysNext size bytes place old new after (End open_type) =
    EndsAt size bytes place open_type × (after ≡ place) × (new ≡ old)
SaysNext size bytes place old new after (Faulty f) = IsFaultAt size bytes place old.names f

-- a call that gives what is next, or memory ran out
abbrev pub GivesNext : Result NextBox Error → NextBox → Type 0
GivesNext (Ok next) expected = next ≡ expected
GivesNext (Err e) expected = e ≡ OutOfMemory

-- the same of a box that is at hand
abbrev pub TellsNext : ℕ → List ℕ → ℕ → SeenBoxes → SeenBoxes → ℕ → Result NextBox Error → Type 0
TellsNext size bytes place old new after (Ok next) = SaysNext size bytes place old new after next
TellsNext size bytes place old new after (Err e) = e ≡ OutOfMemory

-- memory ran out, or the source refused a read, which it can
abbrev pub IsUnread : Bool → FileError → Type 0
IsUnread can_refuse (Mp4 e) = e ≡ OutOfMemory
IsUnread can_refuse (Io e) = IsTrue can_refuse

-- What a call says of a refused read of a source: it is a fault of the bytes, or memory or the source refused it.
abbrev pub SaysWhose : FileError → Result Error FileError → Type 0
SaysWhose refusal (Ok e) = (refusal ≡ Mp4 e) × (e ≡ OutOfMemory → ⊥)
SaysWhose refusal (Err u) = (u ≡ refusal) × OnMp4 refusal (λ e. e ≡ OutOfMemory)

-- the same of a box that is read from a source
abbrev pub ReadsNext : ℕ → List ℕ → Bool → ℕ → SeenBoxes → SeenBoxes → ℕ → Result NextBox FileError → Type 0
ReadsNext size bytes can_refuse place old new after (Ok next) = SaysNext size bytes place old new after next
ReadsNext size bytes can_refuse place old new after (Err e) = IsUnread can_refuse e

-- boxes of this type are read
abbrev pub IsRead : BoxType → Type 0
IsRead FtypBox = Unit {0}
IsRead MoovBox = Unit {0}
IsRead MoofBox = Unit {0}
IsRead EmsgBox = Unit {0}
IsRead other = ⊥

-- a box of a file of `size` bytes, whose payload is these bytes of it
pub record IsTopBox (size : ℕ) (bytes : List ℕ) (b : InnerBox) : Type 0 where
  pub begins : Begins size bytes b.place b.name b.from (end_of b)
  pub fits : end_of b - b.from + 8 ≤ size
  pub payload : b.payload ≡ between bytes b.from (end_of b)
  pub within : end_of b ≤ length bytes
  pub narrow : end_of b < 2 ^ 64

-- a box of a file of `size` bytes with this header, which begins at a place and whose payload begins at another
pub record IsBegun (size : ℕ) (bytes : List ℕ) (place : ℕ) (h : BoxHeader) (from : ℕ) : Type 0 where
  pub begins : Begins size bytes place h.name from (from + (h.size - 8))
  pub fits : h.size ≤ size

-- What a payload means as that of a box of a file: this content, or nothing, for this cause.
abbrev pub Means : BoxType → List ℕ → Result BoxContent Cause → Type 0
Means name payload answer =
    (value : List ℕ → Result BoxContent Cause) × (meaning_of name ≡ Some value) × (value payload ≡ answer)

-- a box that is read is refused, and nothing is added to what was seen
pub record RefusesContent (old new : SeenBoxes) (b : InnerBox) (c : Cause) : Type 0 where
  pub names : new.names ≡ old.names
  pub means : Means b.name b.payload (Err c)
  pub fault : payload_fault b.name b.payload ≡ Some c

-- What a call says of the content of a box that is read; or memory ran out.
abbrev pub TellsContent : SeenBoxes → SeenBoxes → InnerBox → Result (Option Error) Error → Type 0
TellsContent old new b (Ok None) =
    (content : BoxContent) × Means b.name b.payload (Ok content)
    × AddsContent old new (record { place = b.place; content = content })
TellsContent old new b (Ok (Some e)) = RefusesContent old new b (cause_of e)
TellsContent old new b (Err e) = e ≡ OutOfMemory

-- What a call says of a value; or memory ran out.
abbrev pub TellsValue : {A : Type 0} → Result (Result A Error) Error → Result A Cause → Type 0
TellsValue (Ok (Ok x)) answer = answer ≡ Ok x
TellsValue (Ok (Err e)) answer = answer ≡ Err (cause_of e)
TellsValue (Err e) answer = e ≡ OutOfMemory

-- a fault in a box of a file, found from its outermost box on, after boxes of these types
pub record IsInside (before : List BoxType) (a : InnerBox) (c : Cause) (f : FaultPlace) : Type 0 where
  pub cause : cause_of f.error ≡ c
  pub inward : List PathStep
  pub b : InnerBox
  pub innermost : IsInnermost c a inward b
  pub path : f.path ≡ step_after a.name before ∷ inward
  pub place : f.place ≡ b.place

-- What a call says of a fault in a box of a file; or memory ran out.
abbrev pub TellsInside : List BoxType → InnerBox → Cause → Result NextBox Error → Type 0
TellsInside before a c (Ok next) = (f : FaultPlace) × (next ≡ Faulty f) × IsInside before a c f
TellsInside before a c (Err e) = e ≡ OutOfMemory
