-- The first fault of a file (ISO/IEC 14496-12, 4.2 and 6.2).
use Rattle.std.specs.Prelude.{◌≡◌, ℕ, ◌+◌, Bool, false, List, [], ◌∷◌, Option, Some, None, Result, Ok, Err, ◌==◌}
use Rattle.std.specs.Prelude.{if◌then◌else◌}
use Rattle.std.specs.List.{slice_get}
use Rattle.mp4_codec.specs.declared.box_type.BoxType.TheVariants.{FtypBox as ftyp, MoovBox as moov, MoofBox as moof}
use Rattle.mp4_codec.specs.declared.box_type.BoxType.TheVariants.{TrakBox as trak, TrafBox as traf, TkhdBox as tkhd}
use Rattle.mp4_codec.specs.declared.box_type.BoxType.TheVariants.{TfhdBox as tfhd}
use Rattle.mp4_codec.specs.declared.box_type.BoxType.{BoxType}
use Rattle.mp4_codec.specs.declared.error.Error.{Error}
use Rattle.mp4_codec.specs.declared.error.Error.TheVariants.{BoxNotFound, OutOfMemory}
use Rattle.mp4_codec.specs.BoxType.{code_of}
use Rattle.mp4_codec.specs.Cause.{cause_of, fault_of, box_not_found}
use Rattle.mp4_codec.specs.Children.{last}
use Rattle.mp4_codec.specs.Cursor.{here}
use Rattle.mp4_leaf.specs.declared.ftyp.FtypBox.{FtypBox}
use Rattle.mp4_boxes.specs.declared.moov.MoovBox.{MoovBox}
use Rattle.mp4_source.specs.declared.file_error.FileError.{FileError}
use Rattle.mp4_media.specs.FileBoxes.{FileBox, ftyps_in, moovs_in, moofs_in, moof_places_in}
use Rattle.mp4_media.specs.FileGrammar.{EndsFile}
use Rattle.mp4_media.specs.MovieTracks.{id_fault}
use Rattle.mp4_media.specs.Walk.{opened_at}
use Rattle.mp4_faults.specs.declared.fault_place.FaultPlace.{FaultPlace}
use Rattle.mp4_faults.specs.declared.first_fault.FileEnd.{FileEnd}
use Rattle.mp4_faults.specs.declared.ids.IdFault.{IdFault}
use Rattle.mp4_faults.specs.declared.ids.IdFault.TheVariants.{Track, Fragment}
use Rattle.mp4_faults.specs.declared.wrong_id.IdPlace.{IdPlace}
use Rattle.mp4_faults.specs.Ids.{IsFirstId}
use Rattle.mp4_faults.specs.WrongId.{IsWrongId}
use Rattle.mp4_faults.specs.Innermost.{count_of, step_after}
use Rattle.mp4_faults.specs.TopLevel.{moov_places_in}
use Rattle.mp4_faults.specs.TopLevel.{NamedBox, AreNamedBoxes, IsOpenBox, IsFaultAt, IsUnread, types_of, boxes_of}

-- whether a box with an open end, if there is one, is of this type
abbrev pub is_open_of : Option BoxType → BoxType → Bool
is_open_of (Some other) name = code_of other == code_of name
is_open_of None name = false

-- a file with these boxes, none of which has a fault, has none either: its movie's last box and its fragments say ids
-- of tracks that are there
pub record IsFaultless (boxes : List FileBox) : Type 0 where
  pub ftyp : FtypBox
  pub moov : MoovBox
  pub has_ftyp : last (ftyps_in boxes) ≡ Some ftyp
  pub has_moov : last (moovs_in boxes) ≡ Some moov
  pub ids : id_fault moov (moofs_in boxes) ≡ None

-- What says a wrong id of the last movie or of its fragments, in a file with these boxes: the header of a track in the
-- last movie, or of a track fragment in its movie fragment.
abbrev pub IsPlaceOf : List NamedBox → IdFault → IdPlace → Type 0
IsPlaceOf boxes (Track index) id =
    (place : ℕ) × (last (moov_places_in (boxes_of boxes)) ≡ Some place) × (id ≡ record {
      top = record { name = moov; number = count_of moov (types_of boxes) };
      place = place;
      name = trak;
      number = index + 1;
      header = tkhd;
    })
IsPlaceOf boxes (Fragment index traf_index unknown) id =
    (place : ℕ) × (slice_get (moof_places_in (boxes_of boxes)) index ≡ Some place) × (id ≡ record {
      top = record { name = moof; number = index + 1 };
      place = place;
      name = traf;
      number = traf_index + 1;
      header = tfhd;
    })

-- The fault of a file of `size` bytes that lacks a box of this type, and has boxes of these types up to a place: it is
-- that of the box of this type which begins there and has an open end; else it is the file's own, and where it ends.
pub data IsLacking (size : ℕ) (bytes : List ℕ) (types : List BoxType) (end : ℕ) (name : BoxType) (f : FaultPlace)
    : Type 0 where
  unread : IsOpenBox size bytes end name → f.path ≡ step_after name types ∷ [] → f.place ≡ end
      → IsLacking size bytes types end name f
  absent : (IsOpenBox size bytes end name → ⊥) → f.path ≡ [] → f.place ≡ size
      → IsLacking size bytes types end name f

-- The fault of a file of `size` bytes with these boxes up to a place, none of which has one, and at which the file
-- ends: first that it has no file type, then that it has no movie, and then the first wrong id of its last movie and of
-- its fragments.
pub data IsFaultOfFile (size : ℕ) (bytes : List ℕ) (boxes : List NamedBox) (end : ℕ) (f : FaultPlace) : Type 0 where
  no_ftyp : last (ftyps_in (boxes_of boxes)) ≡ None → cause_of f.error ≡ box_not_found ftyp
      → IsLacking size bytes (types_of boxes) end ftyp f → IsFaultOfFile size bytes boxes end f
  no_moov : (t : FtypBox) → last (ftyps_in (boxes_of boxes)) ≡ Some t → last (moovs_in (boxes_of boxes)) ≡ None
      → cause_of f.error ≡ box_not_found moov
      → IsLacking size bytes (types_of boxes) end moov f → IsFaultOfFile size bytes boxes end f
  wrong_id : (t : FtypBox) → last (ftyps_in (boxes_of boxes)) ≡ Some t
      → (m : MoovBox) → last (moovs_in (boxes_of boxes)) ≡ Some m
      → id_fault m (moofs_in (boxes_of boxes)) ≡ Some (cause_of f.error)
      → (wrong : IdFault) → IsFirstId m (moofs_in (boxes_of boxes)) wrong
      → (id : IdPlace) → IsPlaceOf boxes wrong id → IsWrongId bytes id f → IsFaultOfFile size bytes boxes end f

-- The first fault of a file of `size` bytes that begins at a place: that of a box with only faultless boxes before it,
-- or that of the file itself, where no box up to its end has one.
pub data IsFirstFault (size : ℕ) (bytes : List ℕ) (start : ℕ) (f : FaultPlace) : Type 0 where
  of_box : (before : List NamedBox) (place : ℕ) → AreNamedBoxes size bytes start before place
      → IsFaultAt size bytes place (types_of before) f → IsFirstFault size bytes start f
  of_file : (boxes : List NamedBox) (end : ℕ) → AreNamedBoxes size bytes start boxes end → EndsFile size bytes end
      → IsFaultOfFile size bytes boxes end f → IsFirstFault size bytes start f

-- the fault that is said of a file that lacks a box of this type, ends so, and has boxes of these types
abbrev pub lacking : List BoxType → FileEnd → BoxType → FaultPlace
lacking types end name = record {
  path = if is_open_of end.open_type name then step_after name types ∷ [] else [];
  place = if is_open_of end.open_type name then end.place else end.size;
  error = BoxNotFound name;
}

-- What a call says of a file that lacks a box; or memory ran out.
abbrev pub TellsLacking : List BoxType → FileEnd → BoxType → Result FaultPlace Error → Type 0
TellsLacking types end name (Ok f) = f ≡ lacking types end name
TellsLacking types end name (Err e) = e ≡ OutOfMemory

-- What a call says of these boxes, which are all of a file of `size` bytes, up to this place; or the source isn't read.
abbrev pub SaysAtEnd : ℕ → List ℕ → List NamedBox → ℕ → Bool → Result (Option FaultPlace) FileError → Type 0
SaysAtEnd size bytes boxes end can_refuse (Ok None) = IsFaultless (boxes_of boxes)
SaysAtEnd size bytes boxes end can_refuse (Ok (Some f)) = IsFaultOfFile size bytes boxes end f
SaysAtEnd size bytes boxes end can_refuse (Err e) = IsUnread can_refuse e

-- What a call says of a file of `size` bytes that begins at a place: that it opens, or its first fault, whose error is
-- that of its opening; or the source isn't read.
abbrev pub SaysFirst : ℕ → List ℕ → ℕ → Bool → Result (Option FaultPlace) FileError → Type 0
SaysFirst size bytes start can_refuse (Ok None) = fault_of (opened_at size (here bytes start)) ≡ None
SaysFirst size bytes start can_refuse (Ok (Some f)) =
    IsFirstFault size bytes start f × (fault_of (opened_at size (here bytes start)) ≡ Some (cause_of f.error))
SaysFirst size bytes start can_refuse (Err e) = IsUnread can_refuse e
