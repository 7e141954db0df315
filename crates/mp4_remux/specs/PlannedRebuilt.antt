-- A movie of some of the tracks of a file, or one whose fragments are gathered, as it is planned, and why none is
-- written (ISO/IEC 14496-12, 4.2, 8.1.1, 8.2.1, 8.3 and 8.8).
use Rattle.std.specs.Prelude.{◌≡◌, ◌⊎◌, ◌+◌, ◌^◌, ◌≤◌, ◌++◌, ⊤, ℕ, max, Bool, true, false, List, []}
use Rattle.std.specs.Prelude.{◌∷◌, length, map, Option, Some, None, option_map, slice_get, vec_items}
use Rattle.std.specs.List.{All, filter, sum_by}
use Rattle.std.specs.List.Sorted.{IsPermutation, IsSorted}
use Rattle.std.specs.Ordering.{nat_cmp}
use Rattle.mp4_boxes.specs.declared.trak.TrakBox.{TrakBox}
use Rattle.mp4_codec.specs.Cause.{cause_of}
use Rattle.mp4_codec.specs.declared.error.Error.{Error}
use Rattle.mp4_codec.specs.declared.error.Error.TheVariants.{OutOfMemory}
use Rattle.mp4_media.specs.FileBoxes.{OpenedFile}
use Rattle.mp4_media.specs.FileGrammar.{between}
use Rattle.mp4_source.specs.Sink.{IsAppended}
use Rattle.mp4_remux.specs.Caused.{CausedBy}
use Rattle.mp4_remux.specs.Data.{AreDataOf, closed_place, data_len, data_header}
use Rattle.mp4_remux.specs.Edit.{IsEditedAt, IsWhyNotEdited}
use Rattle.mp4_remux.specs.Frames.{IsFrame, data_begin}
use Rattle.mp4_remux.specs.Headers.{edits_of_box, has_tables, made_of}
use Rattle.mp4_remux.specs.Reads.{SaysFirst}
use Rattle.mp4_remux.specs.References.{contains_id, leaves_some, references_in, stays}
use Rattle.mp4_remux.specs.Refused.{IsUnreadable, IsWhyMade, SaysWhy}
use Rattle.mp4_remux.specs.RefusedRebuilt.{IsCutSample}
use Rattle.mp4_remux.specs.Remuxed.{ids_of, kept_of}
use Rattle.mp4_remux.specs.ShownTimes.{IsShownTime, in_64_bits}
use Rattle.mp4_remux.specs.Splice.{AreStretches, Stretch, has_bytes, kept_stretch, made_stretch, spliced, stretch_len}
use Rattle.mp4_remux.specs.Splice.{stretch_of}
use Rattle.mp4_remux.specs.TrackTables.{AreTablesOf, IsWhyNoTables}
use Rattle.mp4_remux.specs.declared.data.Extent.{Extent}
use Rattle.mp4_remux.specs.declared.error.RemuxError.{RemuxError}
use Rattle.mp4_remux.specs.declared.frame.Frame.{Frame}
use Rattle.mp4_remux.specs.declared.movie_box.MovieEdit.{MovieEdit}
use Rattle.mp4_remux.specs.declared.movie_box.TrackEdit.{TrackEdit}
use Rattle.mp4_remux.specs.declared.movie_box.TrackEdit.TheVariants.{Dropped, Moved, Made}
use Rattle.mp4_remux.specs.declared.piece.Piece.{Piece}
use Rattle.mp4_remux.specs.declared.reference.Reference.{Reference}
use Rattle.mp4_remux.specs.declared.top_level.TopBox.{TopBox}

-- WHAT BECOMES OF THE TRACKS

-- A track with this box, of a file that opens so, becomes so where these are kept and their data is closed up: it is
-- left out; or its chunk offsets are moved, where no tables are made; or it gets these tables, and is shown so long.
abbrev pub IsTrackEdit : OpenedFile → (to : ℕ → ℕ) → (ids : List ℕ) → TrakBox → TrackEdit → Type 0
IsTrackEdit opened to ids t Dropped = contains_id ids t.tkhd.track_id ≡ false
IsTrackEdit opened to ids t Moved =
    (contains_id ids t.tkhd.track_id ≡ true) × (has_tables (made_of opened) ≡ false)
IsTrackEdit opened to ids t (Made m) =
    (contains_id ids t.tkhd.track_id ≡ true) × ((has_tables (made_of opened) ≡ true)
    × (AreTablesOf opened t.tkhd.track_id to m.tables
    × IsShownTime (edits_of_box t.edts) t.mdia.mdhd m.tables.duration opened.moov.mvhd.timescale m.shown))

unfoldable pub AreTrackEdits : OpenedFile → (to : ℕ → ℕ) → (ids : List ℕ) → List TrakBox → List TrackEdit → Type 0
AreTrackEdits opened to ids [] [] = ⊤
AreTrackEdits opened to ids [] (e ∷ es) = ⊥
AreTrackEdits opened to ids (t ∷ ts) [] = ⊥
AreTrackEdits opened to ids (t ∷ ts) (e ∷ es) =
    IsTrackEdit opened to ids t e × AreTrackEdits opened to ids ts es

-- how long a track is then, in ticks of the movie
abbrev pub time_after : TrakBox → TrackEdit → ℕ
time_after t Dropped = 0
time_after t Moved = t.tkhd.duration
time_after t (Made m) = m.shown.total

-- the longest of these tracks
unfoldable pub longest_after : List TrakBox → List TrackEdit → ℕ
longest_after [] es = 0
longest_after (t ∷ ts) [] = 0
longest_after (t ∷ ts) (e ∷ es) = max (time_after t e) (longest_after ts es)

-- where tracks are left out, references to these alone stay, the lowest id first
abbrev pub AreIdsLeft : Bool → (ids : List ℕ) → Option (List ℕ) → Type 0
AreIdsLeft true ids None = ⊥
AreIdsLeft true ids (Some sorted) = IsPermutation ids sorted × IsSorted nat_cmp sorted
AreIdsLeft false ids None = ⊤
AreIdsLeft false ids (Some sorted) = ⊥

-- What becomes of the movie box of a file that opens so, where these of its tracks are kept: each track becomes as is
-- said, the movie is as long as the longest of them (8.2.2.3), and of fragments nothing is said where they are
-- gathered.
pub record IsRebuildEdit (opened : OpenedFile) (to : ℕ → ℕ) (ids : List ℕ) (edit : MovieEdit) : Type 0 where
  pub tracks : AreTrackEdits opened to ids opened.moov.traks edit.tracks.items
  pub duration : edit.duration ≡ Some (longest_after opened.moov.traks edit.tracks.items)
  pub ids_left : AreIdsLeft (leaves_some (ids_of opened.moov) ids) ids (option_map vec_items edit.ids)
  pub gathered : edit.is_gathered ≡ has_tables (made_of opened)

-- WHERE ALL IS

-- where a byte of the data is then that begins at this place
abbrev pub data_moved : List Extent → ℕ → ℕ → ℕ
data_moved extents base place = in_64_bits (base + closed_place extents place)

-- the file type, the movie box that was made, the boxes that stay, and the data after its header, which was made too
abbrev pub rebuilt_stretches : Frame → (movie_len made_len : ℕ) → List Extent → List Stretch
rebuilt_stretches frame movie_len made_len extents =
    kept_stretch frame.file_type.place frame.file_type.end ∷ made_stretch 0 movie_len
    ∷ map (λ (b : TopBox). kept_stretch b.place b.end) frame.others.items
    ++ (made_stretch movie_len made_len ∷ map (λ (e : Extent). kept_stretch e.place e.end) extents)

-- the movie box is edited where the data begins at this place
abbrev pub IsMovieAt : MovieEdit → Frame → List Extent → (base : ℕ) → (movie : List ℕ) → Type 0
IsMovieAt edit frame extents base movie =
    IsEditedAt edit (data_moved extents base) base 0 0 frame.movie_bytes.items movie

-- or where it begins after that box and a header of so many bytes
abbrev pub IsSettled : MovieEdit → Frame → List Extent → (header_len : ℕ) → (movie : List ℕ) → Type 0
IsSettled edit frame extents header_len movie =
    IsMovieAt edit frame extents (data_begin frame (length movie) header_len) movie

-- how many bytes the header of the data has
abbrev pub header_len : List Extent → ℕ
header_len extents = length (data_header (data_len extents))

-- what has to be known of a file before its movie box is edited: its frame, the data of these tracks, and the edit
pub record IsPrepared (before : List ℕ) (opened : OpenedFile) (ids : List ℕ) (frame : Frame) (extents : List Extent)
    (edit : MovieEdit) : Type 0
  where
    pub is_frame : IsFrame before (has_tables (made_of opened)) frame
    pub samples : AreDataOf opened ids extents
    pub edits : IsRebuildEdit opened (data_moved extents 0) ids edit

-- This is the movie box of a file with these tracks of another: as it is edited where the data is closed up, and begins
-- after that box, the boxes that stay, and its own header.
pub record IsRebuiltMovie (before : List ℕ) (opened : OpenedFile) (ids : List ℕ) (frame : Frame)
    (extents : List Extent) (movie : List ℕ) : Type 0
  where
    pub edit : MovieEdit
    pub prepared : IsPrepared before opened ids frame extents edit
    pub settled : IsSettled edit frame extents (header_len extents) movie

-- The bytes that were made and the pieces are those of such a file: the bytes are its movie box, and the header of its
-- data, which is in one box (8.1.1); the pieces put them after the file type, and after the boxes that stay.
pub record IsPlannedRebuilt (before : List ℕ) (opened : OpenedFile) (ids made : List ℕ) (pieces : List Piece) : Type 0
  where
    pub frame : Frame
    pub extents : List Extent
    pub movie : List ℕ
    pub rebuilt : IsRebuiltMovie before opened ids frame extents movie
    pub is : made ≡ movie ++ data_header (data_len extents)
    pub stretches : AreStretches (length before) (length made)
        (rebuilt_stretches frame (length movie) (length made) extents) pieces

-- WHY NONE IS WRITTEN

-- no movie box is as the edit says where the data begins at some place: a size or a duration can't be said
abbrev pub IsNowhereEdited : MovieEdit → Frame → List Extent → Error → Type 0
IsNowhereEdited edit frame extents error = (base : ℕ)
    × IsWhyNotEdited edit (data_moved extents base) base 0 0 frame.movie_bytes.items error

-- that of a file with these tracks isn't
pub record IsNotEdited (before : List ℕ) (opened : OpenedFile) (ids : List ℕ) (error : Error) : Type 0 where
  pub frame : Frame
  pub extents : List Extent
  pub edit : MovieEdit
  pub prepared : IsPrepared before opened ids frame extents edit
  pub why : IsNowhereEdited edit frame extents error

-- no tables are made of one of these tracks, whose data is moved so
pub record AreNotMade (opened : OpenedFile) (ids : List ℕ) (to : ℕ → ℕ) (error : Error) : Type 0 where
  pub id : ℕ
  pub number : ℕ
  pub is : slice_get ids number ≡ Some id
  pub why : IsWhyNoTables opened id to error

-- or memory ran out
abbrev pub IsUnmade : OpenedFile → (ids : List ℕ) → (to : ℕ → ℕ) → Error → Type 0
IsUnmade opened ids to error = (error ≡ OutOfMemory) ⊎ AreNotMade opened ids to error

abbrev pub HasNoTables : OpenedFile → (ids : List ℕ) → Error → Type 0
HasNoTables opened ids error =
    (extents : List Extent) × (AreDataOf opened ids extents × AreNotMade opened ids (data_moved extents 0) error)

-- why no movie is planned, for an error of the file: out of memory; of a track it isn't said where a sample is; no
-- tables are made of one; or no movie box is
abbrev pub IsUnplanned : List ℕ → OpenedFile → List ℕ → Error → Type 0
IsUnplanned before opened ids error =
    (error ≡ OutOfMemory) ⊎ (IsUnreadable opened ids (cause_of error) ⊎ (HasNoTables opened ids error
    ⊎ IsNotEdited before opened ids error))

-- the references in the movie box of a file that stay where of all tracks these are kept
abbrev pub staying_of : Frame → (all ids : List ℕ) → List Reference
staying_of frame all ids = filter (stays (leaves_some all ids) ids) (references_in frame.movie_bytes.items all)

-- the movie box that would be written has other references than those that stay
pub record HasOtherReferences (before : List ℕ) (opened : OpenedFile) (ids : List ℕ) : Type 0 where
  pub frame : Frame
  pub extents : List Extent
  pub movie : List ℕ
  pub rebuilt : IsRebuiltMovie before opened ids frame extents movie
  pub other : references_in movie ids ≡ staying_of frame (ids_of opened.moov) ids → ⊥

-- the file that would be written has more bytes than 64 bits count
pub record IsTooLong (before : List ℕ) (opened : OpenedFile) (ids : List ℕ) : Type 0 where
  pub frame : Frame
  pub extents : List Extent
  pub movie : List ℕ
  pub rebuilt : IsRebuiltMovie before opened ids frame extents movie
  pub long : 2 ^ 64 ≤ sum_by stretch_len (rebuilt_stretches frame (length movie)
      (length (movie ++ data_header (data_len extents))) extents)

-- Why no file with these tracks is planned: one of the reasons above, or a sample of one of them isn't whole in the
-- file.
abbrev pub IsWhyUnplanned : List ℕ → OpenedFile → (ids : List ℕ) → RemuxError → Type 0
IsWhyUnplanned before opened ids =
    SaysWhy (IsUnplanned before opened ids) (HasOtherReferences before opened ids ⊎ IsTooLong before opened ids)
    (IsCutSample (length before) ids opened)

-- After the bytes that a sink had come those of the file that is planned.
abbrev pub WritesPlanned : List ℕ → OpenedFile → (ids : List ℕ) → Option (List ℕ) → Option (List ℕ) → Type 0
WritesPlanned before opened ids had has = (made : List ℕ) × ((pieces : List Piece)
    × (IsPlannedRebuilt before opened ids made pieces × IsAppended had has (spliced before made pieces)))

-- Why a file that opens isn't written with these tracks: none is planned, or why the file that is planned isn't
-- written.
abbrev pub IsWhyNotRebuilt : List ℕ → OpenedFile → (ids : List ℕ) → RemuxError → Type 0
IsWhyNotRebuilt before opened ids e =
    IsWhyUnplanned before opened ids e
    ⊎ ((made : List ℕ) × ((pieces : List Piece) × (IsPlannedRebuilt before opened ids made pieces
    × IsWhyMade (made_of opened) ids before made pieces opened e)))

-- Why a file that opens isn't written with the tracks that have these ids: one of these isn't there, and the refusal is
-- for the first such; or it isn't with those that are kept then, in the order of their boxes.
abbrev pub IsWhyNotChosen : List ℕ → OpenedFile → (ids : List ℕ) → RemuxError → Type 0
IsWhyNotChosen before opened ids e =
    CausedBy (SaysFirst opened ids) ⊥ e ⊎ IsWhyNotRebuilt before opened (kept_of ids (ids_of opened.moov)) e

-- WHILE IT IS PLANNED

-- the bytes that were made, and the pieces, are those of such a movie box, whose tracks have these references
pub record IsPlannedData (edit : MovieEdit) (frame : Frame) (extents : List Extent) (ids : List ℕ)
    (staying : List Reference) (made : List ℕ) (pieces : List Piece) : Type 0
  where
    pub movie : List ℕ
    pub settled : IsSettled edit frame extents (header_len extents) movie
    pub referring : references_in movie ids ≡ staying
    pub is : made ≡ movie ++ data_header (data_len extents)
    pub stretches : map stretch_of pieces
        ≡ filter has_bytes (rebuilt_stretches frame (length movie) (length made) extents)
    pub bytes : (source : List ℕ) → (rest : List ℕ) × (spliced source made pieces
        ≡ between source frame.file_type.place frame.file_type.end ++ (movie ++ rest))

-- the file type, the boxes that stay and the data lie within a file of so many bytes
pub record FitsIn (len : ℕ) (frame : Frame) (extents : List Extent) : Type 0 where
  pub file_type : frame.file_type.end ≤ len
  pub others : All (λ (b : TopBox). b.end ≤ len) frame.others.items
  pub samples : All (λ (e : Extent). e.end ≤ len) extents

-- such a movie box has other references
pub record IsOtherMovie (edit : MovieEdit) (frame : Frame) (extents : List Extent) (ids : List ℕ)
    (staying : List Reference) : Type 0
  where
    pub movie : List ℕ
    pub settled : IsSettled edit frame extents (header_len extents) movie
    pub other : references_in movie ids ≡ staying → ⊥

-- why no such bytes are made: out of memory; no movie box is so edited where the data begins at some place; or it has
-- other references
abbrev pub IsUnplannedData : MovieEdit → Frame → List Extent → (ids : List ℕ) → List Reference → RemuxError → Type 0
IsUnplannedData edit frame extents ids staying =
    CausedBy (λ error. (error ≡ OutOfMemory) ⊎ IsNowhereEdited edit frame extents error)
    (IsOtherMovie edit frame extents ids staying)
