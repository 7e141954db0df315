-- What the headers of a movie say that was rewritten: how long it and its tracks are, and all else as before.
use Rattle.std.specs.Prelude.{◌≡◌, ◌+◌, ◌-◌, ◌*◌, ◌^◌, ◌≤◌, ◌<◌, ◌⊎◌, ⊤, ℕ, ℤ, pos, if◌then◌else◌, max}
use Rattle.std.specs.Prelude.{int_lt, unsigned_abs, List, [], ◌∷◌, length, Option, None, Some, IfSome, IsSome, Ok}
use Rattle.std.specs.Prelude.{Bool, true, false, slice_get}
use Rattle.mp4_leaf.specs.declared.elst.ElstBox.{ElstBox}
use Rattle.mp4_leaf.specs.declared.elst.ElstEntry.{ElstEntry}
use Rattle.mp4_leaf.specs.declared.mdhd.MdhdBox.{MdhdBox}
use Rattle.mp4_leaf.specs.declared.mvhd.MvhdBox.{MvhdBox}
use Rattle.mp4_leaf.specs.declared.tkhd.TkhdBox.{TkhdBox}
use Rattle.mp4_table.specs.declared.co64.Co64Box.{Co64Box}
use Rattle.mp4_boxes.specs.declared.edts.EdtsBox.{EdtsBox}
use Rattle.mp4_boxes.specs.declared.stbl.StblBox.{StblBox}
use Rattle.mp4_boxes.specs.declared.trak.TrakBox.{TrakBox}
use Rattle.mp4_moof.specs.declared.moof.MoofBox.{MoofBox}
use Rattle.mp4_moof.specs.declared.mvex.MvexBox.{MvexBox}
use Rattle.mp4_samples.specs.declared.sample.Place.{Place}
use Rattle.mp4_media.specs.FileBoxes.{OpenedFile}
use Rattle.mp4_media.specs.MovieTracks.{OpenedTrack, track_at}
use Rattle.mp4_remux.specs.declared.made.Made.{Made}
use Rattle.mp4_remux.specs.declared.made.Made.TheVariants.{Offsets, Tracks, Tables}
use Rattle.mp4_remux.specs.Kept.{offsets, of_tracks, of_tables}
use Rattle.mp4_remux.specs.Reads.{count_of, place_in}

-- HOW LONG THE MEDIA OF A TRACK ARE (ISO/IEC 14496-12, 8.4.2.3)

-- when a sample has been shown that is decoded at this time: it is shown by its offset later, or earlier, for its
-- duration (8.6.1)
abbrev pub shown_at : ℕ → ℕ → ℤ → ℕ
shown_at decoded duration offset =
    if int_lt offset (pos 0) then decoded + duration - unsigned_abs offset
    else decoded + duration + unsigned_abs offset

abbrev pub shown_end : Place → ℕ
shown_end p = shown_at p.start_time p.duration p.rendering_offset

-- sample k has been shown at this time
pub record HasShown (opened : OpenedFile) (id k end : ℕ) : Type 0 where
  pub place : Place
  pub there : place_in opened id k ≡ Ok (Some place)
  pub shown : shown_end place ≡ end

-- a track says that it has no samples, and none is found at the first number
abbrev pub HasNoSamples : OpenedFile → ℕ → Type 0
HasNoSamples opened id =
    (count_of opened id ≡ Ok 0) × ((first : Place) → place_in opened id 1 ≡ Ok (Some first) → ⊥)

-- All samples of a track have been shown at this time, and one of them not before, where there are any.
pub record IsShownUntil (opened : OpenedFile) (id end : ℕ) : Type 0 where
  pub count : ℕ
  pub all : (k : ℕ) → 1 ≤ k → k ≤ count → (shown : ℕ) × (HasShown opened id k shown × (shown ≤ end))
  pub one : (end ≡ 0) ⊎ ((k : ℕ) × ((1 ≤ k) × ((k ≤ count) × HasShown opened id k end)))
  pub none : ((count ≡ 0) × HasNoSamples opened id) ⊎ (place_in opened id (count + 1) ≡ Ok None)

-- HOW LONG A TRACK IS (8.3.2.3 and 8.6.6)

-- a duration by one clock is so long by another, rounded up; a clock without ticks measures nothing
abbrev pub IsRoundedUp : ℕ → ℕ → ℕ → ℕ → Type 0
IsRoundedUp duration clock other shown =
    ((clock ≡ 0) × (shown ≡ 0)) ⊎ ((duration * other ≤ shown * clock) × (shown * clock < duration * other + clock))

-- the edits of a track
abbrev pub edits_of_list : Option ElstBox → List ElstEntry
edits_of_list None = []
edits_of_list (Some list) = list.entries

abbrev pub edits_of_box : Option EdtsBox → List ElstEntry
edits_of_box None = []
edits_of_box (Some edts) = edits_of_list edts.elst

-- how long edits are, one after the other
unfoldable pub edits_time : List ElstEntry → ℕ
edits_time [] = 0
edits_time (e ∷ es) = e.segment_duration + edits_time es

-- a track with these edits is as long as they are, and one without edits as its media
abbrev pub IsTimeOf : TrakBox → ℕ → List ElstEntry → Type 0
IsTimeOf t clock [] = IsRoundedUp t.mdia.mdhd.duration t.mdia.mdhd.timescale clock t.tkhd.duration
IsTimeOf t clock (e ∷ es) = t.tkhd.duration ≡ edits_time (e ∷ es)

-- its header says how long a track is, by the movie's clock
abbrev pub IsTrackTime : TrakBox → ℕ → Type 0
IsTrackTime t clock = IsTimeOf t clock (edits_of_box t.edts)

-- the longest of these tracks
unfoldable pub longest : List TrakBox → ℕ
longest [] = 0
longest (t ∷ ts) = max t.tkhd.duration (longest ts)

-- a movie is as long as its longest track (8.2.2.3)
abbrev pub IsAsLong : OpenedFile → Type 0
IsAsLong opened = opened.moov.mvhd.duration ≡ longest opened.moov.traks

-- The durations of a movie are those of its samples and edits.
pub record HasDurations (opened : OpenedFile) : Type 0 where
  pub movie : IsAsLong opened
  pub tracks : (t : TrakBox) (i : ℕ) → slice_get opened.moov.traks i ≡ Some t
      → IsTrackTime t opened.moov.mvhd.timescale
  pub media : (t : TrakBox) (i : ℕ) → slice_get opened.moov.traks i ≡ Some t
      → IsShownUntil opened t.tkhd.track_id t.mdia.mdhd.duration

-- WHAT IS MADE ANEW

-- a movie with fragments, or in which fragments may follow, gets all its tables anew
abbrev pub made_from : List MoofBox → Option MvexBox → Made
made_from [] None = Tracks
made_from [] (Some mvex) = Tables
made_from (moof ∷ moofs) mvex = Tables

abbrev pub made_of : OpenedFile → Made
made_of opened = made_from opened.moofs opened.moov.mvex

-- so fragments are gathered
abbrev pub has_tables : Made → Bool
has_tables Offsets = false
has_tables Tracks = false
has_tables Tables = true

-- the types of the boxes that may be others then
abbrev pub changed_by : Made → List ℕ
changed_by Offsets = offsets
changed_by Tracks = of_tracks
changed_by Tables = of_tables

-- the durations that the headers say then
abbrev pub DurationsOf : Made → OpenedFile → Type 0
DurationsOf Offsets opened = ⊤
DurationsOf Tracks opened = IsAsLong opened
DurationsOf Tables opened = HasDurations opened

-- WHAT STAYS

-- the headers as they were, but for their version and their duration
abbrev pub movie_header_like : MvhdBox → MvhdBox → MvhdBox
movie_header_like was is = record was { version = is.version; duration = is.duration }

abbrev pub track_header_like : TkhdBox → TkhdBox → TkhdBox
track_header_like was is = record was { version = is.version; duration = is.duration }

abbrev pub media_header_like : MdhdBox → MdhdBox → MdhdBox
media_header_like was is = record was { version = is.version; duration = is.duration }

-- a chunk begins past 32 bits
pub record HasFarChunk (table : Co64Box) : Type 0 where
  pub offset : ℕ
  pub number : ℕ
  pub there : slice_get table.entries number ≡ Some offset
  pub far : 2 ^ 32 ≤ offset

-- a table of chunk offsets of 64 bits has one past 32, or was such a table before
abbrev pub IsNarrow : StblBox → StblBox → Type 0
IsNarrow was is = IfSome is.co64 (λ table. HasFarChunk table ⊎ IsSome was.co64)

-- an edit as it was, but for how long it lasts (8.6.6)
abbrev pub edit_like : ElstEntry → ElstEntry → ElstEntry
edit_like was is = record was { segment_duration = is.segment_duration }

-- Of these edits, that with a number is as this one says, but for how long it lasts; and as long, unless it is the
-- last.
pub record IsEditAt (was : List ElstEntry) (number : ℕ) (is : ElstEntry) : Type 0 where
  pub edit : ElstEntry
  pub there : slice_get was number ≡ Some edit
  pub like : is ≡ edit_like edit is
  pub same : number + 1 < length was → is ≡ edit

-- The edits of a track are as many as they were, and each is as it was, but for how long the last one lasts.
pub record KeepsEdits (was is : List ElstEntry) : Type 0 where
  pub count : length is ≡ length was
  pub each : (e : ElstEntry) (i : ℕ) → slice_get is i ≡ Some e → IsEditAt was i e

-- a track keeps what its headers say beside durations, and its edits
pub record KeepsTrack (was is : TrakBox) : Type 0 where
  pub track : is.tkhd ≡ track_header_like was.tkhd is.tkhd
  pub media : is.mdia.mdhd ≡ media_header_like was.mdia.mdhd is.mdia.mdhd
  pub narrow : IsNarrow was.mdia.minf.stbl is.mdia.minf.stbl
  pub edits : KeepsEdits (edits_of_box was.edts) (edits_of_box is.edts)

-- A movie keeps what its headers say beside durations, and so does each of its tracks.
pub record KeepsHeaders (opened rewritten : OpenedFile) : Type 0 where
  pub movie : rewritten.moov.mvhd ≡ movie_header_like opened.moov.mvhd rewritten.moov.mvhd
  pub tracks : (t : TrakBox) (i : ℕ) → slice_get rewritten.moov.traks i ≡ Some t → (was : OpenedTrack)
      × ((track_at opened.moov opened.moofs opened.moof_places t.tkhd.track_id ≡ Some was) × KeepsTrack was.trak t)
