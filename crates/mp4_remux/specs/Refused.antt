-- Why a movie that was made of another isn't written: what is wrong in the file that it would be, or in the other
-- (ISO/IEC 14496-12, 8.3.2, 8.4.2, 8.6 and 8.7).
use Rattle.std.specs.Prelude.{◌≡◌, ◌≤◌, ◌⊎◌, ⊤, ℕ, List, [], length, Option, IfSome, Some, Ok, Err, slice_get}
use Rattle.mp4_codec.specs.Cause.{Cause, cause_of}
use Rattle.mp4_codec.specs.Cursor.{here}
use Rattle.mp4_codec.specs.declared.error.Error.{Error}
use Rattle.mp4_codec.specs.declared.error.Error.TheVariants.{OutOfMemory}
use Rattle.mp4_boxes.specs.declared.trak.TrakBox.{TrakBox}
use Rattle.mp4_samples.specs.declared.sample.Place.{Place}
use Rattle.mp4_media.specs.FileBoxes.{OpenedFile}
use Rattle.mp4_media.specs.FileGrammar.{IsFaultyFile}
use Rattle.mp4_remux.specs.Errors.{of_layout}
use Rattle.mp4_remux.specs.Headers.{DurationsOf, IsShownUntil, KeepsHeaders}
use Rattle.mp4_remux.specs.Named.{OpensTo}
use Rattle.mp4_remux.specs.Reads.{count_of, place_in}
use Rattle.mp4_remux.specs.Remuxed.{ids_of}
use Rattle.mp4_remux.specs.Same.{IsSameAt}
use Rattle.mp4_remux.specs.Splice.{spliced}
use Rattle.mp4_remux.specs.declared.layout_error.LayoutError.{LayoutError}
use Rattle.mp4_remux.specs.declared.made.Made.{Made}
use Rattle.mp4_remux.specs.declared.made.Made.TheVariants.{Tables}
use Rattle.mp4_remux.specs.declared.piece.Piece.{Piece}
use Rattle.mp4_remux.specs.declared.error.RemuxError.{RemuxError}
use Rattle.mp4_remux.specs.declared.error.RemuxError.TheVariants.{Mp4, Read, Write, Twice, SaysPlaces}
use Rattle.mp4_remux.specs.declared.error.RemuxError.TheVariants.{TooManySamples, OtherTracks, Differs}
use Rattle.mp4_remux.specs.declared.error.RemuxError.TheVariants.{SaysOfSamples, StartsElsewhere, SameIds}

-- WHAT ISN'T READ

-- of one of these tracks it isn't said how many samples it has, or where one of them is, for this cause
pub record IsUnreadable (movie : OpenedFile) (ids : List ℕ) (c : Cause) : Type 0 where
  pub id : ℕ
  pub number : ℕ
  pub is : slice_get ids number ≡ Some id
  pub refused : (count_of movie id ≡ Err c) ⊎ ((k : ℕ) × ((1 ≤ k) × (place_in movie id k ≡ Err c)))

-- what one of these tracks has at number k in the splice isn't what it has there in the file
pub record IsOtherSample (ids : List ℕ) (pieces : List Piece) (source_len len : ℕ) (opened rewritten : OpenedFile)
    (id k : ℕ) : Type 0
  where
    pub number : ℕ
    pub is : slice_get ids number ≡ Some id
    pub before : Option Place
    pub after : Option Place
    pub had : place_in opened id k ≡ Ok before
    pub has : place_in rewritten id k ≡ Ok after
    pub differ : IsSameAt pieces source_len len before after → ⊥

-- WHAT A MOVIE KEEPS

-- a track has as many samples as it had, and where tables were made, its media last until all of them have been shown
abbrev pub KeepsSamples : Made → OpenedFile → OpenedFile → TrakBox → Type 0
KeepsSamples what opened rewritten t = (count_of rewritten t.tkhd.track_id ≡ count_of opened t.tkhd.track_id)
    × (what ≡ Tables → IsShownUntil rewritten t.tkhd.track_id t.mdia.mdhd.duration)

-- A movie that was made of another has these tracks of it and no fragments, each of them as many samples as it had, and
-- its headers say what they did and how long it and its tracks are.
pub record KeepsMovie (what : Made) (opened rewritten : OpenedFile) (ids : List ℕ) : Type 0 where
  pub tracks : ids_of rewritten.moov ≡ ids
  pub unfragmented : rewritten.moofs ≡ []
  pub counted : (id i : ℕ) → slice_get ids i ≡ Some id → count_of rewritten id ≡ count_of opened id
  pub headers : KeepsHeaders opened rewritten
  pub durations : DurationsOf what rewritten

-- WHY

-- What a refusal says of what isn't read, of the tracks, and of a sample. Of other refusals nothing is said here.
abbrev pub SaysWhy : (Error → Type 0) → Type 0 → (ℕ → ℕ → Type 0) → RemuxError → Type 0
SaysWhy IsUnread AreOther IsOther (Mp4 e) = IsUnread e
SaysWhy IsUnread AreOther IsOther (Read e) = ⊤
SaysWhy IsUnread AreOther IsOther (Write e) = ⊤
SaysWhy IsUnread AreOther IsOther (Twice name) = ⊤
SaysWhy IsUnread AreOther IsOther (SaysPlaces name place) = ⊤
SaysWhy IsUnread AreOther IsOther (TooManySamples track) = ⊤
SaysWhy IsUnread AreOther IsOther (SaysOfSamples name place) = ⊤
SaysWhy IsUnread AreOther IsOther (StartsElsewhere track number) = ⊤
SaysWhy IsUnread AreOther IsOther SameIds = ⊤
SaysWhy IsUnread AreOther IsOther OtherTracks = AreOther
SaysWhy IsUnread AreOther IsOther (Differs track number) = IsOther track number

-- a refusal says that a sample is another only where this is so
abbrev pub SaysDiffers : (ℕ → ℕ → Type 0) → RemuxError → Type 0
SaysDiffers IsOther = SaysWhy (λ e. ⊤) ⊤ IsOther

-- why no layout is made says of no sample that it is another
abbrev pub SaysNoneDiffers : LayoutError → Type 0
SaysNoneDiffers e = SaysDiffers (λ id k. ⊥) (of_layout e)

-- one of these tracks isn't read, of the file or of the splice
abbrev pub IsUnreadOf : List ℕ → OpenedFile → OpenedFile → Error → Type 0
IsUnreadOf ids opened rewritten e = IsUnreadable opened ids (cause_of e) ⊎ IsUnreadable rewritten ids (cause_of e)

-- why a movie that was opened from a splice isn't the one that was opened from the file, with these tracks: one of them
-- isn't read, the tracks are others, or a sample is
abbrev pub IsWhyOther : Type 0 → List ℕ → List Piece → ℕ → ℕ → OpenedFile → OpenedFile → RemuxError → Type 0
IsWhyOther AreOther ids pieces source_len len opened rewritten =
    SaysWhy (IsUnreadOf ids opened rewritten) AreOther (IsOtherSample ids pieces source_len len opened rewritten)

-- why a file of so many bytes isn't opened, where they are known: memory ran out, or it has this fault
abbrev pub IsWhyClosed : ℕ → Option (List ℕ) → RemuxError → Type 0
IsWhyClosed len known =
    SaysWhy (λ e. (e ≡ OutOfMemory) ⊎ IfSome known (λ xs. IsFaultyFile len (here xs 0) (cause_of e))) ⊥ (λ id k. ⊥)

-- why this splice isn't written: memory ran out, or it has this fault, or a track isn't read, of it or of the file; it
-- doesn't keep the movie; or this sample of it isn't that of the file
abbrev pub IsWhyNot : Made → List ℕ → List Piece → OpenedFile → ℕ → List ℕ → RemuxError → Type 0
IsWhyNot what ids pieces opened source_len after =
    SaysWhy
    (λ e. (e ≡ OutOfMemory) ⊎ (IsFaultyFile (length after) (here after 0) (cause_of e)
    ⊎ OpensTo (λ rewritten. IsUnreadOf ids opened rewritten e) after))
    (OpensTo (λ rewritten. KeepsMovie what opened rewritten ids → ⊥) after)
    (λ id k. OpensTo (λ rewritten. IsOtherSample ids pieces source_len (length after) opened rewritten id k) after)

-- why a file that was made of another, of these pieces of it and of bytes that were made, isn't written
abbrev pub IsWhyMade : Made → List ℕ → List ℕ → List ℕ → List Piece → OpenedFile → RemuxError → Type 0
IsWhyMade what ids before made pieces opened =
    IsWhyNot what ids pieces opened (length before) (spliced before made pieces)
