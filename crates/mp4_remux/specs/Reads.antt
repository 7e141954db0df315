-- What is read of a file that was opened.
use Rattle.std.specs.Prelude.{◌≡◌, ◌<◌, ◌⊎◌, ℕ, List, Option, Some, None, Result, slice_get}
use Rattle.mp4_codec.specs.Cause.{Cause, cause_of, trak_not_found, ◌>>=◌}
use Rattle.mp4_codec.specs.declared.error.Error.{Error}
use Rattle.mp4_codec.specs.declared.error.Error.TheVariants.{OutOfMemory}
use Rattle.mp4_lookup.specs.Rates.{sample_count_of}
use Rattle.mp4_lookup.specs.Tracks.{answer_at, sample_at}
use Rattle.mp4_samples.specs.declared.sample.Place.{Place}
use Rattle.mp4_samples.specs.Samples.{TimedSample}
use Rattle.mp4_media.specs.FileBoxes.{OpenedFile}
use Rattle.mp4_media.specs.MovieTracks.{OpenedTrack, track_at}
use Rattle.mp4_media.specs.Reading.{track_or}

-- what is read at number k of the track with this id, in a file that was opened so
unfoldable pub read_of : List ℕ → OpenedFile → ℕ → ℕ → Result (Option TimedSample) Cause
read_of file opened id k =
    track_or id (track_at opened.moov opened.moofs opened.moof_places id)
    >>= λ t. sample_at file t.trak t.trafs t.runs k

-- how many samples that track has
unfoldable pub count_of : OpenedFile → ℕ → Result ℕ Cause
count_of opened id =
    track_or id (track_at opened.moov opened.moofs opened.moof_places id) >>= λ t. sample_count_of t.trak t.runs

-- where the sample at that number is
unfoldable pub place_in : OpenedFile → ℕ → ℕ → Result (Option Place) Cause
place_in opened id k =
    track_or id (track_at opened.moov opened.moofs opened.moof_places id) >>= λ t. answer_at t.trak t.trafs t.runs k

-- a file has tracks with all these ids
abbrev pub AreThere : OpenedFile → List ℕ → Type 0
AreThere opened ids = (id i : ℕ) → slice_get ids i ≡ Some id → (track : OpenedTrack)
    × (track_at opened.moov opened.moofs opened.moof_places id ≡ Some track)

-- the id at number i is the first of these that no track of a file has
pub record IsMissing (opened : OpenedFile) (ids : List ℕ) (id i : ℕ) : Type 0 where
  pub there : slice_get ids i ≡ Some id
  pub none : track_at opened.moov opened.moofs opened.moof_places id ≡ None
  pub first : (other j : ℕ) → j < i → slice_get ids j ≡ Some other → (track : OpenedTrack)
      × (track_at opened.moov opened.moofs opened.moof_places other ≡ Some track)

-- an error for the first of these ids that no track has, or for memory
abbrev pub SaysFirst : OpenedFile → List ℕ → Error → Type 0
SaysFirst opened ids e = (e ≡ OutOfMemory)
    ⊎ ((id i : ℕ) × (IsMissing opened ids id i × (trak_not_found id ≡ cause_of e)))
