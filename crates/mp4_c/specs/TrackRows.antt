-- The tracks of an opened movie, a row each.
use Rattle.std.specs.Prelude.{◌≡◌, ◌⊎◌, ◌<◌, ℕ, List, length, drop, min, Some, IsSome, slice_index, slice_index_or}
use Rattle.std.specs.HashMap.{HashMap, keys}
use Rattle.std.specs.List.Sorted.{IsPermutation, IsStrictlyIncreasing}
use Rattle.mp4_codec.specs.Cause.{out_of_memory}
use Rattle.mp4_lookup.specs.declared.track.Mp4Track.{Mp4Track}
use Rattle.mp4_media.specs.declared.reader.Mp4Reader.{Mp4Reader}
use Rattle.mp4_media.specs.MovieTracks.{at_id}
use Rattle.mp4_c.specs.declared.answer.Answer.{Answer}
use Rattle.mp4_c.specs.declared.tracks.TrackInfo.{TrackInfo}
use Rattle.mp4_c.specs.Answers.{done}
use Rattle.mp4_c.specs.Replies.{Gave, refusal}
use Rattle.mp4_c.specs.Tracks.{Describes}

module _ {S : Type 0} where
  -- there is a track with this id
  abbrev pub IsIdOf : HashMap ℕ Mp4Track S → ℕ → Type 0
  IsIdOf tracks id = IsSome (at_id tracks id)

  -- these are the ids of all tracks, rising
  pub record AreIdsOf (tracks : HashMap ℕ Mp4Track S) (ids : List ℕ) : Type 0 where
    pub all : IsPermutation (keys tracks) ids
    pub rising : IsStrictlyIncreasing ids

  -- a row describes the track with this id
  abbrev pub IsRowOf : HashMap ℕ Mp4Track S → ℕ → TrackInfo → Type 0
  IsRowOf tracks id row = (t : Mp4Track) × (at_id tracks id ≡ Some t) × (Describes id t row)

  -- the tracks with these ids are in the rows, as far as there is room, and the rows after them are as they were
  pub record HasRows (tracks : HashMap ℕ Mp4Track S) (ids : List ℕ) (old new : List TrackInfo) : Type 0 where
    pub rows : (d : TrackInfo) (k : ℕ) → k < min (length old) (length ids)
        → IsRowOf tracks (slice_index ids k) (slice_index_or new k d)
    pub rest : drop (length ids) new ≡ drop (length ids) old

-- a call has filled in the tracks of an opened file by rising ids, or it was out of memory and has left the rows
abbrev pub GaveTracks : Mp4Reader → List TrackInfo → List TrackInfo → Answer → Type 0
GaveTracks m old new answer =
    ((ids : List ℕ) × (AreIdsOf m.movie.tracks ids)
    × (answer ≡ done (length ids) (min (length old) (length ids))) × (HasRows m.movie.tracks ids old new))
    ⊎ (Gave (refusal out_of_memory old) new answer)
