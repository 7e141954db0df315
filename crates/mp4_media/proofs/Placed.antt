-- A sample that is read at its place.
use Rattle.std.proofs.Common.{◌≡◌, ℕ, ◌+◌, Bool, true, false, nat_lt, List, length, Option, Some, None}
use Rattle.std.proofs.Common.{Result, Ok, Err, refl}
use Rattle.std.specs.Prelude.{option_map, if◌then◌else◌}
use Rattle.std.specs.HashMap.{HashMap}
use Rattle.mp4_codec.specs.Cause.{Cause, end_of_data, ◌>>=◌}
use Rattle.mp4_lookup.specs.declared.track.Mp4Track.{Mp4Track}
use Rattle.mp4_lookup.specs.TrackRuns.{track_runs}
use Rattle.mp4_lookup.specs.Tracks.{sample_at, answer_at}
use Rattle.mp4_samples.specs.declared.sample.Place.{Place}
use Rattle.mp4_samples.specs.Samples.{TimedSample, read_at, read_in}
use Rattle.mp4_media.specs.Reading.{needed_track, located_in, sample_in, within}

-- what is read where a place is within the file
abbrev read_there : List ℕ → Option Place → Result (Option TimedSample) Cause
read_there bytes p = Ok (option_map (read_at bytes) p)

read_within : (bytes : List ℕ) (p : Option Place)
    → read_in bytes p ≡ (within (length bytes) p >>= read_there bytes)
read_within bytes None = refl
read_within bytes (Some p) = by (nat_lt (length bytes) (p.offset + p.size))
  where
    by : (b : Bool)
        → (if b then Err end_of_data else Ok (Some (read_at bytes p)))
        ≡ ((if b then Err end_of_data else Ok (Some p)) >>= read_there bytes)
    by true = refl
    by false = refl

module _ {S : Type 0} (bytes : List ℕ) (tracks : HashMap ℕ Mp4Track S) (id k : ℕ) where
  pub sample_in-located : sample_in bytes tracks id k
      ≡ ((located_in tracks id k >>= within (length bytes)) >>= read_there bytes)
  unfolding sample_in located_in sample_at
  sample_in-located = by_track (needed_track tracks id)
    where
      by_place : (r : Result (Option Place) Cause)
          → (r >>= read_in bytes) ≡ ((r >>= within (length bytes)) >>= read_there bytes)
      by_place (Ok p) = read_within bytes p
      by_place (Err c) = refl

      by_track : (r : Result Mp4Track Cause)
          → (r >>= λ t. answer_at t.trak t.trafs (track_runs t) k >>= read_in bytes)
          ≡ (((r >>= λ t. answer_at t.trak t.trafs (track_runs t) k) >>= within (length bytes)) >>= read_there bytes)
      by_track (Ok t) = by_place (answer_at t.trak t.trafs (track_runs t) k)
      by_track (Err c) = refl
