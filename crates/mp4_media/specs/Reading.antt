-- What an opened movie answers of its metadata and of its samples (ISO/IEC 14496-12, 8.3.2, 8.6, 8.7 and 8.11).
use Rattle.std.specs.Prelude.{◌≡◌, ◌⊎◌, ◌<◌, ℕ, ◌+◌, List, length, Option, Some, None, option_map, Result, Ok, Err}
use Rattle.std.specs.Prelude.{nat_lt, if◌then◌else◌}
use Rattle.std.specs.HashMap.{HashMap}
use Rattle.mp4_codec.specs.Cause.{Cause, cause_of, end_of_data, trak_not_found, ◌>>=◌}
use Rattle.mp4_codec.specs.declared.error.Error.TheVariants.{OutOfMemory}
use Rattle.mp4_source.specs.declared.file_error.FileError.{FileError}
use Rattle.mp4_source.specs.declared.file_error.FileError.TheVariants.{Mp4, Io}
use Rattle.mp4_meta.specs.declared.ilst.IlstBox.{IlstBox}
use Rattle.mp4_meta.specs.declared.meta.MetaBox.{MetaBox}
use Rattle.mp4_meta.specs.declared.meta.MetaBox.TheVariants.{Mdir, Unknown}
use Rattle.mp4_meta.specs.declared.udta.UdtaBox.{UdtaBox}
use Rattle.mp4_boxes.specs.declared.moov.MoovBox.{MoovBox}
use Rattle.mp4_lookup.specs.declared.track.Mp4Track.{Mp4Track}
use Rattle.mp4_samples.specs.declared.sample.Place.{Place}
use Rattle.mp4_lookup.specs.Rates.{sample_count_of}
use Rattle.mp4_samples.specs.Samples.{TimedSample, timed_sample}
use Rattle.mp4_samples.specs.declared.sample.Mp4Sample.{Mp4Sample}
use Rattle.mp4_samples.specs.declared.sample.SamplePlace.{SamplePlace}
use Rattle.mp4_lookup.specs.Tracks.{sample_at, answer_at}
use Rattle.mp4_lookup.specs.TrackRuns.{track_runs}
use Rattle.mp4_media.specs.MovieTracks.{at_id}

abbrev pub ilst_of_meta : Option MetaBox → Option IlstBox
ilst_of_meta None = None
ilst_of_meta (Some (Mdir ilst)) = ilst
ilst_of_meta (Some (Unknown hdlr children)) = None

abbrev pub ilst_of_udta : Option UdtaBox → Option IlstBox
ilst_of_udta None = None
ilst_of_udta (Some udta) = ilst_of_meta udta.meta

-- the items of a movie: those of the metadata in its user data, where the handler is `mdir`
abbrev pub ilst_of_movie : MoovBox → Option IlstBox
ilst_of_movie moov = ilst_of_udta moov.udta

-- there is a sample
abbrev pub IsSample : Result (Option TimedSample) Cause → Type 0
IsSample answer = (s : TimedSample) × (answer ≡ Ok (Some s))

-- a sample was found that lies there
abbrev pub LiesAt : Result (Option Place) Cause → ℕ → Type 0
LiesAt answer offset = (p : Place) × (answer ≡ Ok (Some p)) × (p.offset ≡ offset)

-- there is a place
abbrev pub IsPlaced : Result (Option Place) Cause → Type 0
IsPlaced answer = (p : Place) × (answer ≡ Ok (Some p))

-- there is a place, of more bytes than so many
abbrev pub IsPlacedPast : ℕ → Result (Option Place) Cause → Type 0
IsPlacedPast room answer = (p : Place) × (answer ≡ Ok (Some p)) × (room < p.size)

-- the place that a lookup found, in a file of so many bytes: one of a sample that doesn't lie whole in it is refused
abbrev pub within : ℕ → Option Place → Result (Option Place) Cause
within len None = Ok None
within len (Some p) = if nat_lt len (p.offset + p.size) then Err end_of_data else Ok (Some p)

-- the sample of a place, where these are its bytes
abbrev pub sample_with : List ℕ → Place → TimedSample
sample_with bytes p = record {
  start_time = p.start_time;
  sample = record {
    bytes = bytes;
    duration = p.duration;
    rendering_offset = p.rendering_offset;
    is_sync = p.is_sync;
  };
}

-- the same of a place that was found by a lookup
abbrev pub sample_there : List ℕ → SamplePlace → TimedSample
sample_there bytes p = record {
  start_time = p.start_time;
  sample = record {
    bytes = bytes;
    duration = p.duration;
    rendering_offset = p.rendering_offset;
    is_sync = p.is_sync;
  };
}

-- the place of a sample that begins there
abbrev pub placed_at : ℕ → TimedSample → Place
placed_at offset s = record {
  offset = offset;
  size = length s.sample.bytes;
  start_time = s.start_time;
  duration = s.sample.duration;
  rendering_offset = s.sample.rendering_offset;
  is_sync = s.sample.is_sync;
}

-- What a call answers that reads the bytes at a place, whatever they are: this place, or its refusal; or memory ran
-- out; or the source refused to read them, and then there is a place.
abbrev pub AnswersPlaced : {X : Type 0} → (X → Option Place) → Result X FileError → Result (Option Place) Cause → Type 0
AnswersPlaced view (Ok x) placed = placed ≡ Ok (view x)
AnswersPlaced view (Err (Mp4 e)) placed = (e ≡ OutOfMemory) ⊎ (placed ≡ Err (cause_of e))
AnswersPlaced view (Err (Io e)) placed = IsPlaced placed

-- the same of a call that answers the sample there
abbrev pub AnswersSample : Result (Option Mp4Sample) FileError → Result (Option Place) Cause → Type 0
AnswersSample result placed =
    (offset : ℕ)
    × AnswersPlaced (λ (s : Option Mp4Sample). option_map (λ s. placed_at offset (timed_sample s)) s) result placed

-- a track, which has to be there
abbrev pub track_or : {T : Type 0} → ℕ → Option T → Result T Cause
track_or id None = Err (trak_not_found id)
track_or id (Some t) = Ok t

module _ {S : Type 0} where
  -- the track with this id, which has to be there
  abbrev pub needed_track : HashMap ℕ Mp4Track S → ℕ → Result Mp4Track Cause
  needed_track tracks id = track_or id (at_id tracks id)

  -- where number k of the track with this id lies
  unfoldable pub located_in : HashMap ℕ Mp4Track S → ℕ → ℕ → Result (Option Place) Cause
  located_in tracks id k = needed_track tracks id >>= λ t. answer_at t.trak t.trafs (track_runs t) k

  -- the same in a file of so many bytes, where the sample has to lie whole in it
  abbrev pub placed_in : ℕ → HashMap ℕ Mp4Track S → ℕ → ℕ → Result (Option Place) Cause
  placed_in len tracks id k = located_in tracks id k >>= within len

  -- what is read at number k of the track with this id
  unfoldable pub sample_in : List ℕ → HashMap ℕ Mp4Track S → ℕ → ℕ → Result (Option TimedSample) Cause
  sample_in file tracks id k = needed_track tracks id >>= λ t. sample_at file t.trak t.trafs (track_runs t) k

  -- how many samples the track with this id has
  unfoldable pub sample_count_in : HashMap ℕ Mp4Track S → ℕ → Result ℕ Cause
  sample_count_in tracks id = needed_track tracks id >>= λ t. sample_count_of t.trak (track_runs t)
