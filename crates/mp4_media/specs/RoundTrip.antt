-- What the library promises above all: what is written is read back, and what is found in any file is what its tables
-- say (ISO/IEC 14496-12, 8.3.2, 8.6 and 8.7).
use Rattle.std.specs.Prelude.{◌≡◌, ℕ, zero, suc, ◌<◌, ◌^◌, List, [], ◌∷◌, length, slice_get, option_map, Option}
use Rattle.std.specs.Prelude.{Some}
use Rattle.std.specs.Prelude.{Result, Ok, Err, IfOk, IfSome, IsSomeAnd, IsTrue, false}
use Rattle.mp4_codec.specs.declared.error.Error.{Error}
use Rattle.mp4_codec.specs.declared.error.Error.TheVariants.{OutOfMemory}
use Rattle.mp4_codec.specs.Cause.{Cause, invalid_data, trak_not_found, Gives, Answers, ◌>>=◌}
use Rattle.mp4_codec.specs.Cursor.{Cursor}
use Rattle.mp4_entry.specs.Config.{media_type_in}
use Rattle.mp4_entry.specs.TrackType.{track_type_of}
use Rattle.mp4_boxes.specs.declared.stbl.StblBox.{StblBox}
use Rattle.mp4_boxes.specs.declared.trak.TrakBox.{TrakBox}
use Rattle.mp4_samples.specs.declared.sample.SamplePlace.{SamplePlace}
use Rattle.mp4_lookup.specs.declared.track.Mp4Track.{Mp4Track}
use Rattle.mp4_lookup.specs.Costs.{AreFew, AreFewForRunSample, AreFewSizeReads, comparisons_of}
use Rattle.mp4_lookup.specs.Kind.{media_type_of}
use Rattle.mp4_samples.specs.Places.{place_of}
use Rattle.mp4_samples.specs.Plain.{Consistent, plain_at}
use Rattle.mp4_samples.specs.Samples.{Sample, TimedSample, timed, timed_sample, plain_sample_at}
use Rattle.mp4_lookup.specs.TrackRuns.{track_runs}
use Rattle.mp4_samples.specs.Tables.{tables_of}
use Rattle.mp4_lookup.specs.Tracks.{is_of_movie}
use Rattle.mp4_mux.specs.declared.config.TrackConfig.{TrackConfig}
use Rattle.mp4_mux.specs.Writing.{AcceptedTrack}
use Rattle.mp4_media.specs.declared.reader.Mp4Reader.{Mp4Reader}
use Rattle.mp4_media.specs.declared.round_trip.FoundSample.{FoundSample}
use Rattle.mp4_media.specs.FileBoxes.{OpenedFile}
use Rattle.mp4_media.specs.FileGrammar.{IsFile}
use Rattle.mp4_media.specs.MovieTracks.{trak_with_id, trafs_in, trafs_of, at_id}
use Rattle.mp4_media.specs.Reading.{track_or, located_in, sample_in, sample_count_in}

-- The first half: what is written is read back.

-- What is answered at number k of a track with these samples, the first of which is decoded at 0, and each next one
-- when the one before it has lasted. Samples are numbered from 1, and past the last there is none; where there are no
-- samples, there are no numbers.
abbrev pub sample_number : List Sample → ℕ → Result (Option TimedSample) Cause
sample_number [] k = Err invalid_data
sample_number (s ∷ ss) zero = Err invalid_data
sample_number (s ∷ ss) (suc k) = Ok (slice_get (timed (s ∷ ss)) k)

-- the accepted track with this id: the first has id 1
abbrev pub accepted_with_id : List AcceptedTrack → ℕ → Result AcceptedTrack Cause
accepted_with_id accepted zero = Err (trak_not_found 0)
accepted_with_id accepted (suc k) = track_or (suc k) (slice_get accepted k)

-- what is read at a number of the track with this id, if exactly these tracks were accepted, and how many samples it
-- has
abbrev pub accepted_sample : List AcceptedTrack → ℕ → ℕ → Result (Option TimedSample) Cause
accepted_sample accepted id k = accepted_with_id accepted id >>= λ t. sample_number t.samples k

abbrev pub accepted_count : List AcceptedTrack → ℕ → Result ℕ Cause
accepted_count accepted id = accepted_with_id accepted id >>= λ t. Ok (length t.samples)

-- what `read_sample` and `sample_count` answer of an opened movie
abbrev pub sample_read : Mp4Reader → ℕ → ℕ → Result (Option TimedSample) Cause
sample_read movie id k = sample_in movie.bytes.now movie.movie.tracks id k

abbrev pub samples_counted : Mp4Reader → ℕ → Result ℕ Cause
samples_counted movie id = sample_count_in movie.movie.tracks id

-- a track is described as it was accepted: the ticks in a second and the language (8.4.2), the kind of track (8.4.3),
-- and how its samples are coded (8.5.2)
pub record IsDescribed (trak : TrakBox) (config : TrackConfig) : Type 0 where
  pub timescale : trak.mdia.mdhd.timescale ≡ config.timescale
  pub language : trak.mdia.mdhd.language ≡ config.language
  pub kind : track_type_of trak.mdia.hdlr.handler_type ≡ Ok config.track_type
  pub coding : media_type_of trak ≡ Ok (media_type_in config.media_conf)

-- an opened movie has exactly these tracks, with exactly these samples: at each id and each number of 32 bits
pub record HasExactly (movie : Mp4Reader) (accepted : List AcceptedTrack) : Type 0 where
  pub tracks : (id : ℕ) (a : AcceptedTrack) → accepted_with_id accepted id ≡ Ok a
      → IsSomeAnd (at_id movie.movie.tracks id) (λ t. IsDescribed t.trak a.config)
  pub samples : (id k : ℕ) → k < 2 ^ 32 → sample_read movie id k ≡ accepted_sample accepted id k
  pub counts : (id : ℕ) → samples_counted movie id ≡ accepted_count accepted id

-- bytes open, or memory ran out; where they open, this holds of the movie
abbrev pub OpensAs : (Mp4Reader → Type 0) → Result Mp4Reader Error → Type 0
OpensAs P (Ok movie) = P movie
OpensAs P (Err e) = e ≡ OutOfMemory

-- The second half: what is found in any file is what its tables say.

-- A track of a file that no fragment names, and whose tables agree with each other: of equal ids it is the last.
pub record IsPlainTrack (opened : OpenedFile) (id : ℕ) (trak : TrakBox) : Type 0 where
  pub is_there : trak_with_id opened.moov.traks id ≡ Some trak
  pub unfragmented : length (trafs_of (trafs_in opened.moofs) id) ≡ 0
  pub consistent : Consistent (tables_of trak)

-- This is the place at number k to which these tables lead when they are written out, and it was found with few
-- comparisons in each of them.
pub record IsPlace (t : StblBox) (k : ℕ) (place : Result (Option SamplePlace) Error) : Type 0 where
  pub answer : Gives (λ p. option_map place_of p) place (plain_at t k)
  pub comparisons : IfOk place (λ p. IfSome p (λ p. AreFew t p.comparisons))
  pub size_reads : IfOk place (λ p. IfSome p (λ p. AreFewSizeReads t p.size_reads))

-- The sample that was looked for is the one to which the tables lead: its place, and what lies there.
pub record IsFoundAt (file : List ℕ) (t : StblBox) (k : ℕ) (found : FoundSample) : Type 0 where
  pub place : IsPlace t k found.place
  pub sample : Answers (λ s. option_map timed_sample s) found.sample (plain_sample_at file t k)

-- What a lookup cost in this track: exactly the comparisons of a search by halves, and so for a sample of the movie box
-- few in each table and few readings of running sizes, for one that a fragment adds few of runs.
pub record IsCheap (t : Mp4Track) (k : ℕ) (place : Result (Option SamplePlace) Error) : Type 0 where
  pub counted : IfOk place (λ p. IfSome p (λ p. p.comparisons ≡ comparisons_of t k))
  pub of_movie : IsTrue (is_of_movie t.trak t.trafs k)
      → IfOk place (λ p. IfSome p (λ p. AreFew (tables_of t.trak) p.comparisons
      × AreFewSizeReads (tables_of t.trak) p.size_reads))
  pub added : is_of_movie t.trak t.trafs k ≡ false
      → IfOk place (λ p. IfSome p (λ p. AreFewForRunSample (track_runs t) p.comparisons × (p.size_reads ≡ 0)))

-- The place at number k of the track with this id, whatever its tables and its fragments say, and what it cost.
pub record IsLocated (movie : Mp4Reader) (id k : ℕ) (place : Result (Option SamplePlace) Error) : Type 0 where
  pub rule : Gives (λ p. option_map place_of p) place (located_in movie.movie.tracks id k)
  pub cost : (t : Mp4Track) → at_id movie.movie.tracks id ≡ Some t → IsCheap t k place

-- memory ran out before the sample was looked for, or it is found
abbrev pub LooksUp : List ℕ → StblBox → ℕ → Result FoundSample Error → Type 0
LooksUp file t k (Ok found) = IsFoundAt file t k found
LooksUp file t k (Err e) = e ≡ OutOfMemory

-- In each file of so many bytes that begins here, at number k of each track of this id that no fragment names and whose
-- tables agree, this is found.
abbrev pub LooksUpInEachFile : ℕ → Cursor → ℕ → ℕ → Result FoundSample Error → Type 0
LooksUpInEachFile size start id k result =
    (opened : OpenedFile) (trak : TrakBox) → IsFile size start opened → IsPlainTrack opened id trak
    → LooksUp start.bytes (tables_of trak) k result
