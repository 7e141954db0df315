-- The samples of a track in their order, as they are read in a file.
use Rattle.std.specs.Prelude.{ℕ, ◌+◌, ◌-◌, ◌^◌, List, [], ◌∷◌, length, Result, Ok, Err, nat_lt}
use Rattle.std.specs.Prelude.{if◌then◌else◌}
use Rattle.std.specs.HashMap.{HashMap}
use Rattle.mp4_codec.specs.declared.error.Error.{Error}
use Rattle.mp4_codec.specs.Cause.{Cause, cause_of, end_of_data, ◌>>=◌}
use Rattle.mp4_lookup.specs.declared.track.Mp4Track.{Mp4Track}
use Rattle.mp4_lookup.specs.InOrder.{answers_from, samples_left}
use Rattle.mp4_samples.specs.declared.sample.Place.{Place}
use Rattle.mp4_samples.specs.declared.sample.SampleRef.{SampleRef}
use Rattle.mp4_samples.specs.Samples.{TimedSample, borrowed_sample, read_at}
use Rattle.mp4_media.specs.declared.sample_refs.SampleRefs.{SampleRefs}
use Rattle.mp4_media.specs.Reading.{needed_track}

-- a sample that was read, and the place of its first byte in the file
abbrev pub ReadSample : Type 0
ReadSample = ℕ × TimedSample

-- what is read where samples were looked up, in their order: up to the first that is refused
unfoldable pub read_all : List ℕ → List (Result Place Cause) → List (Result ReadSample Cause)
read_all file [] = []
read_all file (Err c ∷ answers) = Err c ∷ []
read_all file (Ok p ∷ answers) =
    if nat_lt (length file) (p.offset + p.size) then Err end_of_data ∷ [] else
    Ok (p.offset, read_at file p) ∷ read_all file answers

-- the samples that are still read
abbrev pub refs_left : SampleRefs → List (Result ReadSample Cause)
refs_left r = if r.has_ended then [] else read_all r.bytes.now (samples_left r.samples)

-- a sample that was read, by its cause where it is refused
abbrev pub ref_answer : Result SampleRef Error → Result ReadSample Cause
ref_answer (Ok s) = Ok (s.offset, borrowed_sample s)
ref_answer (Err e) = Err (cause_of e)

module _ {S : Type 0} where
  -- all that is read of the track with this id, in order
  unfoldable pub samples_in : List ℕ → HashMap ℕ Mp4Track S → ℕ → Result (List (Result ReadSample Cause)) Cause
  samples_in file tracks id = needed_track tracks id >>= λ t. Ok (read_all file (answers_from (2 ^ 32 - 1) t 1))
