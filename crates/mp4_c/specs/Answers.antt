-- What a call answers: how much there is, or why it was refused and what the refusal names.
use Rattle.std.specs.Prelude.{ℕ, List, replicate}
use Rattle.mp4_codec.specs.declared.box_type.BoxType.{BoxType}
use Rattle.mp4_codec.specs.declared.error.Limit.{Limit}
use Rattle.mp4_codec.specs.declared.error.Limit.TheVariants.{SampleBytes, SampleCount, TrackDuration, TrackCount}
use Rattle.mp4_codec.specs.declared.error.Limit.TheVariants.{BoxSize, Value}
use Rattle.mp4_codec.specs.BoxType.{code_of}
use Rattle.mp4_codec.specs.Bytes.{coded}
use Rattle.mp4_codec.specs.Cause.{Cause, end_of_data, out_of_memory, invalid_data, box_not_found, box2_not_found}
use Rattle.mp4_codec.specs.Cause.{trak_not_found, box_in_trak_not_found, box_in_traf_not_found, box_in_stbl_not_found}
use Rattle.mp4_codec.specs.Cause.{entry_in_stbl_not_found, entry_in_trun_not_found, unsupported_version, ended}
use Rattle.mp4_codec.specs.Cause.{zero_timescale, too_large, unrepresentable, cause_of}
use Rattle.mp4_remux.specs.declared.error.RemuxError.{RemuxError}
use Rattle.mp4_remux.specs.declared.error.RemuxError.TheVariants.{Mp4, Read, Write, Twice, SaysPlaces}
use Rattle.mp4_remux.specs.declared.error.RemuxError.TheVariants.{TooManySamples, OtherTracks, Differs}
use Rattle.mp4_remux.specs.declared.error.RemuxError.TheVariants.{SaysOfSamples, StartsElsewhere, SameIds}
use Rattle.mp4_c.specs.declared.answer.Answer.{Answer}

-- an answer with this code that names nothing
abbrev pub plain : ℕ → Answer
plain code = record {
  count = 0;
  filled = 0;
  index = 0;
  code = code;
  part = 0;
  limit = 0;
  track_id = 0;
  number = 0;
  box_type = replicate 4 0;
  second_box_type = replicate 4 0;
  reserved = 0;
}

-- an answer that refuses nothing
abbrev pub done : ℕ → ℕ → Answer
done count filled = record (plain 0) { count = count; filled = filled }

-- the four bytes of a type of box
abbrev pub code_bytes : BoxType → List ℕ
code_bytes t = (coded (code_of t)).value

-- the number of a limit
abbrev pub limit_number : Limit → ℕ
limit_number SampleBytes = 1
limit_number SampleCount = 2
limit_number TrackDuration = 3
limit_number TrackCount = 4
limit_number BoxSize = 5
limit_number Value = 6

-- a refusal that names a box, and a track or an entry
abbrev pub of_box : (code track_id : ℕ) → BoxType → ℕ → Answer
of_box code track_id t number =
    record (plain code) { track_id = track_id; number = number; box_type = code_bytes t }

-- a refusal that names a box, and the byte at which it or the box around it begins
abbrev pub of_place : ℕ → BoxType → ℕ → Answer
of_place code t place = record (plain code) { index = place; box_type = code_bytes t }

-- a refusal that names a sample
abbrev pub of_sample : (code track_id k : ℕ) → Answer
of_sample code track_id k = record (plain code) { track_id = track_id; number = k }

-- the answer of a call that is refused for a cause: the number of the cause, and what it names
abbrev pub refused : Cause → Answer
refused end_of_data = plain 1
refused out_of_memory = plain 2
refused invalid_data = plain 3
refused (box_not_found t) = of_box 4 0 t 0
refused (box2_not_found t u) = record (plain 5) { box_type = code_bytes t; second_box_type = code_bytes u }
refused (trak_not_found id) = record (plain 6) { track_id = id }
refused (box_in_trak_not_found id t) = of_box 7 id t 0
refused (box_in_traf_not_found id t) = of_box 8 id t 0
refused (box_in_stbl_not_found id t) = of_box 9 id t 0
refused (entry_in_stbl_not_found id t k) = of_box 10 id t k
refused (entry_in_trun_not_found id t k) = of_box 11 id t k
refused (unsupported_version t v) = of_box 12 0 t v
refused ended = plain 13
refused zero_timescale = plain 14
refused (too_large l) = record (plain 15) { limit = limit_number l }
refused unrepresentable = plain 16

-- the answer of a call that doesn't rewrite a movie which is in memory: there neither a source nor a sink refuses
abbrev pub not_remuxed : RemuxError → Answer
not_remuxed (Mp4 e) = refused (cause_of e)
not_remuxed (Read e) = refused out_of_memory
not_remuxed (Write e) = refused out_of_memory
not_remuxed (Twice t) = of_box 20 0 t 0
not_remuxed (SaysPlaces t place) = of_place 21 t place
not_remuxed (TooManySamples id) = record (plain 22) { track_id = id }
not_remuxed OtherTracks = plain 23
not_remuxed (Differs id k) = of_sample 24 id k
not_remuxed (SaysOfSamples t place) = of_place 25 t place
not_remuxed (StartsElsewhere id k) = of_sample 26 id k
not_remuxed SameIds = plain 27
