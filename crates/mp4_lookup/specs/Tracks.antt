-- The samples of a track by their numbers: those of its movie box first, then those that fragments add
-- (ISO/IEC 14496-12, 8.6.1.2, 8.7.3 and 8.8).
use Rattle.std.specs.Prelude.{ℕ, ◌+◌, ◌-◌, Bool, List, length, slice_get, Option, Some, None, Result, Ok, Err, nat_le}
use Rattle.std.specs.Prelude.{◌==◌, ◌||◌, if◌then◌else◌}
use Rattle.mp4_codec.specs.Cause.{Cause, invalid_data, ◌>>=◌}
use Rattle.mp4_table.specs.Runs.{durations}
use Rattle.mp4_table.specs.Starts.{start_of}
use Rattle.mp4_boxes.specs.declared.trak.TrakBox.{TrakBox}
use Rattle.mp4_moof.specs.declared.traf.TrafBox.{TrafBox}
use Rattle.mp4_boxes.specs.Stbl.{sample_count}
use Rattle.mp4_fragments.specs.RunSamples.{PlacedRun, all_run_samples}
use Rattle.mp4_fragments.specs.declared.run_samples.RunSample.{RunSample}
use Rattle.mp4_samples.specs.declared.sample.Place.{Place}
use Rattle.mp4_samples.specs.Samples.{TimedSample, read_in}
use Rattle.mp4_samples.specs.Tables.{tables_of}
use Rattle.mp4_lookup.specs.Rule.{rule}

-- when the samples of the movie box have lasted, as far as stts says it
abbrev pub movie_end : TrakBox → ℕ
movie_end trak = start_of (durations (tables_of trak).stts.entries) (sample_count (tables_of trak) + 1)

-- Number k is one of the movie box's samples. In a track that a fragment names, numbers past its count are not.
abbrev pub is_of_movie : TrakBox → List TrafBox → ℕ → Bool
is_of_movie trak trafs k = (length trafs == 0) || nat_le k (sample_count (tables_of trak))

-- a place or a time that is overflowed is refused
abbrev pub begins_at : Option ℕ → Option ℕ → RunSample → Result (Option Place) Cause
begins_at (Some place) (Some time) m = Ok (Some (record {
  offset = place;
  size = m.size;
  start_time = time;
  duration = m.duration;
  rendering_offset = m.rendering_offset;
  is_sync = m.is_sync;
}))
begins_at None time m = Err invalid_data
begins_at (Some place) None m = Err invalid_data

-- where a sample that a fragment adds lies; past all there is none
abbrev pub run_sample_place : Option RunSample → Result (Option Place) Cause
run_sample_place None = Ok None
run_sample_place (Some m) = begins_at m.at.place m.at.time m

-- What is answered at number k of a track, to which fragments add these runs: the samples of the movie box first, then
-- the samples of the runs.
unfoldable pub answer_at : TrakBox → List TrafBox → List PlacedRun → ℕ → Result (Option Place) Cause
answer_at trak trafs runs k =
    if is_of_movie trak trafs k then rule (tables_of trak) trak.tkhd.track_id k else
    run_sample_place (slice_get (all_run_samples runs) (k - sample_count (tables_of trak) - 1))

-- what is read at number k of a track of a file, to which fragments add these runs
unfoldable pub sample_at : List ℕ → TrakBox → List TrafBox → List PlacedRun → ℕ → Result (Option TimedSample) Cause
sample_at file trak trafs runs k = answer_at trak trafs runs k >>= read_in file
