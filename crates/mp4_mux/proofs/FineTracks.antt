-- The tracks of which a movie is written.
use Rattle.std.specs.Prelude.{◌≡◌, ℕ, ◌^◌, ◌≤◌, ◌<◌, length, None}
use Rattle.std.specs.List.{sum_by, All}
use Rattle.mp4_mux.specs.Config.{config_cause, IsInRangeTrackConfig}
use Rattle.mp4_mux.specs.SampleInfos.{IsInRangeSampleInfo}
use Rattle.mp4_mux.specs.TrackHeaders.{FinishedTrack, PlacedChunk, track_duration}

-- A track that can be written in a movie of this timescale: its configuration is not refused, its numbers are within
-- their types, and its chunks have all of its samples, each at least one.
pub record IsFineTrack (movie_timescale : ℕ) (t : FinishedTrack) : Type 0 where
  pub id_counts_from_1 : 1 ≤ t.id
  pub id : t.id < 2 ^ 32
  pub config : IsInRangeTrackConfig t.config
  pub accepted : config_cause t.config ≡ None
  pub samples : All IsInRangeSampleInfo t.samples
  pub few_samples : length t.samples < 2 ^ 32
  pub all_in_chunks : sum_by (λ (c : PlacedChunk). c.count) t.chunks ≡ length t.samples
  pub some_per_chunk : All (λ (c : PlacedChunk). 1 ≤ c.count) t.chunks
  pub offsets : All (λ (c : PlacedChunk). c.offset < 2 ^ 64) t.chunks
  pub duration : track_duration movie_timescale t < 2 ^ 64
