-- What holds of each writer that was made by calls.
use Rattle.std.specs.Prelude.{◌≡◌, ℕ, ◌^◌, ◌<◌, ◌≤◌, List, length, map, None}
use Rattle.std.specs.List.{AllByRecursion}
use Rattle.mp4_samples.specs.Samples.{Sample}
use Rattle.mp4_mux.specs.SampleInfos.{IsInRangeSampleInfo}
use Rattle.mp4_mux.specs.declared.config.TrackConfig.{TrackConfig}
use Rattle.mp4_mux.specs.Config.{config_cause, IsInRangeTrackConfig}
use Rattle.mp4_mux.specs.TrackHeaders.{movie_duration}
use Rattle.mp4_mux.specs.Chunks.{Chunk}
use Rattle.mp4_mux.specs.Writing.{WriterState, info_of, track_at, accepted_of}

-- a track has this id
pub record IsIdOf (st : WriterState) (id : ℕ) : Type 0 where
  pub first : 1 ≤ id
  pub last : id ≤ length st.tracks

-- A track with these samples is accepted: its configuration is, no number passes its type, and neither does how long it
-- is in ticks of the movie.
pub record IsFine (movie_timescale : ℕ) (config : TrackConfig) (ss : List Sample) : Type 0 where
  pub config_is : config_cause config ≡ None
  pub config_fits : IsInRangeTrackConfig config
  pub count : length ss < 2 ^ 32
  pub samples : AllByRecursion (λ s. IsInRangeSampleInfo (info_of s)) ss
  pub duration : movie_duration movie_timescale config.timescale (map info_of ss) < 2 ^ 64

-- a chunk is of a track that is there, and has a sample
pub record IsKnownChunk (st : WriterState) (c : Chunk) : Type 0 where
  pub track : IsIdOf st c.track_id
  pub some : 0 < length c.samples

pub record IsSound (st : WriterState) : Type 0 where
  pub few : length st.tracks < 2 ^ 32
  pub known : AllByRecursion (IsKnownChunk st) st.chunks
  pub fine : (id : ℕ) → IsIdOf st id → IsFine st.config.timescale (track_at st id).config (accepted_of st id)
