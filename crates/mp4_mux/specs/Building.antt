-- A track that is being written, and what its fields say of it.
use Rattle.std.specs.Prelude.{◌≡◌, ℕ, ◌+◌, ◌-◌, ◌*◌, ◌/◌, ◌^◌, ◌<◌, ◌≤◌, List, [], ◌∷◌, ◌++◌, length, take, drop, None}
use Rattle.std.specs.Prelude.{Option, Some, nat_le, if◌then◌else◌}
use Rattle.mp4_codec.specs.declared.error.Limit.TheVariants.{SampleBytes, SampleCount, TrackDuration}
use Rattle.mp4_codec.specs.Cause.{Cause, too_large}
use Rattle.std.specs.List.{sum_by, All, AllByRecursion}
use Rattle.mp4_samples.specs.Samples.{Sample}
use Rattle.mp4_mux.specs.declared.config.TrackConfig.{TrackConfig}
use Rattle.mp4_mux.specs.declared.sample_info.SampleInfo.{SampleInfo}
use Rattle.mp4_mux.specs.declared.chunk_place.ChunkPlace.{ChunkPlace}
use Rattle.mp4_mux.specs.declared.durations.Durations.{Durations}
use Rattle.mp4_mux.specs.TrackHeaders.{media_duration, movie_duration}
use Rattle.mp4_mux.specs.Config.{config_cause}
use Rattle.mp4_mux.specs.SampleInfos.{IsInRangeSampleInfo}
use Rattle.mp4_mux.specs.Writing.{info_of}

-- a track that is being written: what its tables say of all its samples, where its chunks lie, and its samples that no
-- chunk has yet
pub record Building : Type 0 where
  pub config : TrackConfig
  pub movie_timescale : ℕ
  pub samples : List SampleInfo
  pub chunks : List ChunkPlace
  pub pending : List Sample

-- the sample of which the tables say this, its bytes first in those
abbrev pub sample_at : SampleInfo → List ℕ → Sample
sample_at i bytes =
    record {
      bytes = take i.size bytes;
      duration = i.duration;
      rendering_offset = i.rendering_offset;
      is_sync = i.is_sync;
    }

-- the samples of which the tables say this, one after the other in the bytes
unfoldable pub samples_in : List SampleInfo → List ℕ → List Sample
samples_in [] bytes = []
samples_in (i ∷ is) bytes = sample_at i bytes ∷ samples_in is (drop i.size bytes)

-- a track without samples
abbrev pub new_building : ℕ → TrackConfig → Building
new_building movie_timescale config =
    record { config = config; movie_timescale = movie_timescale; samples = []; chunks = []; pending = [] }

-- with one more sample, which is pending
abbrev pub pushed : Building → Sample → Building
pushed b s = record b { samples = b.samples ++ info_of s ∷ []; pending = b.pending ++ s ∷ [] }

-- without the last sample, which was pending
abbrev pub popped : Building → Building
popped b =
    record b {
      samples = take (length b.samples - 1) b.samples;
      pending = take (length b.pending - 1) b.pending;
    }

-- the pending samples as a chunk that begins there
abbrev pub pending_place : Building → ℕ → ChunkPlace
pending_place b offset =
    record { first = length b.samples - length b.pending; count = length b.pending; offset = offset }

-- the pending samples are in a chunk that begins there
abbrev pub closed : Building → ℕ → Building
closed b offset = record b { chunks = b.chunks ++ pending_place b offset ∷ []; pending = [] }

-- how much longer a sample makes its track, in ticks of the movie
abbrev pub ticks : Building → ℕ → ℕ
ticks b duration = movie_duration b.movie_timescale b.config.timescale b.samples
    + duration * b.movie_timescale / b.config.timescale

-- what the fields of a track are
pub record TrackFields : Type 0 where
  pub config : TrackConfig
  pub movie_timescale : ℕ
  pub samples : List SampleInfo
  pub chunks : List ChunkPlace
  -- the bytes of the pending samples
  pub bytes : List ℕ
  pub pending_duration : ℕ
  pub durations : Durations
  -- how long the sample that was pushed last is
  pub last : Durations
  -- how many samples are in chunks
  pub closed_count : ℕ

-- the track that fields say
abbrev pub building_of : TrackFields → Building
building_of f =
    record {
      config = f.config;
      movie_timescale = f.movie_timescale;
      samples = f.samples;
      chunks = f.chunks;
      pending = samples_in (drop f.closed_count f.samples) f.bytes;
    }

-- what the fields of a track keep true of one another
pub record IsTrack (f : TrackFields) : Type 0 where
  pub accepted : config_cause f.config ≡ None
  pub clock : 0 < f.config.timescale
  pub within : f.closed_count ≤ length f.samples
  pub sizes : sum_by (λ s. s.size) (drop f.closed_count f.samples) ≡ length f.bytes
  pub pending_sum : sum_by (λ s. s.duration) (drop f.closed_count f.samples) ≡ f.pending_duration
  pub in_range : AllByRecursion IsInRangeSampleInfo f.samples
  pub count : length f.samples < 2 ^ 32
  pub media : f.durations.media ≡ media_duration f.samples
  pub movie : f.durations.movie ≡ movie_duration f.movie_timescale f.config.timescale f.samples
  pub fits : f.durations.movie < 2 ^ 64
  pub converted : f.last.movie ≡ f.last.media * f.movie_timescale / f.config.timescale
  pub few : length f.chunks ≤ f.closed_count
  pub counted : sum_by (λ c. c.count) f.chunks ≡ f.closed_count
  pub some_per_chunk : All (λ c. 1 ≤ c.count) f.chunks

-- why a track has no room for a sample: the sample is too long, or the track has as many as it may, or would last too
-- long in ticks of the movie
unfoldable pub room_cause : Building → Sample → Option Cause
room_cause b s =
    if nat_le (2 ^ 32) (length s.bytes) then Some (too_large SampleBytes) else
    if nat_le (2 ^ 32 - 1) (length b.samples) then Some (too_large SampleCount) else
    if nat_le (2 ^ 64) (ticks b s.duration) then Some (too_large TrackDuration) else
    None
