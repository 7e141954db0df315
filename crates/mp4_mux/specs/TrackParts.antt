-- What the box of a track is made from, as a track that is written.
use Rattle.std.specs.Prelude.{◌^◌, ◌<◌, ◌≤◌, List, length, map, Option}
use Rattle.std.specs.List.{sum_by, All}
use Rattle.mp4_mux.specs.declared.sample_info.SampleInfo.{SampleInfo}
use Rattle.mp4_mux.specs.declared.chunk_place.ChunkPlace.{ChunkPlace}
use Rattle.mp4_mux.specs.declared.trak.TrackParts.{TrackParts}
use Rattle.mp4_mux.specs.ChunkLists.{and_last}
use Rattle.mp4_mux.specs.TrackHeaders.{FinishedTrack, placed_of}

-- the tables have room for so many samples and chunks, and no chunk is empty
pub record HaveRoom (ss : List SampleInfo) (cs : List ChunkPlace) : Type 0 where
  pub samples : length ss < 2 ^ 32
  pub chunks : length cs < 2 ^ 32
  pub counts : sum_by (λ (c : ChunkPlace). c.count) cs < 2 ^ 32
  pub some_per_chunk : All (λ (c : ChunkPlace). 1 ≤ c.count) cs

-- the track with these chunks
abbrev pub with_chunks : TrackParts → List ChunkPlace → FinishedTrack
with_chunks p chunks = record {
  id = p.id;
  config = p.config.now;
  samples = p.samples.now;
  chunks = map (placed_of p.id) chunks;
}

-- the track as it is
abbrev pub finished : TrackParts → FinishedTrack
finished p = with_chunks p p.chunks.now

-- the track with one chunk more, where there is one
abbrev pub finished_with : TrackParts → Option ChunkPlace → FinishedTrack
finished_with p last = with_chunks p (and_last p.chunks.now last)
