-- The tracks that are written, and the chunks in which their samples are (ISO/IEC 14496-12, 8.7.4 and 8.7.5).
use Rattle.std.specs.Prelude.{ℕ, ◌+◌, ◌==◌, List, [], ◌∷◌, ◌++◌, length, map, Bool, nat_le, nat_lt, ◌&&◌, if◌then◌else◌}
use Rattle.std.specs.List.{flat_map, sum_by}
use Rattle.mp4_samples.specs.Samples.{Sample}
use Rattle.mp4_mux.specs.declared.config.TrackConfig.{TrackConfig}
use Rattle.mp4_mux.specs.TrackHeaders.{PlacedChunk}

-- a track that is written, and its samples that no chunk has yet
pub record TrackState : Type 0 where
  pub config : TrackConfig
  pub pending : List Sample

-- a chunk: the id of its track, which counts from 1, and its samples
pub record Chunk : Type 0 where
  pub track_id : ℕ
  pub samples : List Sample

-- the bytes of samples, one after the other
abbrev pub sample_bytes : List Sample → List ℕ
sample_bytes ss = flat_map (λ (s : Sample). s.bytes) ss

-- the bytes of chunks, one after the other
abbrev pub chunk_bytes : List Chunk → List ℕ
chunk_bytes cs = flat_map (λ (c : Chunk). sample_bytes c.samples) cs

-- samples last a second at least, and there is a byte: then they are a chunk
unfoldable pub is_full : ℕ → List Sample → Bool
is_full timescale ss = nat_le timescale (sum_by (λ (s : Sample). s.duration) ss) && nat_lt 0 (length (sample_bytes ss))

-- these samples as a chunk, where there are any
abbrev pub chunk_of : ℕ → List Sample → List Chunk
chunk_of id [] = []
chunk_of id (s ∷ ss) = record { track_id = id; samples = s ∷ ss } ∷ []

-- what is pending of each track as a chunk of its own, in the order of the tracks, of which the first has this id
unfoldable pub last_chunks : ℕ → List TrackState → List Chunk
last_chunks id [] = []
last_chunks id (t ∷ ts) = chunk_of id t.pending ++ last_chunks (id + 1) ts

-- the tracks, with nothing pending
abbrev pub none_pending : List TrackState → List TrackState
none_pending ts = map (λ (t : TrackState). record t { pending = [] }) ts

-- the samples of a track that are in these chunks, in order
unfoldable pub samples_of : ℕ → List Chunk → List Sample
samples_of id [] = []
samples_of id (c ∷ cs) = if c.track_id == id then c.samples ++ samples_of id cs else samples_of id cs

-- where chunks lie that are one after the other, from a place on
unfoldable pub placed_from : ℕ → List Chunk → List PlacedChunk
placed_from place [] = []
placed_from place (c ∷ cs) =
    record { track_id = c.track_id; count = length c.samples; offset = place }
    ∷ placed_from (place + length (sample_bytes c.samples)) cs

-- those of a track
unfoldable pub of_track : ℕ → List PlacedChunk → List PlacedChunk
of_track id [] = []
of_track id (c ∷ cs) = if c.track_id == id then c ∷ of_track id cs else of_track id cs
