-- The data of a movie while it is written: its bytes, its tracks, and the order of their chunks.
use Rattle.std.specs.Prelude.{◌≡◌, ℕ, ◌+◌, List, [], ◌∷◌, ◌++◌, length, take, drop, slice_set, slice_index_or}
use Rattle.std.specs.Prelude.{if◌then◌else◌, Bool, IsTrue, Option, IfSome}
use Rattle.mp4_source.specs.declared.sink_error.SinkError.{SinkError}
use Rattle.mp4_source.specs.declared.sink_error.SinkError.TheVariants.{OutOfMemory, Io}
use Rattle.mp4_mux.specs.declared.sample_info.SampleInfo.{SampleInfo}
use Rattle.mp4_mux.specs.declared.chunk_place.ChunkPlace.{ChunkPlace}
use Rattle.mp4_mux.specs.declared.chunk_place.ChunkRef.{ChunkRef}
use Rattle.mp4_samples.specs.Samples.{Sample}
use Rattle.mp4_mux.specs.Chunks.{TrackState, Chunk, sample_bytes, is_full}
use Rattle.mp4_mux.specs.Writing.{no_track}
use Rattle.mp4_mux.specs.Building.{Building, new_building, pushed, closed, samples_in}

-- the bytes, the tracks, and all chunks in the order in which they were written
pub record Media : Type 0 where
  pub buffer : List ℕ
  pub tracks : List Building
  pub written : List ChunkRef

-- what is known of these data in a sink, whose bytes may not be
pub record KeptMedia : Type 0 where
  -- the bytes of the sink, where they are known
  pub contents : Option (List ℕ)
  -- how many bytes it has
  pub len : ℕ
  -- how many of them wait to be handed on
  pub waiting : ℕ
  -- whether it may refuse for another reason than memory
  pub can_refuse : Bool
  pub tracks : List Building
  pub written : List ChunkRef

-- the data may be these: as many bytes as the sink has, and where its bytes are known, these; the tracks and the chunks
pub record MayBe (kept : KeptMedia) (media : Media) : Type 0 where
  pub len : kept.len ≡ length media.buffer
  pub contents : IfSome kept.contents (λ bytes. bytes ≡ media.buffer)
  pub tracks : kept.tracks ≡ media.tracks
  pub written : kept.written ≡ media.written

-- whatever the data may be before, after it they may be what this makes of them
abbrev pub Becomes : KeptMedia → KeptMedia → (Media → Media) → Type 0
Becomes before after next = (media : Media) → MayBe before media → MayBe after (next media)

-- where memory was refused, all is as it was; else the sink refused, which it can, and what it has isn't known
abbrev pub MediaFails : SinkError → KeptMedia → KeptMedia → Type 0
MediaFails OutOfMemory before after = after ≡ before
MediaFails (Io e) before after = IsTrue before.can_refuse

-- the same of a sink alone, of which this is known before and after
abbrev pub SinkFails : SinkError → Bool → Option (List ℕ) → Option (List ℕ) → ℕ → ℕ → Type 0
SinkFails OutOfMemory can_refuse before after len_before len_after = (after ≡ before) × (len_after ≡ len_before)
SinkFails (Io e) can_refuse before after len_before len_after = IsTrue can_refuse

-- a track that isn't there
abbrev pub no_building : Building
no_building = new_building 0 no_track.config

abbrev pub building_at : List Building → ℕ → Building
building_at bs t = slice_index_or bs t no_building

abbrev pub no_place : ChunkPlace
no_place = record { first = 0; count = 0; offset = 0 }

-- where a chunk lies
abbrev pub place_in : List Building → ChunkRef → ChunkPlace
place_in bs r = slice_index_or (building_at bs r.track).chunks r.index no_place

-- what the tables say of its samples
abbrev pub infos_in : List Building → ChunkRef → List SampleInfo
infos_in bs r = take (place_in bs r).count (drop (place_in bs r).first (building_at bs r.track).samples)

-- the chunk that lies there, with the id of its track
abbrev pub chunk_in : List Building → List ℕ → ChunkRef → Chunk
chunk_in bs buffer r =
    record { track_id = r.track + 1; samples = samples_in (infos_in bs r) (drop (place_in bs r).offset buffer) }

-- a track that is written, as others see it
abbrev pub track_of : Building → TrackState
track_of b = record { config = b.config; pending = b.pending }

-- one more track, after the others
abbrev pub media_with_track : Media → Building → Media
media_with_track m b = record m { tracks = m.tracks ++ b ∷ [] }

-- the same of what is known of data in a sink
abbrev pub kept_with_track : KeptMedia → Building → KeptMedia
kept_with_track m b = record m { tracks = m.tracks ++ b ∷ [] }

-- the pending samples of a track, which is this one now, are in a chunk after the others, and nothing is pending of
-- it
abbrev pub media_with_chunk : Media → ℕ → Building → Media
media_with_chunk m t b = record {
  buffer = m.buffer ++ sample_bytes b.pending;
  tracks = slice_set m.tracks t (closed b (length m.buffer));
  written = m.written ++ record { track = t; index = length b.chunks } ∷ [];
}

-- one more sample of a track
unfoldable pub media_with : Media → ℕ → Sample → Media
media_with m t s =
    let b = pushed (building_at m.tracks t) s in
    if is_full b.config.timescale b.pending then media_with_chunk m t b
    else record m { tracks = slice_set m.tracks t b }
