-- What a writer keeps, and what it holds by that.
use Rattle.std.specs.Prelude.{◌≡◌, ℕ, ◌+◌, ◌-◌, ◌≤◌, ◌<◌, List, [], ◌∷◌, ◌++◌, length, ◌==◌, take, drop, map, Bool}
use Rattle.std.specs.Prelude.{true, false, None, IsTrue, ◌^◌}
use Rattle.std.specs.Prelude.{if◌then◌else◌}
use Rattle.std.specs.List.{flat_map, sum_by, AllByRecursion}
use Rattle.mp4_mux.specs.declared.config.Mp4Config.{Mp4Config}
use Rattle.mp4_mux.specs.declared.chunk_place.ChunkPlace.{ChunkPlace}
use Rattle.mp4_mux.specs.declared.chunk_place.ChunkRef.{ChunkRef}
use Rattle.mp4_mux.specs.Config.{IsInRangeConfig}
use Rattle.mp4_mux.specs.Mdat.{mdat_header_of}
use Rattle.mp4_mux.specs.TrackHeaders.{FinishedTrack, placed_of}
use Rattle.mp4_mux.specs.Writing.{movie_bytes}
use Rattle.mp4_mux.specs.Chunks.{sample_bytes, placed_from, of_track}
use Rattle.mp4_mux.specs.Writing.{WriterState, info_of, accepted_of, with_file_type, before_data, whole_of, with_end}
use Rattle.mp4_mux.specs.Writing.{start_cause}
use Rattle.mp4_mux.specs.Sound.{IsSound}
use Rattle.mp4_mux.specs.Building.{Building, pending_place}
use Rattle.mp4_mux.specs.Media.{Media, KeptMedia, building_at, place_in, infos_in, chunk_in, track_of}
use Rattle.mp4_source.specs.declared.sink_error.SinkError.{SinkError}
use Rattle.mp4_source.specs.declared.sink_error.SinkError.TheVariants.{OutOfMemory, Io}

-- what a writer keeps
pub record Parts : Type 0 where
  -- how many bytes the buffer that was handed in had
  pub front : ℕ
  -- the place of mdat
  pub mdat : ℕ
  pub config : Mp4Config
  pub media : Media
  pub ended : Bool

-- what a writer holds that goes on, or held when its end was written
abbrev pub open_state : Parts → WriterState
open_state p =
    record {
      front = take p.front p.media.buffer;
      config = p.config;
      tracks = map track_of p.media.tracks;
      chunks = map (chunk_in p.media.tracks p.media.buffer) p.media.written;
      ended = false;
    }

-- what a writer holds, read off what it keeps: after the end, what was pending is in chunks
unfoldable pub state_of : Parts → WriterState
state_of p = if p.ended then with_end (open_state p) else open_state p

-- a chunk is there, its samples are in the tables of its track, and their bytes in the buffer, after the header of mdat
pub record IsChunkAt (mdat : ℕ) (m : Media) (r : ChunkRef) : Type 0 where
  pub track : r.track < length m.tracks
  pub index : r.index < length (building_at m.tracks r.track).chunks
  pub samples : (place_in m.tracks r).first + (place_in m.tracks r).count
      ≤ length (building_at m.tracks r.track).samples
  pub start : mdat + 16 ≤ (place_in m.tracks r).offset
  pub bytes : (place_in m.tracks r).offset + sum_by (λ i. i.size) (infos_in m.tracks r) ≤ length m.buffer

-- what is kept agrees with what is held
pub record IsWriting (p : Parts) : Type 0 where
  pub room : p.mdat + 16 ≤ length p.media.buffer
  pub within : p.front ≤ p.mdat
  pub place : p.mdat ≡ length (before_data (open_state p))
  pub whole : p.media.buffer ≡ whole_of (state_of p)
  pub in_range : IsInRangeConfig p.config
  pub begun : start_cause p.config ≡ None
  pub sound : IsSound (open_state p)
  pub chunks : AllByRecursion (IsChunkAt p.mdat p.media) p.media.written
  pub samples : (t : ℕ) → t < length p.media.tracks
      → (building_at p.media.tracks t).samples ≡ map info_of (accepted_of (open_state p) (t + 1))
  pub places : (t : ℕ) → t < length p.media.tracks
      → of_track (t + 1) (placed_from (p.mdat + 16) (open_state p).chunks)
      ≡ map (placed_of (t + 1)) (building_at p.media.tracks t).chunks
  pub clocks : (t : ℕ) → t < length p.media.tracks
      → (building_at p.media.tracks t).movie_timescale ≡ p.config.timescale

-- the bytes of a writer that begins: the buffer handed in, the file type, and the header of an empty mdat
abbrev pub bytes_at_start : List ℕ → Mp4Config → List ℕ
bytes_at_start front config = with_file_type front config ++ mdat_header_of 8

-- what a writer that begins keeps
abbrev pub parts_at_start : List ℕ → Mp4Config → Parts
parts_at_start front config = record {
  front = length front;
  mdat = length (with_file_type front config);
  config = config;
  media = record { buffer = bytes_at_start front config; tracks = []; written = [] };
  ended = false;
}

-- the bytes of what is pending, track after track
unfoldable pub unwritten : List Building → List ℕ
unwritten bs = flat_map (λ (b : Building). sample_bytes b.pending) bs

-- what is pending of a track as a chunk that begins there, where there is any
abbrev pub last_place : ℕ → Building → List ChunkPlace
last_place offset b = if length b.pending == 0 then [] else pending_place b offset ∷ []

-- a track with these chunks
abbrev pub track_with : ℕ → Building → List ChunkPlace → FinishedTrack
track_with id b chunks =
    record { id = id; config = b.config; samples = b.samples; chunks = map (placed_of id) chunks }

-- a track of this id as it is finished; what is pending lies from a place on
abbrev pub finished_building : ℕ → ℕ → Building → FinishedTrack
finished_building id place b = track_with id b (b.chunks ++ last_place place b)

-- the tracks as they are finished, of which the first has this id; what is pending of them lies from a place on
unfoldable pub finished_buildings : ℕ → ℕ → List Building → List FinishedTrack
finished_buildings id place [] = []
finished_buildings id place (b ∷ bs) =
    finished_building id place b ∷ finished_buildings (id + 1) (place + length (sample_bytes b.pending)) bs

-- the bytes at the end: what is pending is after the data, the header of mdat over its first 16 bytes, and the
-- movie follows
abbrev pub bytes_at_end : ℕ → List ℕ → List ℕ → List ℕ → List ℕ
bytes_at_end mdat pending movie buffer =
    (take mdat buffer ++ (mdat_header_of (length buffer - mdat + length pending) ++ drop (mdat + 16) buffer))
    ++ (pending ++ movie)

-- the movie of what a writer keeps, as it will be at the end
abbrev pub movie_at_end : Parts → List ℕ
movie_at_end p = movie_bytes p.config.timescale (finished_buildings 1 (length p.media.buffer) p.media.tracks)

-- the data at the end of a movie of this timescale, whose mdat has its place there
abbrev pub media_at_end : ℕ → ℕ → Media → Media
media_at_end mdat timescale m = record m {
  buffer = bytes_at_end mdat (unwritten m.tracks)
      (movie_bytes timescale (finished_buildings 1 (length m.buffer) m.tracks)) m.buffer;
}

-- Why the end isn't added: where memory was refused, all is as it was; else the sink refused, which it can, or it has
-- 2^63 bytes or more, and the data would pass the last place that 64 bits say.
abbrev pub EndFails : SinkError → KeptMedia → KeptMedia → Type 0
EndFails OutOfMemory before after = after ≡ before
EndFails (Io e) before after = before.len < 2 ^ 63 → IsTrue before.can_refuse

-- what a writer keeps at the end
abbrev pub parts_at_end : Parts → Parts
parts_at_end p = record p { media = media_at_end p.mdat p.config.timescale p.media; ended = true }
