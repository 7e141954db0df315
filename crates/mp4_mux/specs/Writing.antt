-- What a writer holds, what each call makes of it, and why a call is refused.
use Rattle.std.specs.Prelude.{ℕ, ◌+◌, ◌-◌, ◌*◌, ◌/◌, ◌^◌, ◌==◌, List, [], ◌∷◌, ◌++◌, length, map, Bool, true, false}
use Rattle.std.specs.Prelude.{Option, Some, None, nat_le, nat_lt, if◌then◌else◌, slice_set, slice_index_or}
use Rattle.mp4_codec.specs.declared.box_type.BoxType.TheVariants.{FtypBox as ftyp, MoovBox as moov}
use Rattle.mp4_codec.specs.declared.error.Limit.TheVariants.{SampleBytes, SampleCount, TrackDuration, TrackCount}
use Rattle.mp4_codec.specs.Cause.{Cause, ended, trak_not_found, too_large, ◌or◌}
use Rattle.mp4_codec.specs.Boxes.{box_bytes, size_cause}
use Rattle.mp4_leaf.specs.declared.ftyp.FtypBox.{FtypBox}
use Rattle.mp4_leaf.specs.Ftyp.{ftyp_payload}
use Rattle.mp4_entry.specs.declared.config.MediaConfig.TheVariants.{TtxtConfig as Ttxt}
use Rattle.mp4_entry.specs.declared.track_type.TrackType.TheVariants.{Subtitle}
use Rattle.mp4_boxes.specs.declared.moov.MoovBox.{MoovBox}
use Rattle.mp4_boxes.specs.Moov.{moov_payload}
use Rattle.mp4_samples.specs.declared.sample.SampleRef.{SampleRef}
use Rattle.mp4_samples.specs.Samples.{Sample, borrowed_sample}
use Rattle.mp4_mux.specs.declared.config.Mp4Config.{Mp4Config}
use Rattle.mp4_mux.specs.declared.config.TrackConfig.{TrackConfig}
use Rattle.mp4_mux.specs.declared.sample_info.SampleInfo.{SampleInfo}
use Rattle.mp4_mux.specs.Config.{config_cause}
use Rattle.mp4_mux.specs.Mdat.{mdat_header_of}
use Rattle.mp4_mux.specs.TrackHeaders.{PlacedChunk, FinishedTrack, movie_duration}
use Rattle.mp4_mux.specs.FinishedTrack.{movie_for}
use Rattle.mp4_mux.specs.Chunks.{TrackState, Chunk, chunk_bytes, is_full, last_chunks, none_pending}
use Rattle.mp4_mux.specs.Chunks.{samples_of, placed_from, of_track}

-- what a writer holds
pub record WriterState : Type 0 where
  -- the buffer that was handed in
  pub front : List ℕ
  pub config : Mp4Config
  -- the tracks in the order in which they were added: the first has id 1
  pub tracks : List TrackState
  -- the chunks in the order in which they are in mdat
  pub chunks : List Chunk
  pub ended : Bool

-- the sample that is lent to a writer: when it is decoded, and where it lay, isn't looked at
abbrev pub lent_sample : SampleRef → Sample
lent_sample s = (borrowed_sample s).sample

-- what the tables say of a sample
abbrev pub info_of : Sample → SampleInfo
info_of s =
    record {
      size = length s.bytes;
      duration = s.duration;
      rendering_offset = s.rendering_offset;
      is_sync = s.is_sync;
    }

-- a track that isn't there
abbrev pub no_track : TrackState
no_track = record {
  config = record { track_type = Subtitle; timescale = 0; language = []; media_conf = Ttxt (record {}) };
  pending = [];
}

-- the track of an id
abbrev pub track_at : WriterState → ℕ → TrackState
track_at st id = slice_index_or st.tracks (id - 1) no_track

-- the accepted samples of a track: those in its chunks, in order, and then those that are pending
abbrev pub accepted_of : WriterState → ℕ → List Sample
accepted_of st id = samples_of id st.chunks ++ (track_at st id).pending

-- a track that was added, and its accepted samples
pub record AcceptedTrack : Type 0 where
  pub config : TrackConfig
  pub samples : List Sample

unfoldable pub accepted_from : ℕ → List TrackState → List Chunk → List AcceptedTrack
accepted_from id [] cs = []
accepted_from id (t ∷ ts) cs =
    record { config = t.config; samples = samples_of id cs ++ t.pending } ∷ accepted_from (id + 1) ts cs

-- the accepted tracks: the first has id 1
abbrev pub accepted : WriterState → List AcceptedTrack
accepted st = accepted_from 1 st.tracks st.chunks

-- the file type that a movie is begun with
abbrev pub file_type_of : Mp4Config → FtypBox
file_type_of config =
    record {
      major_brand = config.major_brand;
      minor_version = config.minor_version;
      compatible_brands =
          config.compatible_brands;
    }

-- the buffer handed in, and the file type after it
unfoldable pub with_file_type : List ℕ → Mp4Config → List ℕ
with_file_type front config = front ++ box_bytes ftyp (ftyp_payload (file_type_of config))

-- the bytes before the data
abbrev pub before_data : WriterState → List ℕ
before_data st = with_file_type st.front st.config

-- the data after the header of mdat: the chunks, one after the other
abbrev pub data_of : WriterState → List ℕ
data_of st = chunk_bytes st.chunks

-- where the data begin
abbrev pub data_place : WriterState → ℕ
data_place st = length (before_data st) + 16

-- the tracks as they are finished with these chunks
unfoldable pub finished_from : ℕ → List AcceptedTrack → List PlacedChunk → List FinishedTrack
finished_from id [] cs = []
finished_from id (t ∷ ts) cs =
    record { id = id; config = t.config; samples = map info_of t.samples; chunks = of_track id cs }
    ∷ finished_from (id + 1) ts cs

-- the bytes of the movie of these tracks
unfoldable pub movie_bytes : ℕ → List FinishedTrack → List ℕ
movie_bytes timescale ts = box_bytes moov (moov_payload (movie_for timescale ts))

-- the finished tracks of what a writer holds
abbrev pub finished_tracks : WriterState → List FinishedTrack
finished_tracks st = finished_from 1 (accepted st) (placed_from (data_place st) st.chunks)

-- the movie that is after the data
abbrev pub movie_of : WriterState → MoovBox
movie_of st = movie_for st.config.timescale (finished_tracks st)

-- The bytes of a writer. While it writes, mdat has room for its header, which says that nothing is in it; at the end
-- the header says how many bytes mdat has, and the movie follows.
unfoldable pub whole_of : WriterState → List ℕ
whole_of st =
    if st.ended
    then (before_data st ++ (mdat_header_of (16 + length (data_of st)) ++ data_of st))
    ++ movie_bytes st.config.timescale (finished_tracks st)
    else before_data st ++ (mdat_header_of 8 ++ data_of st)

-- a writer that was begun after these bytes
abbrev pub started : List ℕ → Mp4Config → WriterState
started front config = record { front = front; config = config; tracks = []; chunks = []; ended = false }

-- a writer with one more track
abbrev pub with_track : WriterState → TrackConfig → WriterState
with_track st config = record st { tracks = st.tracks ++ record { config = config; pending = [] } ∷ [] }

-- these samples are what is pending of a track
abbrev pub with_pending : WriterState → ℕ → List Sample → WriterState
with_pending st id ss =
    record st { tracks = slice_set st.tracks (id - 1) (record (track_at st id) { pending = ss }) }

-- these samples of a track are a chunk after the others, and nothing is pending of it
abbrev pub with_chunk : WriterState → ℕ → List Sample → WriterState
with_chunk st id ss =
    record (with_pending st id []) { chunks = st.chunks ++ record { track_id = id; samples = ss } ∷ [] }

-- a writer with one more sample of a track: it is pending after the others, and where they are full now, they are a
-- chunk
unfoldable pub with_sample : WriterState → ℕ → Sample → WriterState
with_sample st id s =
    let pending = (track_at st id).pending ++ s ∷ [] in
    if is_full (track_at st id).config.timescale pending then with_chunk st id pending
    else with_pending st id pending

-- a writer whose end was written: what was pending is in chunks after the others
abbrev pub with_end : WriterState → WriterState
with_end st = record st { tracks = none_pending st.tracks; chunks = st.chunks ++ last_chunks 1 st.tracks; ended = true }

-- a writer is not begun where its file type is too large
abbrev pub start_cause : Mp4Config → Option Cause
start_cause config = size_cause (ftyp_payload (file_type_of config))

-- why a track is not added
unfoldable pub track_cause : WriterState → TrackConfig → Option Cause
track_cause st config =
    if st.ended then Some ended else
    (config_cause config
    or (if nat_le (2 ^ 32 - 1) (length st.tracks) then Some (too_large TrackCount) else None))

-- how long a track is in ticks of the movie, with one more sample
abbrev pub duration_with : WriterState → ℕ → Sample → ℕ
duration_with st id s =
    movie_duration st.config.timescale (track_at st id).config.timescale (map info_of (accepted_of st id))
    + s.duration * st.config.timescale / (track_at st id).config.timescale

-- why a sample is not written: the writer has ended, the track isn't there, the sample is too long, or the track has no
-- room for one more or for its duration
unfoldable pub sample_cause : WriterState → ℕ → Sample → Option Cause
sample_cause st id s =
    if st.ended then Some ended else
    if id == 0 then Some (trak_not_found id) else
    if nat_lt (length st.tracks) id then Some (trak_not_found id) else
    if nat_le (2 ^ 32) (length s.bytes) then Some (too_large SampleBytes) else
    if nat_le (2 ^ 32 - 1) (length (accepted_of st id)) then Some (too_large SampleCount) else
    if nat_le (2 ^ 64) (duration_with st id s) then Some (too_large TrackDuration) else
    None

-- an end is not written twice, nor where the movie, as it will be, is too large
unfoldable pub end_cause : WriterState → Option Cause
end_cause st = if st.ended then Some ended else size_cause (moov_payload (movie_of (with_end st)))
