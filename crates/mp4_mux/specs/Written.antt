-- What the bytes of a finished movie mean: the samples to which its tables lead, and how its data are shared out
-- (ISO/IEC 14496-12, 8.1.1 and 8.3 to 8.7).
use Rattle.std.specs.Prelude.{◌≡◌, ℕ, ◌+◌, ◌<◌, ◌≤◌, nat_eq, List, [], ◌∷◌, ◌++◌, length, map, sum}
use Rattle.std.specs.Prelude.{slice_get, Option, Some, Result, Ok, IfSome, ◌==◌}
use Rattle.std.specs.List.{All, filter, flat_map}
use Rattle.std.specs.Ordering.{int_eq}
use Rattle.mp4_codec.specs.Cause.{Cause}
use Rattle.mp4_table.specs.Chunks.{counts, laid_from}
use Rattle.mp4_table.specs.Runs.{changes}
use Rattle.mp4_entry.specs.Config.{media_type_in}
use Rattle.mp4_entry.specs.Stsd.{first_entry}
use Rattle.mp4_entry.specs.TrackType.{track_type_of}
use Rattle.mp4_boxes.specs.declared.stbl.StblBox.{StblBox}
use Rattle.mp4_boxes.specs.declared.trak.TrakBox.{TrakBox}
use Rattle.mp4_boxes.specs.Stbl.{sample_count}
use Rattle.mp4_samples.specs.Samples.{Sample, TimedSample, timed, read_at}
use Rattle.mp4_samples.specs.declared.sample.Place.{Place}
use Rattle.mp4_samples.specs.Plain.{Consistent, sample_places, plain}
use Rattle.mp4_samples.specs.Tables.{chunk_offsets, tables_of}
use Rattle.mp4_samples.specs.Coding.{coding_of}
use Rattle.mp4_mux.specs.Chunks.{Chunk, sample_bytes}
use Rattle.mp4_mux.specs.Writing.{WriterState, AcceptedTrack, accepted, data_of, data_place, movie_of, whole_of}

-- The tables of a track describe these samples: they agree with each other, each place to which they lead lies in the
-- file, and the samples that lie there are these, in order (8.6 and 8.7).
pub record Describes (file : List ℕ) (t : StblBox) (ss : List Sample) : Type 0 where
  pub consistent : Consistent t
  pub within : All (λ p. p.offset + p.size ≤ length file) (plain t)
  pub samples : map (read_at file) (plain t) ≡ timed ss

-- A lookup finds this sample: it answers a place that lies in the file, and there the sample lies.
pub record Finds (file : List ℕ) (answer : Result (Option Place) Cause) (s : TimedSample) : Type 0 where
  pub place : Place
  pub answered : answer ≡ Ok (Some place)
  pub within : place.offset + place.size ≤ length file
  pub sample : read_at file place ≡ s

-- As few entries as there can be: one for the first sample and for each whose duration differs from the one before it
-- (8.6.1.2), the same of rendering offsets (8.6.1.3), and the same of chunks by how many samples they have (8.7.4).
-- That no table with the same meaning has fewer is a law of mp4_table.
pub record HasFewestEntries (t : StblBox) (ss : List Sample) : Type 0 where
  pub stts : length t.stts.entries ≡ changes nat_eq (map (λ s. s.duration) ss)
  pub ctts : IfSome t.ctts (λ ctts. length ctts.entries ≡ changes int_eq (map (λ s. s.rendering_offset) ss))
  pub stsc : length t.stsc.entries ≡ changes nat_eq (counts t.stsc.entries (length (chunk_offsets t)))

-- The box of an accepted track: its id (8.3.2), the ticks in a second and the language of the configuration (8.4.2),
-- its kind of track (8.4.3) and of coding (8.5.2), as many samples as were accepted, and where there are any, tables
-- that lead to them. Where there is none, no entry of a chunk is there (8.7.4).
pub record IsWrittenTrack (st : WriterState) (id : ℕ) (a : AcceptedTrack) (trak : TrakBox) : Type 0 where
  pub id_is : trak.tkhd.track_id ≡ id
  pub timescale : trak.mdia.mdhd.timescale ≡ a.config.timescale
  pub language : trak.mdia.mdhd.language ≡ a.config.language
  pub kind : track_type_of trak.mdia.hdlr.handler_type ≡ Ok a.config.track_type
  pub coding : coding_of (first_entry (tables_of trak).stsd) ≡ Some (media_type_in a.config.media_conf)
  pub count : sample_count (tables_of trak) ≡ length a.samples
  pub described : 0 < length a.samples → Describes (whole_of st) (tables_of trak) a.samples
  pub empty : length a.samples ≡ 0 → (tables_of trak).stsc.entries ≡ []
  pub fewest : HasFewestEntries (tables_of trak) a.samples

-- how many bytes each of these samples has
abbrev pub sizes_of : List Sample → List ℕ
sizes_of ss = map (λ s. length s.bytes) ss

-- the samples of all chunks, chunk after chunk
abbrev pub all_samples : List Chunk → List Sample
all_samples cs = flat_map (λ c. c.samples) cs

-- a range of the data that a sample takes, as its place and its size, and the id of the sample's track
pub record SampleRange : Type 0 where
  pub track_id : ℕ
  pub range : ℕ × ℕ

-- the ranges of the samples of chunks that are one after the other, from a place on
unfoldable pub ranges_from : ℕ → List Chunk → List SampleRange
ranges_from place [] = []
ranges_from place (c ∷ cs) =
    map (λ r. record { track_id = c.track_id; range = r }) (laid_from place (sizes_of c.samples))
    ++ ranges_from (place + length (sample_bytes c.samples)) cs

-- the ranges of the samples of all tracks, in the order of the data
abbrev pub ranges : WriterState → List SampleRange
ranges st = ranges_from (data_place st) st.chunks

-- the ranges of one track
abbrev pub ranges_of : ℕ → List SampleRange → List (ℕ × ℕ)
ranges_of id rs = map (λ r. r.range) (filter (λ r. r.track_id == id) rs)

-- The samples of all tracks share out the data (8.1.1): the first lies where the data begin, each of the others where
-- the one before it ends, and the last ends where the data do. Each is of a track of the movie, and those of a track
-- are the ones to which its tables lead, in order.
pub record Tiles (st : WriterState) : Type 0 where
  pub in_order : map (λ r. r.range) (ranges st) ≡ laid_from (data_place st) (sizes_of (all_samples st.chunks))
  pub whole : sum (sizes_of (all_samples st.chunks)) ≡ length (data_of st)
  pub known : All (λ r. (1 ≤ r.track_id) × (r.track_id ≤ length (movie_of st).traks)) (ranges st)
  pub led_to : (k : ℕ) (trak : TrakBox) → slice_get (movie_of st).traks k ≡ Some trak
      → sample_places (tables_of trak) ≡ ranges_of (k + 1) (ranges st)

-- a byte of a file lies in a range
abbrev pub LiesIn : ℕ → ℕ × ℕ → Type 0
LiesIn byte r = (r.0 ≤ byte) × (byte < r.0 + r.1)

-- it lies in exactly one of these ranges
pub record LiesInOne (byte : ℕ) (rs : List (ℕ × ℕ)) : Type 0 where
  pub index : ℕ
  pub range : ℕ × ℕ
  pub is_there : slice_get rs index ≡ Some range
  pub lies : LiesIn byte range
  pub no_other : (j : ℕ) (r : ℕ × ℕ) → slice_get rs j ≡ Some r → LiesIn byte r → j ≡ index

-- The movie has a box for each accepted track, in their order, and their samples share out the data.
pub record IsWrittenMovie (st : WriterState) : Type 0 where
  pub count : length (movie_of st).traks ≡ length (accepted st)
  pub tracks : (k : ℕ) (a : AcceptedTrack) (trak : TrakBox) → slice_get (accepted st) k ≡ Some a
      → slice_get (movie_of st).traks k ≡ Some trak → IsWrittenTrack st (k + 1) a trak
  pub tiles : Tiles st

-- Of each track of two finished movies the same samples are read.
abbrev pub HaveSameSamples : WriterState → WriterState → Type 0
HaveSameSamples st su =
    (k : ℕ) (one two : TrakBox) → slice_get (movie_of st).traks k ≡ Some one
    → slice_get (movie_of su).traks k ≡ Some two
    → map (read_at (whole_of st)) (plain (tables_of one)) ≡ map (read_at (whole_of su)) (plain (tables_of two))
