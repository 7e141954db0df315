-- The box of a track that is written, from its configuration, its samples and its chunks (ISO/IEC 14496-12, 8.3 to
-- 8.7).
use Rattle.std.specs.Prelude.{ℕ, ◌+◌, List, map, fold, max, None, length}
use Rattle.mp4_codec.specs.declared.box_type.BoxType.TheVariants.{CttsBox as ctts, StssBox as stss}
use Rattle.mp4_codec.specs.Boxes.{optional}
use Rattle.mp4_leaf.specs.Dinf.{default_dinf}
use Rattle.mp4_table.specs.Stts.{stts_payload}
use Rattle.mp4_table.specs.Ctts.{ctts_payload}
use Rattle.mp4_table.specs.Stss.{stss_payload}
use Rattle.mp4_table.specs.Stsc.{stsc_payload}
use Rattle.mp4_table.specs.Stsz.{stsz_payload}
use Rattle.mp4_entry.specs.Config.{entry_length}
use Rattle.mp4_boxes.specs.declared.moov.MoovBox.{MoovBox}
use Rattle.mp4_boxes.specs.declared.trak.TrakBox.{TrakBox}
use Rattle.mp4_boxes.specs.declared.mdia.MdiaBox.{MdiaBox}
use Rattle.mp4_boxes.specs.declared.minf.MinfBox.{MinfBox}
use Rattle.mp4_boxes.specs.declared.stbl.StblBox.{StblBox}
use Rattle.mp4_boxes.specs.Moov.{default_moov}
use Rattle.mp4_mux.specs.declared.sample_info.SampleInfo.{SampleInfo}
use Rattle.mp4_mux.specs.declared.durations.Durations.{Durations}
use Rattle.mp4_mux.specs.SampleTables.{stts_for, ctts_for, stss_for, stsc_for, stsz_for, stco_for, co64_for}
use Rattle.mp4_mux.specs.ChunkLists.{places_length}
use Rattle.mp4_mux.specs.TrackHeaders.{FinishedTrack, PlacedChunk, header_length, track_duration, durations_of}
use Rattle.mp4_mux.specs.TrackHeaders.{tkhd_for, mdhd_for, hdlr_for, vmhd_for, smhd_for, media_header_length, mvhd_for}
use Rattle.mp4_mux.specs.Description.{stsd_for}

-- how many samples each chunk has
abbrev pub counts_of : List PlacedChunk → List ℕ
counts_of = map (λ (c : PlacedChunk). c.count)

-- where each chunk lies
abbrev pub offsets_of : List PlacedChunk → List ℕ
offsets_of = map (λ (c : PlacedChunk). c.offset)

-- the table of its samples
abbrev pub stbl_for : FinishedTrack → StblBox
stbl_for t = record {
  stsd = stsd_for t.config.media_conf t.samples;
  stts = stts_for t.samples;
  ctts = ctts_for t.samples;
  stss = stss_for t.samples;
  stsc = stsc_for (counts_of t.chunks);
  stsz = stsz_for t.samples;
  stco = stco_for (offsets_of t.chunks);
  co64 = co64_for (offsets_of t.chunks);
}

-- what its media are made of
abbrev pub minf_for : FinishedTrack → MinfBox
minf_for t = record {
  vmhd = vmhd_for t.config.media_conf;
  smhd = smhd_for t.config.media_conf;
  dinf = default_dinf;
  stbl = stbl_for t;
}

-- its media, of this duration
abbrev pub mdia_for : ℕ → FinishedTrack → MdiaBox
mdia_for duration t = record {
  mdhd = mdhd_for duration t.config;
  hdlr = hdlr_for t.config.track_type;
  minf = minf_for t;
}

-- the box of a track that lasts so long
unfoldable pub trak_with : Durations → FinishedTrack → TrakBox
trak_with durations t = record {
  tkhd = tkhd_for t.id durations.movie t.config.media_conf;
  edts = None;
  meta = None;
  mdia = mdia_for durations.media t;
}

-- the box of a track, in a movie of this timescale
abbrev pub trak_for : ℕ → FinishedTrack → TrakBox
trak_for movie_timescale t = trak_with (durations_of movie_timescale t) t

-- a movie lasts as long as the longest of its tracks
abbrev pub longest : ℕ → List FinishedTrack → ℕ
longest timescale ts = fold max 0 (map (track_duration timescale) ts)

-- the movie of these tracks
unfoldable pub movie_for : ℕ → List FinishedTrack → MoovBox
movie_for timescale ts =
    record default_moov { mvhd = mvhd_for timescale (longest timescale ts); traks = map (trak_for timescale) ts }

-- the bytes of the tables that say how long samples are and when they are shown, with their headers
unfoldable pub sample_tables_length : List SampleInfo → ℕ
sample_tables_length ss =
    (8 + length (stts_payload (stts_for ss))) + length (optional ctts ctts_payload (ctts_for ss))
    + length (optional stss stss_payload (stss_for ss)) + (8 + length (stsz_payload (stsz_for ss)))

-- the bytes of the tables that say where they lie, with their headers
unfoldable pub chunk_tables_length : List PlacedChunk → ℕ
chunk_tables_length chunks =
    (8 + length (stsc_payload (stsc_for (counts_of chunks))))
    + places_length (offsets_of chunks)

-- The bytes of a track that lasts so long, its header included. 117 of them are always there: the headers of trak,
-- mdia, minf and stbl, of 8 bytes each, hdlr of 33, dinf of 36, and the first 16 of stsd.
abbrev pub trak_length : Durations → FinishedTrack → ℕ
trak_length durations t =
    117 + header_length 92 durations.movie + header_length 32 durations.media
    + media_header_length t.config.media_conf + entry_length t.config.media_conf
    + sample_tables_length t.samples + chunk_tables_length t.chunks
