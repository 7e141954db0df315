-- The box of a track that is written has the length that is counted for it, is written and reads back equal.
use Rattle.std.proofs.Common.{◌≡◌, ℕ, ◌+◌, List, [], ◌∷◌, length, map, refl, ap, arith}
use Rattle.mp4_codec.specs.FieldLaws.{length-then}
use Rattle.mp4_codec.specs.FramingLaws.{length-box_bytes}
use Rattle.mp4_leaf.specs.Dinf.{dinf_payload, default_dinf}
use Rattle.mp4_leaf.specs.DinfLaws.{length-dinf_payload, length-dref_payload, length-url_payload}
use Rattle.mp4_entry.specs.Config.{entry_length}
use Rattle.mp4_boxes.specs.Trak.{trak_payload}
use Rattle.mp4_boxes.specs.Mdia.{mdia_payload}
use Rattle.mp4_boxes.specs.Minf.{minf_payload}
use Rattle.mp4_boxes.specs.Stbl.{stbl_payload}
use Rattle.mp4_mux.specs.declared.durations.Durations.{Durations}
use Rattle.mp4_mux.specs.declared.chunk_place.ChunkPlace.{ChunkPlace}
use Rattle.mp4_mux.specs.ChunkLists.{sample_counts, offsets}
use Rattle.mp4_mux.specs.TrackHeaders.{FinishedTrack, header_length}
use Rattle.mp4_mux.specs.TrackHeaders.{placed_of, media_header_length}
use Rattle.mp4_mux.proofs.TrackHeaderLaws.{length-tkhd_for, length-mdhd_for, length-hdlr_for, length-media_header}
use Rattle.mp4_mux.proofs.DescriptionLaws.{length-stsd_for}
use Rattle.mp4_mux.specs.FinishedTrack.{counts_of, offsets_of, stbl_for, minf_for, mdia_for, trak_with}
use Rattle.mp4_mux.specs.FinishedTrack.{sample_tables_length, chunk_tables_length, trak_length}

-- a chunk keeps how many samples it has and where it lies

pub counts_of-placed : (id : ℕ) (cs : List ChunkPlace) → counts_of (map (placed_of id) cs) ≡ sample_counts cs
counts_of-placed id [] = refl
counts_of-placed id (c ∷ cs) = ap (λ ns. c.count ∷ ns) (counts_of-placed id cs)

pub offsets_of-placed : (id : ℕ) (cs : List ChunkPlace) → offsets_of (map (placed_of id) cs) ≡ offsets cs
offsets_of-placed id [] = refl
offsets_of-placed id (c ∷ cs) = ap (λ os. c.offset ∷ os) (offsets_of-placed id cs)

-- the length of the box, from within

length-stbl_for : (t : FinishedTrack) → length (stbl_payload (stbl_for t))
    ≡ 16 + entry_length t.config.media_conf + sample_tables_length t.samples + chunk_tables_length t.chunks
unfolding stbl_payload sample_tables_length chunk_tables_length
length-stbl_for t = simp (length-then, length-box_bytes, length-stsd_for) (omega arith)

length-default_dinf : length (dinf_payload default_dinf) ≡ 28
length-default_dinf = simp (length-dinf_payload, length-dref_payload, length-box_bytes, length-url_payload) refl

length-minf_for : (t : FinishedTrack) → length (minf_payload (minf_for t))
    ≡ 60 + media_header_length t.config.media_conf + entry_length t.config.media_conf
    + sample_tables_length t.samples + chunk_tables_length t.chunks
unfolding minf_payload
length-minf_for t =
    simp (length-then, length-box_bytes, length-default_dinf, length-stbl_for)
    (omega (arith, length-media_header t.config.media_conf))

length-mdia_for : (duration : ℕ) (t : FinishedTrack) → length (mdia_payload (mdia_for duration t))
    ≡ 101 + header_length 32 duration + media_header_length t.config.media_conf + entry_length t.config.media_conf
    + sample_tables_length t.samples + chunk_tables_length t.chunks
unfolding mdia_payload
length-mdia_for duration t =
    simp (length-then, length-box_bytes, length-minf_for)
    (omega (arith, length-mdhd_for duration t.config, length-hdlr_for t.config.track_type))

-- the bytes of the box of a track
pub length-trak_with : (durations : Durations) (t : FinishedTrack)
    → 8 + length (trak_payload (trak_with durations t)) ≡ trak_length durations t
unfolding trak_payload trak_with
length-trak_with durations t =
    simp (length-then, length-box_bytes, length-mdia_for)
    (omega (arith, length-tkhd_for t.id durations.movie t.config.media_conf))
