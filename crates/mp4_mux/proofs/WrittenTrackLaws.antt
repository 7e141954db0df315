-- The box of a finished track: what it says of its configuration, and the samples to which its tables lead.
use Rattle.std.proofs.Common.{◌≡◌, ℕ, ◌<◌, ◌≤◌, nat_eq, List, [], ◌∷◌, ◌++◌, length, map}
use Rattle.std.proofs.Common.{Some, Ok, refl, sym, ap, ap₂, subst, ◌∙◌, arith}
use Rattle.std.specs.Prelude.{IfSome}
use Rattle.std.specs.Ordering.{int_eq}
use Rattle.std.specs.List.{All, sum_by}
use Rattle.std.proofs.lemmas.List.{length-map}
use Rattle.std.proofs.lemmas.List.Elements.{All-map}
use Rattle.std.proofs.lemmas.List.Sums.{sum-map, sum_by-cons}
use Rattle.std.proofs.lemmas.Simd.{map-map}
use Rattle.mp4_table.specs.Chunks.{counts, places}
use Rattle.mp4_table.specs.Runs.{changes}
use Rattle.mp4_entry.specs.declared.config.MediaConfig.{MediaConfig}
use Rattle.mp4_entry.specs.declared.config.MediaConfig.TheVariants.{AvcConfig as Avc, HevcConfig as Hevc}
use Rattle.mp4_entry.specs.declared.config.MediaConfig.TheVariants.{Vp9Config as Vp9, AacConfig as Aac}
use Rattle.mp4_entry.specs.declared.config.MediaConfig.TheVariants.{TtxtConfig as Ttxt}
use Rattle.mp4_entry.specs.declared.track_type.TrackType.{TrackType}
use Rattle.mp4_entry.specs.declared.track_type.TrackType.TheVariants.{Video, Audio, Subtitle}
use Rattle.mp4_entry.specs.Config.{media_type_in}
use Rattle.mp4_entry.specs.Stsd.{first_entry}
use Rattle.mp4_entry.specs.TrackType.{track_type_of}
use Rattle.mp4_samples.specs.Samples.{Sample}
use Rattle.mp4_samples.specs.Plain.{sample_places}
use Rattle.mp4_samples.specs.Tables.{chunk_offsets, sizes}
use Rattle.mp4_samples.specs.Coding.{coding_of}
use Rattle.mp4_mux.specs.declared.config.TrackConfig.{TrackConfig}
use Rattle.mp4_mux.specs.declared.sample_info.SampleInfo.{SampleInfo}
use Rattle.mp4_mux.specs.Description.{stsd_for}
use Rattle.mp4_mux.specs.SampleTables.{ctts_for, stsz_for, chunk_entries_from, stsc_for}
use Rattle.mp4_mux.proofs.SampleTableLaws.{length-stts_for, length-ctts_for}
use Rattle.mp4_mux.proofs.SizeTableLaws.{sizes-stsz_for}
use Rattle.mp4_mux.proofs.OffsetTableLaws.{offsets_of-stco_for-co64_for}
use Rattle.mp4_mux.proofs.ChunkTableLaws.{counts-stsc_for, length-stsc_for}
use Rattle.mp4_mux.specs.TrackHeaders.{PlacedChunk, FinishedTrack, hdlr_for}
use Rattle.mp4_mux.proofs.TrackTables.{FillsChunks}
use Rattle.mp4_mux.specs.FinishedTrack.{counts_of, offsets_of, stbl_for, trak_with, trak_for}
use Rattle.mp4_mux.specs.Chunks.{Chunk, chunk_bytes, samples_of, placed_from, of_track}
use Rattle.mp4_mux.specs.Writing.{WriterState, info_of, whole_of}
use Rattle.mp4_mux.proofs.FineLaws.{counted}
use Rattle.mp4_mux.specs.Written.{Describes, HasFewestEntries, IsWrittenTrack}
use Rattle.mp4_mux.proofs.TileLaws.{table_places}
use Rattle.mp4_mux.proofs.DescribesLaws.{describes}

kind-hdlr_for : (kind : TrackType) → track_type_of (hdlr_for kind).handler_type ≡ Ok kind
kind-hdlr_for Video = refl
kind-hdlr_for Audio = refl
kind-hdlr_for Subtitle = refl

coding-stsd_for : (media : MediaConfig) (infos : List SampleInfo)
    → coding_of (first_entry (stsd_for media infos)) ≡ Some (media_type_in media)
coding-stsd_for (Avc c) infos = refl
coding-stsd_for (Hevc c) infos = refl
coding-stsd_for (Vp9 c) infos = refl
coding-stsd_for (Aac c) infos = refl
coding-stsd_for (Ttxt c) infos = refl

count-stsz_for : (infos : List SampleInfo) → (stsz_for infos).sample_count ≡ length infos
unfolding stsz_for
count-stsz_for infos = refl

-- chunks without samples are none, and no entry says how many samples they have
none-listed : (chunks : List PlacedChunk) → All (λ (c : PlacedChunk). 1 ≤ c.count) chunks
    → sum_by (λ (c : PlacedChunk). c.count) chunks ≡ 0 → (stsc_for (counts_of chunks)).entries ≡ []
unfolding stsc_for chunk_entries_from
none-listed [] some e = refl
none-listed (c ∷ cs) some e =
    let one = some 0 c (omega arith) in
    absurd (omega (arith, one, e, sum_by-cons (λ (c : PlacedChunk). c.count) c cs))

-- A track of this id and configuration, whose samples are in these chunks from a place of the file on.
module _ (m : ℕ) (id : ℕ) (config : TrackConfig) (front : List ℕ) (cs : List Chunk) (more : List ℕ) where
  abbrev ss : List Sample
  ss = samples_of id cs

  abbrev infos : List SampleInfo
  infos = map info_of ss

  abbrev chunks : List PlacedChunk
  chunks = of_track id (placed_from (length front) cs)

  abbrev ns : List ℕ
  ns = counts_of chunks

  abbrev os : List ℕ
  os = offsets_of chunks

  abbrev pub track : FinishedTrack
  track = record { id = id; config = config; samples = infos; chunks = chunks }

  length-os : length os ≡ length ns
  length-os =
      length-map chunks (λ (c : PlacedChunk). c.offset) ∙ sym (length-map chunks (λ (c : PlacedChunk). c.count))

  offsets-are : chunk_offsets (stbl_for track) ≡ os
  offsets-are = offsets_of-stco_for-co64_for os

  counts-are : counts (stsc_for ns).entries (length (chunk_offsets (stbl_for track))) ≡ ns
  counts-are =
      ap (counts (stsc_for ns).entries) (ap length offsets-are ∙ length-os) ∙ counts-stsc_for ns

  -- its tables lead there
  pub leads : sample_places (stbl_for track) ≡ table_places id (length front) cs
  leads =
      ap₂ (λ (n o : List ℕ). places n o (sizes (stsz_for infos) (stsz_for infos).sample_count)) counts-are offsets-are
      ∙ ap (places ns os)
      (ap (λ n. sizes (stsz_for infos) n) (count-stsz_for infos) ∙ sizes-stsz_for infos
      ∙ map-map (λ (i : SampleInfo). i.size) info_of ss)

  module _ (some : All (λ (c : PlacedChunk). 1 ≤ c.count) chunks) where
    some-counted : All (λ n. 1 ≤ n) ns
    some-counted = All-map (λ n. 1 ≤ n) (λ (c : PlacedChunk). c.count) chunks some

    fills : 0 < length ss → FillsChunks infos ns os
    fills l = record {
      some_samples = omega (arith, l, length-map ss info_of);
      some_per_chunk = some-counted;
      counted = sum-map (λ (c : PlacedChunk). c.count) chunks ∙ counted id (length front) cs
          ∙ sym (length-map ss info_of);
      placed = length-os;
    }

    fewest : HasFewestEntries (stbl_for track) ss
    fewest = record {
      stts = length-stts_for infos ∙ ap (changes nat_eq) (map-map (λ (i : SampleInfo). i.duration) info_of ss);
      ctts = subst (λ offsets. IfSome (ctts_for infos) (λ ctts. length ctts.entries ≡ changes int_eq offsets))
          (map-map (λ (i : SampleInfo). i.rendering_offset) info_of ss) (length-ctts_for infos);
      stsc = length-stsc_for ns some-counted ∙ ap (changes nat_eq) (sym counts-are);
    }

    -- its box is one of a written track
    pub is_written : (st : WriterState) → whole_of st ≡ front ++ (chunk_bytes cs ++ more)
        → IsWrittenTrack st id (record { config = config; samples = ss }) (trak_for m track)
    unfolding trak_with
    is_written st whole = record {
      id_is = refl;
      timescale = refl;
      language = refl;
      kind = kind-hdlr_for config.track_type;
      coding = coding-stsd_for config.media_conf infos;
      count = count-stsz_for infos ∙ length-map ss info_of;
      described = λ l. subst (λ file. Describes file (stbl_for track) ss) (sym whole)
          (describes front cs more id (fills l) (stbl_for track) (record {
            stts = refl;
            ctts = refl;
            stss = refl;
            stsc = refl;
            stsz = refl;
            stco = refl;
            co64 = refl;
          }));
      empty = λ e. none-listed chunks some (counted id (length front) cs ∙ e);
      fewest = fewest;
    }
