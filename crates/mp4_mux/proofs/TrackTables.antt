-- The tables of one track together, and the samples that they describe.
use Rattle.std.specs.Prelude.{◌≡◌, ℕ, ◌+◌, ◌-◌, ◌<◌, ◌≤◌, pos, false, List, length, get_or, map, sum}
use Rattle.std.specs.List.{All}
use Rattle.mp4_codec.specs.Boxes.{optional}
use Rattle.mp4_codec.specs.declared.box_type.BoxType.TheVariants.{CttsBox as ctts, StssBox as stss}
use Rattle.mp4_table.specs.Stts.{stts_payload}
use Rattle.mp4_table.specs.Ctts.{ctts_payload}
use Rattle.mp4_table.specs.Stss.{stss_payload}
use Rattle.mp4_table.specs.Stsc.{stsc_payload}
use Rattle.mp4_table.specs.Stsz.{stsz_payload}
use Rattle.mp4_table.specs.Chunks.{places}
use Rattle.mp4_table.specs.Starts.{start_of}
use Rattle.mp4_boxes.specs.declared.stbl.StblBox.{StblBox}
use Rattle.mp4_samples.specs.declared.sample.Place.{Place}
use Rattle.mp4_mux.specs.declared.sample_info.SampleInfo.{SampleInfo}
use Rattle.mp4_mux.specs.SampleTables.{stts_for, ctts_for, stss_for, stsc_for, stsz_for, stco_for, co64_for}
use Rattle.mp4_mux.specs.ChunkLists.{places_length}

-- the tables are those of such samples, in chunks of such counts at such offsets
pub record HasTables (ss : List SampleInfo) (ns os : List ℕ) (t : StblBox) : Type 0 where
  pub stts : t.stts ≡ stts_for ss
  pub ctts : t.ctts ≡ ctts_for ss
  pub stss : t.stss ≡ stss_for ss
  pub stsc : t.stsc ≡ stsc_for ns
  pub stsz : t.stsz ≡ stsz_for ss
  pub stco : t.stco ≡ stco_for os
  pub co64 : t.co64 ≡ co64_for os

-- there is a sample, each lies in a chunk, no chunk is empty, and each has an offset
pub record FillsChunks (ss : List SampleInfo) (ns os : List ℕ) : Type 0 where
  pub some_samples : 0 < length ss
  pub some_per_chunk : All (λ n. 1 ≤ n) ns
  pub counted : sum ns ≡ length ss
  pub placed : length os ≡ length ns

-- what is known of sample k, which counts from 1: it lies after those before it in its chunk
abbrev pub sample_at : List SampleInfo → List ℕ → List ℕ → ℕ → Place
sample_at ss ns os k = record {
  offset = (get_or (places ns os (map (λ s. s.size) ss)) (k - 1) (0, 0)).0;
  size = get_or (map (λ s. s.size) ss) (k - 1) 0;
  start_time = start_of (map (λ s. s.duration) ss) k;
  duration = get_or (map (λ s. s.duration) ss) (k - 1) 0;
  rendering_offset = get_or (map (λ s. s.rendering_offset) ss) (k - 1) (pos 0);
  is_sync = get_or (map (λ s. s.is_sync) ss) (k - 1) false;
}

-- the bytes of all the tables but the description
unfoldable pub tables_length : List SampleInfo → List ℕ → List ℕ → ℕ
tables_length ss ns os =
    8 + length (stts_payload (stts_for ss)) + length (optional ctts ctts_payload (ctts_for ss))
    + length (optional stss stss_payload (stss_for ss)) + (8 + length (stsc_payload (stsc_for ns)))
    + (8 + length (stsz_payload (stsz_for ss))) + places_length os
