-- The tables that are made of a track, byte for byte, of its samples (ISO/IEC 14496-12, 8.6 and 8.7).
use Rattle.std.specs.Prelude.{◌≡◌, ◌⊎◌, ◌+◌, ◌-◌, ◌^◌, ◌<◌, ◌≤◌, ◌++◌, ℕ, pos, int_lt, min, if◌then◌else◌, List}
use Rattle.std.specs.Prelude.{[], ◌∷◌}
use Rattle.std.specs.Prelude.{length, map}
use Rattle.std.specs.Prelude.{Option, Some, None, Ok, option_map, slice_get}
use Rattle.std.specs.List.{flat_map, list_all, list_any}
use Rattle.mp4_codec.specs.Boxes.{box_bytes, optional}
use Rattle.mp4_codec.specs.Cause.{cause_of}
use Rattle.mp4_codec.specs.declared.box_type.BoxType.TheVariants.{SttsBox as stts, CttsBox as ctts, StssBox as stss}
use Rattle.mp4_codec.specs.declared.box_type.BoxType.TheVariants.{StscBox as stsc, StszBox as stsz}
use Rattle.mp4_codec.specs.declared.error.Error.{Error}
use Rattle.mp4_codec.specs.declared.error.Error.TheVariants.{OutOfMemory, TooLarge}
use Rattle.mp4_codec.specs.declared.error.Limit.TheVariants.{BoxSize}
use Rattle.mp4_table.specs.Ctts.{ctts_payload}
use Rattle.mp4_table.specs.Stsc.{stsc_payload}
use Rattle.mp4_table.specs.Stss.{stss_payload}
use Rattle.mp4_table.specs.Stsz.{stsz_payload}
use Rattle.mp4_table.specs.Stts.{stts_payload}
use Rattle.mp4_table.specs.declared.ctts.CttsBox.{CttsBox}
use Rattle.mp4_table.specs.declared.ctts.CttsEntry.{CttsEntry}
use Rattle.mp4_table.specs.declared.stss.StssBox.{StssBox}
use Rattle.mp4_samples.specs.declared.sample.Place.{Place}
use Rattle.mp4_mux.specs.SampleTables.{ctts_for, stss_for, stsz_for, stts_for}
use Rattle.mp4_mux.specs.declared.sample_info.SampleInfo.{SampleInfo}
use Rattle.mp4_media.specs.FileBoxes.{OpenedFile}
use Rattle.mp4_remux.specs.Chunks.{chunks_after, chunks_of, stsc_of_chunks}
use Rattle.mp4_remux.specs.Descriptions.{description_of}
use Rattle.mp4_remux.specs.Headers.{HasNoSamples, IsShownUntil}
use Rattle.mp4_remux.specs.Reads.{place_in}
use Rattle.mp4_remux.specs.Refused.{IsUnreadable}
use Rattle.mp4_remux.specs.declared.chunks.Chunk.{Chunk}
use Rattle.mp4_remux.specs.declared.chunks.PlacedSample.{PlacedSample}
use Rattle.mp4_remux.specs.declared.track_tables.MadeTables.{MadeTables}
use Rattle.mp4_remux.specs.declared.track_tables.SampleTables.{SampleTables}

-- THE SAMPLES

-- These are all samples of a track, from number 1 on; they are none where the track says so and none is found.
pub record AreSamplesOf (opened : OpenedFile) (id : ℕ) (samples : List Place) : Type 0 where
  pub each : (p : Place) (i : ℕ) → slice_get samples i ≡ Some p → place_in opened id (i + 1) ≡ Ok (Some p)
  pub none : ((samples ≡ []) × HasNoSamples opened id) ⊎ (place_in opened id (length samples + 1) ≡ Ok None)

-- what the tables say of a sample, but for where it is
abbrev pub info_of : Place → SampleInfo
info_of p = record {
  size = p.size;
  duration = p.duration;
  rendering_offset = p.rendering_offset;
  is_sync = p.is_sync;
}

-- a sample whose data begins at this place, with the number of its description
abbrev pub placed_at : ℕ → ℕ → Place → PlacedSample
placed_at place description p = record { place = place; description = description; info = info_of p }

-- samples of a track from number k on, where their data is moved so, each with its description
unfoldable pub placed : OpenedFile → ℕ → (ℕ → ℕ) → ℕ → List Place → List PlacedSample
placed opened id to k [] = []
placed opened id to k (p ∷ ps) =
    placed_at (to p.offset) (description_of opened id k) p ∷ placed opened id to (k + 1) ps

-- THE TABLES

-- how long after they are decoded samples are shown, in a version that says whether one is shown before (8.6.1.3)
abbrev pub with_sign : CttsBox → CttsBox
with_sign b = record {
  version = if list_any (λ (e : CttsEntry). int_lt e.sample_offset (pos 0)) b.entries then 1 else 0;
  flags = b.flags;
  entries = b.entries;
}

unfoldable pub signed_ctts_for : List SampleInfo → Option CttsBox
signed_ctts_for samples = option_map with_sign (ctts_for samples)

-- which samples are sync samples; there where not all are (8.6.2)
unfoldable pub some_stss_for : List SampleInfo → Option StssBox
some_stss_for samples = if list_all (λ (s : SampleInfo). s.is_sync) samples then None else stss_for samples

-- each table as the bytes of its box, and no bytes for one that isn't there
unfoldable pub stts_bytes : List SampleInfo → List ℕ
stts_bytes samples = box_bytes stts (stts_payload (stts_for samples))

unfoldable pub ctts_bytes : List SampleInfo → List ℕ
ctts_bytes samples = optional ctts ctts_payload (signed_ctts_for samples)

unfoldable pub stss_bytes : List SampleInfo → List ℕ
stss_bytes samples = optional stss stss_payload (some_stss_for samples)

unfoldable pub stsc_bytes : List Chunk → List ℕ
stsc_bytes chunks = box_bytes stsc (stsc_payload (stsc_of_chunks chunks))

unfoldable pub stsz_bytes : List SampleInfo → List ℕ
stsz_bytes samples = box_bytes stsz (stsz_payload (stsz_for samples))

-- the tables of samples that are in these chunks
abbrev pub tables : List SampleInfo → List Chunk → List (List ℕ)
tables samples chunks =
    stts_bytes samples ∷ ctts_bytes samples ∷ stss_bytes samples ∷ stsc_bytes chunks ∷ stsz_bytes samples ∷ []

-- each of these has fewer bytes than 32 bits count, as the size of a box does (4.2)
abbrev pub AllFit : List (List ℕ) → Type 0
AllFit list = (table : List ℕ) (number : ℕ) → slice_get list number ≡ Some table → length table < 2 ^ 32

-- one after the other
abbrev pub tables_bytes : List SampleInfo → List Chunk → List ℕ
tables_bytes samples chunks = flat_map (λ table. table) (tables samples chunks)

abbrev pub infos : List PlacedSample → List SampleInfo
infos samples = map (λ (s : PlacedSample). s.info) samples

abbrev pub chunk_begins : List Chunk → List ℕ
chunk_begins chunks = map (λ (c : Chunk). c.place) chunks

-- the tables of samples in the data, one after the other, and where their chunks begin
abbrev pub bytes_of : List PlacedSample → List ℕ
bytes_of samples = tables_bytes (infos samples) (chunks_of samples)

abbrev pub begins_of : List PlacedSample → List ℕ
begins_of samples = chunk_begins (chunks_of samples)

-- The tables of a track whose data is moved so: those of its samples, where their chunks begin, and that its media last
-- until all samples have been shown (8.4.2.3).
pub record AreTablesOf (opened : OpenedFile) (id : ℕ) (to : ℕ → ℕ) (made : MadeTables) : Type 0 where
  pub samples : List Place
  pub are : AreSamplesOf opened id samples
  pub bytes : made.bytes.items ≡ bytes_of (placed opened id to 1 samples)
  pub fit : AllFit (tables (infos (placed opened id to 1 samples)) (chunks_of (placed opened id to 1 samples)))
  pub chunks : made.chunks.items ≡ begins_of (placed opened id to 1 samples)
  pub end : ℕ
  pub shown : IsShownUntil opened id end
  pub duration : made.duration ≡ min (2 ^ 64 - 1) end

-- WHY NONE ARE MADE

-- a box with these bytes isn't made: out of memory, or it has 2^32 bytes or more (4.2)
abbrev pub HasNoRoom : List ℕ → Error → Type 0
HasNoRoom bytes e = (e ≡ OutOfMemory) ⊎ ((e ≡ TooLarge BoxSize) × (2 ^ 32 ≤ length bytes))

-- one of these tables has 2^32 bytes or more
pub record HasLarge (tables : List (List ℕ)) : Type 0 where
  pub table : List ℕ
  pub number : ℕ
  pub there : slice_get tables number ≡ Some table
  pub large : 2 ^ 32 ≤ length table

-- why tables aren't written
abbrev pub AreTooLarge : List (List ℕ) → Error → Type 0
AreTooLarge tables e = (e ≡ OutOfMemory) ⊎ ((e ≡ TooLarge BoxSize) × HasLarge tables)

-- a table of a track whose data is moved so has 2^32 bytes or more
pub record HasLargeTable (opened : OpenedFile) (id : ℕ) (to : ℕ → ℕ) : Type 0 where
  pub samples : List Place
  pub are : AreSamplesOf opened id samples
  pub large : HasLarge (tables (infos (placed opened id to 1 samples)) (chunks_of (placed opened id to 1 samples)))

-- why no tables are made of a track whose data is moved so: out of memory, a sample isn't found for this cause, or a
-- table has 2^32 bytes or more
abbrev pub IsWhyNoTables : OpenedFile → ℕ → (ℕ → ℕ) → Error → Type 0
IsWhyNoTables opened id to e =
    (e ≡ OutOfMemory) ⊎ (IsUnreadable opened (id ∷ []) (cause_of e)
    ⊎ ((e ≡ TooLarge BoxSize) × HasLargeTable opened id to))

-- WHILE THEY ARE MADE

-- what is known of samples so far: what the tables say of each, and their chunks, whatever samples come next
pub record HoldsSamples (made : SampleTables) (samples : List PlacedSample) : Type 0 where
  pub infos_are : made.samples ≡ infos samples
  pub chunks_are : (next : List PlacedSample)
      → chunks_of (samples ++ next) ≡ chunks_after made.chunks.items made.end next
