-- The tables of a track as a walk goes along them (ISO/IEC 14496-12, 8.6.1.2, 8.6.1.3, 8.6.2, 8.7.3 to 8.7.5).
use Rattle.std.specs.Prelude.{◌≡◌, ℕ, Option, Some, None, slice_get, is_some}
use Rattle.mp4_samples.specs.Tables.{chunk_offsets, ctts_runs, sync_numbers, tables_of}
use Rattle.mp4_boxes.specs.declared.stbl.StblBox.{StblBox}
use Rattle.mp4_lookup.specs.declared.tables.Tables.{Tables}

-- the first of two, or the other where it isn't there
abbrev pub either_of : Option ℕ → Option ℕ → Option ℕ
either_of (Some x) other = Some x
either_of None other = other

-- the sample table of the track
abbrev pub walked : Tables → StblBox
walked w = tables_of w.track.now.trak

-- these are the lists of its tables; the offset of a chunk is in one list of two
pub record AreTables (w : Tables) : Type 0 where
  pub entries : w.entries.now ≡ (walked w).stsc.entries
  pub offsets : (i : ℕ)
      → either_of (slice_get w.stco.now i) (slice_get w.co64.now i) ≡ slice_get (chunk_offsets (walked w)) i
  pub sample_size : w.sample_size ≡ (walked w).stsz.sample_size
  pub sample_sizes : w.sample_sizes.now ≡ (walked w).stsz.sample_sizes
  pub durations : w.durations.now ≡ (walked w).stts.entries
  pub rendering_offsets : w.rendering_offsets.now ≡ ctts_runs (walked w).ctts
  pub has_sync_numbers : w.has_sync_numbers ≡ is_some (walked w).stss
  pub sync_numbers : w.sync_numbers.now ≡ sync_numbers (walked w).stss
