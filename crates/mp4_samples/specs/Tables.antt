-- The tables of a track as plain lists (ISO/IEC 14496-12, 8.6.1.2, 8.6.1.3, 8.6.2, 8.7.3 and 8.7.5).
use Rattle.std.specs.Prelude.{ℕ, Bool, true, List, [], replicate, Option, Some, None, nat_lt, ◌==◌, if◌then◌else◌}
use Rattle.std.specs.List.{list_any}
use Rattle.mp4_table.specs.declared.ctts.CttsBox.{CttsBox}
use Rattle.mp4_table.specs.declared.ctts.CttsEntry.{CttsEntry}
use Rattle.mp4_table.specs.declared.stss.StssBox.{StssBox}
use Rattle.mp4_table.specs.declared.stsz.StszBox.{StszBox}
use Rattle.mp4_table.specs.declared.stco.StcoBox.{StcoBox}
use Rattle.mp4_table.specs.declared.co64.Co64Box.{Co64Box}
use Rattle.mp4_boxes.specs.declared.stbl.StblBox.{StblBox}
use Rattle.mp4_boxes.specs.declared.trak.TrakBox.{TrakBox}

-- the sample table of a track
abbrev pub tables_of : TrakBox → StblBox
tables_of trak = trak.mdia.minf.stbl

-- the offsets of stco where it is there, else of co64
abbrev pub offsets_of : Option StcoBox → Option Co64Box → List ℕ
offsets_of (Some stco) co64 = stco.entries
offsets_of None (Some co64) = co64.entries
offsets_of None None = []

-- where each chunk begins
abbrev pub chunk_offsets : StblBox → List ℕ
chunk_offsets t = offsets_of t.stco t.co64

-- the sizes of the samples 1 to n: one size for all, or those that are listed
unfoldable pub sizes : StszBox → ℕ → List ℕ
sizes z n = if nat_lt 0 z.sample_size then replicate n z.sample_size else z.sample_sizes

-- the runs of ctts, and none without it
abbrev pub ctts_runs : Option CttsBox → List CttsEntry
ctts_runs None = []
ctts_runs (Some ctts) = ctts.entries

-- the numbers of stss, and none without it
abbrev pub sync_numbers : Option StssBox → List ℕ
sync_numbers None = []
sync_numbers (Some stss) = stss.entries

-- sample k is a sync sample: without stss each is, else those that it contains
abbrev pub is_sync_at : Option StssBox → ℕ → Bool
is_sync_at None k = true
is_sync_at (Some stss) k = list_any (λ n. n == k) stss.entries
