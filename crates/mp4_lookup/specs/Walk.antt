-- Where a walk over the samples of a track is in each table, so that those that come next are found without a search.
use Rattle.std.specs.Prelude.{◌≡◌, ℕ, ◌+◌, ◌-◌, ◌*◌, ◌^◌, ◌<◌, ◌≤◌, pos, List, length, take, get_or}
use Rattle.std.specs.Prelude.{slice_index, Ok, Some, nat_le, ◌==◌}
use Rattle.std.specs.List.{list_any, sum_by}
use Rattle.mp4_table.specs.declared.ctts.CttsEntry.{CttsEntry}
use Rattle.mp4_table.specs.declared.stsc.StscEntry.{StscEntry}
use Rattle.mp4_table.specs.declared.stts.SttsEntry.{SttsEntry}
use Rattle.mp4_table.specs.Chunks.{last_where}
use Rattle.mp4_table.specs.Runs.{rendering_offsets}
use Rattle.mp4_boxes.specs.declared.stbl.StblBox.{StblBox}
use Rattle.mp4_lookup.specs.Rule.{located_at, located_in_chunk, time_at}
use Rattle.mp4_samples.specs.Tables.{ctts_runs, sync_numbers}
use Rattle.mp4_lookup.specs.declared.chunk_run.ChunkRun.{ChunkRun}
use Rattle.mp4_lookup.specs.declared.chunk_run.EntryRun.{EntryRun}
use Rattle.mp4_lookup.specs.declared.position.Position.{Position}
use Rattle.mp4_lookup.specs.declared.timing.OffsetRun.{OffsetRun}
use Rattle.mp4_lookup.specs.declared.timing.SyncGap.{SyncGap}
use Rattle.mp4_lookup.specs.declared.timing.TimeRun.{TimeRun}

-- the entry of stsc for the samples from its first to before its end
pub record IsForSamples (entries : List StscEntry) (r : EntryRun) : Type 0 where
  pub first : r.entry.first_sample < r.end → 1 ≤ r.entry.first_sample
  pub last : (k : ℕ) → r.entry.first_sample ≤ k → k < r.end
      → last_where (λ e. nat_le e.first_sample k) entries ≡ Some r.entry

-- sample k is the first of the chunk of this number, by this entry of stsc
pub record BeginsChunk (e : StscEntry) (k number : ℕ) : Type 0 where
  pub some : 1 ≤ e.samples_per_chunk
  pub from : e.first_chunk ≤ number
  pub at : k ≡ e.first_sample + (number - e.first_chunk) * e.samples_per_chunk

-- What is left of a chunk from sample k on: where its samples lie; and if its entry is for more samples, they begin the
-- chunk after it.
pub record IsChunkRun (t : StblBox) (k : ℕ) (c : ChunkRun) : Type 0 where
  pub entry : IsForSamples t.stsc.entries c.run
  pub first : 0 < c.left → 1 ≤ k
  pub samples : (n : ℕ) → k ≤ n → n < k + c.left → located_at t n ≡ located_in_chunk t c.offset k n
  pub after : k + c.left < c.run.end → BeginsChunk c.run.entry (k + c.left) (c.number + 1)

-- What is left of a run of stts from sample k on, and when its samples are decoded; and what comes before the run after
-- it. No time passes 64 bits.
pub record IsTimeRun (runs : List SttsEntry) (k : ℕ) (r : TimeRun) : Type 0 where
  pub samples : (track j : ℕ) → j < r.left → time_at runs track (k + j) ≡ Ok (r.delta, r.start + j * r.delta)
  pub counted : r.next < length runs → k - 1 + r.left ≡ sum_by (λ r. r.sample_count) (take r.next runs)
  pub timed : r.next < length runs
      → r.start + r.left * r.delta ≡ sum_by (λ r. r.sample_count * r.sample_delta) (take r.next runs)
  pub fits : r.start ≤ (k - 1) * (2 ^ 32 - 1)
  pub short : r.delta < 2 ^ 32

-- what is left of a run of ctts, or of the samples past all runs, and how much later its samples are shown than decoded
pub record IsOffsetRun (runs : List CttsEntry) (k : ℕ) (r : OffsetRun) : Type 0 where
  pub samples : (j : ℕ) → j < r.left → get_or (rendering_offsets runs) (k + j - 1) (pos 0) ≡ r.offset
  pub counted : r.next < length runs → k - 1 + r.left ≡ sum_by (λ r. r.sample_count) (take r.next runs)

-- samples from k on, none of them but the last a number of stss; those before the next number are at most the last
pub record IsSyncGap (numbers : List ℕ) (k : ℕ) (g : SyncGap) : Type 0 where
  pub samples : (n : ℕ) → 1 ≤ n → k ≤ n → n ≤ g.end → n < 2 ^ 32 → list_any (λ m. m == n) numbers ≡ (n == g.end)
  pub earlier : (i : ℕ) → i < g.next → i < length numbers → slice_index numbers i ≤ g.end

-- a walk is before sample k in each of these tables
pub record AreIn (t : StblBox) (k : ℕ) (p : Position) : Type 0 where
  pub chunk : IsChunkRun t k p.chunk
  pub times : IsTimeRun t.stts.entries k p.time
  pub offsets : IsOffsetRun (ctts_runs t.ctts) k p.rendering
  pub sync : IsSyncGap (sync_numbers t.stss) k p.sync
