-- Tables that agree with each other, and the list of samples that they describe (ISO/IEC 14496-12, 8.6 and 8.7).
use Rattle.std.specs.Prelude.{◌≡◌, ℕ, zero, suc, ◌-◌, ◌^◌, ◌<◌, ◌≤◌, pos, List, length, get_or, map, sum, slice_get}
use Rattle.std.specs.Prelude.{Option, Some, None, IfSome, IsSomeAnd, Result, Ok, Err, nat_le, if◌then◌else◌}
use Rattle.std.specs.List.{range_with_len, All, AllPairs}
use Rattle.std.specs.List.Sorted.{IsStrictlyIncreasing}
use Rattle.mp4_codec.specs.Cause.{Cause, invalid_data}
use Rattle.mp4_table.specs.Runs.{durations, rendering_offsets}
use Rattle.mp4_table.specs.Chunks.{counts, places}
use Rattle.mp4_table.specs.Starts.{start_of}
use Rattle.mp4_boxes.specs.declared.stbl.StblBox.{StblBox}
use Rattle.mp4_boxes.specs.Stbl.{sample_count}
use Rattle.mp4_samples.specs.declared.sample.Place.{Place}
use Rattle.mp4_samples.specs.Tables.{chunk_offsets, sizes, ctts_runs, sync_numbers, is_sync_at}

-- The tables describe the same samples, at least one. Chunks are numbered from 1, and each has at least one sample.
pub record Consistent (t : StblBox) : Type 0 where
  pub some_samples : 0 < sample_count t
  pub sizes_listed : length (sizes t.stsz (sample_count t)) ≡ sample_count t
  pub first_chunk : IsSomeAnd (slice_get t.stsc.entries 0) (λ e. e.first_chunk ≡ 1)
  pub rising : AllPairs (λ a b. a.first_chunk < b.first_chunk) t.stsc.entries
  pub last_chunk : All (λ e. e.first_chunk ≤ length (chunk_offsets t)) t.stsc.entries
  pub some_per_chunk : All (λ e. 1 ≤ e.samples_per_chunk) t.stsc.entries
  pub counted : sum (counts t.stsc.entries (length (chunk_offsets t))) ≡ sample_count t
  pub timed : length (durations t.stts.entries) ≡ sample_count t
  pub rendered : IfSome t.ctts (λ ctts. length (rendering_offsets ctts.entries) ≡ sample_count t)
  pub sync_rising : IsStrictlyIncreasing (sync_numbers t.stss)
  pub sync_within : All (λ n. (1 ≤ n) × (n ≤ sample_count t)) (sync_numbers t.stss)

-- place and size of each sample
abbrev pub sample_places : StblBox → List (ℕ × ℕ)
sample_places t =
    places (counts t.stsc.entries (length (chunk_offsets t))) (chunk_offsets t) (sizes t.stsz (sample_count t))

-- sample k, read off the tables written out
abbrev pub sample_place : StblBox → ℕ → Place
sample_place t k = record {
  offset = (get_or (sample_places t) (k - 1) (0, 0)).0;
  size = (get_or (sample_places t) (k - 1) (0, 0)).1;
  start_time = start_of (durations t.stts.entries) k;
  duration = get_or (durations t.stts.entries) (k - 1) 0;
  rendering_offset = get_or (rendering_offsets (ctts_runs t.ctts)) (k - 1) (pos 0);
  is_sync = is_sync_at t.stss k;
}

-- the samples in order
abbrev pub plain : StblBox → List Place
plain t = map (sample_place t) (range_with_len 1 (sample_count t))

-- no place is past 64 bits
abbrev pub within_file : Option Place → Result (Option Place) Cause
within_file None = Ok None
within_file (Some p) = if nat_le (2 ^ 64) p.offset then Err invalid_data else Ok (Some p)

-- what is answered at number k: samples are numbered from 1, and past the last there is none
unfoldable pub plain_at : StblBox → ℕ → Result (Option Place) Cause
plain_at t zero = Err invalid_data
plain_at t (suc k) = within_file (slice_get (plain t) k)
