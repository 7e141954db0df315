-- The lookup of one sample, step by step, in tables that need not agree with each other (ISO/IEC 14496-12, 8.6, 8.7).
use Rattle.std.specs.Prelude.{ℕ, ◌+◌, ◌-◌, ◌/◌, ◌%◌, ◌^◌, pos, List, get_or, sum, slice_get, slice_range}
use Rattle.std.specs.Prelude.{Option, Some, None, Result, Ok, Err, nat_le, ◌==◌, if◌then◌else◌}
use Rattle.mp4_codec.specs.Cause.{Cause, invalid_data, entry_in_stbl_not_found, ◌>>=◌}
use Rattle.mp4_codec.specs.declared.box_type.BoxType.TheVariants.{SttsBox as stts}
use Rattle.mp4_table.specs.declared.stsc.StscEntry.{StscEntry}
use Rattle.mp4_table.specs.declared.stts.SttsEntry.{SttsEntry}
use Rattle.mp4_table.specs.Runs.{durations, rendering_offsets}
use Rattle.mp4_table.specs.Chunks.{last_where}
use Rattle.mp4_table.specs.Starts.{start_of}
use Rattle.mp4_boxes.specs.declared.stbl.StblBox.{StblBox}
use Rattle.mp4_samples.specs.declared.sample.Place.{Place}
use Rattle.mp4_samples.specs.Tables.{chunk_offsets, sizes, ctts_runs, is_sync_at}

-- where something isn't there, there is no sample
abbrev pub if_there : {A B : Type 0} → Option A → (A → Result (Option B) Cause) → Result (Option B) Cause
if_there None f = Ok None
if_there (Some x) f = f x

-- an entry whose chunks have samples
abbrev pub usable : Option StscEntry → Result StscEntry Cause
usable None = Err invalid_data
usable (Some e) = if e.samples_per_chunk == 0 then Err invalid_data else Ok e

-- the entry of sample k: the last whose first sample is at most k
unfoldable pub entry_for : List StscEntry → ℕ → Result StscEntry Cause
entry_for entries k =
    if k == 0 then Err invalid_data else usable (last_where (λ e. nat_le e.first_sample k) entries)

-- a chunk has a number of 32 bits, and not 0
abbrev pub chunk_number : ℕ → Result ℕ Cause
chunk_number c = if c == 0 then Err invalid_data else (if nat_le (2 ^ 32) c then Err invalid_data else Ok c)

-- the chunk of sample k
unfoldable pub chunk_for : StscEntry → ℕ → Result ℕ Cause
chunk_for e k = chunk_number (e.first_chunk + (k - e.first_sample) / e.samples_per_chunk)

-- the number of the first sample of that chunk
abbrev pub first_in_chunk : StscEntry → ℕ → ℕ
first_in_chunk e k = k - (k - e.first_sample) % e.samples_per_chunk

-- a place of at most 64 bits
abbrev pub within_64_bits : ℕ → Result ℕ Cause
within_64_bits n = if nat_le (2 ^ 64) n then Err invalid_data else Ok n

abbrev pub timed : ℕ → ℕ → Option ℕ → ℕ → Result (ℕ × ℕ) Cause
timed track k None start = Err (entry_in_stbl_not_found track stts k)
timed track k (Some duration) start = Ok (duration, start)

-- Duration and start of sample k. No start passes 64 bits: fewer than 2 ^ 32 durations of 32 bits come before it.
unfoldable pub time_at : List SttsEntry → ℕ → ℕ → Result (ℕ × ℕ) Cause
time_at runs track k = timed track k (slice_get (durations runs) (k - 1)) (start_of (durations runs) k)

-- where sample k lies, and its size, in a chunk that begins there with this sample: after the samples between them; a
-- size that isn't there is no sample
abbrev pub located_in_chunk : StblBox → ℕ → ℕ → ℕ → Result (Option (ℕ × ℕ)) Cause
located_in_chunk t chunk_offset first k =
    if_there (slice_get (sizes t.stsz k) (k - 1)) (λ size. do
      offset ← within_64_bits (chunk_offset + sum (slice_range (sizes t.stsz k) (first - 1) (k - 1)))
      Ok (Some (offset, size)))

-- the same by its entry of stsc; a chunk that isn't there is no sample
abbrev pub located_by : StblBox → StscEntry → ℕ → Result (Option (ℕ × ℕ)) Cause
located_by t entry k = do
  chunk ← chunk_for entry k
  if_there (slice_get (chunk_offsets t) (chunk - 1)) (λ chunk_offset.
      located_in_chunk t chunk_offset (first_in_chunk entry k) k)

-- the same, by its number alone
unfoldable pub located_at : StblBox → ℕ → Result (Option (ℕ × ℕ)) Cause
located_at t k = do
  entry ← entry_for t.stsc.entries k
  located_by t entry k

-- what is answered at number k of a track
unfoldable pub rule : StblBox → ℕ → ℕ → Result (Option Place) Cause
rule t track k = do
  located ← located_at t k
  if_there located (λ found. do
    time ← time_at t.stts.entries track k
    Ok (Some (record {
      offset = found.0;
      size = found.1;
      start_time = time.1;
      duration = time.0;
      rendering_offset = get_or (rendering_offsets (ctts_runs t.ctts)) (k - 1) (pos 0);
      is_sync = is_sync_at t.stss k;
    })))
