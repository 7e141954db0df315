-- How many samples each chunk has: runs of chunks that have equally many (ISO/IEC 14496-12, 8.7.4).
use Rattle.std.specs.Prelude.{◌≡◌, ℕ, ◌+◌, ◌-◌, ◌*◌, ◌^◌, ◌<◌, ◌≤◌, List, [], ◌∷◌, length, take, drop, slice_index_or}
use Rattle.std.specs.Prelude.{Option, Some, None, Result, Ok, Err, nat_lt, if◌then◌else◌}
use Rattle.std.specs.List.{AllAdjacentBelow}
use Rattle.mp4_codec.specs.Cause.{Cause, invalid_data, ◌>>=◌, fault_of}
use Rattle.mp4_codec.specs.Bytes.{Reader, list_at, number, ◌⧺◌}
use Rattle.mp4_codec.specs.Blocks.{block_at, big_number}
use Rattle.mp4_table.specs.declared.stsc.StscEntry.{StscEntry}
use Rattle.mp4_table.specs.declared.stsc.StscBox.{StscBox}
use Rattle.mp4_table.specs.Table.{table_of, table, IsInRangeTable}
use Rattle.mp4_codec.specs.Boxes.{IsCanonical, no_refusal}

-- the entry with this first sample
abbrev pub with_first_sample : ℕ → StscEntry → StscEntry
with_first_sample n e =
    record {
      first_chunk = e.first_chunk;
      samples_per_chunk = e.samples_per_chunk;
      sample_description_index =
          e.sample_description_index;
      first_sample = n;
    }

-- a run, by its twelve bytes: its first chunk, how many samples each chunk has, and their description; the first sample
-- is not stored
abbrev pub stsc_entry_in : List ℕ → StscEntry
stsc_entry_in block = record {
  first_chunk = big_number 4 (take 4 block);
  samples_per_chunk = big_number 4 (take 4 (drop 4 block));
  sample_description_index = big_number 4 (drop 8 block);
  first_sample = 0;
}

abbrev pub stsc_entry_at : Reader StscEntry
stsc_entry_at = block_at 12 stsc_entry_in

unfoldable pub stsc_entry : StscEntry → List ℕ
stsc_entry e = number 4 e.first_chunk ⧺ number 4 e.samples_per_chunk ⧺ number 4 e.sample_description_index

pub record IsInRangeStscEntry (e : StscEntry) : Type 0 where
  pub first_chunk : e.first_chunk < 2 ^ 32
  pub samples_per_chunk : e.samples_per_chunk < 2 ^ 32
  pub sample_description_index : e.sample_description_index < 2 ^ 32
  pub first_sample : e.first_sample < 2 ^ 32

-- an entry as it is stored
pub record FitsStoredEntry (e : StscEntry) : Type 0 where
  pub fits : IsInRangeStscEntry e
  pub no_first_sample : e.first_sample ≡ 0

-- the number of a sample, if it fits its field
abbrev pub sample_number : ℕ → Result ℕ Cause
sample_number n = if nat_lt (2 ^ 32 - 1) n then Err invalid_data else Ok n

-- The number of the first sample of a run that begins at this chunk: 1, or that of the run before it and all samples of
-- the chunks between.
unfoldable pub first_sample_after : Option StscEntry → ℕ → Result ℕ Cause
first_sample_after None first_chunk = Ok 1
first_sample_after (Some before) first_chunk =
    if nat_lt first_chunk before.first_chunk then Err invalid_data else
    sample_number (before.first_sample + (first_chunk - before.first_chunk) * before.samples_per_chunk)

-- the entries, each with its first sample, after the entry before them
unfoldable pub numbered_after : Option StscEntry → List StscEntry → Result (List StscEntry) Cause
numbered_after before [] = Ok []
numbered_after before (e ∷ es) = do
  first_sample ← first_sample_after before e.first_chunk
  others ← numbered_after (Some (with_first_sample first_sample e)) es
  Ok (with_first_sample first_sample e ∷ others)

-- why so many runs are refused after the run before them: they pass the end, or one of them can't be numbered
abbrev pub runs_fault : Option StscEntry → ℕ → List ℕ → Option Cause
runs_fault before count bytes = fault_of (list_at stsc_entry_at count bytes >>= λ runs. numbered_after before runs.0)

-- the table of a payload
unfoldable pub stsc_of : List ℕ → Result StscBox Cause
stsc_of payload = do
  table ← table_of (λ _. stsc_entry_at) payload
  entries ← numbered_after None table.2
  Ok (record { version = table.0; flags = table.1; entries = entries })

-- the payload of a table
unfoldable pub stsc_payload : StscBox → List ℕ
stsc_payload b = table (λ _. stsc_entry) b.version b.flags b.entries

-- First chunks do not fall. The first entry's first sample is 1, and each next one is the one before and all samples of
-- the chunks between.
pub record HasFirstSamples (entries : List StscEntry) : Type 0 where
  pub first : (d : StscEntry) → 0 < length entries → (slice_index_or entries 0 d).first_sample ≡ 1
  pub chunks : AllAdjacentBelow (λ a b. a.first_chunk ≤ b.first_chunk) entries (length entries)
  pub next : AllAdjacentBelow (λ a b. b.first_sample ≡ a.first_sample
      + (b.first_chunk - a.first_chunk) * a.samples_per_chunk) entries (length entries)

-- each number is within its type
abbrev pub IsInRangeStsc : StscBox → Type 0
IsInRangeStsc b = IsInRangeTable IsInRangeStscEntry b.version b.entries

-- flags have 24 bits, and the entries have the first samples that reading finds
pub record IsWellFormedStsc (b : StscBox) : Type 0 where
  pub flags : b.flags < 2 ^ 24
  pub first_samples : HasFirstSamples b.entries

-- a table that is written and reads back equal
abbrev pub IsCanonicalStsc : StscBox → Type 0
IsCanonicalStsc = IsCanonical IsInRangeStsc IsWellFormedStsc stsc_payload no_refusal

abbrev pub default_stsc : StscBox
default_stsc = record { version = 0; flags = 0; entries = [] }
