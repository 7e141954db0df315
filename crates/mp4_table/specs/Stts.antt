-- How long samples last: runs of samples of one duration (ISO/IEC 14496-12, 8.6.1.2).
use Rattle.std.specs.Prelude.{ℕ, ◌^◌, ◌<◌, List, [], take, drop, Result, Ok}
use Rattle.mp4_codec.specs.Cause.{Cause, ◌>>=◌}
use Rattle.mp4_codec.specs.Bytes.{Reader, number, ◌⧺◌}
use Rattle.mp4_codec.specs.Blocks.{block_at, big_number}
use Rattle.mp4_table.specs.declared.stts.SttsEntry.{SttsEntry}
use Rattle.mp4_table.specs.declared.stts.SttsBox.{SttsBox}
use Rattle.mp4_table.specs.Table.{table_of, table, IsInRangeTable}
use Rattle.mp4_codec.specs.Boxes.{IsCanonical, no_refusal}

-- a run, by its eight bytes: how many samples there are, and how long each lasts
abbrev pub stts_entry_in : List ℕ → SttsEntry
stts_entry_in block = record {
  sample_count = big_number 4 (take 4 block);
  sample_delta = big_number 4 (drop 4 block);
}

abbrev pub stts_entry_at : Reader SttsEntry
stts_entry_at = block_at 8 stts_entry_in

unfoldable pub stts_entry : SttsEntry → List ℕ
stts_entry e = number 4 e.sample_count ⧺ number 4 e.sample_delta

pub record IsInRangeSttsEntry (e : SttsEntry) : Type 0 where
  pub sample_count : e.sample_count < 2 ^ 32
  pub sample_delta : e.sample_delta < 2 ^ 32

-- the table of a payload
unfoldable pub stts_of : List ℕ → Result SttsBox Cause
stts_of payload = do
  table ← table_of (λ _. stts_entry_at) payload
  Ok (record { version = table.0; flags = table.1; entries = table.2 })

-- the payload of a table
unfoldable pub stts_payload : SttsBox → List ℕ
stts_payload b = table (λ _. stts_entry) b.version b.flags b.entries

-- each number is within its type
abbrev pub IsInRangeStts : SttsBox → Type 0
IsInRangeStts b = IsInRangeTable IsInRangeSttsEntry b.version b.entries

-- flags have 24 bits
abbrev pub IsWellFormedStts : SttsBox → Type 0
IsWellFormedStts b = b.flags < 2 ^ 24

-- a table that is written and reads back equal
abbrev pub IsCanonicalStts : SttsBox → Type 0
IsCanonicalStts = IsCanonical IsInRangeStts IsWellFormedStts stts_payload no_refusal

abbrev pub default_stts : SttsBox
default_stts = record { version = 0; flags = 0; entries = [] }
