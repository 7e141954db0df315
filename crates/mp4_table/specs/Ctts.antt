-- How long after its decode time a sample is shown: runs of samples of one offset (ISO/IEC 14496-12, 8.6.1.3). Offsets
-- are signed, whatever the version.
use Rattle.std.specs.Prelude.{ℕ, ◌^◌, ◌<◌, List, [], take, drop, Result, Ok, FitsSigned}
use Rattle.std.specs.Int.{w32, cast_signed}
use Rattle.mp4_codec.specs.Cause.{Cause, ◌>>=◌}
use Rattle.mp4_codec.specs.Bytes.{Reader, number, int32, ◌⧺◌}
use Rattle.mp4_codec.specs.Blocks.{block_at, big_number}
use Rattle.mp4_table.specs.declared.ctts.CttsEntry.{CttsEntry}
use Rattle.mp4_table.specs.declared.ctts.CttsBox.{CttsBox}
use Rattle.mp4_table.specs.Table.{table_of, table, IsInRangeTable}
use Rattle.mp4_codec.specs.Boxes.{IsCanonical, no_refusal}

-- a run, by its eight bytes: how many samples there are, and the offset of each
abbrev pub ctts_entry_in : List ℕ → CttsEntry
ctts_entry_in block = record {
  sample_count = big_number 4 (take 4 block);
  sample_offset = cast_signed w32 (big_number 4 (drop 4 block));
}

abbrev pub ctts_entry_at : Reader CttsEntry
ctts_entry_at = block_at 8 ctts_entry_in

unfoldable pub ctts_entry : CttsEntry → List ℕ
ctts_entry e = number 4 e.sample_count ⧺ int32 e.sample_offset

pub record IsInRangeCttsEntry (e : CttsEntry) : Type 0 where
  pub sample_count : e.sample_count < 2 ^ 32
  pub sample_offset : FitsSigned w32 e.sample_offset

-- the table of a payload
unfoldable pub ctts_of : List ℕ → Result CttsBox Cause
ctts_of payload = do
  table ← table_of (λ _. ctts_entry_at) payload
  Ok (record { version = table.0; flags = table.1; entries = table.2 })

-- the payload of a table
unfoldable pub ctts_payload : CttsBox → List ℕ
ctts_payload b = table (λ _. ctts_entry) b.version b.flags b.entries

-- each number is within its type
abbrev pub IsInRangeCtts : CttsBox → Type 0
IsInRangeCtts b = IsInRangeTable IsInRangeCttsEntry b.version b.entries

-- flags have 24 bits
abbrev pub IsWellFormedCtts : CttsBox → Type 0
IsWellFormedCtts b = b.flags < 2 ^ 24

-- a table that is written and reads back equal
abbrev pub IsCanonicalCtts : CttsBox → Type 0
IsCanonicalCtts = IsCanonical IsInRangeCtts IsWellFormedCtts ctts_payload no_refusal

abbrev pub default_ctts : CttsBox
default_ctts = record { version = 0; flags = 0; entries = [] }
