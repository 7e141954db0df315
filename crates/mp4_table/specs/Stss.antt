-- Which samples are sync samples (ISO/IEC 14496-12, 8.6.2).
use Rattle.std.specs.Prelude.{ℕ, ◌^◌, ◌<◌, List, [], Result, Ok}
use Rattle.mp4_codec.specs.Cause.{Cause, ◌>>=◌}
use Rattle.mp4_codec.specs.Bytes.{number_at, number}
use Rattle.mp4_table.specs.declared.stss.StssBox.{StssBox}
use Rattle.mp4_table.specs.Table.{table_of, table, IsInRangeTable}
use Rattle.mp4_codec.specs.Boxes.{IsCanonical, no_refusal}

-- the table of a payload
unfoldable pub stss_of : List ℕ → Result StssBox Cause
stss_of payload = do
  table ← table_of (λ _. number_at 4) payload
  Ok (record { version = table.0; flags = table.1; entries = table.2 })

-- the payload of a table
unfoldable pub stss_payload : StssBox → List ℕ
stss_payload b = table (λ _. number 4) b.version b.flags b.entries

-- each number is within its type
abbrev pub IsInRangeStss : StssBox → Type 0
IsInRangeStss b = IsInRangeTable (λ n. n < 2 ^ 32) b.version b.entries

-- flags have 24 bits
abbrev pub IsWellFormedStss : StssBox → Type 0
IsWellFormedStss b = b.flags < 2 ^ 24

-- a table that is written and reads back equal
abbrev pub IsCanonicalStss : StssBox → Type 0
IsCanonicalStss = IsCanonical IsInRangeStss IsWellFormedStss stss_payload no_refusal

abbrev pub default_stss : StssBox
default_stss = record { version = 0; flags = 0; entries = [] }
