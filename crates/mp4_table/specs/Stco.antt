-- Where chunks lie, in 32 bits (ISO/IEC 14496-12, 8.7.5).
use Rattle.std.specs.Prelude.{ℕ, ◌-◌, ◌^◌, ◌<◌, List, [], Option, Some, None, Result, Ok, nat_lt, if◌then◌else◌}
use Rattle.std.specs.List.{list_any}
use Rattle.mp4_codec.specs.Cause.{Cause, invalid_data, ◌>>=◌}
use Rattle.mp4_codec.specs.Bytes.{number_at, number}
use Rattle.mp4_table.specs.declared.stco.StcoBox.{StcoBox}
use Rattle.mp4_table.specs.declared.co64.Co64Box.{Co64Box}
use Rattle.mp4_table.specs.Table.{table_of, table, IsInRangeTable}
use Rattle.mp4_codec.specs.Boxes.{IsCanonical, no_refusal}

-- the table of a payload
unfoldable pub stco_of : List ℕ → Result StcoBox Cause
stco_of payload = do
  table ← table_of (λ _. number_at 4) payload
  Ok (record { version = table.0; flags = table.1; entries = table.2 })

-- the payload of a table
unfoldable pub stco_payload : StcoBox → List ℕ
stco_payload b = table (λ _. number 4) b.version b.flags b.entries

-- each number is within its type
abbrev pub IsInRangeStco : StcoBox → Type 0
IsInRangeStco b = IsInRangeTable (λ n. n < 2 ^ 32) b.version b.entries

-- flags have 24 bits
abbrev pub IsWellFormedStco : StcoBox → Type 0
IsWellFormedStco b = b.flags < 2 ^ 24

-- a table that is written and reads back equal
abbrev pub IsCanonicalStco : StcoBox → Type 0
IsCanonicalStco = IsCanonical IsInRangeStco IsWellFormedStco stco_payload no_refusal

abbrev pub default_stco : StcoBox
default_stco = record { version = 0; flags = 0; entries = [] }

-- the table of the same offsets in 32 bits
abbrev pub narrowed : Co64Box → StcoBox
narrowed b = record { version = b.version; flags = b.flags; entries = b.entries }

-- an offset that passes 32 bits is in no such table
abbrev pub offsets_refusal : List ℕ → Option Cause
offsets_refusal offsets = if list_any (λ offset. nat_lt (2 ^ 32 - 1) offset) offsets then Some invalid_data else None

abbrev pub narrowed_refusal : Co64Box → Option Cause
narrowed_refusal b = offsets_refusal b.entries
