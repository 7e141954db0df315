-- Where chunks lie, in 64 bits (ISO/IEC 14496-12, 8.7.5).
use Rattle.std.specs.Prelude.{ℕ, ◌^◌, ◌<◌, List, [], Result, Ok}
use Rattle.mp4_codec.specs.Cause.{Cause, ◌>>=◌}
use Rattle.mp4_codec.specs.Bytes.{number_at, number}
use Rattle.mp4_table.specs.declared.co64.Co64Box.{Co64Box}
use Rattle.mp4_table.specs.Table.{table_of, table, IsInRangeTable}
use Rattle.mp4_codec.specs.Boxes.{IsCanonical, no_refusal}

-- the table of a payload
unfoldable pub co64_of : List ℕ → Result Co64Box Cause
co64_of payload = do
  table ← table_of (λ _. number_at 8) payload
  Ok (record { version = table.0; flags = table.1; entries = table.2 })

-- the payload of a table
unfoldable pub co64_payload : Co64Box → List ℕ
co64_payload b = table (λ _. number 8) b.version b.flags b.entries

-- each number is within its type
abbrev pub IsInRangeCo64 : Co64Box → Type 0
IsInRangeCo64 b = IsInRangeTable (λ n. n < 2 ^ 64) b.version b.entries

-- flags have 24 bits
abbrev pub IsWellFormedCo64 : Co64Box → Type 0
IsWellFormedCo64 b = b.flags < 2 ^ 24

-- a table that is written and reads back equal
abbrev pub IsCanonicalCo64 : Co64Box → Type 0
IsCanonicalCo64 = IsCanonical IsInRangeCo64 IsWellFormedCo64 co64_payload no_refusal

abbrev pub default_co64 : Co64Box
default_co64 = record { version = 0; flags = 0; entries = [] }
