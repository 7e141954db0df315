-- Parts of the bytes that a caller gives.
use Rattle.std.specs.Prelude.{ℕ, ◌+◌, List, length, take, drop, Option, Some, None, nat_lt, if◌then◌else◌}
use Rattle.mp4_codec.specs.Cause.{Cause, end_of_data}

-- the bytes at a place of the source
abbrev pub part_at : List ℕ → ℕ → ℕ → List ℕ
part_at source offset size = take size (drop offset source)

-- why they aren't had: the source ends before they do
abbrev pub part_fault : List ℕ → ℕ → ℕ → Option Cause
part_fault source offset size = if nat_lt (length source) (offset + size) then Some end_of_data else None
