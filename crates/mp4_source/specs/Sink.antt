-- What a sink of bytes answers.
use Rattle.std.specs.Prelude.{◌≡◌, ℕ, ◌+◌, ◌≤◌, Bool, IsTrue, List, ◌++◌, length, take, drop, Option, Some, None, ⊤}
use Rattle.mp4_source.specs.declared.sink_error.SinkError.{SinkError}
use Rattle.mp4_source.specs.declared.sink_error.SinkError.TheVariants.{OutOfMemory, Io}

-- what writes and seeks as a sink: how many bytes the sink holds, and how many of these wait to be written
pub record BufferedSink (W : Type 0) : Type 0 where
  pub inner : W
  pub len : ℕ
  pub waiting : ℕ

-- nothing is written
abbrev pub IsKept : Option (List ℕ) → Option (List ℕ) → Type 0
IsKept before after = after ≡ before

-- where the bytes are known, these are after them; what isn't known stays so
abbrev pub IsAppended : Option (List ℕ) → Option (List ℕ) → List ℕ → Type 0
IsAppended None after bytes = after ≡ None
IsAppended (Some xs) after bytes = after ≡ Some (xs ++ bytes)

-- bytes in which these are over those from the place on
abbrev pub overwritten : List ℕ → ℕ → List ℕ → List ℕ
overwritten xs place bytes = take place xs ++ (bytes ++ drop (place + length bytes) xs)

-- where the bytes are known, these are over those from the place on; what isn't known stays so
abbrev pub IsOverwritten : Option (List ℕ) → Option (List ℕ) → ℕ → List ℕ → Type 0
IsOverwritten None after place bytes = after ≡ None
IsOverwritten (Some xs) after place bytes = after ≡ Some (overwritten xs place bytes)

-- Bytes aren't appended: where memory is refused, none of them are; where a sink refuses that can, the first k
-- may be.
abbrev pub AppendFails : SinkError → Bool → Option (List ℕ) → Option (List ℕ) → List ℕ → Type 0
AppendFails OutOfMemory can_refuse before after bytes = IsKept before after
AppendFails (Io e) can_refuse before after bytes =
    IsTrue can_refuse × ((k : ℕ) × IsAppended before after (take k bytes))

-- Bytes aren't overwritten: where they pass the end of so many, none of them are; where a sink refuses that can, the
-- first k may be.
pub record OverwriteFails (len : ℕ) (can_refuse : Bool) (before after : Option (List ℕ)) (place : ℕ) (bytes : List ℕ)
    : Type 0 where
  pub past : (place + length bytes ≤ len → ⊥) → IsKept before after
  pub within : place + length bytes ≤ len
      → IsTrue can_refuse × ((k : ℕ) × IsOverwritten before after place (take k bytes))

-- where memory is refused, a count of a sink's bytes is as before
abbrev pub IsCountKept : SinkError → ℕ → ℕ → Type 0
IsCountKept OutOfMemory before after = after ≡ before
IsCountKept (Io e) before after = ⊤

-- an error of the sink, and none of memory
abbrev pub IsSinkIo : SinkError → Type 0
IsSinkIo OutOfMemory = ⊥
IsSinkIo (Io e) = ⊤
