-- What most tables of a track are: version and flags, a count, and so many entries (ISO/IEC 14496-12, 8.6 and 8.7).
use Rattle.std.specs.Prelude.{ℕ, ◌^◌, ◌<◌, List, length, Result, Ok}
use Rattle.std.specs.List.{flat_map, AllByRecursion}
use Rattle.mp4_codec.specs.Cause.{Cause, ◌>>=◌}
use Rattle.mp4_codec.specs.Bytes.{Reader, number_at, list_at, number, ◌⧺◌}

-- the version, the flags and the entries of a payload
unfoldable pub table_of : {A : Type 0} → (ℕ → Reader A) → List ℕ → Result (ℕ × ℕ × List A) Cause
table_of entry_at payload = do
  version ← number_at 1 payload
  flags ← number_at 3 version.1
  count ← number_at 4 flags.1
  entries ← list_at (entry_at version.0) count.0 count.1
  Ok (version.0, flags.0, entries.0)

-- the payload of a table
unfoldable pub table : {A : Type 0} → (ℕ → A → List ℕ) → ℕ → ℕ → List A → List ℕ
table encoded version flags entries =
    number 1 version ⧺ number 3 flags ⧺ number 4 (length entries) ⧺ flat_map (encoded version) entries

-- each number of a table is within its type
pub record IsInRangeTable {A : Type 0} (IsInRangeEntry : A → Type 0) (version : ℕ) (entries : List A) : Type 0 where
  pub version_fits : version < 2 ^ 8
  pub entries_fit : AllByRecursion IsInRangeEntry entries
