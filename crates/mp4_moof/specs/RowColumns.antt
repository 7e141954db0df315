-- The columns of rows that are all there, each by itself: where a number of a row lies, and the numbers of a column.
use Rattle.std.specs.Prelude.{ℕ, zero, suc, ◌+◌, List, [], ◌∷◌, take, drop, if◌then◌else◌}
use Rattle.mp4_codec.specs.Blocks.{big_number}
use Rattle.mp4_moof.specs.Optional.{is_set}
use Rattle.mp4_moof.specs.Rows.{field_length, row_length}
use Rattle.mp4_moof.specs.declared.rows.Columns.{Columns}

-- where the sizes, the flags and the composition offsets lie in a row; the durations lie at 0
abbrev pub size_place : ℕ → ℕ
size_place flags = field_length 0x100 flags

abbrev pub flags_place : ℕ → ℕ
flags_place flags = field_length 0x100 flags + field_length 0x200 flags

abbrev pub cts_place : ℕ → ℕ
cts_place flags = field_length 0x100 flags + field_length 0x200 flags + field_length 0x400 flags

-- the number at a place of each of so many rows of this many bytes
unfoldable pub numbers_at : ℕ → ℕ → ℕ → List ℕ → List ℕ
numbers_at place each zero rows = []
numbers_at place each (suc n) rows = big_number 4 (take 4 (drop place rows)) ∷ numbers_at place each n (drop each rows)

-- these where the column's flag is set, else none
unfoldable pub column : ℕ → ℕ → ℕ → ℕ → ℕ → List ℕ → List ℕ
column flag flags place each count rows = if is_set flags flag then numbers_at place each count rows else []

-- the columns of so many rows
abbrev pub columns_in : ℕ → ℕ → List ℕ → Columns
columns_in flags count rows = record {
  durations = column 0x100 flags 0 (row_length flags) count rows;
  sizes = column 0x200 flags (size_place flags) (row_length flags) count rows;
  flags = column 0x400 flags (flags_place flags) (row_length flags) count rows;
  cts = column 0x800 flags (cts_place flags) (row_length flags) count rows;
}
