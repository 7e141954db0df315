-- What a run says of its samples one by one (ISO/IEC 14496-12, 8.8.8): a row of numbers for each sample, kept as a
-- column for each kind of number.
use Rattle.std.specs.Prelude.{ℕ, zero, suc, ◌+◌, List, [], ◌∷◌, ◌++◌, length, slice_get, max, Option, Some, None}
use Rattle.std.specs.Prelude.{Result, Ok, ◌==◌, if◌then◌else◌}
use Rattle.std.specs.List.{filter_map}
use Rattle.std.specs.Option.{option_to_list}
use Rattle.mp4_codec.specs.Cause.{Cause, invalid_data, ◌>>=◌}
use Rattle.mp4_codec.specs.Bytes.{Reader, number_at, number, list_at, ◌⧺◌}
use Rattle.mp4_moof.specs.Optional.{is_set, optional_at, optional_field}
use Rattle.mp4_moof.specs.declared.rows.Row.{Row}
use Rattle.mp4_moof.specs.declared.rows.Columns.{Columns}

-- the next row: each number whose flag is set
unfoldable pub row_at : ℕ → Reader Row
row_at flags bytes = do
  duration ← optional_at (number_at 4) 0x100 flags bytes
  size ← optional_at (number_at 4) 0x200 flags duration.1
  sample_flags ← optional_at (number_at 4) 0x400 flags size.1
  cts ← optional_at (number_at 4) 0x800 flags sample_flags.1
  Ok (record { duration = duration.0; size = size.0; flags = sample_flags.0; cts = cts.0 }, cts.1)

-- the bytes of a row: each number that is there
unfoldable pub row : Row → List ℕ
row r =
    optional_field (number 4) r.duration
    ⧺ optional_field (number 4) r.size
    ⧺ optional_field (number 4) r.flags
    ⧺ optional_field (number 4) r.cts

-- how many bytes a number takes
abbrev pub field_length : ℕ → ℕ → ℕ
field_length flag flags = if is_set flags flag then 4 else 0

-- how many bytes a row takes
unfoldable pub row_length : ℕ → ℕ
row_length flags =
    field_length 0x100 flags + field_length 0x200 flags + field_length 0x400 flags + field_length 0x800 flags

-- columns, with the numbers of one row more
abbrev pub with_row : Columns → Row → Columns
with_row c r = record {
  durations = c.durations ++ option_to_list r.duration;
  sizes = c.sizes ++ option_to_list r.size;
  flags = c.flags ++ option_to_list r.flags;
  cts = c.cts ++ option_to_list r.cts;
}

-- columns, with the numbers of more rows
abbrev pub with_rows : Columns → List Row → Columns
with_rows c rs = record {
  durations = c.durations ++ filter_map (λ (r : Row). r.duration) rs;
  sizes = c.sizes ++ filter_map (λ (r : Row). r.size) rs;
  flags = c.flags ++ filter_map (λ (r : Row). r.flags) rs;
  cts = c.cts ++ filter_map (λ (r : Row). r.cts) rs;
}

abbrev pub no_columns : Columns
no_columns = record { durations = []; sizes = []; flags = []; cts = [] }

-- columns, with the rows that are read
abbrev pub columns_after : Columns → Result (List Row × List ℕ) Cause → Result (Columns × List ℕ) Cause
columns_after c read = read >>= λ x. Ok (with_rows c x.0, x.1)

-- the columns of so many rows
unfoldable pub columns_at : ℕ → ℕ → Reader Columns
columns_at flags count bytes = columns_after no_columns (list_at (row_at flags) count bytes)

-- row k of columns, counted from 0: what each has there
abbrev pub row_of : Columns → ℕ → Row
row_of c k = record {
  duration = slice_get c.durations k;
  size = slice_get c.sizes k;
  flags = slice_get c.flags k;
  cts = slice_get c.cts k;
}

-- the first n rows of columns
unfoldable pub rows : Columns → ℕ → List Row
rows c zero = []
rows c (suc n) = rows c n ++ row_of c n ∷ []

-- how many numbers the longest column has
abbrev pub longest : Columns → ℕ
longest c = max (max (max (length c.durations) (length c.sizes)) (length c.flags)) (length c.cts)

-- how many numbers a column has: one for each sample where its flag is set
abbrev pub listed : ℕ → ℕ → ℕ → ℕ
listed flag flags count = if is_set flags flag then count else 0

-- a column that has too many numbers or too few is not written
unfoldable pub column_refusal : ℕ → ℕ → ℕ → List ℕ → Option Cause
column_refusal flag flags count xs = if length xs == listed flag flags count then None else Some invalid_data
