-- The columns of rows that are all there are those of the rows that are read one after the other.
use Rattle.std.proofs.Common.{◌≡◌, ℕ, zero, suc, ◌+◌, ◌*◌, ◌≤◌, Bool, true, false, cond, ltb, List, [], ◌∷◌}
use Rattle.std.proofs.Common.{length, take, drop, Option, Some, None, Result, Ok, refl, arith, suc-mul}
use Rattle.std.specs.List.{filter_map}
use Rattle.std.proofs.lemmas.Bool.{ltb-false}
use Rattle.std.proofs.lemmas.List.{length-drop, drop-drop}
use Rattle.mp4_codec.specs.Cause.{Cause, invalid_data, ◌>>=◌}
use Rattle.mp4_codec.specs.Bytes.{number_at, list_at, count_cause}
use Rattle.mp4_codec.specs.Blocks.{big_number, number-is_block, is_block-reads}
use Rattle.mp4_moof.specs.declared.rows.Row.{Row}
use Rattle.mp4_moof.specs.Optional.{is_set, optional_at}
use Rattle.mp4_moof.specs.Rows.{row_at, field_length, row_length, columns_at}
use Rattle.mp4_moof.specs.RowColumns.{size_place, flags_place, cts_place, numbers_at, column, columns_in}

-- a number of the row at the front of the bytes
abbrev field_in : ℕ → ℕ → ℕ → List ℕ → Option ℕ
field_in flag flags place bytes = cond (is_set flags flag) (Some (big_number 4 (take 4 (drop place bytes)))) None

field_at : (flag flags place : ℕ) (bytes : List ℕ) → place + field_length flag flags ≤ length bytes
    → optional_at (number_at 4) flag flags (drop place bytes)
    ≡ Ok (field_in flag flags place bytes, drop (place + field_length flag flags) bytes)
unfolding optional_at
field_at flag flags place bytes = chosen (is_set flags flag)
  where
    chosen : (b : Bool) → place + cond b 4 0 ≤ length bytes
        → cond {A = Result (Option ℕ × List ℕ) Cause} b (number_at 4 (drop place bytes) >>= λ x. Ok (Some x.0, x.1))
        (Ok (None, drop place bytes))
        ≡ Ok (cond b (Some (big_number 4 (take 4 (drop place bytes)))) None, drop (place + cond b 4 0) bytes)
    chosen true enough =
        rw (
          is_block-reads (number_at 4) 4 (big_number 4) (number-is_block 4) (drop place bytes)
              (omega (arith, length-drop place bytes)),
          drop-drop 4 place bytes,
        ) refl
    chosen false enough = let same : place + 0 ≡ place = omega arith in rw same refl

-- the row at the front of the bytes
abbrev row_in : ℕ → List ℕ → Row
row_in flags bytes = record {
  duration = field_in 0x100 flags 0 bytes;
  size = field_in 0x200 flags (size_place flags) bytes;
  flags = field_in 0x400 flags (flags_place flags) bytes;
  cts = field_in 0x800 flags (cts_place flags) bytes;
}

row_at-front : (flags : ℕ) (bytes : List ℕ) → row_length flags ≤ length bytes
    → row_at flags bytes ≡ Ok (row_in flags bytes, drop (row_length flags) bytes)
unfolding row_at row_length
row_at-front flags bytes enough =
    let none : 0 + field_length 0x100 flags ≡ field_length 0x100 flags = omega arith in
    let first : optional_at (number_at 4) 0x100 flags bytes
    ≡ Ok (field_in 0x100 flags 0 bytes, drop (field_length 0x100 flags) bytes) =
    rw none at (field_at 0x100 flags 0 bytes (omega arith)) in
    rw (
      first,
      field_at 0x200 flags (size_place flags) bytes (omega arith),
      field_at 0x400 flags (flags_place flags) bytes (omega arith),
      field_at 0x800 flags (cts_place flags) bytes (omega arith),
    ) refl

rows_in : ℕ → ℕ → List ℕ → List Row
rows_in flags zero bytes = []
rows_in flags (suc n) bytes = row_in flags bytes ∷ rows_in flags n (drop (row_length flags) bytes)

list_at-rows : (flags count : ℕ) (bytes : List ℕ) → count * row_length flags ≤ length bytes
    → list_at (row_at flags) count bytes ≡ Ok (rows_in flags count bytes, drop (count * row_length flags) bytes)
unfolding list_at rows_in
list_at-rows flags zero bytes enough = let none : 0 * row_length flags ≡ 0 = omega arith in rw none refl
list_at-rows flags (suc n) bytes enough =
    let each : ℕ = row_length flags in
    let here : each ≤ length bytes = omega (arith, suc-mul n each) in
    let more : n * each ≤ length (drop each bytes) = omega (arith, suc-mul n each, length-drop each bytes) in
    let all : each + n * each ≡ suc n * each = omega (arith, suc-mul n each) in
    rw (
      row_at-front flags bytes here,
      list_at-rows flags n (drop each bytes) more,
      drop-drop (n * each) each bytes,
      all,
    ) refl

-- the numbers of a column are those of the rows
module _ (flag flags place : ℕ) (get : Row → Option ℕ)
    (same : (bytes : List ℕ) → get (row_in flags bytes) ≡ field_in flag flags place bytes) where
  column-set : is_set flags flag ≡ true → (count : ℕ) (bytes : List ℕ)
      → filter_map get (rows_in flags count bytes) ≡ numbers_at place (row_length flags) count bytes
  unfolding rows_in numbers_at
  column-set e zero bytes = refl
  column-set e (suc n) bytes =
      rw (same bytes, e, column-set e n (drop (row_length flags) bytes)) refl

  column-unset : is_set flags flag ≡ false → (count : ℕ) (bytes : List ℕ)
      → filter_map get (rows_in flags count bytes) ≡ []
  unfolding rows_in
  column-unset e zero bytes = refl
  column-unset e (suc n) bytes = rw (same bytes, e, column-unset e n (drop (row_length flags) bytes)) refl

  column-of_rows : (count : ℕ) (bytes : List ℕ)
      → filter_map get (rows_in flags count bytes) ≡ column flag flags place (row_length flags) count bytes
  unfolding column
  column-of_rows count bytes = chosen (is_set flags flag) refl
    where
      chosen : (b : Bool) → is_set flags flag ≡ b → filter_map get (rows_in flags count bytes)
          ≡ cond b (numbers_at place (row_length flags) count bytes) []
      chosen true e = column-set e count bytes
      chosen false e = column-unset e count bytes

pub columns_at-rows : (flags count : ℕ) (bytes : List ℕ) → count * row_length flags ≤ length bytes
    → columns_at flags count bytes ≡ Ok (columns_in flags count bytes, drop (count * row_length flags) bytes)
unfolding columns_at
columns_at-rows flags count bytes enough =
    rw (
      list_at-rows flags count bytes enough,
      column-of_rows 0x100 flags 0 (λ (r : Row). r.duration) (λ bytes. refl) count bytes,
      column-of_rows 0x200 flags (size_place flags) (λ (r : Row). r.size) (λ bytes. refl) count bytes,
      column-of_rows 0x400 flags (flags_place flags) (λ (r : Row). r.flags) (λ bytes. refl) count bytes,
      column-of_rows 0x800 flags (cts_place flags) (λ (r : Row). r.cts) (λ bytes. refl) count bytes,
    ) refl

-- what has no such refusal doesn't pass the end
pub count_cause-fits : (count n : ℕ) (bytes : List ℕ) → count_cause count n bytes ≡ None → count * n ≤ length bytes
count_cause-fits count n bytes e = chosen (ltb (length bytes) (count * n)) (ltb-false (length bytes) (count * n)) e
  where
    chosen : (b : Bool) → (b ≡ false → count * n ≤ length bytes) → cond b (Some invalid_data) None ≡ None
        → count * n ≤ length bytes
    chosen true fits e = absurd cc
    chosen false fits e = fits refl
