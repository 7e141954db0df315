-- A table is read as it was written, and its length is that of its entries and eight bytes more.
use Rattle.std.proofs.Common.{◌≡◌, ℕ, suc, ◌+◌, ◌*◌, ◌^◌, ◌<◌, List, length, None, Ok, refl, arith, mul-suc}
use Rattle.std.specs.List.{flat_map}
use Rattle.mp4_codec.specs.ListLaws.{length-flat_map-same}
use Rattle.mp4_codec.specs.Bytes.{Reader, ReadsBack}
use Rattle.mp4_codec.specs.FieldLaws.{number_again, list_last, length-number, length-then}
use Rattle.mp4_codec.specs.Boxes.{write_cause}
use Rattle.mp4_codec.specs.WriteLaws.{is_written}
use Rattle.mp4_table.specs.Table.{table_of, table, IsInRangeTable}

pub length-table : {A : Type 0} (encoded : ℕ → A → List ℕ) (version flags : ℕ) (entries : List A)
    → length (table encoded version flags entries) ≡ 8 + length (flat_map (encoded version) entries)
unfolding table
length-table encoded version flags entries = simp (length-then, length-number) (omega arith)

-- where each entry is of n bytes
pub length-table_of_same : {A : Type 0} (encoded : ℕ → A → List ℕ) (n version flags : ℕ) (entries : List A)
    → ((e : A) → length (encoded version e) ≡ n)
    → length (table encoded version flags entries) ≡ 8 + length entries * n
length-table_of_same encoded n version flags entries each =
    rw (length-table encoded version flags entries, length-flat_map-same (encoded version) n each entries) refl

pub table_again : {A : Type 0} (entry_at : ℕ → Reader A) (encoded : ℕ → A → List ℕ) (FitsEntry : A → Type 0)
    (version flags : ℕ) (entries : List A)
    → ReadsBack (entry_at version) (encoded version) FitsEntry → IsInRangeTable FitsEntry version entries
    → flags < 2 ^ 24 → length entries < 2 ^ 32
    → table_of entry_at (table encoded version flags entries) ≡ Ok (version, flags, entries)
unfolding table_of table
table_again entry_at encoded FitsEntry version flags entries back f flags_fit count_fits =
    rw (
      number_again 1 version _ f.version_fits,
      number_again 3 flags _ flags_fit,
      number_again 4 (length entries) _ count_fits,
      list_last (entry_at version) (encoded version) FitsEntry back (length entries) entries refl f.entries_fit,
    ) refl

-- a table that is written is read again, where each entry has n + 1 bytes
pub written_again : {A : Type 0} (entry_at : ℕ → Reader A) (encoded : ℕ → A → List ℕ) (FitsEntry : A → Type 0)
    (n version flags : ℕ) (entries : List A) → ((e : A) → length (encoded version e) ≡ suc n)
    → ReadsBack (entry_at version) (encoded version) FitsEntry → IsInRangeTable FitsEntry version entries
    → flags < 2 ^ 24 → write_cause (table encoded version flags entries) None ≡ None
    → table_of entry_at (table encoded version flags entries) ≡ Ok (version, flags, entries)
written_again entry_at encoded FitsEntry n version flags entries each back f flags_fit written =
    let size = (is_written (table encoded version flags entries) None written).small in
    let whole = length-table_of_same encoded (suc n) version flags entries each in
    let count : length entries < 2 ^ 32 = omega (arith, size, whole, mul-suc (length entries) n) in
    table_again entry_at encoded FitsEntry version flags entries back f flags_fit count
