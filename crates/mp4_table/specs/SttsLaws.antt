-- Durations are read as they were written.
use Rattle.std.proofs.Common.{◌≡◌, ℕ, ◌+◌, ◌*◌, List, length, Ok, refl}
use Rattle.mp4_codec.specs.Bytes.{◌⧺◌}
use Rattle.mp4_codec.specs.FieldLaws.{block_again, take-number, drop-number, number_back}
use Rattle.mp4_codec.specs.FieldLaws.{length-number, length-then}
use Rattle.mp4_table.specs.declared.stts.SttsEntry.{SttsEntry}
use Rattle.mp4_table.specs.declared.stts.SttsBox.{SttsBox}
use Rattle.mp4_table.specs.TableLaws.{written_again, length-table_of_same}
use Rattle.mp4_table.specs.Stts.{stts_entry_in, stts_entry_at, stts_entry, IsInRangeSttsEntry}
use Rattle.mp4_table.specs.Stts.{stts_of, stts_payload, IsCanonicalStts}

pub length-stts_entry : (e : SttsEntry) → length (stts_entry e) ≡ 8
unfolding stts_entry
length-stts_entry e = simp (length-then, length-number) refl

pub length-stts_payload : (b : SttsBox) → length (stts_payload b) ≡ 8 + length b.entries * 8
unfolding stts_payload
length-stts_payload b = length-table_of_same (λ _. stts_entry) 8 b.version b.flags b.entries length-stts_entry

pub stts_entry_again : (e : SttsEntry) (rest : List ℕ) → IsInRangeSttsEntry e
    → stts_entry_at (stts_entry e ⧺ rest) ≡ Ok (e, rest)
unfolding stts_entry
stts_entry_again e rest f =
    rw (
      block_again 8 stts_entry_in (stts_entry e) rest (length-stts_entry e),
      take-number 4 e.sample_count _,
      drop-number 4 e.sample_count _,
      number_back 4 e.sample_count f.sample_count,
      number_back 4 e.sample_delta f.sample_delta,
    ) refl

pub stts_again : (b : SttsBox) → IsCanonicalStts b → stts_of (stts_payload b) ≡ Ok b
unfolding stts_of stts_payload
stts_again b f =
    rw (written_again (λ _. stts_entry_at) (λ _. stts_entry) IsInRangeSttsEntry 7 b.version b.flags b.entries
    length-stts_entry (record { again = stts_entry_again }) f.in_range f.well_formed f.written) refl
