-- Composition offsets are read as they were written.
use Rattle.std.proofs.Common.{◌≡◌, ℕ, ◌+◌, ◌*◌, List, length, Ok, refl}
use Rattle.mp4_codec.specs.Bytes.{◌⧺◌}
use Rattle.mp4_codec.specs.FieldLaws.{block_again, take-number, drop-number, number_back, int32_back}
use Rattle.mp4_codec.specs.FieldLaws.{length-number, length-int32, length-then}
use Rattle.mp4_table.specs.declared.ctts.CttsEntry.{CttsEntry}
use Rattle.mp4_table.specs.declared.ctts.CttsBox.{CttsBox}
use Rattle.mp4_table.specs.TableLaws.{written_again, length-table_of_same}
use Rattle.mp4_table.specs.Ctts.{ctts_entry_in, ctts_entry_at, ctts_entry, IsInRangeCttsEntry}
use Rattle.mp4_table.specs.Ctts.{ctts_of, ctts_payload, IsCanonicalCtts}

pub length-ctts_entry : (e : CttsEntry) → length (ctts_entry e) ≡ 8
unfolding ctts_entry
length-ctts_entry e = simp (length-then, length-number, length-int32) refl

pub length-ctts_payload : (b : CttsBox) → length (ctts_payload b) ≡ 8 + length b.entries * 8
unfolding ctts_payload
length-ctts_payload b = length-table_of_same (λ _. ctts_entry) 8 b.version b.flags b.entries length-ctts_entry

pub ctts_entry_again : (e : CttsEntry) (rest : List ℕ) → IsInRangeCttsEntry e
    → ctts_entry_at (ctts_entry e ⧺ rest) ≡ Ok (e, rest)
unfolding ctts_entry
ctts_entry_again e rest f =
    rw (
      block_again 8 ctts_entry_in (ctts_entry e) rest (length-ctts_entry e),
      take-number 4 e.sample_count _,
      drop-number 4 e.sample_count _,
      number_back 4 e.sample_count f.sample_count,
      int32_back e.sample_offset f.sample_offset,
    ) refl

pub ctts_again : (b : CttsBox) → IsCanonicalCtts b → ctts_of (ctts_payload b) ≡ Ok b
unfolding ctts_of ctts_payload
ctts_again b f =
    rw (written_again (λ _. ctts_entry_at) (λ _. ctts_entry) IsInRangeCttsEntry 7 b.version b.flags b.entries
    length-ctts_entry (record { again = ctts_entry_again }) f.in_range f.well_formed f.written) refl
