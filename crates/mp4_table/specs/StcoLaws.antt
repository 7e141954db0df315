-- Chunk offsets of 32 bits are read as they were written.
use Rattle.std.proofs.Common.{◌≡◌, ◌+◌, ◌*◌, ◌^◌, ◌<◌, length, Ok, refl}
use Rattle.mp4_codec.specs.Bytes.{number_at, number}
use Rattle.mp4_codec.specs.FieldLaws.{number_again, length-number}
use Rattle.mp4_table.specs.declared.stco.StcoBox.{StcoBox}
use Rattle.mp4_table.specs.TableLaws.{written_again, length-table_of_same}
use Rattle.mp4_table.specs.Stco.{stco_of, stco_payload, IsCanonicalStco}

pub length-stco_payload : (b : StcoBox) → length (stco_payload b) ≡ 8 + length b.entries * 4
unfolding stco_payload
length-stco_payload b = length-table_of_same (λ _. number 4) 4 b.version b.flags b.entries (length-number 4)

pub stco_again : (b : StcoBox) → IsCanonicalStco b → stco_of (stco_payload b) ≡ Ok b
unfolding stco_of stco_payload
stco_again b f =
    rw (written_again (λ _. number_at 4) (λ _. number 4) (λ n. n < 2 ^ 32) 3 b.version b.flags b.entries
    (length-number 4) (record { again = number_again 4 }) f.in_range f.well_formed f.written) refl
