-- Chunk offsets of 64 bits are read as they were written.
use Rattle.std.proofs.Common.{◌≡◌, ◌+◌, ◌*◌, ◌^◌, ◌<◌, length, Ok, refl}
use Rattle.mp4_codec.specs.Bytes.{number_at, number}
use Rattle.mp4_codec.specs.FieldLaws.{number_again, length-number}
use Rattle.mp4_table.specs.declared.co64.Co64Box.{Co64Box}
use Rattle.mp4_table.specs.TableLaws.{written_again, length-table_of_same}
use Rattle.mp4_table.specs.Co64.{co64_of, co64_payload, IsCanonicalCo64}

pub length-co64_payload : (b : Co64Box) → length (co64_payload b) ≡ 8 + length b.entries * 8
unfolding co64_payload
length-co64_payload b = length-table_of_same (λ _. number 8) 8 b.version b.flags b.entries (length-number 8)

pub co64_again : (b : Co64Box) → IsCanonicalCo64 b → co64_of (co64_payload b) ≡ Ok b
unfolding co64_of co64_payload
co64_again b f =
    rw (written_again (λ _. number_at 8) (λ _. number 8) (λ n. n < 2 ^ 64) 7 b.version b.flags b.entries
    (length-number 8) (record { again = number_again 8 }) f.in_range f.well_formed f.written) refl
