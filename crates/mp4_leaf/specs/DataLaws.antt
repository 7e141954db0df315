-- The value of a metadata item is read as it was written.
use Rattle.std.proofs.Common.{◌≡◌, ◌+◌, length, Ok, refl, arith}
use Rattle.mp4_codec.specs.FieldLaws.{number_again, zeros_again, length-number, length-zeros, length-then}
use Rattle.mp4_leaf.specs.declared.data.DataBox.{DataBox}
use Rattle.mp4_leaf.specs.Data.{data_code, data_of, data_payload, IsCanonicalData}

pub length-data_payload : (b : DataBox) → length (data_payload b) ≡ 8 + length b.bytes
unfolding data_payload
length-data_payload b = simp (length-then, length-number, length-zeros) (omega arith)

pub data_again : (b : DataBox) → IsCanonicalData b → data_of (data_payload b) ≡ Ok b
unfolding data_of data_payload
data_again b f = rw (number_again 4 (data_code b.data_type) _ f.in_range.data_type, zeros_again 4 _, f.well_formed) refl
