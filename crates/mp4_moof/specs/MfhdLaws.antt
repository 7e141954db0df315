-- A movie fragment header is read as it was written.
use Rattle.std.proofs.Common.{◌≡◌, length, Ok, refl}
use Rattle.mp4_codec.specs.FieldLaws.{number_again, number_last, length-number, length-then}
use Rattle.mp4_moof.specs.declared.mfhd.MfhdBox.{MfhdBox}
use Rattle.mp4_moof.specs.Mfhd.{mfhd_of, mfhd_payload, IsCanonicalMfhd}

pub length-mfhd_payload : (b : MfhdBox) → length (mfhd_payload b) ≡ 8
unfolding mfhd_payload
length-mfhd_payload b = simp (length-then, length-number)

pub mfhd_again : (b : MfhdBox) → IsCanonicalMfhd b → mfhd_of (mfhd_payload b) ≡ Ok b
unfolding mfhd_of mfhd_payload
mfhd_again b f =
    rw (
      number_again 1 b.version _ f.in_range.version,
      number_again 3 b.flags _ f.well_formed,
      number_last 4 b.sequence_number f.in_range.sequence_number,
    ) refl
