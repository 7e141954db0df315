-- A sound media header is read as it was written.
use Rattle.std.proofs.Common.{◌≡◌, length, Ok, refl}
use Rattle.mp4_codec.specs.FieldLaws.{number_again, int16_again, length-number, length-int16, length-zeros}
use Rattle.mp4_codec.specs.FieldLaws.{length-then, zeros_last}
use Rattle.mp4_leaf.specs.declared.smhd.SmhdBox.{SmhdBox}
use Rattle.mp4_leaf.specs.Smhd.{smhd_of, smhd_payload, IsCanonicalSmhd}

pub length-smhd_payload : (b : SmhdBox) → length (smhd_payload b) ≡ 8
unfolding smhd_payload
length-smhd_payload b = simp (length-then, length-number, length-int16, length-zeros)

pub smhd_again : (b : SmhdBox) → IsCanonicalSmhd b → smhd_of (smhd_payload b) ≡ Ok b
unfolding smhd_of smhd_payload
smhd_again b f =
    rw (
      number_again 1 b.version _ f.in_range.version,
      number_again 3 b.flags _ f.well_formed,
      int16_again b.balance.raw _ f.in_range.balance,
      zeros_last 2,
    ) refl
