-- A movie extends header is read as it was written.
use Rattle.std.proofs.Common.{◌≡◌, cond, eqb, length, Ok, refl}
use Rattle.mp4_codec.specs.Bytes.{version_refusal, value_refusal}
use Rattle.mp4_codec.specs.FieldLaws.{number_again, FitsVersion-written, length-number, length-versioned, length-then}
use Rattle.mp4_codec.specs.WriteLaws.{is_written, or_parts}
use Rattle.mp4_moof.specs.VersionedLaws.{by_version, versioned_last}
use Rattle.mp4_moof.specs.declared.mehd.MehdBox.{MehdBox}
use Rattle.mp4_moof.specs.Mehd.{mehd_of, mehd_payload, mehd_refusal, IsCanonicalMehd}

pub length-mehd_payload : (b : MehdBox) → length (mehd_payload b) ≡ cond (eqb b.version 1) 12 8
unfolding mehd_payload
length-mehd_payload b = simp (length-then, length-number, length-versioned) (by_version (eqb b.version 1))

pub mehd_again : (b : MehdBox) → IsCanonicalMehd b → mehd_of (mehd_payload b) ≡ Ok b
unfolding mehd_of mehd_payload mehd_refusal
mehd_again b f =
    let written = is_written (mehd_payload b) (mehd_refusal b) f.written in
    let sound = or_parts (version_refusal b.version) (value_refusal b.version b.fragment_duration) written.sound in
    let fits = FitsVersion-written b.version b.fragment_duration sound.0 sound.1 f.in_range.fragment_duration in
    rw (
      number_again 1 b.version _ f.in_range.version,
      number_again 3 b.flags _ f.well_formed,
      versioned_last b.version b.fragment_duration fits,
    ) refl
