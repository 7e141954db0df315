-- A decode time of a track fragment is read as it was written.
use Rattle.std.proofs.Common.{◌≡◌, cond, eqb, length, Ok, refl}
use Rattle.mp4_codec.specs.Bytes.{version_refusal, value_refusal}
use Rattle.mp4_codec.specs.FieldLaws.{number_again, FitsVersion-written, length-number, length-versioned, length-then}
use Rattle.mp4_codec.specs.WriteLaws.{is_written, or_parts}
use Rattle.mp4_moof.specs.VersionedLaws.{by_version, versioned_last}
use Rattle.mp4_moof.specs.declared.tfdt.TfdtBox.{TfdtBox}
use Rattle.mp4_moof.specs.Tfdt.{tfdt_of, tfdt_payload, tfdt_refusal, IsCanonicalTfdt}

pub length-tfdt_payload : (b : TfdtBox) → length (tfdt_payload b) ≡ cond (eqb b.version 1) 12 8
unfolding tfdt_payload
length-tfdt_payload b = simp (length-then, length-number, length-versioned) (by_version (eqb b.version 1))

pub tfdt_again : (b : TfdtBox) → IsCanonicalTfdt b → tfdt_of (tfdt_payload b) ≡ Ok b
unfolding tfdt_of tfdt_payload tfdt_refusal
tfdt_again b f =
    let written = is_written (tfdt_payload b) (tfdt_refusal b) f.written in
    let sound = or_parts (version_refusal b.version) (value_refusal b.version b.base_media_decode_time) written.sound in
    let fits = FitsVersion-written b.version b.base_media_decode_time sound.0 sound.1
    f.in_range.base_media_decode_time in
    rw (
      number_again 1 b.version _ f.in_range.version,
      number_again 3 b.flags _ f.well_formed,
      versioned_last b.version b.base_media_decode_time fits,
    ) refl
