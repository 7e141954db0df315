-- A media header is read as it was written.
use Rattle.std.proofs.Common.{◌≡◌, cond, eqb, length, Ok, refl, arith}
use Rattle.mp4_codec.specs.FieldLaws.{number_again, versioned_again, length-number, length-zeros, length-versioned}
use Rattle.mp4_codec.specs.FieldLaws.{length-then, zeros_last}
use Rattle.mp4_codec.specs.WriteLaws.{is_written, or_parts}
use Rattle.mp4_leaf.specs.declared.mdhd.MdhdBox.{MdhdBox}
use Rattle.mp4_leaf.specs.LanguageLaws.{unpacked-packed, packed-small, language-written}
use Rattle.mp4_leaf.specs.Language.{packed, language_refusal}
use Rattle.mp4_leaf.specs.Times.{times_refusal}
use Rattle.mp4_leaf.specs.TimesLaws.{times-have_room, with_duration, length-header_times, header_times_again}
use Rattle.mp4_leaf.specs.Mdhd.{header_times_of, mdhd_of, mdhd_payload, mdhd_refusal, IsCanonicalMdhd}

pub length-mdhd_payload : (b : MdhdBox) → length (mdhd_payload b) ≡ cond (eqb b.version 1) 36 24
unfolding mdhd_payload
length-mdhd_payload b =
    simp (length-then, length-number, length-zeros, length-versioned, length-header_times)
    (omega (arith, with_duration (eqb b.version 1) 8))

pub mdhd_again : (b : MdhdBox) → IsCanonicalMdhd b → mdhd_of (mdhd_payload b) ≡ Ok b
unfolding mdhd_of mdhd_payload mdhd_refusal
mdhd_again b f =
    let in_range = f.in_range in
    let written = is_written (mdhd_payload b) (mdhd_refusal b) f.written in
    let sound = or_parts (times_refusal b.version b.creation_time b.modification_time b.duration)
    (language_refusal b.language) written.sound in
    let room = times-have_room b.version b.creation_time b.modification_time b.duration in_range.creation_time
    in_range.modification_time in_range.duration sound.0 in
    rw (
      header_times_again (header_times_of b) _ in_range.version f.well_formed room.creation_time room.modification_time,
      number_again 4 b.timescale _ in_range.timescale,
      versioned_again b.version b.duration _ room.duration,
      number_again 2 (packed b.language) _ (packed-small b.language),
      zeros_last 2,
      unpacked-packed b.language (language-written b.language sound.1),
    ) refl
