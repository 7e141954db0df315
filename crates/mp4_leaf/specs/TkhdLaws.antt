-- A track header is read as it was written.
use Rattle.std.proofs.Common.{◌≡◌, cond, eqb, length, Ok, refl, arith}
use Rattle.mp4_codec.specs.FieldLaws.{number_again, number_last, zeros_again, versioned_again, length-number}
use Rattle.mp4_codec.specs.FieldLaws.{length-zeros, length-versioned, length-then}
use Rattle.mp4_codec.specs.WriteLaws.{is_written}
use Rattle.mp4_leaf.specs.declared.tkhd.TkhdBox.{TkhdBox}
use Rattle.mp4_leaf.specs.MatrixLaws.{matrix_again, length-matrix}
use Rattle.mp4_leaf.specs.TimesLaws.{times-have_room, with_duration, length-header_times, header_times_again}
use Rattle.mp4_leaf.specs.Tkhd.{header_times_of, presentation_at, tkhd_of, tkhd_payload, tkhd_refusal, IsCanonicalTkhd}

pub length-tkhd_payload : (b : TkhdBox) → length (tkhd_payload b) ≡ cond (eqb b.version 1) 96 84
unfolding tkhd_payload
length-tkhd_payload b =
    simp (length-then, length-number, length-zeros, length-versioned, length-matrix, length-header_times)
    (omega (arith, with_duration (eqb b.version 1) 68))

pub tkhd_again : (b : TkhdBox) → IsCanonicalTkhd b → tkhd_of (tkhd_payload b) ≡ Ok b
unfolding tkhd_of presentation_at tkhd_payload tkhd_refusal
tkhd_again b f =
    let in_range = f.in_range in
    let sound = (is_written (tkhd_payload b) (tkhd_refusal b) f.written).sound in
    let room = times-have_room b.version b.creation_time b.modification_time b.duration in_range.creation_time
    in_range.modification_time in_range.duration sound in
    rw (
      header_times_again (header_times_of b) _ in_range.version f.well_formed room.creation_time room.modification_time,
      number_again 4 b.track_id _ in_range.track_id,
      zeros_again 4 _,
      versioned_again b.version b.duration _ room.duration,
      zeros_again 8 _,
      number_again 2 b.layer _ in_range.layer,
      number_again 2 b.alternate_group _ in_range.alternate_group,
      number_again 2 b.volume.raw _ in_range.volume,
      zeros_again 2 _,
      matrix_again b.matrix _ in_range.matrix,
      number_again 4 b.width.raw _ in_range.width,
      number_last 4 b.height.raw in_range.height,
    ) refl
