-- A movie header is read as it was written.
use Rattle.std.proofs.Common.{◌≡◌, cond, eqb, length, Ok, refl, arith}
use Rattle.mp4_codec.specs.FieldLaws.{number_again, number_last, zeros_again, versioned_again, length-number}
use Rattle.mp4_codec.specs.FieldLaws.{length-zeros, length-versioned, length-then}
use Rattle.mp4_codec.specs.WriteLaws.{is_written}
use Rattle.mp4_leaf.specs.declared.mvhd.MvhdBox.{MvhdBox}
use Rattle.mp4_leaf.specs.MatrixLaws.{matrix_again, length-matrix}
use Rattle.mp4_leaf.specs.TimesLaws.{times-have_room, with_duration, length-header_times, header_times_again}
use Rattle.mp4_leaf.specs.Mvhd.{header_times_of, playback_at, mvhd_of, mvhd_payload, mvhd_refusal, IsCanonicalMvhd}

pub length-mvhd_payload : (b : MvhdBox) → length (mvhd_payload b) ≡ cond (eqb b.version 1) 112 100
unfolding mvhd_payload
length-mvhd_payload b =
    simp (length-then, length-number, length-zeros, length-versioned, length-matrix, length-header_times)
    (omega (arith, with_duration (eqb b.version 1) 84))

pub mvhd_again : (b : MvhdBox) → IsCanonicalMvhd b → mvhd_of (mvhd_payload b) ≡ Ok b
unfolding mvhd_of playback_at mvhd_payload mvhd_refusal
mvhd_again b f =
    let in_range = f.in_range in
    let sound = (is_written (mvhd_payload b) (mvhd_refusal b) f.written).sound in
    let room = times-have_room b.version b.creation_time b.modification_time b.duration in_range.creation_time
    in_range.modification_time in_range.duration sound in
    rw (
      header_times_again (header_times_of b) _ in_range.version f.well_formed room.creation_time room.modification_time,
      number_again 4 b.timescale _ in_range.timescale,
      versioned_again b.version b.duration _ room.duration,
      number_again 4 b.rate.raw _ in_range.rate,
      number_again 2 b.volume.raw _ in_range.volume,
      zeros_again 10 _,
      matrix_again b.matrix _ in_range.matrix,
      zeros_again 24 _,
      number_last 4 b.next_track_id in_range.next_track_id,
    ) refl
