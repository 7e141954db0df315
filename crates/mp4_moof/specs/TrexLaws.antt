-- A track extends box is read as it was written.
use Rattle.std.proofs.Common.{◌≡◌, length, Ok, refl}
use Rattle.mp4_codec.specs.FieldLaws.{number_again, number_last, length-number, length-then}
use Rattle.mp4_moof.specs.declared.trex.TrexBox.{TrexBox}
use Rattle.mp4_moof.specs.Trex.{trex_of, trex_payload, IsCanonicalTrex}

pub length-trex_payload : (b : TrexBox) → length (trex_payload b) ≡ 24
unfolding trex_payload
length-trex_payload b = simp (length-then, length-number)

pub trex_again : (b : TrexBox) → IsCanonicalTrex b → trex_of (trex_payload b) ≡ Ok b
unfolding trex_of trex_payload
trex_again b f =
    rw (
      number_again 1 b.version _ f.in_range.version,
      number_again 3 b.flags _ f.well_formed,
      number_again 4 b.track_id _ f.in_range.track_id,
      number_again 4 b.default_sample_description_index _ f.in_range.default_sample_description_index,
      number_again 4 b.default_sample_duration _ f.in_range.default_sample_duration,
      number_again 4 b.default_sample_size _ f.in_range.default_sample_size,
      number_last 4 b.default_sample_flags f.in_range.default_sample_flags,
    ) refl
