-- A track fragment header is read as it was written.
use Rattle.std.proofs.Common.{◌≡◌, ◌+◌, ◌*◌, ◌^◌, ◌<◌, length, Option, None, Ok, refl, arith}
use Rattle.std.specs.Option.{option_len}
use Rattle.mp4_codec.specs.Cause.{Cause, ◌or◌}
use Rattle.mp4_codec.specs.Bytes.{number_at, number}
use Rattle.mp4_codec.specs.FieldLaws.{number_again, length-number, length-then}
use Rattle.mp4_codec.specs.WriteLaws.{is_written, or_parts}
use Rattle.mp4_moof.specs.Optional.{flag_refusal}
use Rattle.mp4_moof.specs.OptionalLaws.{length-optional_field, number_back, optional_again, optional_last}
use Rattle.mp4_moof.specs.declared.tfhd.TfhdBox.{TfhdBox}
use Rattle.mp4_moof.specs.Tfhd.{tfhd_of, tfhd_payload, tfhd_refusal, IsCanonicalTfhd}

pub length-tfhd_payload : (b : TfhdBox) → length (tfhd_payload b)
    ≡ 8 + 8 * option_len b.base_data_offset + 4 * option_len b.sample_description_index
    + 4 * option_len b.default_sample_duration + 4 * option_len b.default_sample_size
    + 4 * option_len b.default_sample_flags
unfolding tfhd_payload
length-tfhd_payload b =
    simp (
      length-then,
      length-number,
      length-optional_field (number 8) 8 (length-number 8),
      length-optional_field (number 4) 4 (length-number 4),
    ) (omega arith)

-- each flag agrees with its field
record Agrees (b : TfhdBox) : Type 0 where
  base_data_offset : flag_refusal 0x1 b.flags b.base_data_offset ≡ None
  sample_description_index : flag_refusal 0x2 b.flags b.sample_description_index ≡ None
  default_sample_duration : flag_refusal 0x8 b.flags b.default_sample_duration ≡ None
  default_sample_size : flag_refusal 0x10 b.flags b.default_sample_size ≡ None
  default_sample_flags : flag_refusal 0x20 b.flags b.default_sample_flags ≡ None

five_parts : (u v w x y : Option Cause) → ((((u or v) or w) or x) or y) ≡ None
    → (u ≡ None) × (v ≡ None) × (w ≡ None) × (x ≡ None) × (y ≡ None)
five_parts u v w x y e =
    let four = or_parts (((u or v) or w) or x) y e in
    let three = or_parts ((u or v) or w) x four.0 in
    let two = or_parts (u or v) w three.0 in
    let one = or_parts u v two.0 in
    (one.0, one.1, two.1, three.1, four.1)

agrees : (b : TfhdBox) → tfhd_refusal b ≡ None → Agrees b
unfolding tfhd_refusal
agrees b e =
    let parts = five_parts (flag_refusal 0x1 b.flags b.base_data_offset)
    (flag_refusal 0x2 b.flags b.sample_description_index) (flag_refusal 0x8 b.flags b.default_sample_duration)
    (flag_refusal 0x10 b.flags b.default_sample_size) (flag_refusal 0x20 b.flags b.default_sample_flags) e in
    record {
      base_data_offset = parts.0;
      sample_description_index = parts.1;
      default_sample_duration = parts.2;
      default_sample_size = parts.3;
      default_sample_flags = parts.4;
    }

pub tfhd_again : (b : TfhdBox) → IsCanonicalTfhd b → tfhd_of (tfhd_payload b) ≡ Ok b
unfolding tfhd_of tfhd_payload
tfhd_again b f =
    let agree = agrees b (is_written (tfhd_payload b) (tfhd_refusal b) f.written).sound in
    let again4 = optional_again (number_at 4) (number 4) (λ x. x < 256 ^ 4) (number_back 4) in
    rw (
      number_again 1 b.version _ f.in_range.version,
      number_again 3 b.flags _ f.well_formed,
      number_again 4 b.track_id _ f.in_range.track_id,
      optional_again (number_at 8) (number 8) (λ x. x < 256 ^ 8) (number_back 8) 0x1 b.flags b.base_data_offset _
          agree.base_data_offset f.in_range.base_data_offset,
      again4 0x2 b.flags b.sample_description_index _ agree.sample_description_index
          f.in_range.sample_description_index,
      again4 0x8 b.flags b.default_sample_duration _ agree.default_sample_duration
          f.in_range.default_sample_duration,
      again4 0x10 b.flags b.default_sample_size _ agree.default_sample_size f.in_range.default_sample_size,
      optional_last (number_at 4) (number 4) (λ x. x < 256 ^ 4) (number_back 4) 0x20 b.flags b.default_sample_flags
          agree.default_sample_flags f.in_range.default_sample_flags,
    ) refl
