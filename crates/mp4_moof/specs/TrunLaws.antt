-- A run is read as it was written.
use Rattle.std.proofs.Common.{◌≡◌, ℕ, ◌+◌, ◌*◌, ◌^◌, ◌<◌, length, Option, None, Ok, refl, arith}
use Rattle.std.specs.Prelude.{FitsSigned}
use Rattle.std.specs.Int.{w32}
use Rattle.std.specs.Option.{option_len}
use Rattle.mp4_codec.specs.Cause.{Cause, ◌or◌}
use Rattle.mp4_codec.specs.Bytes.{number_at, int32_at, number, int32, ReadsBack}
use Rattle.mp4_codec.specs.FieldLaws.{number_again, int32_again, length-number, length-int32, length-then}
use Rattle.mp4_codec.specs.WriteLaws.{is_written, or_parts}
use Rattle.mp4_moof.specs.Optional.{flag_refusal}
use Rattle.mp4_moof.specs.OptionalLaws.{length-optional_field, number_back, optional_again}
use Rattle.mp4_moof.specs.Rows.{column_refusal}
use Rattle.mp4_moof.specs.RowLaws.{length-rows, FitsColumns, columns_again}
use Rattle.mp4_moof.specs.declared.trun.TrunBox.{TrunBox}
use Rattle.mp4_moof.specs.Trun.{trun_of, columns_of, trun_payload, trun_refusal, IsInRangeTrun, IsCanonicalTrun}

-- how many values the four lists have
abbrev pub listed_values : TrunBox → ℕ
listed_values b = length b.sample_durations + length b.sample_sizes + length b.sample_flags + length b.sample_cts

pub length-trun_payload : (b : TrunBox) → length (trun_payload b)
    ≡ 8 + 4 * option_len b.data_offset + 4 * option_len b.first_sample_flags + 4 * listed_values b
unfolding trun_payload
length-trun_payload b =
    simp (
      length-then,
      length-number,
      length-optional_field int32 4 length-int32,
      length-optional_field (number 4) 4 (length-number 4),
      length-rows (columns_of b),
    ) (omega arith)

-- each flag agrees with its field or its list
record Agrees (b : TrunBox) : Type 0 where
  data_offset : flag_refusal 0x1 b.flags b.data_offset ≡ None
  first_sample_flags : flag_refusal 0x4 b.flags b.first_sample_flags ≡ None
  durations : column_refusal 0x100 b.flags b.sample_count b.sample_durations ≡ None
  sizes : column_refusal 0x200 b.flags b.sample_count b.sample_sizes ≡ None
  sample_flags : column_refusal 0x400 b.flags b.sample_count b.sample_flags ≡ None
  cts : column_refusal 0x800 b.flags b.sample_count b.sample_cts ≡ None

six_parts : (u v w x y z : Option Cause) → (((((u or v) or w) or x) or y) or z) ≡ None
    → (u ≡ None) × (v ≡ None) × (w ≡ None) × (x ≡ None) × (y ≡ None) × (z ≡ None)
six_parts u v w x y z e =
    let five = or_parts ((((u or v) or w) or x) or y) z e in
    let four = or_parts (((u or v) or w) or x) y five.0 in
    let three = or_parts ((u or v) or w) x four.0 in
    let two = or_parts (u or v) w three.0 in
    let one = or_parts u v two.0 in
    (one.0, one.1, two.1, three.1, four.1, five.1)

agrees : (b : TrunBox) → trun_refusal b ≡ None → Agrees b
unfolding trun_refusal
agrees b e =
    let parts = six_parts (flag_refusal 0x1 b.flags b.data_offset) (flag_refusal 0x4 b.flags b.first_sample_flags)
    (column_refusal 0x100 b.flags b.sample_count b.sample_durations)
    (column_refusal 0x200 b.flags b.sample_count b.sample_sizes)
    (column_refusal 0x400 b.flags b.sample_count b.sample_flags)
    (column_refusal 0x800 b.flags b.sample_count b.sample_cts) e in
    record {
      data_offset = parts.0;
      first_sample_flags = parts.1;
      durations = parts.2;
      sizes = parts.3;
      sample_flags = parts.4;
      cts = parts.5;
    }

columns_fit : (b : TrunBox) → Agrees b → IsInRangeTrun b → FitsColumns b.flags b.sample_count (columns_of b)
columns_fit b agree in_range = record {
  durations = agree.durations;
  sizes = agree.sizes;
  sample_flags = agree.sample_flags;
  cts = agree.cts;
  durations_range = in_range.sample_durations;
  sizes_range = in_range.sample_sizes;
  sample_flags_range = in_range.sample_flags;
  cts_range = in_range.sample_cts;
}

pub trun_again : (b : TrunBox) → IsCanonicalTrun b → trun_of (trun_payload b) ≡ Ok b
unfolding trun_of trun_payload
trun_again b f =
    let agree = agrees b (is_written (trun_payload b) (trun_refusal b) f.written).sound in
    let offset_back : ReadsBack int32_at int32 (FitsSigned w32) = record { again = int32_again } in
    rw (
      number_again 1 b.version _ f.in_range.version,
      number_again 3 b.flags _ f.well_formed,
      number_again 4 b.sample_count _ f.in_range.sample_count,
      optional_again int32_at int32 (FitsSigned w32) offset_back 0x1 b.flags b.data_offset _ agree.data_offset
          f.in_range.data_offset,
      optional_again (number_at 4) (number 4) (λ x. x < 256 ^ 4) (number_back 4) 0x4 b.flags b.first_sample_flags _
          agree.first_sample_flags f.in_range.first_sample_flags,
      columns_again b.flags b.sample_count (columns_of b) (columns_fit b agree f.in_range),
    ) refl
