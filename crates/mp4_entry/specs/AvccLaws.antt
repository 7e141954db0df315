-- A configuration of AVC video is read as it was written.
use Rattle.std.proofs.Common.{◌≡◌, ℕ, ◌+◌, ◌≤◌, ◌<◌, ◌^◌, List, [], ◌∷◌, length}
use Rattle.std.proofs.Common.{None, Ok, refl, arith, ◌%◌}
use Rattle.std.specs.List.{flat_map, AllByRecursion}
use Rattle.std.proofs.lemmas.List.{append-nil}
use Rattle.std.proofs.lemmas.List.Concat.{flat_map-cons}
use Rattle.std.proofs.lemmas.Nat.{mod-mul-add}
use Rattle.mp4_codec.specs.Cause.{◌or◌}
use Rattle.mp4_codec.specs.Bytes.{ReadsBack, number, ◌⧺◌}
use Rattle.mp4_codec.specs.FieldLaws.{number_again, bytes_again, list_again, list_last, length-number, length-then}
use Rattle.mp4_codec.specs.FieldLaws.{then_assoc}
use Rattle.mp4_codec.specs.Boxes.{all_refusal}
use Rattle.mp4_codec.specs.WriteLaws.{is_written, or_parts}
use Rattle.mp4_entry.specs.declared.avcc.NalUnit.{NalUnit}
use Rattle.mp4_entry.specs.declared.avcc.AvcCBox.{AvcCBox}
use Rattle.mp4_entry.specs.Avcc.{unit_at, unit, unit_refusal, avcc_of, avcc_payload, avcc_refusal}
use Rattle.mp4_entry.specs.Avcc.{IsCanonicalAvcC, avcc_of_sets}
use Rattle.mp4_entry.specs.Narrow.{past}
use Rattle.mp4_entry.specs.NarrowLaws.{within}

pub length-unit : (u : NalUnit) → length (unit u) ≡ 2 + length u.bytes
unfolding unit
length-unit u = simp (length-then, length-number) refl

pub length-avcc_payload : (b : AvcCBox) → length (avcc_payload b)
    ≡ 7 + length (flat_map unit b.sequence_parameter_sets) + length (flat_map unit b.picture_parameter_sets)
unfolding avcc_payload
length-avcc_payload b = simp (length-then, length-number) (omega arith)

length-one : (u : NalUnit) → length (flat_map unit (u ∷ [])) ≡ 2 + length u.bytes
length-one u = rw (flat_map-cons unit u [], append-nil (unit u)) (length-unit u)

-- the length of a configuration of one set of each kind
pub length-avcc_of_sets : (seq_set pic_set : List ℕ)
    → length (avcc_payload (avcc_of_sets seq_set pic_set)) ≡ 11 + length seq_set + length pic_set
length-avcc_of_sets seq_set pic_set =
    let seqs = length-one (record { bytes = seq_set }) in
    let pics = length-one (record { bytes = pic_set }) in
    omega (arith, length-avcc_payload (avcc_of_sets seq_set pic_set), seqs, pics)

-- a set whose length has room
abbrev HasRoom : NalUnit → Type 0
HasRoom u = length u.bytes < 256 ^ 2

have_room : (us : List NalUnit) → all_refusal unit_refusal us ≡ None → AllByRecursion HasRoom us
have_room [] e = tt
have_room (u ∷ us) e =
    let parts = or_parts (unit_refusal u) (all_refusal unit_refusal us) e in
    let fits : length u.bytes ≤ 0xffff = within 0xffff (length u.bytes) parts.0 in
    (omega (arith, fits), have_room us parts.1)

unit_again : (u : NalUnit) (rest : List ℕ) → HasRoom u → unit_at (unit u ⧺ rest) ≡ Ok (u, rest)
unfolding unit_at unit
unit_again u rest h =
    rw (
      then_assoc (number 2 (length u.bytes)) u.bytes rest,
      number_again 2 (length u.bytes) _ h,
      bytes_again (length u.bytes) u.bytes rest refl,
    ) refl

units : ReadsBack unit_at unit HasRoom
units = record { again = unit_again }

-- what a configuration that is written has
pub record IsEncoded (b : AvcCBox) : Type 0 where
  pub length_size : b.length_size_minus_one < 4
  pub sequence_count : length b.sequence_parameter_sets < 32
  pub picture_count : length b.picture_parameter_sets < 256
  pub sequence_sets : AllByRecursion HasRoom b.sequence_parameter_sets
  pub picture_sets : AllByRecursion HasRoom b.picture_parameter_sets

encoded : (b : AvcCBox) → avcc_refusal b ≡ None → IsEncoded b
unfolding avcc_refusal
encoded b e =
    let seqs = b.sequence_parameter_sets in
    let pics = b.picture_parameter_sets in
    let first = past 3 b.length_size_minus_one in
    let second = past 31 (length seqs) in
    let third = past 255 (length pics) in
    let fourth = all_refusal unit_refusal seqs in
    let last = or_parts (first or second or third or fourth) (all_refusal unit_refusal pics) e in
    let fourths = or_parts (first or second or third) fourth last.0 in
    let thirds = or_parts (first or second) third fourths.0 in
    let seconds = or_parts first second thirds.0 in
    let low : b.length_size_minus_one ≤ 3 = within 3 b.length_size_minus_one seconds.0 in
    let few : length seqs ≤ 31 = within 31 (length seqs) seconds.1 in
    let some : length pics ≤ 255 = within 255 (length pics) thirds.1 in
    record {
      length_size = omega (arith, low);
      sequence_count = omega (arith, few);
      picture_count = omega (arith, some);
      sequence_sets = have_room seqs fourths.1;
      picture_sets = have_room pics last.1;
    }

pub avcc_again : (b : AvcCBox) → IsCanonicalAvcC b → avcc_of (avcc_payload b) ≡ Ok b
unfolding avcc_of avcc_payload
avcc_again b f =
    let in_range = f.in_range in
    let fits = encoded b (is_written (avcc_payload b) (avcc_refusal b) f.written).sound in
    let low : (0xfc + b.length_size_minus_one) % 4 ≡ b.length_size_minus_one =
    mod-mul-add 63 4 b.length_size_minus_one fits.length_size in
    let few : (0xe0 + length b.sequence_parameter_sets) % 32 ≡ length b.sequence_parameter_sets =
    mod-mul-add 7 32 (length b.sequence_parameter_sets) fits.sequence_count in
    rw (
      number_again 1 b.configuration_version _ in_range.configuration_version,
      number_again 1 b.avc_profile_indication _ in_range.avc_profile_indication,
      number_again 1 b.profile_compatibility _ in_range.profile_compatibility,
      number_again 1 b.avc_level_indication _ in_range.avc_level_indication,
      number_again 1 (0xfc + b.length_size_minus_one) _ (omega (arith, fits.length_size)),
      number_again 1 (0xe0 + length b.sequence_parameter_sets) _ (omega (arith, fits.sequence_count)),
      few,
      list_again unit_at unit HasRoom units b.sequence_parameter_sets _ fits.sequence_sets,
      number_again 1 (length b.picture_parameter_sets) _ (omega (arith, fits.picture_count)),
      list_last unit_at unit HasRoom units (length b.picture_parameter_sets) b.picture_parameter_sets refl
          fits.picture_sets,
      low,
    ) refl
