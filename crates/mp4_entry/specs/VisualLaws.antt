-- Visual sample entries are read as they were written.
use Rattle.std.proofs.Common.{◌≡◌, ℕ, ◌+◌, ◌^◌, ◌<◌, List, length, Option, Some, None, Result, Ok, refl, arith}
use Rattle.mp4_codec.specs.declared.box_type.BoxType.{BoxType}
use Rattle.mp4_codec.specs.Cause.{Cause}
use Rattle.mp4_codec.specs.Bytes.{number, ◌⧺◌}
use Rattle.mp4_codec.specs.Boxes.{optional, write_cause, IsCanonical}
use Rattle.mp4_codec.specs.FieldLaws.{number_again, bytes_again, zeros_again, length-number, length-zeros, length-then}
use Rattle.mp4_codec.specs.FieldLaws.{then_assoc}
use Rattle.mp4_codec.specs.Framing.{IsEncodable}
use Rattle.mp4_codec.specs.FramingLaws.{length-box_bytes}
use Rattle.mp4_codec.specs.WriteLaws.{is_written, write_cause-none}
use Rattle.mp4_codec.specs.WrittenChildren.{last_child-again}
use Rattle.mp4_entry.specs.declared.visual.Visual.{Visual}
use Rattle.mp4_entry.specs.Visual.{visual_at, visual, visual_entry, visual_entry_payload, IsInRangeVisual}

pub length-visual : (v : Visual) → length (visual v) ≡ 78
unfolding visual
length-visual v = simp (length-then, length-number, length-zeros) refl

pub visual_again : (v : Visual) (rest : List ℕ) → IsInRangeVisual v → visual_at (visual v ⧺ rest) ≡ Ok (v, rest)
unfolding visual_at visual
visual_again v rest in_range =
    simp then_assoc (rw (
      zeros_again 6 _,
      number_again 2 v.data_reference_index _ in_range.data_reference_index,
      zeros_again 16 _,
      number_again 2 v.width _ in_range.width,
      number_again 2 v.height _ in_range.height,
      number_again 4 v.horizresolution.raw _ in_range.horizresolution,
      number_again 4 v.vertresolution.raw _ in_range.vertresolution,
      zeros_again 4 _,
      number_again 2 v.frame_count _ in_range.frame_count,
      zeros_again 32 _,
      number_again 2 v.depth _ in_range.depth,
      bytes_again 2 (number 2 0xffff) rest (length-number 2 0xffff),
    ) refl)

pub length-visual_entry_payload : (v : Visual) (kind : BoxType) (config : List ℕ)
    → length (visual_entry_payload v kind config) ≡ 86 + length config
unfolding visual_entry_payload
length-visual_entry_payload v kind config = simp (length-then, length-visual, length-box_bytes) (omega arith)

-- an entry whose configurations are read as they were written
pub visual_entry_again : {C : Type 0} (kind : BoxType) (value : List ℕ → Result C Cause)
    (InRange WellFormed : C → Type 0) (payload : C → List ℕ) (refusal : C → Option Cause) → IsEncodable kind
    → ((c : C) → IsCanonical InRange WellFormed payload refusal c → value (payload c) ≡ Ok c)
    → (v : Visual) (c : C) → IsInRangeVisual v → InRange c → WellFormed c
    → write_cause (visual_entry_payload v kind (payload c)) (refusal c) ≡ None
    → visual_entry kind value (visual_entry_payload v kind (payload c)) ≡ Ok (v, c)
unfolding visual_entry visual_entry_payload
visual_entry_again kind value InRange WellFormed payload refusal encodable again v c begins in_range well_formed e =
    let written = is_written (visual_entry_payload v kind (payload c)) (refusal c) e in
    let small : 8 + length (payload c) < 2 ^ 32 =
    omega (arith, written.small, length-visual_entry_payload v kind (payload c)) in
    let reads = again c (record {
      in_range = in_range;
      well_formed = well_formed;
      written = write_cause-none (payload c) (refusal c) small written.sound;
    }) in
    let whole : length (optional kind payload (Some c)) < 2 ^ 32 =
    omega (arith, small, length-box_bytes kind (payload c)) in
    rw (
      visual_again v _ begins,
      last_child-again kind payload value (Some c) encodable whole (reads, tt),
    ) refl
