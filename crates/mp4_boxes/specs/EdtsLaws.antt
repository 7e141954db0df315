-- The edits of a track are read as they were written.
use Rattle.std.proofs.Common.{◌≡◌, ℕ, ◌+◌, ◌^◌, ◌<◌, List, length, Option, Some, None, Ok, refl, arith, lit<}
use Rattle.std.specs.Prelude.{IfSome}
use Rattle.mp4_codec.specs.declared.box_type.BoxType.TheVariants.{ElstBox as elst, EdtsBox as edts}
use Rattle.mp4_codec.specs.BoxType.{box_type}
use Rattle.mp4_codec.specs.Boxes.{optional, optional_refusal}
use Rattle.mp4_codec.specs.Framing.{IsEncodable}
use Rattle.mp4_codec.specs.FramingLaws.{length-box_bytes}
use Rattle.mp4_codec.specs.WriteLaws.{is_written, write_cause-none}
use Rattle.mp4_codec.specs.WrittenChildren.{next_at-box_bytes}
use Rattle.mp4_codec.specs.WrittenParts.{Kind}
use Rattle.mp4_leaf.specs.declared.elst.ElstBox.{ElstBox}
use Rattle.mp4_leaf.specs.Elst.{elst_payload, elst_refusal, IsInRangeElst, IsWellFormedElst}
use Rattle.mp4_leaf.specs.ElstLaws.{elst_again}
use Rattle.mp4_boxes.specs.declared.edts.EdtsBox.{EdtsBox}
use Rattle.mp4_boxes.specs.LeafKinds.{encodable_elst}
use Rattle.mp4_boxes.specs.Edts.{edts_of, edts_payload, edts_refusal, IsInRangeEdts, IsWellFormedEdts, IsCanonicalEdts}

again : (o : Option ElstBox) → IfSome o IsInRangeElst → IfSome o IsWellFormedElst
    → optional_refusal elst_refusal o ≡ None
    → length (optional elst elst_payload o) < 2 ^ 32
    → edts_of (optional elst elst_payload o) ≡ Ok (record { elst = o })
unfolding edts_of
again None in_range well_formed sound small = refl
again (Some b) in_range well_formed sound small =
    let fits : 8 + length (elst_payload b) < 2 ^ 32 = omega (arith, small, length-box_bytes elst (elst_payload b)) in
    let read = elst_again b (record {
      in_range = in_range;
      well_formed = well_formed;
      written = write_cause-none (elst_payload b) (elst_refusal b) fits sound;
    }) in
    rw (next_at-box_bytes elst (elst_payload b) encodable_elst fits, read) refl

pub edts_again : (b : EdtsBox) → IsCanonicalEdts b → edts_of (edts_payload b) ≡ Ok b
unfolding edts_payload edts_refusal
edts_again b f =
    let written = is_written (edts_payload b) (edts_refusal b) f.written in
    again b.elst f.in_range.elst f.well_formed.elst written.sound (omega (arith, written.small))

pub encodable_edts : IsEncodable edts
unfolding box_type
encodable_edts = record { named = refl; code = lit< tt }

abbrev pub edts_kind : Kind EdtsBox
edts_kind = record {
  name = edts;
  payload = edts_payload;
  value = edts_of;
  refusal = edts_refusal;
  IsInRange = IsInRangeEdts;
  IsWellFormed = IsWellFormedEdts;
  encodable = encodable_edts;
  again = edts_again;
}
