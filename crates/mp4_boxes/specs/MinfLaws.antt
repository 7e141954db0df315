-- The information of a track's media is read as it was written, with the first samples of its chunks.
use Rattle.std.proofs.Common.{◌≡◌, ℕ, ◌^◌, ◌<◌, List, [], ◌∷◌, ◌++◌, length, Some, Ok, refl, ap, ◌∙◌, arith, lit<}
use Rattle.std.specs.Option.{option_to_list}
use Rattle.mp4_codec.specs.declared.box_type.BoxType.TheVariants.{VmhdBox as vmhd, SmhdBox as smhd, DinfBox as dinf}
use Rattle.mp4_codec.specs.declared.box_type.BoxType.TheVariants.{StblBox as stbl, MinfBox as minf}
use Rattle.mp4_codec.specs.BoxType.{box_type}
use Rattle.mp4_codec.specs.Cause.{unless}
use Rattle.mp4_codec.specs.Boxes.{box_bytes, optional}
use Rattle.mp4_codec.specs.Framing.{IsEncodable}
use Rattle.mp4_codec.specs.Children.{ChildBox, children, gathered, fault_in, last_of, needed}
use Rattle.mp4_codec.specs.GatherLaws.{unless-then, with_last-last_of, last_child-adds}
use Rattle.mp4_codec.specs.Steps.{both_steps, ok_is}
use Rattle.mp4_codec.specs.WriteLaws.{is_written}
use Rattle.mp4_codec.specs.WrittenParts.{Kind, Groups, Part, Written, payloads, required_part, optional_part}
use Rattle.mp4_codec.specs.WrittenParts.{group, last_group, gathered-written, last_of-part, both_fit}
use Rattle.mp4_table.specs.Stsc.{HasFirstSamples}
use Rattle.mp4_leaf.specs.Vmhd.{vmhd_of, vmhd_payload}
use Rattle.mp4_leaf.specs.Smhd.{smhd_of, smhd_payload}
use Rattle.mp4_leaf.specs.Dinf.{dinf_of, dinf_payload}
use Rattle.mp4_boxes.specs.declared.stbl.StblBox.{StblBox}
use Rattle.mp4_boxes.specs.declared.minf.MinfBox.{MinfBox}
use Rattle.mp4_boxes.specs.declared.minf.MinfParts.{MinfParts}
use Rattle.mp4_codec.specs.GatherLaws.{gathered-taken, needed-holds}
use Rattle.mp4_codec.specs.WrittenParts.{none_refuses}
use Rattle.mp4_boxes.specs.LeafKinds.{vmhd_kind, smhd_kind, dinf_kind}
use Rattle.mp4_boxes.specs.Stbl.{stbl_of, stbl_payload}
use Rattle.mp4_boxes.specs.StblLaws.{stbl_kind, stbl_of-has_first_samples}
use Rattle.mp4_boxes.specs.Minf.{minf_fault, minf_taken, minf_added, minf_of, minf_payload, minf_refusal}
use Rattle.mp4_boxes.specs.Minf.{IsInRangeMinf, IsWellFormedMinf, IsCanonicalMinf}

pub minf_adds : (cs : List ChildBox) (c : ChildBox)
    → minf_added (minf_taken cs) c ≡ unless (minf_fault c) (Ok (minf_taken (cs ++ c ∷ [])))
unfolding minf_fault minf_taken minf_added
minf_adds cs c =
    rw (with_last-last_of vmhd vmhd_of cs c, with_last-last_of smhd smhd_of cs c, with_last-last_of dinf dinf_of cs c)
    (unless-then (fault_in vmhd vmhd_of c) _ _ _ _
    (unless-then (fault_in smhd smhd_of c) _ _ _ _
    (unless-then (fault_in dinf dinf_of c) _ _ _ _
    (last_child-adds stbl stbl_of _ cs c))))

abbrev groups : MinfBox → Groups
groups b = (vmhd, payloads vmhd_payload (option_to_list b.vmhd))
    ∷ (smhd, payloads smhd_payload (option_to_list b.smhd))
    ∷ (dinf, payloads dinf_payload (b.dinf ∷ []))
    ∷ (stbl, payloads stbl_payload (b.stbl ∷ [])) ∷ []

record Parts (b : MinfBox) : Type 0 where
  vmhd : Part vmhd_kind (optional vmhd vmhd_payload b.vmhd) (option_to_list b.vmhd)
  smhd : Part smhd_kind (optional smhd smhd_payload b.smhd) (option_to_list b.smhd)
  dinf : Part dinf_kind (box_bytes dinf (dinf_payload b.dinf)) (b.dinf ∷ [])
  stbl : Part stbl_kind (box_bytes stbl (stbl_payload b.stbl)) (b.stbl ∷ [])

parts : (b : MinfBox) → IsCanonicalMinf b → Parts b
unfolding minf_payload minf_refusal
parts b f =
    let written = is_written (minf_payload b) (minf_refusal b) f.written in
    let whole : length (minf_payload b) < 2 ^ 32 = omega (arith, written.small) in
    let video = both_fit _ _ _ whole in
    let sound = both_fit _ _ _ video.1 in
    let information = both_fit _ _ _ sound.1 in
    record {
      vmhd = optional_part vmhd_kind b.vmhd f.in_range.vmhd f.well_formed.vmhd (none_refuses b.vmhd) video.0;
      smhd = optional_part smhd_kind b.smhd f.in_range.smhd f.well_formed.smhd (none_refuses b.smhd) sound.0;
      dinf = required_part dinf_kind b.dinf f.in_range.dinf f.well_formed.dinf refl information.0;
      stbl = required_part stbl_kind b.stbl f.in_range.stbl f.well_formed.stbl written.sound information.1;
    }

pub minf_again : (b : MinfBox) → IsCanonicalMinf b → minf_of (minf_payload b) ≡ Ok b
unfolding minf_of minf_payload minf_fault minf_taken
minf_again b f =
    let p = parts b f in
    let written : Written minf_fault (minf_payload b) (groups b) =
    group vmhd_kind p.vmhd (λ x e. rw e refl)
    (group smhd_kind p.smhd (λ x e. rw e refl)
    (group dinf_kind p.dinf (λ x e. rw e refl)
    (last_group stbl_kind p.stbl (λ x e. rw e refl)))) in
    rw (
      gathered-written minf_taken written,
      last_of-part vmhd_kind b.vmhd (groups b) p.vmhd refl,
      last_of-part smhd_kind b.smhd (groups b) p.smhd refl,
      last_of-part dinf_kind (Some b.dinf) (groups b) p.dinf refl,
      last_of-part stbl_kind (Some b.stbl) (groups b) p.stbl refl,
    ) refl

-- what is read as media information has the first samples of its chunks
pub minf_of-has_first_samples : (payload : List ℕ) (b : MinfBox) → minf_of payload ≡ Ok b
    → HasFirstSamples b.stbl.stsc.entries
unfolding minf_of minf_taken
minf_of-has_first_samples payload b e =
    let parts = both_steps (gathered minf_fault minf_taken (children payload)) _ b e in
    let taken = gathered-taken minf_fault minf_taken (children payload) parts.0 parts.1 in
    let information = both_steps (needed dinf parts.0.dinf) _ b parts.2 in
    let table = both_steps (needed stbl parts.0.stbl) _ b information.2 in
    let same : table.0 ≡ b.stbl = ap (λ (m : MinfBox). m.stbl) (ok_is _ b table.2) in
    let last : needed stbl (last_of stbl stbl_of (children payload).0) ≡ Ok b.stbl =
    ap (λ (p : MinfParts). needed stbl p.stbl) taken ∙ table.1 ∙ ap Ok same in
    needed-holds (λ (t : StblBox). HasFirstSamples t.stsc.entries) stbl stbl_of stbl_of-has_first_samples
    (children payload).0 b.stbl last

pub encodable_minf : IsEncodable minf
unfolding box_type
encodable_minf = record { named = refl; code = lit< tt }

abbrev pub minf_kind : Kind MinfBox
minf_kind = record {
  name = minf;
  payload = minf_payload;
  value = minf_of;
  refusal = minf_refusal;
  IsInRange = IsInRangeMinf;
  IsWellFormed = IsWellFormedMinf;
  encodable = encodable_minf;
  again = minf_again;
}
