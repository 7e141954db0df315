-- The media of a track are read as they were written, with the first samples of their chunks.
use Rattle.std.proofs.Common.{◌≡◌, ℕ, ◌^◌, ◌<◌, List, [], ◌∷◌, ◌++◌, length, Some, Ok, refl, ap, ◌∙◌, arith, lit<}
use Rattle.mp4_codec.specs.declared.box_type.BoxType.TheVariants.{MdhdBox as mdhd, HdlrBox as hdlr, MinfBox as minf}
use Rattle.mp4_codec.specs.declared.box_type.BoxType.TheVariants.{MdiaBox as mdia}
use Rattle.mp4_codec.specs.BoxType.{box_type}
use Rattle.mp4_codec.specs.Cause.{unless}
use Rattle.mp4_codec.specs.Boxes.{box_bytes}
use Rattle.mp4_codec.specs.Framing.{IsEncodable}
use Rattle.mp4_codec.specs.Children.{ChildBox, children, gathered, fault_in, last_of, needed}
use Rattle.mp4_codec.specs.GatherLaws.{unless-then, with_last-last_of, last_child-adds}
use Rattle.mp4_codec.specs.Steps.{both_steps, ok_is}
use Rattle.mp4_codec.specs.WriteLaws.{is_written, or_parts}
use Rattle.mp4_codec.specs.WrittenParts.{Kind, Groups, Part, Written, payloads, required_part}
use Rattle.mp4_codec.specs.WrittenParts.{group, last_group, gathered-written, last_of-part, both_fit}
use Rattle.mp4_table.specs.Stsc.{HasFirstSamples}
use Rattle.mp4_leaf.specs.Mdhd.{mdhd_of, mdhd_payload, mdhd_refusal}
use Rattle.mp4_leaf.specs.Hdlr.{hdlr_of, hdlr_payload}
use Rattle.mp4_boxes.specs.declared.minf.MinfBox.{MinfBox}
use Rattle.mp4_boxes.specs.declared.mdia.MdiaBox.{MdiaBox}
use Rattle.mp4_boxes.specs.declared.mdia.MdiaParts.{MdiaParts}
use Rattle.mp4_codec.specs.GatherLaws.{gathered-taken, needed-holds}
use Rattle.mp4_meta.specs.MetadataKinds.{hdlr_kind}
use Rattle.mp4_boxes.specs.LeafKinds.{mdhd_kind}
use Rattle.mp4_boxes.specs.Minf.{minf_of, minf_payload, minf_refusal}
use Rattle.mp4_boxes.specs.MinfLaws.{minf_kind, minf_of-has_first_samples}
use Rattle.mp4_boxes.specs.Mdia.{mdia_fault, mdia_taken, mdia_added, mdia_of, mdia_payload, mdia_refusal}
use Rattle.mp4_boxes.specs.Mdia.{IsInRangeMdia, IsWellFormedMdia, IsCanonicalMdia}

pub mdia_adds : (cs : List ChildBox) (c : ChildBox)
    → mdia_added (mdia_taken cs) c ≡ unless (mdia_fault c) (Ok (mdia_taken (cs ++ c ∷ [])))
unfolding mdia_fault mdia_taken mdia_added
mdia_adds cs c =
    rw (with_last-last_of mdhd mdhd_of cs c, with_last-last_of hdlr hdlr_of cs c)
    (unless-then (fault_in mdhd mdhd_of c) _ _ _ _
    (unless-then (fault_in hdlr hdlr_of c) _ _ _ _
    (last_child-adds minf minf_of _ cs c)))

abbrev groups : MdiaBox → Groups
groups b = (mdhd, payloads mdhd_payload (b.mdhd ∷ []))
    ∷ (hdlr, payloads hdlr_payload (b.hdlr ∷ []))
    ∷ (minf, payloads minf_payload (b.minf ∷ [])) ∷ []

record Parts (b : MdiaBox) : Type 0 where
  mdhd : Part mdhd_kind (box_bytes mdhd (mdhd_payload b.mdhd)) (b.mdhd ∷ [])
  hdlr : Part hdlr_kind (box_bytes hdlr (hdlr_payload b.hdlr)) (b.hdlr ∷ [])
  minf : Part minf_kind (box_bytes minf (minf_payload b.minf)) (b.minf ∷ [])

parts : (b : MdiaBox) → IsCanonicalMdia b → Parts b
unfolding mdia_payload mdia_refusal
parts b f =
    let written = is_written (mdia_payload b) (mdia_refusal b) f.written in
    let whole : length (mdia_payload b) < 2 ^ 32 = omega (arith, written.small) in
    let header = both_fit _ _ _ whole in
    let handler = both_fit _ _ _ header.1 in
    let sound = or_parts (mdhd_refusal b.mdhd) (minf_refusal b.minf) written.sound in
    record {
      mdhd = required_part mdhd_kind b.mdhd f.in_range.mdhd f.well_formed.mdhd sound.0 header.0;
      hdlr = required_part hdlr_kind b.hdlr f.in_range.hdlr f.well_formed.hdlr refl handler.0;
      minf = required_part minf_kind b.minf f.in_range.minf f.well_formed.minf sound.1 handler.1;
    }

pub mdia_again : (b : MdiaBox) → IsCanonicalMdia b → mdia_of (mdia_payload b) ≡ Ok b
unfolding mdia_of mdia_payload mdia_fault mdia_taken
mdia_again b f =
    let p = parts b f in
    let written : Written mdia_fault (mdia_payload b) (groups b) =
    group mdhd_kind p.mdhd (λ x e. rw e refl)
    (group hdlr_kind p.hdlr (λ x e. rw e refl)
    (last_group minf_kind p.minf (λ x e. rw e refl))) in
    rw (
      gathered-written mdia_taken written,
      last_of-part mdhd_kind (Some b.mdhd) (groups b) p.mdhd refl,
      last_of-part hdlr_kind (Some b.hdlr) (groups b) p.hdlr refl,
      last_of-part minf_kind (Some b.minf) (groups b) p.minf refl,
    ) refl

-- what is read as media has the first samples of its chunks
pub mdia_of-has_first_samples : (payload : List ℕ) (b : MdiaBox) → mdia_of payload ≡ Ok b
    → HasFirstSamples b.minf.stbl.stsc.entries
unfolding mdia_of mdia_taken
mdia_of-has_first_samples payload b e =
    let parts = both_steps (gathered mdia_fault mdia_taken (children payload)) _ b e in
    let taken = gathered-taken mdia_fault mdia_taken (children payload) parts.0 parts.1 in
    let header = both_steps (needed mdhd parts.0.mdhd) _ b parts.2 in
    let handler = both_steps (needed hdlr parts.0.hdlr) _ b header.2 in
    let information = both_steps (needed minf parts.0.minf) _ b handler.2 in
    let same : information.0 ≡ b.minf = ap (λ (m : MdiaBox). m.minf) (ok_is _ b information.2) in
    let last : needed minf (last_of minf minf_of (children payload).0) ≡ Ok b.minf =
    ap (λ (p : MdiaParts). needed minf p.minf) taken ∙ information.1 ∙ ap Ok same in
    needed-holds (λ (m : MinfBox). HasFirstSamples m.stbl.stsc.entries) minf minf_of minf_of-has_first_samples
    (children payload).0 b.minf last

pub encodable_mdia : IsEncodable mdia
unfolding box_type
encodable_mdia = record { named = refl; code = lit< tt }

abbrev pub mdia_kind : Kind MdiaBox
mdia_kind = record {
  name = mdia;
  payload = mdia_payload;
  value = mdia_of;
  refusal = mdia_refusal;
  IsInRange = IsInRangeMdia;
  IsWellFormed = IsWellFormedMdia;
  encodable = encodable_mdia;
  again = mdia_again;
}
