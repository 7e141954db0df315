-- A track of a movie is read as it was written.
use Rattle.std.proofs.Common.{◌≡◌, ℕ, ◌^◌, ◌<◌, List, [], ◌∷◌, ◌++◌, length, Option, Some, None, Ok, refl, ap, ◌∙◌}
use Rattle.std.proofs.Common.{arith}
use Rattle.std.specs.Option.{option_to_list}
use Rattle.std.proofs.Common.{lit<}
use Rattle.mp4_codec.specs.declared.box_type.BoxType.TheVariants.{TkhdBox as tkhd, EdtsBox as edts, MetaBox as meta}
use Rattle.mp4_codec.specs.declared.box_type.BoxType.TheVariants.{MdiaBox as mdia, TrakBox as trak}
use Rattle.mp4_codec.specs.BoxType.{box_type}
use Rattle.mp4_codec.specs.Framing.{IsEncodable}
use Rattle.mp4_codec.specs.Cause.{unless}
use Rattle.mp4_codec.specs.Bytes.{◌⧺◌}
use Rattle.mp4_codec.specs.Boxes.{box_bytes, optional, optional_refusal}
use Rattle.mp4_codec.specs.Steps.{both_steps, ok_is}
use Rattle.mp4_codec.specs.Children.{ChildBox, children, gathered, fault_in, last_of, needed}
use Rattle.mp4_codec.specs.GatherLaws.{gathered-taken, needed-holds}
use Rattle.mp4_table.specs.Stsc.{HasFirstSamples}
use Rattle.mp4_boxes.specs.declared.mdia.MdiaBox.{MdiaBox}
use Rattle.mp4_boxes.specs.declared.trak.TrakParts.{TrakParts}
use Rattle.mp4_boxes.specs.MdiaLaws.{mdia_of-has_first_samples}
use Rattle.mp4_codec.specs.GatherLaws.{unless-then, with_last-last_of, last_child-adds}
use Rattle.mp4_codec.specs.WriteLaws.{is_written, or_parts}
use Rattle.mp4_codec.specs.WrittenParts.{none_refuses, Groups, Part, Written, payloads, required_part}
use Rattle.mp4_codec.specs.WrittenParts.{optional_part, group, last_group, gathered-written, last_of-part, both_fit}
use Rattle.mp4_codec.specs.WrittenParts.{Kind}
use Rattle.mp4_leaf.specs.Tkhd.{tkhd_of, tkhd_payload, tkhd_refusal}
use Rattle.mp4_boxes.specs.Edts.{edts_of, edts_payload, edts_refusal}
use Rattle.mp4_meta.specs.Meta.{meta_of, meta_payload}
use Rattle.mp4_boxes.specs.Mdia.{mdia_of, mdia_payload, mdia_refusal}
use Rattle.mp4_boxes.specs.declared.trak.TrakBox.{TrakBox}
use Rattle.mp4_boxes.specs.EdtsLaws.{edts_kind}
use Rattle.mp4_boxes.specs.LeafKinds.{tkhd_kind}
use Rattle.mp4_boxes.specs.MdiaLaws.{mdia_kind}
use Rattle.mp4_meta.specs.MetaLaws.{meta_kind}
use Rattle.mp4_boxes.specs.Trak.{trak_fault, trak_taken, trak_added, trak_of, trak_payload, trak_refusal}
use Rattle.mp4_boxes.specs.Trak.{IsInRangeTrak, IsWellFormedTrak, IsCanonicalTrak}

pub trak_adds : (cs : List ChildBox) (c : ChildBox)
    → trak_added (trak_taken cs) c ≡ unless (trak_fault c) (Ok (trak_taken (cs ++ c ∷ [])))
unfolding trak_fault trak_taken trak_added
trak_adds cs c =
    rw (with_last-last_of tkhd tkhd_of cs c, with_last-last_of edts edts_of cs c, with_last-last_of meta meta_of cs c)
    (unless-then (fault_in tkhd tkhd_of c) _ _ _ _
    (unless-then (fault_in edts edts_of c) _ _ _ _
    (unless-then (fault_in meta meta_of c) _ _ _ _
    (last_child-adds mdia mdia_of _ cs c))))

abbrev groups : TrakBox → Groups
groups b = (tkhd, payloads tkhd_payload (b.tkhd ∷ []))
    ∷ (edts, payloads edts_payload (option_to_list b.edts))
    ∷ (meta, payloads meta_payload (option_to_list b.meta))
    ∷ (mdia, payloads mdia_payload (b.mdia ∷ [])) ∷ []

record Parts (b : TrakBox) : Type 0 where
  tkhd : Part tkhd_kind (box_bytes tkhd (tkhd_payload b.tkhd)) (b.tkhd ∷ [])
  edts : Part edts_kind (optional edts edts_payload b.edts) (option_to_list b.edts)
  meta : Part meta_kind (optional meta meta_payload b.meta) (option_to_list b.meta)
  mdia : Part mdia_kind (box_bytes mdia (mdia_payload b.mdia)) (b.mdia ∷ [])

parts : (b : TrakBox) → IsCanonicalTrak b → Parts b
unfolding trak_payload trak_refusal
parts b f =
    let written = is_written (trak_payload b) (trak_refusal b) f.written in
    let after_meta = box_bytes mdia (mdia_payload b.mdia) in
    let after_edts = optional meta meta_payload b.meta ⧺ after_meta in
    let after_tkhd = optional edts edts_payload b.edts ⧺ after_edts in
    let tkhd_fits = both_fit (box_bytes tkhd (tkhd_payload b.tkhd)) after_tkhd (2 ^ 32)
    (omega (arith, written.small)) in
    let edts_fits = both_fit (optional edts edts_payload b.edts) after_edts (2 ^ 32) tkhd_fits.1 in
    let meta_fits = both_fit (optional meta meta_payload b.meta) after_meta (2 ^ 32) edts_fits.1 in
    let tkhd_sound = or_parts (tkhd_refusal b.tkhd) _ written.sound in
    let edts_sound = or_parts (optional_refusal edts_refusal b.edts) _ tkhd_sound.1 in
    record {
      tkhd = required_part tkhd_kind b.tkhd f.in_range.tkhd f.well_formed.tkhd tkhd_sound.0 tkhd_fits.0;
      edts = optional_part edts_kind b.edts f.in_range.edts f.well_formed.edts edts_sound.0 edts_fits.0;
      meta = optional_part meta_kind b.meta f.in_range.meta f.well_formed.meta (none_refuses b.meta) meta_fits.0;
      mdia = required_part mdia_kind b.mdia f.in_range.mdia f.well_formed.mdia edts_sound.1 meta_fits.1;
    }

pub trak_again : (b : TrakBox) → IsCanonicalTrak b → trak_of (trak_payload b) ≡ Ok b
unfolding trak_of trak_payload trak_fault trak_taken
trak_again b f =
    let p = parts b f in
    let written : Written trak_fault (trak_payload b) (groups b) =
    group tkhd_kind p.tkhd (λ x e. rw e refl)
    (group edts_kind p.edts (λ x e. rw e refl)
    (group meta_kind p.meta (λ x e. rw e refl)
    (last_group mdia_kind p.mdia (λ x e. rw e refl)))) in
    rw (
      gathered-written trak_taken written,
      last_of-part tkhd_kind (Some b.tkhd) (groups b) p.tkhd refl,
      last_of-part edts_kind b.edts (groups b) p.edts refl,
      last_of-part meta_kind b.meta (groups b) p.meta refl,
      last_of-part mdia_kind (Some b.mdia) (groups b) p.mdia refl,
    ) refl

pub encodable_trak : IsEncodable trak
unfolding box_type
encodable_trak = record { named = refl; code = lit< tt }

abbrev pub trak_kind : Kind TrakBox
trak_kind = record {
  name = trak;
  payload = trak_payload;
  value = trak_of;
  refusal = trak_refusal;
  IsInRange = IsInRangeTrak;
  IsWellFormed = IsWellFormedTrak;
  encodable = encodable_trak;
  again = trak_again;
}

-- what is read as a track has the first samples of its chunks
pub trak_of-has_first_samples : (payload : List ℕ) (b : TrakBox) → trak_of payload ≡ Ok b
    → HasFirstSamples b.mdia.minf.stbl.stsc.entries
unfolding trak_of trak_taken
trak_of-has_first_samples payload b e =
    let parts = both_steps (gathered trak_fault trak_taken (children payload)) _ b e in
    let taken = gathered-taken trak_fault trak_taken (children payload) parts.0 parts.1 in
    let header = both_steps (needed tkhd parts.0.tkhd) _ b parts.2 in
    let media = both_steps (needed mdia parts.0.mdia) _ b header.2 in
    let same : media.0 ≡ b.mdia = ap (λ (t : TrakBox). t.mdia) (ok_is _ b media.2) in
    let last : needed mdia (last_of mdia mdia_of (children payload).0) ≡ Ok b.mdia =
    ap (λ (p : TrakParts). needed mdia p.mdia) taken ∙ media.1 ∙ ap Ok same in
    needed-holds (λ (m : MdiaBox). HasFirstSamples m.minf.stbl.stsc.entries) mdia mdia_of mdia_of-has_first_samples
    (children payload).0 b.mdia last
