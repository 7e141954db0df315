-- The fragment of a movie is read as it was written.
use Rattle.std.proofs.Common.{◌≡◌, ◌^◌, List, [], ◌∷◌, ◌++◌, Some, Ok, refl, arith}
use Rattle.mp4_codec.specs.declared.box_type.BoxType.TheVariants.{MfhdBox as mfhd, TrafBox as traf}
use Rattle.mp4_codec.specs.Cause.{unless}
use Rattle.mp4_codec.specs.Boxes.{box_bytes, all_box_bytes}
use Rattle.mp4_codec.specs.Children.{ChildBox, fault_in}
use Rattle.mp4_codec.specs.GatherLaws.{unless-then, with_last-last_of, all_children-adds}
use Rattle.mp4_codec.specs.WriteLaws.{is_written}
use Rattle.mp4_codec.specs.WrittenParts.{Groups, Part, Written, payloads, required_part, list_part, group}
use Rattle.mp4_codec.specs.WrittenParts.{last_group, gathered-written, last_of-part, all_of-part, both_fit}
use Rattle.mp4_moof.specs.Mfhd.{mfhd_of, mfhd_payload}
use Rattle.mp4_moof.specs.Traf.{traf_of, traf_payload}
use Rattle.mp4_moof.specs.declared.moof.MoofBox.{MoofBox}
use Rattle.mp4_moof.specs.FragmentKinds.{mfhd_kind}
use Rattle.mp4_moof.specs.TrafLaws.{traf_kind}
use Rattle.mp4_moof.specs.Moof.{moof_fault, moof_taken, moof_added, moof_of, moof_payload, moof_refusal}
use Rattle.mp4_moof.specs.Moof.{IsCanonicalMoof}

pub moof_adds : (cs : List ChildBox) (c : ChildBox)
    → moof_added (moof_taken cs) c ≡ unless (moof_fault c) (Ok (moof_taken (cs ++ c ∷ [])))
unfolding moof_fault moof_taken moof_added
moof_adds cs c =
    rw (with_last-last_of mfhd mfhd_of cs c)
    (unless-then (fault_in mfhd mfhd_of c) _ _ _ _
    (all_children-adds traf traf_of _ cs c))

abbrev groups : MoofBox → Groups
groups b = (mfhd, payloads mfhd_payload (b.mfhd ∷ []))
    ∷ (traf, payloads traf_payload b.trafs) ∷ []

record Parts (b : MoofBox) : Type 0 where
  mfhd : Part mfhd_kind (box_bytes mfhd (mfhd_payload b.mfhd)) (b.mfhd ∷ [])
  trafs : Part traf_kind (all_box_bytes traf traf_payload b.trafs) b.trafs

parts : (b : MoofBox) → IsCanonicalMoof b → Parts b
unfolding moof_payload moof_refusal
parts b f =
    let written = is_written (moof_payload b) (moof_refusal b) f.written in
    let after_mfhd = all_box_bytes traf traf_payload b.trafs in
    let mfhd_fits = both_fit (box_bytes mfhd (mfhd_payload b.mfhd)) after_mfhd (2 ^ 32)
    (omega (arith, written.small)) in
    record {
      mfhd = required_part mfhd_kind b.mfhd f.in_range.mfhd f.well_formed.mfhd refl mfhd_fits.0;
      trafs = list_part traf_kind b.trafs f.in_range.trafs f.well_formed.trafs written.sound mfhd_fits.1;
    }

pub moof_again : (b : MoofBox) → IsCanonicalMoof b → moof_of (moof_payload b) ≡ Ok b
unfolding moof_of moof_payload moof_fault moof_taken
moof_again b f =
    let p = parts b f in
    let written : Written moof_fault (moof_payload b) (groups b) =
    group mfhd_kind p.mfhd (λ x e. rw e refl)
    (last_group traf_kind p.trafs (λ x e. rw e refl)) in
    rw (
      gathered-written moof_taken written,
      last_of-part mfhd_kind (Some b.mfhd) (groups b) p.mfhd refl,
      all_of-part traf_kind b.trafs (groups b) p.trafs refl,
    ) refl
