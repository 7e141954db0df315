-- The fragment of a track is read as it was written.
use Rattle.std.proofs.Common.{◌≡◌, ◌^◌, List, [], ◌∷◌, ◌++◌, Some, Ok, refl, arith}
use Rattle.std.specs.Option.{option_to_list}
use Rattle.std.proofs.Common.{lit<}
use Rattle.mp4_codec.specs.declared.box_type.BoxType.TheVariants.{TfhdBox as tfhd, TfdtBox as tfdt, TrunBox as trun}
use Rattle.mp4_codec.specs.declared.box_type.BoxType.TheVariants.{TrafBox as traf}
use Rattle.mp4_codec.specs.BoxType.{box_type}
use Rattle.mp4_codec.specs.Framing.{IsEncodable}
use Rattle.mp4_codec.specs.Cause.{unless}
use Rattle.mp4_codec.specs.Bytes.{◌⧺◌}
use Rattle.mp4_codec.specs.Boxes.{box_bytes, optional, all_box_bytes, optional_refusal}
use Rattle.mp4_codec.specs.Children.{ChildBox, fault_in}
use Rattle.mp4_codec.specs.GatherLaws.{unless-then, with_last-last_of, all_children-adds}
use Rattle.mp4_codec.specs.WriteLaws.{is_written, or_parts}
use Rattle.mp4_codec.specs.WrittenParts.{Groups, Part, Written, payloads, required_part, optional_part, list_part}
use Rattle.mp4_codec.specs.WrittenParts.{group, last_group, gathered-written, last_of-part, all_of-part, both_fit}
use Rattle.mp4_codec.specs.WrittenParts.{Kind}
use Rattle.mp4_moof.specs.Tfhd.{tfhd_of, tfhd_payload, tfhd_refusal}
use Rattle.mp4_moof.specs.Tfdt.{tfdt_of, tfdt_payload, tfdt_refusal}
use Rattle.mp4_moof.specs.Trun.{trun_of, trun_payload}
use Rattle.mp4_moof.specs.declared.traf.TrafBox.{TrafBox}
use Rattle.mp4_moof.specs.FragmentKinds.{tfhd_kind, tfdt_kind, trun_kind}
use Rattle.mp4_moof.specs.Traf.{traf_fault, traf_taken, traf_added, traf_of, traf_payload, traf_refusal}
use Rattle.mp4_moof.specs.Traf.{IsInRangeTraf, IsWellFormedTraf, IsCanonicalTraf}

pub traf_adds : (cs : List ChildBox) (c : ChildBox)
    → traf_added (traf_taken cs) c ≡ unless (traf_fault c) (Ok (traf_taken (cs ++ c ∷ [])))
unfolding traf_fault traf_taken traf_added
traf_adds cs c =
    rw (with_last-last_of tfhd tfhd_of cs c, with_last-last_of tfdt tfdt_of cs c)
    (unless-then (fault_in tfhd tfhd_of c) _ _ _ _
    (unless-then (fault_in tfdt tfdt_of c) _ _ _ _
    (all_children-adds trun trun_of _ cs c)))

abbrev groups : TrafBox → Groups
groups b = (tfhd, payloads tfhd_payload (b.tfhd ∷ []))
    ∷ (tfdt, payloads tfdt_payload (option_to_list b.tfdt))
    ∷ (trun, payloads trun_payload b.truns) ∷ []

record Parts (b : TrafBox) : Type 0 where
  tfhd : Part tfhd_kind (box_bytes tfhd (tfhd_payload b.tfhd)) (b.tfhd ∷ [])
  tfdt : Part tfdt_kind (optional tfdt tfdt_payload b.tfdt) (option_to_list b.tfdt)
  truns : Part trun_kind (all_box_bytes trun trun_payload b.truns) b.truns

parts : (b : TrafBox) → IsCanonicalTraf b → Parts b
unfolding traf_payload traf_refusal
parts b f =
    let written = is_written (traf_payload b) (traf_refusal b) f.written in
    let after_tfdt = all_box_bytes trun trun_payload b.truns in
    let after_tfhd = optional tfdt tfdt_payload b.tfdt ⧺ after_tfdt in
    let tfhd_fits = both_fit (box_bytes tfhd (tfhd_payload b.tfhd)) after_tfhd (2 ^ 32)
    (omega (arith, written.small)) in
    let tfdt_fits = both_fit (optional tfdt tfdt_payload b.tfdt) after_tfdt (2 ^ 32) tfhd_fits.1 in
    let tfhd_sound = or_parts (tfhd_refusal b.tfhd) _ written.sound in
    let tfdt_sound = or_parts (optional_refusal tfdt_refusal b.tfdt) _ tfhd_sound.1 in
    record {
      tfhd = required_part tfhd_kind b.tfhd f.in_range.tfhd f.well_formed.tfhd tfhd_sound.0 tfhd_fits.0;
      tfdt = optional_part tfdt_kind b.tfdt f.in_range.tfdt f.well_formed.tfdt tfdt_sound.0 tfdt_fits.0;
      truns = list_part trun_kind b.truns f.in_range.truns f.well_formed.truns tfdt_sound.1 tfdt_fits.1;
    }

pub traf_again : (b : TrafBox) → IsCanonicalTraf b → traf_of (traf_payload b) ≡ Ok b
unfolding traf_of traf_payload traf_fault traf_taken
traf_again b f =
    let p = parts b f in
    let written : Written traf_fault (traf_payload b) (groups b) =
    group tfhd_kind p.tfhd (λ x e. rw e refl)
    (group tfdt_kind p.tfdt (λ x e. rw e refl)
    (last_group trun_kind p.truns (λ x e. rw e refl))) in
    rw (
      gathered-written traf_taken written,
      last_of-part tfhd_kind (Some b.tfhd) (groups b) p.tfhd refl,
      last_of-part tfdt_kind b.tfdt (groups b) p.tfdt refl,
      all_of-part trun_kind b.truns (groups b) p.truns refl,
    ) refl

pub encodable_traf : IsEncodable traf
unfolding box_type
encodable_traf = record { named = refl; code = lit< tt }

abbrev pub traf_kind : Kind TrafBox
traf_kind = record {
  name = traf;
  payload = traf_payload;
  value = traf_of;
  refusal = traf_refusal;
  IsInRange = IsInRangeTraf;
  IsWellFormed = IsWellFormedTraf;
  encodable = encodable_traf;
  again = traf_again;
}
