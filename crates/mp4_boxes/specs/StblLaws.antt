-- The sample table of a track is read as it was written, with the first samples of its chunks.
use Rattle.std.proofs.Common.{◌≡◌, ℕ, ◌^◌, ◌<◌, List, [], ◌∷◌, ◌++◌, length, Option, Some, None, Ok, refl, ap, ◌∙◌}
use Rattle.std.proofs.Common.{arith}
use Rattle.std.proofs.Common.{lit<}
use Rattle.std.specs.Option.{option_to_list}
use Rattle.mp4_codec.specs.declared.box_type.BoxType.TheVariants.{StsdBox as stsd, SttsBox as stts, CttsBox as ctts}
use Rattle.mp4_codec.specs.declared.box_type.BoxType.TheVariants.{StssBox as stss, StscBox as stsc, StszBox as stsz}
use Rattle.mp4_codec.specs.declared.box_type.BoxType.TheVariants.{StcoBox as stco, Co64Box as co64, StblBox as stbl}
use Rattle.mp4_codec.specs.BoxType.{box_type}
use Rattle.mp4_codec.specs.Cause.{unless, ◌>>=◌}
use Rattle.mp4_codec.specs.Boxes.{box_bytes, optional}
use Rattle.mp4_codec.specs.Framing.{IsEncodable}
use Rattle.mp4_codec.specs.Children.{ChildBox, children, gathered, fault_in, last_of, needed}
use Rattle.mp4_codec.specs.GatherLaws.{unless-then, with_last-last_of, last_child-adds}
use Rattle.mp4_codec.specs.Steps.{both_steps, ok_is}
use Rattle.mp4_codec.specs.WriteLaws.{is_written, or_parts}
use Rattle.mp4_codec.specs.WrittenParts.{Kind, Groups, Part, Written, payloads, required_part, optional_part}
use Rattle.mp4_codec.specs.WrittenParts.{group, last_group, gathered-written, last_of-part, both_fit}
use Rattle.mp4_table.specs.declared.stco.StcoBox.{StcoBox}
use Rattle.mp4_table.specs.declared.co64.Co64Box.{Co64Box}
use Rattle.mp4_entry.specs.Stsd.{stsd_of, stsd_payload, stsd_refusal}
use Rattle.mp4_table.specs.Stts.{stts_of, stts_payload}
use Rattle.mp4_table.specs.Ctts.{ctts_of, ctts_payload}
use Rattle.mp4_table.specs.Stss.{stss_of, stss_payload}
use Rattle.mp4_table.specs.Stsc.{stsc_of, stsc_payload, HasFirstSamples}
use Rattle.mp4_table.specs.StscLaws.{stsc_of-has_first_samples}
use Rattle.mp4_table.specs.Stsz.{stsz_of, stsz_payload, stsz_refusal}
use Rattle.mp4_table.specs.Stco.{stco_of, stco_payload}
use Rattle.mp4_table.specs.Co64.{co64_of, co64_payload}
use Rattle.mp4_boxes.specs.declared.stbl.StblBox.{StblBox}
use Rattle.mp4_boxes.specs.declared.stbl.StblParts.{StblParts}
use Rattle.mp4_codec.specs.GatherLaws.{gathered-taken, needed-holds}
use Rattle.mp4_codec.specs.WrittenParts.{none_refuses}
use Rattle.mp4_boxes.specs.TableKinds.{stsd_kind, stts_kind, ctts_kind, stss_kind, stsc_kind, stsz_kind, stco_kind}
use Rattle.mp4_boxes.specs.TableKinds.{co64_kind}
use Rattle.mp4_boxes.specs.Stbl.{stbl_fault, stbl_taken, stbl_added, stbl_of, stbl_payload, stbl_refusal, needed_places}
use Rattle.mp4_boxes.specs.Stbl.{HasPlaces, IsInRangeStbl, IsWellFormedStbl, IsCanonicalStbl}

pub stbl_adds : (cs : List ChildBox) (c : ChildBox)
    → stbl_added (stbl_taken cs) c ≡ unless (stbl_fault c) (Ok (stbl_taken (cs ++ c ∷ [])))
unfolding stbl_fault stbl_taken stbl_added
stbl_adds cs c =
    rw (
      with_last-last_of stsd stsd_of cs c,
      with_last-last_of stts stts_of cs c,
      with_last-last_of ctts ctts_of cs c,
      with_last-last_of stss stss_of cs c,
      with_last-last_of stsc stsc_of cs c,
      with_last-last_of stsz stsz_of cs c,
      with_last-last_of stco stco_of cs c,
    )
    (unless-then (fault_in stsd stsd_of c) _ _ _ _
    (unless-then (fault_in stts stts_of c) _ _ _ _
    (unless-then (fault_in ctts ctts_of c) _ _ _ _
    (unless-then (fault_in stss stss_of c) _ _ _ _
    (unless-then (fault_in stsc stsc_of c) _ _ _ _
    (unless-then (fault_in stsz stsz_of c) _ _ _ _
    (unless-then (fault_in stco stco_of c) _ _ _ _
    (last_child-adds co64 co64_of _ cs c))))))))

abbrev groups : StblBox → Groups
groups b = (stsd, payloads stsd_payload (b.stsd ∷ []))
    ∷ (stts, payloads stts_payload (b.stts ∷ []))
    ∷ (ctts, payloads ctts_payload (option_to_list b.ctts))
    ∷ (stss, payloads stss_payload (option_to_list b.stss))
    ∷ (stsc, payloads stsc_payload (b.stsc ∷ []))
    ∷ (stsz, payloads stsz_payload (b.stsz ∷ []))
    ∷ (stco, payloads stco_payload (option_to_list b.stco))
    ∷ (co64, payloads co64_payload (option_to_list b.co64)) ∷ []

record Parts (b : StblBox) : Type 0 where
  stsd : Part stsd_kind (box_bytes stsd (stsd_payload b.stsd)) (b.stsd ∷ [])
  stts : Part stts_kind (box_bytes stts (stts_payload b.stts)) (b.stts ∷ [])
  ctts : Part ctts_kind (optional ctts ctts_payload b.ctts) (option_to_list b.ctts)
  stss : Part stss_kind (optional stss stss_payload b.stss) (option_to_list b.stss)
  stsc : Part stsc_kind (box_bytes stsc (stsc_payload b.stsc)) (b.stsc ∷ [])
  stsz : Part stsz_kind (box_bytes stsz (stsz_payload b.stsz)) (b.stsz ∷ [])
  stco : Part stco_kind (optional stco stco_payload b.stco) (option_to_list b.stco)
  co64 : Part co64_kind (optional co64 co64_payload b.co64) (option_to_list b.co64)

parts : (b : StblBox) → IsCanonicalStbl b → Parts b
unfolding stbl_payload stbl_refusal
parts b f =
    let written = is_written (stbl_payload b) (stbl_refusal b) f.written in
    let whole : length (stbl_payload b) < 2 ^ 32 = omega (arith, written.small) in
    let description = both_fit _ _ _ whole in
    let durations = both_fit _ _ _ description.1 in
    let offsets = both_fit _ _ _ durations.1 in
    let syncs = both_fit _ _ _ offsets.1 in
    let chunks = both_fit _ _ _ syncs.1 in
    let sizes = both_fit _ _ _ chunks.1 in
    let places = both_fit _ _ _ sizes.1 in
    let sound = or_parts (stsd_refusal b.stsd) (stsz_refusal b.stsz) written.sound in
    record {
      stsd = required_part stsd_kind b.stsd f.in_range.stsd f.well_formed.stsd sound.0 description.0;
      stts = required_part stts_kind b.stts f.in_range.stts f.well_formed.stts refl durations.0;
      ctts = optional_part ctts_kind b.ctts f.in_range.ctts f.well_formed.ctts (none_refuses b.ctts) offsets.0;
      stss = optional_part stss_kind b.stss f.in_range.stss f.well_formed.stss (none_refuses b.stss) syncs.0;
      stsc = required_part stsc_kind b.stsc f.in_range.stsc f.well_formed.stsc refl chunks.0;
      stsz = required_part stsz_kind b.stsz f.in_range.stsz f.well_formed.stsz sound.1 sizes.0;
      stco = optional_part stco_kind b.stco f.in_range.stco f.well_formed.stco (none_refuses b.stco) places.0;
      co64 = optional_part co64_kind b.co64 f.in_range.co64 f.well_formed.co64 (none_refuses b.co64) places.1;
    }

places_again : (places : Option StcoBox) (far_places : Option Co64Box) → HasPlaces places far_places
    → needed_places places far_places ≡ Ok (places, far_places)
places_again None None h = absurd h
places_again (Some places) far_places h = refl
places_again None (Some far_places) h = refl

pub stbl_again : (b : StblBox) → IsCanonicalStbl b → stbl_of (stbl_payload b) ≡ Ok b
unfolding stbl_of stbl_payload stbl_fault stbl_taken
stbl_again b f =
    let p = parts b f in
    let written : Written stbl_fault (stbl_payload b) (groups b) =
    group stsd_kind p.stsd (λ x e. rw e refl)
    (group stts_kind p.stts (λ x e. rw e refl)
    (group ctts_kind p.ctts (λ x e. rw e refl)
    (group stss_kind p.stss (λ x e. rw e refl)
    (group stsc_kind p.stsc (λ x e. rw e refl)
    (group stsz_kind p.stsz (λ x e. rw e refl)
    (group stco_kind p.stco (λ x e. rw e refl)
    (last_group co64_kind p.co64 (λ x e. rw e refl)))))))) in
    rw (
      gathered-written stbl_taken written,
      last_of-part stsd_kind (Some b.stsd) (groups b) p.stsd refl,
      last_of-part stts_kind (Some b.stts) (groups b) p.stts refl,
      last_of-part ctts_kind b.ctts (groups b) p.ctts refl,
      last_of-part stss_kind b.stss (groups b) p.stss refl,
      last_of-part stsc_kind (Some b.stsc) (groups b) p.stsc refl,
      last_of-part stsz_kind (Some b.stsz) (groups b) p.stsz refl,
      last_of-part stco_kind b.stco (groups b) p.stco refl,
      last_of-part co64_kind b.co64 (groups b) p.co64 refl,
      places_again b.stco b.co64 f.well_formed.places,
    ) refl

-- the record that the steps of reading end with
steps_end : (parts : StblParts) (b : StblBox)
    → (needed stsd parts.stsd >>= λ description. needed stts parts.stts >>= λ durations.
    needed stsc parts.stsc >>= λ chunks. needed stsz parts.stsz >>= λ sizes.
    needed_places parts.stco parts.co64 >>= λ places. Ok (record {
      stsd = description;
      stts = durations;
      ctts = parts.ctts;
      stss = parts.stss;
      stsc = chunks;
      stsz = sizes;
      stco = places.0;
      co64 = places.1;
    })) ≡ Ok b
    → needed stsc parts.stsc ≡ Ok b.stsc
steps_end parts b e =
    let description = both_steps (needed stsd parts.stsd) _ b e in
    let durations = both_steps (needed stts parts.stts) _ b description.2 in
    let chunks = both_steps (needed stsc parts.stsc) _ b durations.2 in
    let sizes = both_steps (needed stsz parts.stsz) _ b chunks.2 in
    let places = both_steps (needed_places parts.stco parts.co64) _ b sizes.2 in
    let same : chunks.0 ≡ b.stsc = ap (λ (t : StblBox). t.stsc) (ok_is _ b places.2) in
    chunks.1 ∙ ap Ok same

-- what is read as a sample table has the first samples of its chunks
pub stbl_of-has_first_samples : (payload : List ℕ) (b : StblBox) → stbl_of payload ≡ Ok b
    → HasFirstSamples b.stsc.entries
unfolding stbl_of stbl_taken
stbl_of-has_first_samples payload b e =
    let parts = both_steps (gathered stbl_fault stbl_taken (children payload)) _ b e in
    let taken = gathered-taken stbl_fault stbl_taken (children payload) parts.0 parts.1 in
    let chunks : needed stsc (last_of stsc stsc_of (children payload).0) ≡ Ok b.stsc =
    ap (λ (p : StblParts). needed stsc p.stsc) taken ∙ steps_end parts.0 b parts.2 in
    needed-holds (λ t. HasFirstSamples t.entries) stsc stsc_of stsc_of-has_first_samples (children payload).0 b.stsc
    chunks

pub encodable_stbl : IsEncodable stbl
unfolding box_type
encodable_stbl = record { named = refl; code = lit< tt }

abbrev pub stbl_kind : Kind StblBox
stbl_kind = record {
  name = stbl;
  payload = stbl_payload;
  value = stbl_of;
  refusal = stbl_refusal;
  IsInRange = IsInRangeStbl;
  IsWellFormed = IsWellFormedStbl;
  encodable = encodable_stbl;
  again = stbl_again;
}
