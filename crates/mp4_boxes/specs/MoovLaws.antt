-- The movie is read as it was written.
use Rattle.std.proofs.Common.{◌≡◌, ℕ, ◌^◌, ◌<◌, List, [], ◌∷◌, ◌++◌, length, Option, Some, None, Ok, refl, ap, subst}
use Rattle.std.proofs.Common.{◌∙◌}
use Rattle.std.proofs.Common.{arith}
use Rattle.std.specs.List.{AllByRecursion}
use Rattle.std.specs.Option.{option_to_list}
use Rattle.mp4_codec.specs.declared.box_type.BoxType.TheVariants.{MvhdBox as mvhd, TrakBox as trak, MvexBox as mvex}
use Rattle.mp4_codec.specs.declared.box_type.BoxType.TheVariants.{MetaBox as meta, UdtaBox as udta}
use Rattle.mp4_codec.specs.Cause.{unless}
use Rattle.mp4_codec.specs.Bytes.{◌⧺◌}
use Rattle.mp4_codec.specs.Boxes.{box_bytes, optional, all_box_bytes, optional_refusal, all_refusal}
use Rattle.mp4_codec.specs.Steps.{both_steps, ok_is}
use Rattle.mp4_codec.specs.Children.{ChildBox, children, gathered, fault_in, all_of, needed}
use Rattle.mp4_codec.specs.GatherLaws.{gathered-taken, all_of-holds}
use Rattle.mp4_table.specs.Stsc.{HasFirstSamples}
use Rattle.mp4_boxes.specs.declared.trak.TrakBox.{TrakBox}
use Rattle.mp4_boxes.specs.declared.moov.MoovParts.{MoovParts}
use Rattle.mp4_boxes.specs.TrakLaws.{trak_of-has_first_samples}
use Rattle.mp4_codec.specs.GatherLaws.{unless-then, with_last-last_of, with_next-all_of, last_child-adds}
use Rattle.mp4_codec.specs.WriteLaws.{is_written, or_parts}
use Rattle.mp4_codec.specs.WrittenParts.{none_refuses, Groups, Part, Written, payloads, required_part}
use Rattle.mp4_codec.specs.WrittenParts.{optional_part, list_part, group, last_group, gathered-written}
use Rattle.mp4_codec.specs.WrittenParts.{last_of-part, all_of-part, both_fit}
use Rattle.mp4_leaf.specs.Mvhd.{mvhd_of, mvhd_payload, mvhd_refusal}
use Rattle.mp4_boxes.specs.Trak.{trak_of, trak_payload, trak_refusal}
use Rattle.mp4_moof.specs.Mvex.{mvex_of, mvex_payload, mvex_refusal}
use Rattle.mp4_meta.specs.Meta.{meta_of, meta_payload}
use Rattle.mp4_meta.specs.Udta.{udta_of, udta_payload}
use Rattle.mp4_boxes.specs.declared.moov.MoovBox.{MoovBox}
use Rattle.mp4_boxes.specs.LeafKinds.{mvhd_kind}
use Rattle.mp4_meta.specs.MetaLaws.{meta_kind}
use Rattle.mp4_moof.specs.MvexLaws.{mvex_kind}
use Rattle.mp4_boxes.specs.TrakLaws.{trak_kind}
use Rattle.mp4_meta.specs.UdtaLaws.{udta_kind}
use Rattle.mp4_boxes.specs.Moov.{moov_fault, moov_taken, moov_added, moov_of, moov_payload, moov_refusal}
use Rattle.mp4_boxes.specs.Moov.{IsCanonicalMoov}

pub moov_adds : (cs : List ChildBox) (c : ChildBox)
    → moov_added (moov_taken cs) c ≡ unless (moov_fault c) (Ok (moov_taken (cs ++ c ∷ [])))
unfolding moov_fault moov_taken moov_added
moov_adds cs c =
    rw (
      with_last-last_of mvhd mvhd_of cs c,
      with_next-all_of trak trak_of cs c,
      with_last-last_of mvex mvex_of cs c,
      with_last-last_of meta meta_of cs c,
    )
    (unless-then (fault_in mvhd mvhd_of c) _ _ _ _
    (unless-then (fault_in trak trak_of c) _ _ _ _
    (unless-then (fault_in mvex mvex_of c) _ _ _ _
    (unless-then (fault_in meta meta_of c) _ _ _ _
    (last_child-adds udta udta_of _ cs c)))))

abbrev groups : MoovBox → Groups
groups b = (mvhd, payloads mvhd_payload (b.mvhd ∷ []))
    ∷ (trak, payloads trak_payload b.traks)
    ∷ (mvex, payloads mvex_payload (option_to_list b.mvex))
    ∷ (meta, payloads meta_payload (option_to_list b.meta))
    ∷ (udta, payloads udta_payload (option_to_list b.udta)) ∷ []

record Parts (b : MoovBox) : Type 0 where
  mvhd : Part mvhd_kind (box_bytes mvhd (mvhd_payload b.mvhd)) (b.mvhd ∷ [])
  traks : Part trak_kind (all_box_bytes trak trak_payload b.traks) b.traks
  mvex : Part mvex_kind (optional mvex mvex_payload b.mvex) (option_to_list b.mvex)
  meta : Part meta_kind (optional meta meta_payload b.meta) (option_to_list b.meta)
  udta : Part udta_kind (optional udta udta_payload b.udta) (option_to_list b.udta)

parts : (b : MoovBox) → IsCanonicalMoov b → Parts b
unfolding moov_payload moov_refusal
parts b f =
    let written = is_written (moov_payload b) (moov_refusal b) f.written in
    let after_meta = optional udta udta_payload b.udta in
    let after_mvex = optional meta meta_payload b.meta ⧺ after_meta in
    let after_trak = optional mvex mvex_payload b.mvex ⧺ after_mvex in
    let after_mvhd = all_box_bytes trak trak_payload b.traks ⧺ after_trak in
    let mvhd_fits = both_fit (box_bytes mvhd (mvhd_payload b.mvhd)) after_mvhd (2 ^ 32)
    (omega (arith, written.small)) in
    let trak_fits = both_fit (all_box_bytes trak trak_payload b.traks) after_trak (2 ^ 32) mvhd_fits.1 in
    let mvex_fits = both_fit (optional mvex mvex_payload b.mvex) after_mvex (2 ^ 32) trak_fits.1 in
    let meta_fits = both_fit (optional meta meta_payload b.meta) after_meta (2 ^ 32) mvex_fits.1 in
    let mvhd_sound = or_parts (mvhd_refusal b.mvhd) _ written.sound in
    let trak_sound = or_parts (all_refusal trak_refusal b.traks) _ mvhd_sound.1 in
    record {
      mvhd = required_part mvhd_kind b.mvhd f.in_range.mvhd f.well_formed.mvhd mvhd_sound.0 mvhd_fits.0;
      traks = list_part trak_kind b.traks f.in_range.traks f.well_formed.traks trak_sound.0 trak_fits.0;
      mvex = optional_part mvex_kind b.mvex f.in_range.mvex f.well_formed.mvex trak_sound.1 mvex_fits.0;
      meta = optional_part meta_kind b.meta f.in_range.meta f.well_formed.meta (none_refuses b.meta) meta_fits.0;
      udta = optional_part udta_kind b.udta f.in_range.udta f.well_formed.udta (none_refuses b.udta) meta_fits.1;
    }

pub moov_again : (b : MoovBox) → IsCanonicalMoov b → moov_of (moov_payload b) ≡ Ok b
unfolding moov_of moov_payload moov_fault moov_taken
moov_again b f =
    let p = parts b f in
    let written : Written moov_fault (moov_payload b) (groups b) =
    group mvhd_kind p.mvhd (λ x e. rw e refl)
    (group trak_kind p.traks (λ x e. rw e refl)
    (group mvex_kind p.mvex (λ x e. rw e refl)
    (group meta_kind p.meta (λ x e. rw e refl)
    (last_group udta_kind p.udta (λ x e. rw e refl))))) in
    rw (
      gathered-written moov_taken written,
      last_of-part mvhd_kind (Some b.mvhd) (groups b) p.mvhd refl,
      all_of-part trak_kind b.traks (groups b) p.traks refl,
      last_of-part mvex_kind b.mvex (groups b) p.mvex refl,
      last_of-part meta_kind b.meta (groups b) p.meta refl,
      last_of-part udta_kind b.udta (groups b) p.udta refl,
    ) refl

-- each track of what is read as a movie has the first samples of its chunks
pub moov_of-has_first_samples : (payload : List ℕ) (b : MoovBox) → moov_of payload ≡ Ok b
    → AllByRecursion (λ (t : TrakBox). HasFirstSamples t.mdia.minf.stbl.stsc.entries) b.traks
unfolding moov_of moov_taken
moov_of-has_first_samples payload b e =
    let parts = both_steps (gathered moov_fault moov_taken (children payload)) _ b e in
    let taken = gathered-taken moov_fault moov_taken (children payload) parts.0 parts.1 in
    let header = both_steps (needed mvhd parts.0.mvhd) _ b parts.2 in
    let same : parts.0.traks ≡ b.traks = ap (λ (m : MoovBox). m.traks) (ok_is _ b header.2) in
    let tracks : all_of trak trak_of (children payload).0 ≡ b.traks = ap (λ (p : MoovParts). p.traks) taken ∙ same in
    subst (AllByRecursion (λ (t : TrakBox). HasFirstSamples t.mdia.minf.stbl.stsc.entries)) tracks
    (all_of-holds (λ (t : TrakBox). HasFirstSamples t.mdia.minf.stbl.stsc.entries) trak trak_of
    trak_of-has_first_samples (children payload).0)
