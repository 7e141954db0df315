-- Metadata as a list of items is read as it was written.
use Rattle.std.proofs.Common.{◌≡◌, ◌^◌, List, [], ◌∷◌, ◌++◌, length, Option, Some, None, Ok, refl}
use Rattle.std.proofs.Common.{arith, lit<}
use Rattle.std.specs.Option.{option_to_list}
use Rattle.mp4_codec.specs.declared.box_type.BoxType.{BoxType}
use Rattle.mp4_codec.specs.declared.box_type.BoxType.TheVariants.{DataBox as data_box, NameBox}
use Rattle.mp4_codec.specs.declared.box_type.BoxType.TheVariants.{DayBox, CovrBox, DescBox, IlstBox as ilst}
use Rattle.mp4_codec.specs.BoxType.{box_type}
use Rattle.mp4_codec.specs.Cause.{unless}
use Rattle.mp4_codec.specs.Bytes.{◌⧺◌}
use Rattle.mp4_codec.specs.Boxes.{box_bytes, optional, no_refusal, IsCanonical}
use Rattle.mp4_codec.specs.Framing.{IsEncodable}
use Rattle.mp4_codec.specs.Children.{ChildBox, fault_in, last_of}
use Rattle.mp4_codec.specs.GatherLaws.{unless-then, with_last-last_of, last_child-adds}
use Rattle.mp4_codec.specs.WriteLaws.{is_written}
use Rattle.mp4_codec.specs.WrittenParts.{Kind, Groups, Part, Written, payloads, required_part, optional_part}
use Rattle.mp4_codec.specs.WrittenParts.{group, last_group, gathered-written, last_of-part, both_fit, none_refuses}
use Rattle.mp4_leaf.specs.Data.{data_of, data_payload}
use Rattle.mp4_meta.specs.declared.metadata_key.MetadataKey.TheVariants.{Title, Year, Poster, Summary}
use Rattle.mp4_meta.specs.declared.ilst.IlstItemBox.{IlstItemBox}
use Rattle.mp4_meta.specs.declared.ilst.IlstBox.{IlstBox}
use Rattle.mp4_meta.specs.MetadataKinds.{data_kind, encodable_name, encodable_day, encodable_covr, encodable_desc}
use Rattle.mp4_meta.specs.Ilst.{item_of, item_payload, IsInRangeItem, IsWellFormedItem, Held, item_at, item_box_bytes}
use Rattle.mp4_meta.specs.Ilst.{ilst_fault}
use Rattle.mp4_meta.specs.Ilst.{ilst_taken, ilst_added, ilst_of, ilst_payload}
use Rattle.mp4_meta.specs.Ilst.{IsInRangeIlst, IsWellFormedIlst, IsCanonicalIlst}

item_again : (i : IlstItemBox) → IsCanonical IsInRangeItem IsWellFormedItem item_payload no_refusal i
    → item_of (item_payload i) ≡ Ok i
unfolding item_of item_payload
item_again i f =
    let written = is_written (item_payload i) None f.written in
    let part : Part data_kind (box_bytes data_box (data_payload i.item)) (i.item ∷ []) =
    required_part data_kind i.item f.in_range f.well_formed refl (omega (arith, written.small)) in
    let value : Written (fault_in data_box data_of) (box_bytes data_box (data_payload i.item))
    ((data_box, payloads data_payload (i.item ∷ [])) ∷ []) =
    last_group data_kind part (λ x e. rw e refl) in
    rw (
      gathered-written (last_of data_box data_of) value,
      last_of-part data_kind (Some i.item) ((data_box, payloads data_payload (i.item ∷ [])) ∷ []) part refl,
    ) refl

abbrev item_kind : (name : BoxType) → IsEncodable name → Kind IlstItemBox
item_kind name encodable = record {
  name = name;
  payload = item_payload;
  value = item_of;
  refusal = no_refusal;
  IsInRange = IsInRangeItem;
  IsWellFormed = IsWellFormedItem;
  encodable = encodable;
  again = item_again;
}

abbrev title_kind : Kind IlstItemBox
title_kind = item_kind NameBox encodable_name

abbrev year_kind : Kind IlstItemBox
year_kind = item_kind DayBox encodable_day

abbrev poster_kind : Kind IlstItemBox
poster_kind = item_kind CovrBox encodable_covr

abbrev summary_kind : Kind IlstItemBox
summary_kind = item_kind DescBox encodable_desc

pub ilst_adds : (cs : List ChildBox) (c : ChildBox)
    → ilst_added (ilst_taken cs) c ≡ unless (ilst_fault c) (Ok (ilst_taken (cs ++ c ∷ [])))
unfolding ilst_fault ilst_taken ilst_added
ilst_adds cs c =
    rw (
      with_last-last_of NameBox item_of cs c,
      with_last-last_of DayBox item_of cs c,
      with_last-last_of CovrBox item_of cs c,
    )
    (unless-then (fault_in NameBox item_of c) _ _ _ _
    (unless-then (fault_in DayBox item_of c) _ _ _ _
    (unless-then (fault_in CovrBox item_of c) _ _ _ _
    (last_child-adds DescBox item_of _ cs c))))

-- each key has its place
places : (held : Held) → length held ≡ 4
    → item_at Title held ∷ item_at Year held ∷ item_at Poster held ∷ item_at Summary held ∷ [] ≡ held
unfolding item_at
places [] e = absurd cc
places (t ∷ []) e = absurd cc
places (t ∷ y ∷ []) e = absurd cc
places (t ∷ y ∷ p ∷ []) e = absurd cc
places (t ∷ y ∷ p ∷ s ∷ []) e = refl
places (t ∷ y ∷ p ∷ s ∷ x ∷ more) e = absurd (omega (arith, e))

abbrev groups : IlstBox → Groups
groups b = (NameBox, payloads item_payload (option_to_list (item_at Title b.items)))
    ∷ (DayBox, payloads item_payload (option_to_list (item_at Year b.items)))
    ∷ (CovrBox, payloads item_payload (option_to_list (item_at Poster b.items)))
    ∷ (DescBox, payloads item_payload (option_to_list (item_at Summary b.items))) ∷ []

record Parts (b : IlstBox) : Type 0 where
  title : Part title_kind (item_box_bytes Title b.items) (option_to_list (item_at Title b.items))
  year : Part year_kind (item_box_bytes Year b.items) (option_to_list (item_at Year b.items))
  poster : Part poster_kind (item_box_bytes Poster b.items) (option_to_list (item_at Poster b.items))
  summary : Part summary_kind (item_box_bytes Summary b.items) (option_to_list (item_at Summary b.items))

parts : (b : IlstBox) → IsCanonicalIlst b → Parts b
unfolding ilst_payload
parts b f =
    let written = is_written (ilst_payload b) None f.written in
    let after_poster = item_box_bytes Summary b.items in
    let after_year = item_box_bytes Poster b.items ⧺ after_poster in
    let after_title = item_box_bytes Year b.items ⧺ after_year in
    let first = both_fit (item_box_bytes Title b.items) after_title (2 ^ 32) (omega (arith, written.small)) in
    let second = both_fit (item_box_bytes Year b.items) after_year (2 ^ 32) first.1 in
    let third = both_fit (item_box_bytes Poster b.items) after_poster (2 ^ 32) second.1 in
    record {
      title = optional_part title_kind (item_at Title b.items) f.in_range.title f.well_formed.title
          (none_refuses _) first.0;
      year = optional_part year_kind (item_at Year b.items) f.in_range.year f.well_formed.year
          (none_refuses _) second.0;
      poster = optional_part poster_kind (item_at Poster b.items) f.in_range.poster f.well_formed.poster
          (none_refuses _) third.0;
      summary = optional_part summary_kind (item_at Summary b.items) f.in_range.summary f.well_formed.summary
          (none_refuses _) third.1;
    }

pub ilst_again : (b : IlstBox) → IsCanonicalIlst b → ilst_of (ilst_payload b) ≡ Ok b
unfolding ilst_of ilst_payload ilst_fault ilst_taken
ilst_again b f =
    let p = parts b f in
    let written : Written ilst_fault (ilst_payload b) (groups b) =
    group title_kind p.title (λ x e. rw e refl)
    (group year_kind p.year (λ x e. rw e refl)
    (group poster_kind p.poster (λ x e. rw e refl)
    (last_group summary_kind p.summary (λ x e. rw e refl)))) in
    rw (
      gathered-written ilst_taken written,
      last_of-part title_kind (item_at Title b.items) (groups b) p.title refl,
      last_of-part year_kind (item_at Year b.items) (groups b) p.year refl,
      last_of-part poster_kind (item_at Poster b.items) (groups b) p.poster refl,
      last_of-part summary_kind (item_at Summary b.items) (groups b) p.summary refl,
      places b.items f.in_range.keys,
    ) refl

pub encodable_ilst : IsEncodable ilst
unfolding box_type
encodable_ilst = record { named = refl; code = lit< tt }

abbrev pub ilst_kind : Kind IlstBox
ilst_kind = record {
  name = ilst;
  payload = ilst_payload;
  value = ilst_of;
  refusal = no_refusal;
  IsInRange = IsInRangeIlst;
  IsWellFormed = IsWellFormedIlst;
  encodable = encodable_ilst;
  again = ilst_again;
}
