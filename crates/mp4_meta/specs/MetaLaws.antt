-- Metadata is read as it was written.
use Rattle.std.proofs.Common.{◌≡◌, ℕ, ◌+◌, ◌^◌, ◌<◌, Bool, true, false, cond, not, List, [], ◌∷◌, ◌++◌, length}
use Rattle.std.proofs.Common.{Option, Some, None, Result, Ok, refl, sym, ap, subst, ◌∙◌, arith, lit<, append-nil}
use Rattle.std.specs.List.{AllByRecursion, filter}
use Rattle.std.specs.Option.{option_to_list}
use Rattle.std.proofs.lemmas.List.{length-append}
use Rattle.std.proofs.lemmas.List.Concat.{flat_map-cons}
use Rattle.std.proofs.lemmas.List.Elements.{filter-append}
use Rattle.mp4_codec.specs.declared.box_type.BoxType.TheVariants.{HdlrBox as hdlr, IlstBox as ilst, MetaBox as meta}
use Rattle.mp4_codec.specs.BoxType.{box_type}
use Rattle.mp4_codec.specs.Cause.{Cause, unless}
use Rattle.mp4_codec.specs.Bytes.{number, number_at, zeros, ◌⧺◌}
use Rattle.mp4_codec.specs.FieldLaws.{number_again}
use Rattle.mp4_codec.specs.Boxes.{box_bytes, optional, no_refusal}
use Rattle.mp4_codec.specs.Framing.{IsEncodable}
use Rattle.mp4_codec.specs.FramingLaws.{length-box_bytes}
use Rattle.mp4_codec.specs.Children.{ChildBox, gathered, is_of, fault_in, all_of, last_of}
use Rattle.mp4_codec.specs.GatherLaws.{NoFault, first_fault-none}
use Rattle.mp4_codec.specs.WriteLaws.{is_written}
use Rattle.mp4_codec.specs.WrittenChildren.{HasBoxes, HasBoxes-none, HasBoxes-one, HasBoxes-then, children-boxes}
use Rattle.mp4_codec.specs.WrittenParts.{Kind, Groups, Part, Written, payloads, required_part, optional_part}
use Rattle.mp4_codec.specs.WrittenParts.{group, last_group, gathered-written, last_of-part, both_fit, none_refuses}
use Rattle.mp4_leaf.specs.declared.hdlr.HdlrBox.{HdlrBox}
use Rattle.mp4_leaf.specs.Hdlr.{hdlr_of, hdlr_payload, IsInRangeHdlr, IsWellFormedHdlr}
use Rattle.mp4_leaf.specs.HdlrLaws.{length-hdlr_payload}
use Rattle.mp4_meta.specs.declared.ilst.IlstBox.{IlstBox}
use Rattle.mp4_meta.specs.declared.meta.MetaBox.{MetaBox}
use Rattle.mp4_meta.specs.declared.meta.MetaBox.TheVariants.{Mdir, Unknown}
use Rattle.mp4_meta.specs.declared.meta.OtherChildren.{OtherChildren}
use Rattle.mp4_meta.specs.MetadataKinds.{hdlr_kind}
use Rattle.mp4_meta.specs.Ilst.{ilst_of, ilst_payload}
use Rattle.mp4_meta.specs.IlstLaws.{ilst_kind}
use Rattle.mp4_meta.specs.Meta.{meta_body, mdir, mdir_handler, others, others_added, no_fault, HasCode, IsOther}
use Rattle.mp4_meta.specs.Meta.{meta_of, child_box_bytes, meta_payload, IsInRangeMeta, IsWellFormedMeta}
use Rattle.mp4_meta.specs.Meta.{IsCanonicalMeta}

-- the handler that is written for mdir has no name
pub length-mdir_handler : length (hdlr_payload mdir_handler) ≡ 25
length-mdir_handler = length-hdlr_payload mdir_handler

pub others_adds : (cs : List ChildBox) (c : ChildBox)
    → others_added (record { children = others cs }) c
    ≡ unless (no_fault c) (Ok (record { children = others (cs ++ c ∷ []) }))
unfolding others others_added
others_adds cs c = rw (filter-append (λ k. not (is_of hdlr k)) cs (c ∷ [])) (chosen (is_of hdlr c))
  where
    before : List ChildBox
    before = filter (λ k. not (is_of hdlr k)) cs

    parts : List ChildBox → Result OtherChildren Cause
    parts ks = Ok (record { children = ks })

    chosen : (b : Bool)
        → cond b (parts before) (parts (before ++ c ∷ [])) ≡ parts (before ++ cond (not b) (c ∷ []) [])
    chosen true = ap parts (sym (append-nil before))
    chosen false = refl

-- four zero bytes are the number 0
zero_again : (rest : List ℕ) → number_at 4 (zeros 4 ⧺ rest) ≡ Ok (0, rest)
unfolding zeros number
zero_again rest = number_again 4 0 rest (lit< tt)

-- the children are after the four zero bytes
body_again : (rest : List ℕ) → meta_body (zeros 4 ⧺ rest) ≡ Ok rest
unfolding meta_body
body_again rest = rw (zero_again rest) refl

joined : (a b : List ℕ) (ks ls : List ChildBox) → HasBoxes a ks → HasBoxes b ls → HasBoxes (a ++ b) (ks ++ ls)
unfolding ◌⧺◌
joined a b ks ls f g = HasBoxes-then f g

boxes_of : (cs : List ChildBox) → AllByRecursion HasCode cs → AllByRecursion IsOther cs
    → length (child_box_bytes cs) < 2 ^ 32 → HasBoxes (child_box_bytes cs) cs
unfolding child_box_bytes
boxes_of [] codes other small = HasBoxes-none
boxes_of (c ∷ cs) codes other small =
    let whole : child_box_bytes (c ∷ cs) ≡ box_bytes c.0 c.1 ++ child_box_bytes cs =
    flat_map-cons (λ (k : ChildBox). box_bytes k.0 k.1) c cs in
    let size : length (child_box_bytes (c ∷ cs)) ≡ 8 + length c.1 + length (child_box_bytes cs) =
    ap length whole ∙ length-append (box_bytes c.0 c.1) (child_box_bytes cs)
    ∙ ap (λ (n : ℕ). n + length (child_box_bytes cs)) (length-box_bytes c.0 c.1) in
    let encodable : IsEncodable c.0 = record { named = other.0.1; code = codes.0 } in
    let first = HasBoxes-one c.0 c.1 encodable (omega (arith, size, small)) in
    let rest = boxes_of cs codes.1 other.1 (omega (arith, size, small)) in
    subst (λ (bytes : List ℕ). HasBoxes bytes (c ∷ cs)) (sym whole)
    (joined (box_bytes c.0 c.1) (child_box_bytes cs) (c ∷ []) cs first rest)

others_same : (cs : List ChildBox) → AllByRecursion IsOther cs → others cs ≡ cs
unfolding others
others_same [] other = refl
others_same (c ∷ cs) other = rw other.0.0 (ap (λ (ks : List ChildBox). c ∷ ks) (others_same cs other.1))

no_handler : (cs : List ChildBox) → AllByRecursion IsOther cs → all_of hdlr hdlr_of cs ≡ []
unfolding all_of
no_handler [] other = refl
no_handler (c ∷ cs) other = rw other.0.0 (no_handler cs other.1)

unrefused : (cs : List ChildBox) → AllByRecursion IsOther cs → NoFault (fault_in hdlr hdlr_of) cs
unrefused [] other = tt
unrefused (c ∷ cs) other = (rw other.0.0 refl, unrefused cs other.1)

none_refused : (cs : List ChildBox) → NoFault no_fault cs
none_refused [] = tt
none_refused (c ∷ cs) = (refl, none_refused cs)

module _ (handler : HdlrBox) (cs : List ChildBox) (reads : hdlr_of (hdlr_payload handler) ≡ Ok handler)
    (other : AllByRecursion IsOther cs) where
  abbrev listed : List ChildBox
  listed = (hdlr, hdlr_payload handler) ∷ cs

  its_handler : gathered (fault_in hdlr hdlr_of) (last_of hdlr hdlr_of) (listed, []) ≡ Ok (Some handler)
  unfolding last_of all_of
  its_handler =
      rw (
        first_fault-none (fault_in hdlr hdlr_of) listed [] (rw reads refl, unrefused cs other),
        reads,
        no_handler cs other,
      ) refl

  no_other : others listed ≡ cs
  unfolding others
  no_other = others_same cs other

  its_others : gathered no_fault others (listed, []) ≡ Ok cs
  its_others = rw (first_fault-none no_fault listed [] (none_refused listed)) (ap Ok no_other)

abbrev mdir_groups : Option IlstBox → Groups
mdir_groups list = (hdlr, payloads hdlr_payload (mdir_handler ∷ []))
    ∷ (ilst, payloads ilst_payload (option_to_list list)) ∷ []

mdir_in_range : IsInRangeHdlr mdir_handler
mdir_in_range = record { version = lit< tt; handler_type = (mdir, lit< tt, refl) }

mdir_well_formed : IsWellFormedHdlr mdir_handler
mdir_well_formed = record { flags = lit< tt; name = tt }

pub meta_again : (b : MetaBox) → IsCanonicalMeta b → meta_of (meta_payload b) ≡ Ok b
unfolding meta_of meta_payload
meta_again (Mdir list) f =
    let written = is_written (meta_payload (Mdir list)) None f.written in
    let handler_bytes = box_bytes hdlr (hdlr_payload mdir_handler) in
    let list_bytes = optional ilst ilst_payload list in
    let fits = both_fit (zeros 4) (handler_bytes ⧺ list_bytes) (2 ^ 32) (omega (arith, written.small)) in
    let both = both_fit handler_bytes list_bytes (2 ^ 32) fits.1 in
    let first : Part hdlr_kind handler_bytes (mdir_handler ∷ []) =
    required_part hdlr_kind mdir_handler mdir_in_range mdir_well_formed refl both.0 in
    let second : Part ilst_kind list_bytes (option_to_list list) =
    optional_part ilst_kind list f.in_range f.well_formed (none_refuses list) both.1 in
    let handlers : Written (fault_in hdlr hdlr_of) (handler_bytes ⧺ list_bytes) (mdir_groups list) =
    group hdlr_kind first (λ x e. rw e refl) (last_group ilst_kind second (λ x e. refl)) in
    let lists : Written (fault_in ilst ilst_of) (handler_bytes ⧺ list_bytes) (mdir_groups list) =
    group hdlr_kind first (λ x e. refl) (last_group ilst_kind second (λ x e. rw e refl)) in
    rw (
      body_again (handler_bytes ⧺ list_bytes),
      gathered-written (last_of hdlr hdlr_of) handlers,
      last_of-part hdlr_kind (Some mdir_handler) (mdir_groups list) first refl,
      gathered-written (last_of ilst ilst_of) lists,
      last_of-part ilst_kind list (mdir_groups list) second refl,
    ) refl
meta_again (Unknown handler cs) f =
    let written = is_written (meta_payload (Unknown handler cs)) None f.written in
    let handler_bytes = box_bytes hdlr (hdlr_payload handler) in
    let fits = both_fit (zeros 4) (handler_bytes ⧺ child_box_bytes cs) (2 ^ 32) (omega (arith, written.small)) in
    let both = both_fit handler_bytes (child_box_bytes cs) (2 ^ 32) fits.1 in
    let first : Part hdlr_kind handler_bytes (handler ∷ []) =
    required_part hdlr_kind handler f.in_range.0 f.well_formed.0 refl both.0 in
    let boxes : HasBoxes (handler_bytes ⧺ child_box_bytes cs) (listed handler cs first.reads.0 f.well_formed.2) =
    HasBoxes-then first.boxes (boxes_of cs f.in_range.1 f.well_formed.2 both.1) in
    rw (
      body_again (handler_bytes ⧺ child_box_bytes cs),
      children-boxes (handler_bytes ⧺ child_box_bytes cs) (listed handler cs first.reads.0 f.well_formed.2) boxes,
      its_handler handler cs first.reads.0 f.well_formed.2,
      f.well_formed.1,
      its_others handler cs first.reads.0 f.well_formed.2,
    ) refl

pub encodable_meta : IsEncodable meta
unfolding box_type
encodable_meta = record { named = refl; code = lit< tt }

abbrev pub meta_kind : Kind MetaBox
meta_kind = record {
  name = meta;
  payload = meta_payload;
  value = meta_of;
  refusal = no_refusal;
  IsInRange = IsInRangeMeta;
  IsWellFormed = IsWellFormedMeta;
  encodable = encodable_meta;
  again = meta_again;
}
