-- Why metadata and user data are refused: by the first of the children that their readings look at, or by what they
-- lack.
use Rattle.std.proofs.Common.{◌≡◌, ℕ, Bool, true, false, cond, eqb, ◌||◌, List, [], ◌∷◌, Option, Some}
use Rattle.std.proofs.Common.{None, Ok, refl, sym, ap, ◌∙◌, arith}
use Rattle.std.proofs.lemmas.Bool.{eqb-true}
use Rattle.mp4_codec.specs.declared.box_type.BoxType.TheVariants.{MetaBox, HdlrBox, IlstBox, UdtaBox, NameBox, DayBox}
use Rattle.mp4_codec.specs.declared.box_type.BoxType.TheVariants.{CovrBox, DescBox, DataBox}
use Rattle.mp4_codec.specs.BoxType.{code_of, box_type, IsNamed}
use Rattle.mp4_codec.specs.Cause.{Cause, box_not_found, fault_of, unless, ◌or◌, ◌>>=◌}
use Rattle.mp4_codec.specs.Children.{ChildBox, children, gathered, first_fault, fault_in, last_of, needed}
use Rattle.mp4_codec.specs.GatherLaws.{NoFault, first_fault-none}
use Rattle.mp4_leaf.specs.Data.{data_of}
use Rattle.mp4_leaf.specs.Hdlr.{hdlr_of}
use Rattle.mp4_leaf.specs.declared.hdlr.HdlrBox.{HdlrBox as Handler}
use Rattle.mp4_meta.specs.declared.ilst.IlstBox.{IlstBox as Ilst}
use Rattle.mp4_meta.specs.declared.meta.MetaBox.TheVariants.{Mdir, Unknown}
use Rattle.mp4_meta.specs.Ilst.{item_of, ilst_of}
use Rattle.mp4_meta.specs.Meta.{meta_of, meta_body, is_mdir, meta_with, no_fault, others}
use Rattle.mp4_meta.specs.Udta.{udta_of}
use Rattle.mp4_faults.specs.ByChildren.{fault_with, container_fault, after_children, missing, lacking}
use Rattle.mp4_faults.specs.ByChildren.{types_in}
use Rattle.mp4_faults.specs.Containers.{is_one_of, read_by, read_by_table, read_by_other, reads_items}
use Rattle.mp4_faults.specs.Containers.{is_of_items, handler_in}
use Rattle.mp4_faults.specs.Refusal.{payload_fault, table_fault, other_fault}
use Rattle.mp4_faults.proofs.Gathered.{none-refused}
use Rattle.mp4_faults.proofs.Looked.{OfTypes, last-type, and-type, looks}
use Rattle.mp4_faults.proofs.Taken.{children-named, same-first, last-there, is-there, gathers, needs}

-- USER DATA AND ITEMS

udta-looks : (c : ChildBox) (n : IsNamed c.0) → OfTypes c n (fault_in MetaBox meta_of c) (read_by UdtaBox)
unfolding payload_fault table_fault other_fault read_by read_by_table read_by_other box_type
udta-looks c n = last-type c n MetaBox meta_of refl (λ q. refl)

pub udta-by : (payload : List ℕ) → payload_fault UdtaBox payload ≡ container_fault UdtaBox payload payload
unfolding payload_fault table_fault other_fault udta_of read_by read_by_table read_by_other reads_items after_children
    missing box_type
udta-by payload =
    gathers (read_by UdtaBox) (fault_in MetaBox meta_of) udta-looks refl (last_of MetaBox meta_of) _ _ payload
    (λ named none. refl)

item-looks : (c : ChildBox) (n : IsNamed c.0) → OfTypes c n (fault_in DataBox data_of c) (DataBox ∷ [])
unfolding payload_fault table_fault other_fault box_type
item-looks c n = last-type c n DataBox data_of refl (λ q. refl)

-- the item of a payload
item-by : (payload : List ℕ) → fault_of (item_of payload)
    ≡ (first_fault (looks (DataBox ∷ [])) (children payload).0 (children payload).1
    or lacking (DataBox ∷ []) (types_in (children payload).0))
unfolding payload_fault table_fault other_fault item_of lacking box_type
item-by payload =
    gathers (DataBox ∷ []) (fault_in DataBox data_of) item-looks refl (last_of DataBox data_of) _ _ payload
    (λ named none. needs (DataBox ∷ []) (fault_in DataBox data_of) item-looks (children payload).0 named none DataBox
    data_of refl (λ q. refl) refl _ _ (λ x. refl))

pub name-by : (payload : List ℕ) → payload_fault NameBox payload ≡ container_fault NameBox payload payload
unfolding payload_fault table_fault other_fault read_by read_by_table read_by_other reads_items after_children missing
name-by = item-by

pub day-by : (payload : List ℕ) → payload_fault DayBox payload ≡ container_fault DayBox payload payload
unfolding payload_fault table_fault other_fault read_by read_by_table read_by_other reads_items after_children missing
day-by = item-by

pub covr-by : (payload : List ℕ) → payload_fault CovrBox payload ≡ container_fault CovrBox payload payload
unfolding payload_fault table_fault other_fault read_by read_by_table read_by_other reads_items after_children missing
covr-by = item-by

pub desc-by : (payload : List ℕ) → payload_fault DescBox payload ≡ container_fault DescBox payload payload
unfolding payload_fault table_fault other_fault read_by read_by_table read_by_other reads_items after_children missing
desc-by = item-by

-- METADATA

handler-looks : (c : ChildBox) (n : IsNamed c.0) → OfTypes c n (fault_in HdlrBox hdlr_of c) (HdlrBox ∷ [])
unfolding payload_fault box_type
handler-looks c n = last-type c n HdlrBox hdlr_of refl (λ q. refl)

both-look : (c : ChildBox) (n : IsNamed c.0)
    → OfTypes c n (fault_in HdlrBox hdlr_of c or fault_in IlstBox ilst_of c) (read_by MetaBox)
unfolding payload_fault table_fault other_fault read_by read_by_table read_by_other box_type
both-look c n = and-type c n HdlrBox hdlr_of refl (λ q. refl) (last-type c n IlstBox ilst_of refl (λ q. refl))

-- The children of metadata, in this part of its payload.
module _ (body : List ℕ) where
  abbrev cs : List ChildBox
  cs = (children body).0

  abbrev tail : List ℕ
  tail = (children body).1

  abbrev handlers : ChildBox → Option Cause
  handlers = fault_in HdlrBox hdlr_of

  abbrev items : ChildBox → Option Cause
  items = fault_in IlstBox ilst_of

  -- where items are looked at or not
  abbrev refusal : Bool → Option Cause
  refusal read = first_fault (fault_with MetaBox read) cs tail or lacking (HdlrBox ∷ []) (types_in cs)

  handlers-alone : (c : ChildBox) → IsNamed c.0 → handlers c ≡ fault_with MetaBox false c
  unfolding read_by read_by_table read_by_other box_type
  handlers-alone c n =
      (handler-looks c n).is ∙ by (eqb (code_of IlstBox) (code_of c.0)) refl (eqb (code_of HdlrBox) (code_of c.0)) refl
    where
      by : (ilst : Bool) → eqb (code_of IlstBox) (code_of c.0) ≡ ilst → (hdlr : Bool)
          → eqb (code_of HdlrBox) (code_of c.0) ≡ hdlr
          → cond (hdlr || false) (payload_fault c.0 c.1) None
          ≡ cond (cond (ilst || false) false (hdlr || (ilst || false))) (payload_fault c.0 c.1) None
      by true i true h =
          let yes : code_of IlstBox ≡ code_of c.0 = eqb-true (code_of IlstBox) (code_of c.0) i in
          let too : code_of HdlrBox ≡ code_of c.0 = eqb-true (code_of HdlrBox) (code_of c.0) h in
          absurd (omega (arith, yes, too))
      by true i false h = refl
      by false i true h = refl
      by false i false h = refl

  with-items : (c : ChildBox) → IsNamed c.0 → (handlers c or items c) ≡ fault_with MetaBox true c
  unfolding read_by read_by_table read_by_other
  with-items c n = (both-look c n).is ∙ by (eqb (code_of IlstBox) (code_of c.0)) (eqb (code_of HdlrBox) (code_of c.0))
    where
      by : (ilst hdlr : Bool)
          → cond (hdlr || (ilst || false)) (payload_fault c.0 c.1) None
          ≡ cond (cond (ilst || false) true (hdlr || (ilst || false))) (payload_fault c.0 c.1) None
      by true true = refl
      by true false = refl
      by false hdlr = refl

  -- where no handler is refused
  second-alone : (ds : List ChildBox) (end : List ℕ) → NoFault handlers ds
      → first_fault (λ c. handlers c or items c) ds end ≡ first_fault items ds end
  unfolding first_fault
  second-alone [] end none = refl
  second-alone (c ∷ ds) end none = rw (none.0, second-alone ds end none.1) refl

  nothing-refused : (ds : List ChildBox) → NoFault no_fault ds
  nothing-refused [] = tt
  nothing-refused (c ∷ ds) = (refl, nothing-refused ds)

  abbrev lacks : Bool → Option Cause
  lacks there = cond there None (Some (box_not_found HdlrBox))

  some-handler : (o : Option Handler) → (x : Handler) → o ≡ Some x → is-there o ≡ true
  some-handler o x e = ap is-there e

  -- the answer, by the fault of the handlers and the last of them
  meta-of : (fault : Option Cause) → first_fault handlers cs tail ≡ fault
      → (last : Option Handler) → last_of HdlrBox hdlr_of cs ≡ last
      → fault_of ((unless fault (Ok last) >>= needed HdlrBox) >>= meta_with body)
      ≡ refusal (is_of_items (unless fault (Ok last)))
  unfolding lacking
  meta-of (Some d) e last is =
      rw (sym (same-first handlers (fault_with MetaBox false) handlers-alone cs tail (children-named body)) ∙ e) refl
  meta-of None e None is =
      let none = none-refused handlers cs tail e in
      let there = last-there HdlrBox hdlr_of cs none in
      rw (sym (same-first handlers (fault_with MetaBox false) handlers-alone cs tail (children-named body)) ∙ e)
      (ap lacks (sym (ap is-there is) ∙ there) ∙ or-nothing _)
    where
      or-nothing : (o : Option Cause) → o ≡ (o or None)
      or-nothing None = refl
      or-nothing (Some c) = refl
  meta-of None e (Some handler) is =
      let none = none-refused handlers cs tail e in
      let there : is_one_of HdlrBox (types_in cs) ≡ true =
      sym (last-there HdlrBox hdlr_of cs none) ∙ ap is-there is in
      by (is_mdir handler) none there
    where
      of-list : (o : Option Cause) (list : Option Ilst)
          → fault_of (unless o (Ok list) >>= λ l. Ok (Mdir l)) ≡ (o or None)
      of-list None list = refl
      of-list (Some c) list = refl

      of-others : (o : Option Cause) (ds : List ChildBox) → o ≡ None
          → fault_of (unless o (Ok ds) >>= λ l. Ok (Unknown handler l)) ≡ None
      of-others None ds none = refl
      of-others (Some c) ds none = absurd cc

      by : (mdir : Bool) → NoFault handlers cs → is_one_of HdlrBox (types_in cs) ≡ true
          → fault_of (cond mdir
          (gathered items (last_of IlstBox ilst_of) (children body) >>= λ list. Ok (Mdir list))
          (gathered no_fault others (children body) >>= λ ds. Ok (Unknown handler ds)))
          ≡ refusal mdir
      by true none there =
          of-list (first_fault items cs tail) (last_of IlstBox ilst_of cs)
          ∙ rw (
            there,
            sym (same-first (λ c. handlers c or items c) (fault_with MetaBox true) with-items cs tail
                (children-named body)) ∙ second-alone cs tail none,
          ) refl
      by false none there =
          of-others (first_fault no_fault cs tail) (others cs)
          (first_fault-none no_fault cs tail (nothing-refused cs) ∙ sym (first_fault-none handlers cs tail none) ∙ e)
          ∙ sym (rw (
            there,
            sym (same-first handlers (fault_with MetaBox false) handlers-alone cs tail
                (children-named body)) ∙ e,
          ) refl)

  pub meta-from : (payload : List ℕ) → meta_body payload ≡ Ok body
      → reads_items MetaBox payload ≡ is_of_items (handler_in body)
      → payload_fault MetaBox payload ≡ container_fault MetaBox payload body
  unfolding payload_fault table_fault other_fault meta_of after_children missing
  meta-from payload is reads =
      rw is (meta-of (first_fault handlers cs tail) refl (last_of HdlrBox hdlr_of cs) refl)
      ∙ ap refusal (sym reads)
