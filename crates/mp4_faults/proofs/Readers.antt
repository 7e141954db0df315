-- Why containers are refused: by the first of the children that their readings look at, or by what they lack.
use Rattle.std.proofs.Common.{◌≡◌, ℕ, Bool, true, false, cond, ◌||◌, List, [], ◌∷◌, Option, Some, None, Result, Ok, Err}
use Rattle.std.proofs.Common.{refl, sym, ap, ◌∙◌}
use Rattle.mp4_codec.specs.declared.box_type.BoxType.{BoxType}
use Rattle.mp4_codec.specs.BoxType.{box_type, IsNamed}
use Rattle.mp4_codec.specs.Cause.{Cause, box_not_found, box2_not_found, fault_of, ◌or◌, ◌>>=◌}
use Rattle.mp4_codec.specs.Children.{ChildBox, children, is_of, fault_in, last, last_of, all_of, some_needed}
use Rattle.mp4_codec.specs.declared.box_type.BoxType.TheVariants.{Co64Box, CovrBox, CttsBox, DayBox, DescBox, DinfBox}
use Rattle.mp4_codec.specs.declared.box_type.BoxType.TheVariants.{EdtsBox, ElstBox, HdlrBox, IlstBox, MdhdBox, MdiaBox}
use Rattle.mp4_codec.specs.declared.box_type.BoxType.TheVariants.{MehdBox, MetaBox, MfhdBox, MinfBox, MoofBox, MoovBox}
use Rattle.mp4_codec.specs.declared.box_type.BoxType.TheVariants.{MvexBox, MvhdBox, NameBox, SmhdBox, StblBox, StcoBox}
use Rattle.mp4_codec.specs.declared.box_type.BoxType.TheVariants.{StscBox, StsdBox, StssBox, StszBox, SttsBox, TfdtBox}
use Rattle.mp4_codec.specs.declared.box_type.BoxType.TheVariants.{TfhdBox, TkhdBox, TrafBox, TrakBox, TrexBox, TrunBox}
use Rattle.mp4_codec.specs.declared.box_type.BoxType.TheVariants.{UdtaBox, VmhdBox}
use Rattle.mp4_boxes.specs.Moov.{moov_of, moov_fault, moov_taken}
use Rattle.mp4_boxes.specs.Trak.{trak_of, trak_fault, trak_taken}
use Rattle.mp4_boxes.specs.Mdia.{mdia_of, mdia_fault, mdia_taken}
use Rattle.mp4_boxes.specs.Minf.{minf_of, minf_fault, minf_taken}
use Rattle.mp4_boxes.specs.Stbl.{stbl_of, stbl_fault, stbl_taken, needed_places}
use Rattle.mp4_boxes.specs.Edts.{edts_of, edit_list}
use Rattle.mp4_moof.specs.Mvex.{mvex_of, mvex_fault, mvex_taken}
use Rattle.mp4_moof.specs.Moof.{moof_of, moof_fault, moof_taken}
use Rattle.mp4_moof.specs.Traf.{traf_of, traf_fault, traf_taken}
use Rattle.mp4_meta.specs.Ilst.{ilst_of, ilst_fault, ilst_taken, item_of}
use Rattle.mp4_leaf.specs.Mvhd.{mvhd_of}
use Rattle.mp4_leaf.specs.Tkhd.{tkhd_of}
use Rattle.mp4_leaf.specs.Mdhd.{mdhd_of}
use Rattle.mp4_leaf.specs.Hdlr.{hdlr_of}
use Rattle.mp4_leaf.specs.Vmhd.{vmhd_of}
use Rattle.mp4_leaf.specs.Smhd.{smhd_of}
use Rattle.mp4_leaf.specs.Elst.{elst_of}
use Rattle.mp4_entry.specs.Stsd.{stsd_of}
use Rattle.mp4_table.specs.Stts.{stts_of}
use Rattle.mp4_table.specs.Ctts.{ctts_of}
use Rattle.mp4_table.specs.Stss.{stss_of}
use Rattle.mp4_table.specs.Stsc.{stsc_of}
use Rattle.mp4_table.specs.Stsz.{stsz_of}
use Rattle.mp4_table.specs.Stco.{stco_of}
use Rattle.mp4_table.specs.Co64.{co64_of}
use Rattle.mp4_moof.specs.Mehd.{mehd_of}
use Rattle.mp4_moof.specs.Trex.{trex_of}
use Rattle.mp4_moof.specs.Mfhd.{mfhd_of}
use Rattle.mp4_moof.specs.Tfhd.{tfhd_of}
use Rattle.mp4_moof.specs.Tfdt.{tfdt_of}
use Rattle.mp4_moof.specs.Trun.{trun_of}
use Rattle.mp4_leaf.specs.Dinf.{dinf_of}
use Rattle.mp4_meta.specs.Meta.{meta_of}
use Rattle.mp4_meta.specs.Udta.{udta_of}
use Rattle.mp4_boxes.specs.declared.edts.EdtsBox.{EdtsBox as Edts}
use Rattle.mp4_leaf.specs.declared.elst.ElstBox.{ElstBox as Elst}
use Rattle.mp4_table.specs.declared.stco.StcoBox.{StcoBox as Stco}
use Rattle.mp4_table.specs.declared.co64.Co64Box.{Co64Box as Co64}
use Rattle.mp4_faults.specs.ByChildren.{container_fault, after_children, missing, lacking, lacking_places, types_in}
use Rattle.mp4_faults.specs.Containers.{is_one_of, read_by, read_by_table, read_by_other, reads_items}
use Rattle.mp4_faults.specs.Refusal.{payload_fault, table_fault, other_fault}
use Rattle.mp4_faults.proofs.Looked.{OfTypes, last-type, and-type, looks, looks-at}
use Rattle.mp4_faults.proofs.Taken.{is-there, last-some, gathers, needs, has, by-first}

moov-looks : (c : ChildBox) (n : IsNamed c.0) → OfTypes c n (moov_fault c) (read_by MoovBox)
unfolding payload_fault table_fault other_fault read_by read_by_table read_by_other moov_fault box_type
moov-looks c n =
    and-type c n MvhdBox mvhd_of refl (λ q. refl) (
    and-type c n TrakBox trak_of refl (λ q. refl) (
    and-type c n MvexBox mvex_of refl (λ q. refl) (
    and-type c n MetaBox meta_of refl (λ q. refl) (
    last-type c n UdtaBox udta_of refl (λ q. refl)))))

pub moov-by : (payload : List ℕ) → payload_fault MoovBox payload ≡ container_fault MoovBox payload payload
unfolding payload_fault table_fault other_fault moov_of moov_taken read_by read_by_table read_by_other reads_items
    after_children missing lacking box_type
moov-by payload =
    gathers (read_by MoovBox) moov_fault moov-looks refl moov_taken _ _ payload (λ named none.
    needs (read_by MoovBox) moov_fault moov-looks (children payload).0 named none MvhdBox mvhd_of
    refl (λ q. refl) refl _ _
    (λ x. refl))

trak-looks : (c : ChildBox) (n : IsNamed c.0) → OfTypes c n (trak_fault c) (read_by TrakBox)
unfolding payload_fault table_fault other_fault read_by read_by_table read_by_other trak_fault box_type
trak-looks c n =
    and-type c n TkhdBox tkhd_of refl (λ q. refl) (
    and-type c n EdtsBox edts_of refl (λ q. refl) (
    and-type c n MetaBox meta_of refl (λ q. refl) (
    last-type c n MdiaBox mdia_of refl (λ q. refl))))

pub trak-by : (payload : List ℕ) → payload_fault TrakBox payload ≡ container_fault TrakBox payload payload
unfolding payload_fault table_fault other_fault trak_of trak_taken read_by read_by_table read_by_other reads_items
    after_children missing lacking box_type
trak-by payload =
    gathers (read_by TrakBox) trak_fault trak-looks refl trak_taken _ _ payload (λ named none.
    needs (read_by TrakBox) trak_fault trak-looks (children payload).0 named none TkhdBox tkhd_of
    refl (λ q. refl) refl _ _
    (λ x. needs (read_by TrakBox) trak_fault trak-looks (children payload).0 named none MdiaBox mdia_of
    refl (λ q. refl) refl _ _
    (λ x. refl)))

mdia-looks : (c : ChildBox) (n : IsNamed c.0) → OfTypes c n (mdia_fault c) (read_by MdiaBox)
unfolding payload_fault table_fault other_fault read_by read_by_table read_by_other mdia_fault box_type
mdia-looks c n =
    and-type c n MdhdBox mdhd_of refl (λ q. refl) (
    and-type c n HdlrBox hdlr_of refl (λ q. refl) (
    last-type c n MinfBox minf_of refl (λ q. refl)))

pub mdia-by : (payload : List ℕ) → payload_fault MdiaBox payload ≡ container_fault MdiaBox payload payload
unfolding payload_fault table_fault other_fault mdia_of mdia_taken read_by read_by_table read_by_other reads_items
    after_children missing lacking box_type
mdia-by payload =
    gathers (read_by MdiaBox) mdia_fault mdia-looks refl mdia_taken _ _ payload (λ named none.
    needs (read_by MdiaBox) mdia_fault mdia-looks (children payload).0 named none MdhdBox mdhd_of
    refl (λ q. refl) refl _ _
    (λ x. needs (read_by MdiaBox) mdia_fault mdia-looks (children payload).0 named none HdlrBox hdlr_of
    refl (λ q. refl) refl _ _
    (λ x. needs (read_by MdiaBox) mdia_fault mdia-looks (children payload).0 named none MinfBox minf_of
    refl (λ q. refl) refl _ _
    (λ x. refl))))

minf-looks : (c : ChildBox) (n : IsNamed c.0) → OfTypes c n (minf_fault c) (read_by MinfBox)
unfolding payload_fault table_fault other_fault read_by read_by_table read_by_other minf_fault box_type
minf-looks c n =
    and-type c n VmhdBox vmhd_of refl (λ q. refl) (
    and-type c n SmhdBox smhd_of refl (λ q. refl) (
    and-type c n DinfBox dinf_of refl (λ q. refl) (
    last-type c n StblBox stbl_of refl (λ q. refl))))

pub minf-by : (payload : List ℕ) → payload_fault MinfBox payload ≡ container_fault MinfBox payload payload
unfolding payload_fault table_fault other_fault minf_of minf_taken read_by read_by_table read_by_other reads_items
    after_children missing lacking box_type
minf-by payload =
    gathers (read_by MinfBox) minf_fault minf-looks refl minf_taken _ _ payload (λ named none.
    needs (read_by MinfBox) minf_fault minf-looks (children payload).0 named none DinfBox dinf_of
    refl (λ q. refl) refl _ _
    (λ x. needs (read_by MinfBox) minf_fault minf-looks (children payload).0 named none StblBox stbl_of
    refl (λ q. refl) refl _ _
    (λ x. refl)))

stbl-looks : (c : ChildBox) (n : IsNamed c.0) → OfTypes c n (stbl_fault c) (read_by StblBox)
unfolding payload_fault table_fault other_fault read_by read_by_table read_by_other stbl_fault box_type
stbl-looks c n =
    and-type c n StsdBox stsd_of refl (λ q. refl) (
    and-type c n SttsBox stts_of refl (λ q. refl) (
    and-type c n CttsBox ctts_of refl (λ q. refl) (
    and-type c n StssBox stss_of refl (λ q. refl) (
    and-type c n StscBox stsc_of refl (λ q. refl) (
    and-type c n StszBox stsz_of refl (λ q. refl) (
    and-type c n StcoBox stco_of refl (λ q. refl) (
    last-type c n Co64Box co64_of refl (λ q. refl))))))))

mvex-looks : (c : ChildBox) (n : IsNamed c.0) → OfTypes c n (mvex_fault c) (read_by MvexBox)
unfolding payload_fault table_fault other_fault read_by read_by_table read_by_other mvex_fault box_type
mvex-looks c n =
    and-type c n MehdBox mehd_of refl (λ q. refl) (
    last-type c n TrexBox trex_of refl (λ q. refl))

moof-looks : (c : ChildBox) (n : IsNamed c.0) → OfTypes c n (moof_fault c) (read_by MoofBox)
unfolding payload_fault table_fault other_fault read_by read_by_table read_by_other moof_fault box_type
moof-looks c n =
    and-type c n MfhdBox mfhd_of refl (λ q. refl) (
    last-type c n TrafBox traf_of refl (λ q. refl))

pub moof-by : (payload : List ℕ) → payload_fault MoofBox payload ≡ container_fault MoofBox payload payload
unfolding payload_fault table_fault other_fault moof_of moof_taken read_by read_by_table read_by_other reads_items
    after_children missing lacking box_type
moof-by payload =
    gathers (read_by MoofBox) moof_fault moof-looks refl moof_taken _ _ payload (λ named none.
    needs (read_by MoofBox) moof_fault moof-looks (children payload).0 named none MfhdBox mfhd_of
    refl (λ q. refl) refl _ _
    (λ x. refl))

traf-looks : (c : ChildBox) (n : IsNamed c.0) → OfTypes c n (traf_fault c) (read_by TrafBox)
unfolding payload_fault table_fault other_fault read_by read_by_table read_by_other traf_fault box_type
traf-looks c n =
    and-type c n TfhdBox tfhd_of refl (λ q. refl) (
    and-type c n TfdtBox tfdt_of refl (λ q. refl) (
    last-type c n TrunBox trun_of refl (λ q. refl)))

pub traf-by : (payload : List ℕ) → payload_fault TrafBox payload ≡ container_fault TrafBox payload payload
unfolding payload_fault table_fault other_fault traf_of traf_taken read_by read_by_table read_by_other reads_items
    after_children missing lacking box_type
traf-by payload =
    gathers (read_by TrafBox) traf_fault traf-looks refl traf_taken _ _ payload (λ named none.
    needs (read_by TrafBox) traf_fault traf-looks (children payload).0 named none TfhdBox tfhd_of
    refl (λ q. refl) refl _ _
    (λ x. refl))

ilst-looks : (c : ChildBox) (n : IsNamed c.0) → OfTypes c n (ilst_fault c) (read_by IlstBox)
unfolding payload_fault table_fault other_fault read_by read_by_table read_by_other ilst_fault box_type
ilst-looks c n =
    and-type c n NameBox item_of refl (λ q. refl) (
    and-type c n DayBox item_of refl (λ q. refl) (
    and-type c n CovrBox item_of refl (λ q. refl) (
    last-type c n DescBox item_of refl (λ q. refl))))

pub ilst-by : (payload : List ℕ) → payload_fault IlstBox payload ≡ container_fault IlstBox payload payload
unfolding payload_fault table_fault other_fault ilst_of ilst_taken read_by read_by_table read_by_other reads_items
    after_children missing lacking box_type
ilst-by payload =
    gathers (read_by IlstBox) ilst_fault ilst-looks refl ilst_taken _ _ payload (λ named none.
    refl)

-- what follows of the places of chunks
places-next : {B : Type 0} (near : Option Stco) (far : Option Co64) (next : Option Stco × Option Co64 → Result B Cause)
    → ((x : Option Stco × Option Co64) → fault_of (next x) ≡ None)
    → fault_of (needed_places near far >>= next)
    ≡ cond (is-there near || is-there far) None (Some (box2_not_found StcoBox Co64Box))
places-next None None next h = refl
places-next (Some x) far next h = h (Some x, far)
places-next None (Some y) next h = h (None, Some y)

both-places : (near far first second : Bool) → near ≡ first → far ≡ second
    → ◌≡◌ {A = Option Cause} (cond (near || far) None (Some (box2_not_found StcoBox Co64Box)))
    (cond (first || second) None (Some (box2_not_found StcoBox Co64Box)))
both-places near far first second e f = rw (e, f) refl

or-after : (a b c : Option Cause) → ((a or b) or c) ≡ (a or (b or c))
or-after None b c = refl
or-after (Some x) b c = refl

-- four refusals, and one after them
four-or : (a b c d e : Option Cause) → ((a or (b or (c or (d or None)))) or e) ≡ (a or (b or (c or (d or e))))
four-or (Some x) b c d e = refl
four-or None (Some x) c d e = refl
four-or None None (Some x) d e = refl
four-or None None None d e = or-after d None e

-- a box is missing among children
abbrev lack : BoxType → List ChildBox → Option Cause
lack t cs = cond (is_one_of t (types_in cs)) None (Some (box_not_found t))

pub stbl-by : (payload : List ℕ) → payload_fault StblBox payload ≡ container_fault StblBox payload payload
unfolding payload_fault table_fault stbl_of stbl_taken read_by read_by_table reads_items after_children missing lacking
    box_type
stbl-by payload =
    gathers (read_by StblBox) stbl_fault stbl-looks refl stbl_taken _ _ payload (λ named none.
    let cs = (children payload).0 in
    needs (read_by StblBox) stbl_fault stbl-looks cs named none StsdBox stsd_of refl (λ q. refl) refl _ _
    (λ x. needs (read_by StblBox) stbl_fault stbl-looks cs named none SttsBox stts_of refl (λ q. refl) refl _ _
    (λ x. needs (read_by StblBox) stbl_fault stbl-looks cs named none StscBox stsc_of refl (λ q. refl) refl _ _
    (λ x. needs (read_by StblBox) stbl_fault stbl-looks cs named none StszBox stsz_of refl (λ q. refl) refl _ _
    (λ x. places-next (last_of StcoBox stco_of cs) (last_of Co64Box co64_of cs) _ (λ y. refl)
    ∙ both-places _ _ _ _
    (has (read_by StblBox) stbl_fault stbl-looks cs named none StcoBox stco_of refl (λ q. refl) refl)
    (has (read_by StblBox) stbl_fault stbl-looks cs named none Co64Box co64_of refl (λ q. refl) refl)))))
    ∙ sym (four-or (lack StsdBox cs) (lack SttsBox cs) (lack StscBox cs) (lack StszBox cs)
    (lacking_places (types_in cs))))

pub mvex-by : (payload : List ℕ) → payload_fault MvexBox payload ≡ container_fault MvexBox payload payload
unfolding payload_fault table_fault other_fault mvex_of mvex_taken read_by read_by_table read_by_other reads_items
    after_children missing lacking box_type last_of
mvex-by payload =
    gathers (read_by MvexBox) mvex_fault mvex-looks refl mvex_taken _ _ payload (λ named none.
    let cs = (children payload).0 in
    some-next (all_of TrexBox trex_of cs) _ (λ x. refl)
    ∙ ap (λ (b : Bool). cond b None (Some (box_not_found TrexBox)) or None)
    (has (read_by MvexBox) mvex_fault mvex-looks cs named none TrexBox trex_of refl (λ q. refl) refl))
  where
    some-next : {A B : Type 0} (xs : List A) (next : List A → Result B Cause)
        → ((ys : List A) → fault_of (next ys) ≡ None)
        → fault_of (some_needed TrexBox xs >>= next)
        ≡ (cond (is-there (last xs)) None (Some (box_not_found TrexBox)) or None)
    some-next [] next h = refl
    some-next (x ∷ xs) next h = rw (last-some x xs).1 (h (x ∷ xs))

abbrev edits_of : Option Elst → Result Edts Cause
edits_of edits = Ok (record { elst = edits })

edts-looks : (c : ChildBox) (n : IsNamed c.0) → OfTypes c n (fault_in ElstBox elst_of c) (read_by EdtsBox)
unfolding payload_fault table_fault other_fault read_by read_by_table read_by_other box_type
edts-looks c n = last-type c n ElstBox elst_of refl (λ q. refl)

pub edts-by : (payload : List ℕ) → payload_fault EdtsBox payload ≡ container_fault EdtsBox payload payload
unfolding payload_fault table_fault other_fault edts_of read_by read_by_table read_by_other reads_items after_children
    missing box_type
edts-by payload =
    by-first (fault_in ElstBox elst_of) (looks (read_by EdtsBox))
    (looks-at (read_by EdtsBox) (fault_in ElstBox elst_of) edts-looks refl)
    (λ first. edit_list first >>= edits_of) refl (λ c. of-list (is_of ElstBox c) (elst_of c.1)) payload
  where
    of-list : (b : Bool) (r : Result Elst Cause)
        → fault_of (cond b (r >>= λ x. Ok (Some x)) (Ok None) >>= edits_of) ≡ cond b (fault_of r) None
    of-list true (Ok x) = refl
    of-list true (Err d) = refl
    of-list false r = refl
