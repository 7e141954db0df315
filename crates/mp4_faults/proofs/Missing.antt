-- A child of a type that isn't looked at is missed nowhere.
use Rattle.std.proofs.Common.{◌≡◌, ℕ, Bool, true, false, eqb, List, ◌∷◌, refl, sym, ap, ◌∙◌}
use Rattle.std.proofs.lemmas.Bool.{eqb-true}
use Rattle.std.specs.List.{list_any}
use Rattle.mp4_codec.specs.declared.box_type.BoxType.{BoxType}
use Rattle.mp4_codec.specs.declared.box_type.BoxType.TheVariants.{Avc1Box, AvcCBox, Co64Box, CovrBox, DataBox, DayBox}
use Rattle.mp4_codec.specs.declared.box_type.BoxType.TheVariants.{DescBox, DinfBox, DrefBox, HdlrBox, Hev1Box, HvcCBox}
use Rattle.mp4_codec.specs.declared.box_type.BoxType.TheVariants.{MdhdBox, MdiaBox, MetaBox, MfhdBox, MinfBox, MoofBox}
use Rattle.mp4_codec.specs.declared.box_type.BoxType.TheVariants.{MoovBox, MvexBox, MvhdBox, NameBox, StblBox, StcoBox}
use Rattle.mp4_codec.specs.declared.box_type.BoxType.TheVariants.{StscBox, StsdBox, StszBox, SttsBox, TfhdBox, TkhdBox}
use Rattle.mp4_codec.specs.declared.box_type.BoxType.TheVariants.{TrafBox, TrakBox, TrexBox, Vp09Box, VpccBox}
use Rattle.mp4_codec.specs.BoxType.{code_of}
use Rattle.mp4_faults.specs.ByChildren.{missing, lacking}
use Rattle.mp4_faults.specs.Containers.{is_one_of, reads, read_by, read_by_table, read_by_other}

-- a type that isn't one of these is another than one that is
unseen : (types : List BoxType) (u t : BoxType) → is_one_of t types ≡ false → is_one_of u types ≡ true
    → eqb (code_of t) (code_of u) ≡ false
unseen types u t none among = by (eqb (code_of t) (code_of u)) refl
  where
    by : (b : Bool) → eqb (code_of t) (code_of u) ≡ b → b ≡ false
    by true e =
        let same = ap (λ (n : ℕ). list_any (λ (x : BoxType). eqb (code_of x) n) types)
        (eqb-true (code_of t) (code_of u) e) in
        let not = sym none ∙ same ∙ among in absurd cc
    by false e = refl

-- whatever is missing among children is missing with one more that isn't looked at
pub misses-alike : (name t : BoxType) (types : List BoxType) → reads name t ≡ false
    → missing name (t ∷ types) ≡ missing name types
unfolding missing lacking read_by read_by_table read_by_other
misses-alike MoovBox t types none = rw (unseen (read_by MoovBox) MvhdBox t none refl) refl
misses-alike TrakBox t types none =
    rw (
      unseen (read_by TrakBox) TkhdBox t none refl,
      unseen (read_by TrakBox) MdiaBox t none refl,
    ) refl
misses-alike MdiaBox t types none =
    rw (
      unseen (read_by MdiaBox) MdhdBox t none refl,
      unseen (read_by MdiaBox) HdlrBox t none refl,
      unseen (read_by MdiaBox) MinfBox t none refl,
    ) refl
misses-alike MinfBox t types none =
    rw (
      unseen (read_by MinfBox) DinfBox t none refl,
      unseen (read_by MinfBox) StblBox t none refl,
    ) refl
misses-alike DinfBox t types none = rw (unseen (read_by DinfBox) DrefBox t none refl) refl
misses-alike StblBox t types none =
    rw (
      unseen (read_by StblBox) StsdBox t none refl,
      unseen (read_by StblBox) SttsBox t none refl,
      unseen (read_by StblBox) StscBox t none refl,
      unseen (read_by StblBox) StszBox t none refl,
      unseen (read_by StblBox) StcoBox t none refl,
      unseen (read_by StblBox) Co64Box t none refl,
    ) refl
misses-alike Avc1Box t types none = rw (unseen (read_by Avc1Box) AvcCBox t none refl) refl
misses-alike Hev1Box t types none = rw (unseen (read_by Hev1Box) HvcCBox t none refl) refl
misses-alike Vp09Box t types none = rw (unseen (read_by Vp09Box) VpccBox t none refl) refl
misses-alike MvexBox t types none = rw (unseen (read_by MvexBox) TrexBox t none refl) refl
misses-alike MoofBox t types none = rw (unseen (read_by MoofBox) MfhdBox t none refl) refl
misses-alike TrafBox t types none = rw (unseen (read_by TrafBox) TfhdBox t none refl) refl
misses-alike MetaBox t types none = rw (unseen (read_by MetaBox) HdlrBox t none refl) refl
misses-alike NameBox t types none = rw (unseen (read_by NameBox) DataBox t none refl) refl
misses-alike DayBox t types none = rw (unseen (read_by DayBox) DataBox t none refl) refl
misses-alike CovrBox t types none = rw (unseen (read_by CovrBox) DataBox t none refl) refl
misses-alike DescBox t types none = rw (unseen (read_by DescBox) DataBox t none refl) refl
misses-alike other t types none = refl
