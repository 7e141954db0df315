-- The movie (ISO/IEC 14496-12, 8.2.1).
use Rattle.std.specs.Prelude.{ℕ, List, [], Option, None, Result, Ok, IfSome}
use Rattle.std.specs.List.{AllByRecursion}
use Rattle.mp4_codec.specs.declared.box_type.BoxType.TheVariants.{MvhdBox as mvhd, TrakBox as trak, MvexBox as mvex}
use Rattle.mp4_codec.specs.declared.box_type.BoxType.TheVariants.{MetaBox as meta, UdtaBox as udta}
use Rattle.mp4_codec.specs.Cause.{Cause, ◌>>=◌, ◌or◌}
use Rattle.mp4_codec.specs.Bytes.{◌⧺◌}
use Rattle.mp4_codec.specs.Boxes.{box_bytes, optional, optional_refusal, all_box_bytes, all_refusal, IsCanonical}
use Rattle.mp4_codec.specs.Early.{Early, early_gathered, early_last, early_next, at_once, ◌and_then◌}
use Rattle.mp4_codec.specs.Children.{ChildBox, children, gathered, fault_in, last_of, all_of, with_last, with_next}
use Rattle.mp4_codec.specs.Children.{needed}
use Rattle.mp4_leaf.specs.Mvhd.{mvhd_of, mvhd_payload, mvhd_refusal, IsInRangeMvhd, IsWellFormedMvhd, default_mvhd}
use Rattle.mp4_boxes.specs.Trak.{trak_of, trak_early, trak_payload, trak_refusal, IsInRangeTrak, IsWellFormedTrak}
use Rattle.mp4_moof.specs.Mvex.{mvex_of, mvex_early, mvex_payload, mvex_refusal, IsInRangeMvex, IsWellFormedMvex}
use Rattle.mp4_meta.specs.Meta.{meta_of, meta_early, meta_payload, IsInRangeMeta, IsWellFormedMeta}
use Rattle.mp4_meta.specs.Udta.{udta_of, udta_early, udta_payload, IsInRangeUdta, IsWellFormedUdta}
use Rattle.mp4_boxes.specs.declared.moov.MoovBox.{MoovBox}
use Rattle.mp4_boxes.specs.declared.moov.MoovParts.{MoovParts}

-- why a child refuses the movie
unfoldable pub moov_fault : ChildBox → Option Cause
moov_fault c =
    fault_in mvhd mvhd_of c or
    (fault_in trak trak_of c or
    (fault_in mvex mvex_of c or
    (fault_in meta meta_of c or
    fault_in udta udta_of c)))

-- what is taken of the children: the last child of each type, and all tracks
unfoldable pub moov_taken : List ChildBox → MoovParts
moov_taken cs = record {
  mvhd = last_of mvhd mvhd_of cs;
  traks = all_of trak trak_of cs;
  mvex = last_of mvex mvex_of cs;
  meta = last_of meta meta_of cs;
  udta = last_of udta udta_of cs;
}

-- the same with one child more
unfoldable pub moov_added : MoovParts → ChildBox → Result MoovParts Cause
moov_added p c = do
  header ← with_last mvhd mvhd_of c p.mvhd
  tracks ← with_next trak trak_of c p.traks
  fragments ← with_last mvex mvex_of c p.mvex
  metadata ← with_last meta meta_of c p.meta
  user_data ← with_last udta udta_of c p.udta
  Ok (record { mvhd = header; traks = tracks; mvex = fragments; meta = metadata; udta = user_data })

-- the movie that a payload holds: a movie header has to be there
unfoldable pub moov_of : List ℕ → Result MoovBox Cause
moov_of payload = do
  parts ← gathered moov_fault moov_taken (children payload)
  header ← needed mvhd parts.mvhd
  Ok (record { mvhd = header; traks = parts.traks; mvex = parts.mvex; meta = parts.meta; udta = parts.udta })

-- what a child shows before memory is requested
unfoldable pub moov_child_early : ChildBox → Early
moov_child_early c =
    early_last mvhd (λ p. at_once (mvhd_of p)) c
    and_then (early_next trak trak_early c
    and_then (early_last mvex mvex_early c
    and_then (early_last meta meta_early c
    and_then (early_last udta udta_early c))))

-- what a payload shows before memory is requested: its children, and then what is missing
unfoldable pub moov_early : List ℕ → Early
moov_early payload = early_gathered moov_child_early (children payload) and_then at_once (moov_of payload)

-- the payload that holds a movie
unfoldable pub moov_payload : MoovBox → List ℕ
moov_payload b =
    box_bytes mvhd (mvhd_payload b.mvhd)
    ⧺ all_box_bytes trak trak_payload b.traks
    ⧺ optional mvex mvex_payload b.mvex
    ⧺ optional meta meta_payload b.meta
    ⧺ optional udta udta_payload b.udta

-- why a movie is not written: the first refusal in written order
unfoldable pub moov_refusal : MoovBox → Option Cause
moov_refusal b = mvhd_refusal b.mvhd or (all_refusal trak_refusal b.traks or optional_refusal mvex_refusal b.mvex)

-- each number is within its type
pub record IsInRangeMoov (b : MoovBox) : Type 0 where
  pub mvhd : IsInRangeMvhd b.mvhd
  pub traks : AllByRecursion IsInRangeTrak b.traks
  pub mvex : IfSome b.mvex IsInRangeMvex
  pub meta : IfSome b.meta IsInRangeMeta
  pub udta : IfSome b.udta IsInRangeUdta

-- its children are well-formed
pub record IsWellFormedMoov (b : MoovBox) : Type 0 where
  pub mvhd : IsWellFormedMvhd b.mvhd
  pub traks : AllByRecursion IsWellFormedTrak b.traks
  pub mvex : IfSome b.mvex IsWellFormedMvex
  pub meta : IfSome b.meta IsWellFormedMeta
  pub udta : IfSome b.udta IsWellFormedUdta

-- a movie that is written and reads back equal
abbrev pub IsCanonicalMoov : MoovBox → Type 0
IsCanonicalMoov = IsCanonical IsInRangeMoov IsWellFormedMoov moov_payload moov_refusal

-- a movie of a default header, without tracks
abbrev pub default_moov : MoovBox
default_moov = record { mvhd = default_mvhd; traks = []; mvex = None; meta = None; udta = None }
