-- A track of a movie (ISO/IEC 14496-12, 8.3.1).
use Rattle.std.specs.Prelude.{ℕ, List, Option, None, Result, Ok, IfSome}
use Rattle.mp4_codec.specs.declared.box_type.BoxType.TheVariants.{TkhdBox as tkhd, EdtsBox as edts, MetaBox as meta}
use Rattle.mp4_codec.specs.declared.box_type.BoxType.TheVariants.{MdiaBox as mdia}
use Rattle.mp4_codec.specs.Cause.{Cause, ◌>>=◌, ◌or◌}
use Rattle.mp4_codec.specs.Bytes.{◌⧺◌}
use Rattle.mp4_codec.specs.Boxes.{box_bytes, optional, optional_refusal, IsCanonical}
use Rattle.mp4_codec.specs.Early.{Early, early_gathered, early_last, at_once, ◌and_then◌}
use Rattle.mp4_codec.specs.Children.{ChildBox, children, gathered, fault_in, last_of, with_last, needed}
use Rattle.mp4_leaf.specs.Tkhd.{tkhd_of, tkhd_payload, tkhd_refusal, IsInRangeTkhd, IsWellFormedTkhd, default_tkhd}
use Rattle.mp4_boxes.specs.Edts.{edts_of, edts_early, edts_payload, edts_refusal, IsInRangeEdts, IsWellFormedEdts}
use Rattle.mp4_meta.specs.Meta.{meta_of, meta_early, meta_payload, IsInRangeMeta, IsWellFormedMeta}
use Rattle.mp4_boxes.specs.Mdia.{mdia_of, mdia_early, mdia_payload}
use Rattle.mp4_boxes.specs.Mdia.{mdia_refusal, IsInRangeMdia, IsWellFormedMdia, default_mdia}
use Rattle.mp4_boxes.specs.declared.trak.TrakBox.{TrakBox}
use Rattle.mp4_boxes.specs.declared.trak.TrakParts.{TrakParts}

-- why a child refuses the track
unfoldable pub trak_fault : ChildBox → Option Cause
trak_fault c =
    fault_in tkhd tkhd_of c or
    (fault_in edts edts_of c or
    (fault_in meta meta_of c or
    fault_in mdia mdia_of c))

-- what is taken of the children: the last child of each type
unfoldable pub trak_taken : List ChildBox → TrakParts
trak_taken cs = record {
  tkhd = last_of tkhd tkhd_of cs;
  edts = last_of edts edts_of cs;
  meta = last_of meta meta_of cs;
  mdia = last_of mdia mdia_of cs;
}

-- the same with one child more
unfoldable pub trak_added : TrakParts → ChildBox → Result TrakParts Cause
trak_added p c = do
  header ← with_last tkhd tkhd_of c p.tkhd
  edits ← with_last edts edts_of c p.edts
  metadata ← with_last meta meta_of c p.meta
  media ← with_last mdia mdia_of c p.mdia
  Ok (record { tkhd = header; edts = edits; meta = metadata; mdia = media })

-- the track that a payload holds: a header and media have to be there
unfoldable pub trak_of : List ℕ → Result TrakBox Cause
trak_of payload = do
  parts ← gathered trak_fault trak_taken (children payload)
  header ← needed tkhd parts.tkhd
  media ← needed mdia parts.mdia
  Ok (record { tkhd = header; edts = parts.edts; meta = parts.meta; mdia = media })

-- what a child shows before memory is requested
unfoldable pub trak_child_early : ChildBox → Early
trak_child_early c =
    early_last tkhd (λ p. at_once (tkhd_of p)) c
    and_then (early_last edts edts_early c
    and_then (early_last meta meta_early c
    and_then (early_last mdia mdia_early c)))

-- what a payload shows before memory is requested: its children, and then what is missing
unfoldable pub trak_early : List ℕ → Early
trak_early payload = early_gathered trak_child_early (children payload) and_then at_once (trak_of payload)

-- the payload that holds a track
unfoldable pub trak_payload : TrakBox → List ℕ
trak_payload b =
    box_bytes tkhd (tkhd_payload b.tkhd)
    ⧺ optional edts edts_payload b.edts
    ⧺ optional meta meta_payload b.meta
    ⧺ box_bytes mdia (mdia_payload b.mdia)

-- why a track is not written: the first refusal in written order
unfoldable pub trak_refusal : TrakBox → Option Cause
trak_refusal b = tkhd_refusal b.tkhd or (optional_refusal edts_refusal b.edts or mdia_refusal b.mdia)

-- each number is within its type
pub record IsInRangeTrak (b : TrakBox) : Type 0 where
  pub tkhd : IsInRangeTkhd b.tkhd
  pub edts : IfSome b.edts IsInRangeEdts
  pub meta : IfSome b.meta IsInRangeMeta
  pub mdia : IsInRangeMdia b.mdia

-- its children are well-formed
pub record IsWellFormedTrak (b : TrakBox) : Type 0 where
  pub tkhd : IsWellFormedTkhd b.tkhd
  pub edts : IfSome b.edts IsWellFormedEdts
  pub meta : IfSome b.meta IsWellFormedMeta
  pub mdia : IsWellFormedMdia b.mdia

-- a track that is written and reads back equal
abbrev pub IsCanonicalTrak : TrakBox → Type 0
IsCanonicalTrak = IsCanonical IsInRangeTrak IsWellFormedTrak trak_payload trak_refusal

-- a track of defaults, without edits and metadata
abbrev pub default_trak : TrakBox
default_trak = record { tkhd = default_tkhd; edts = None; meta = None; mdia = default_mdia }
