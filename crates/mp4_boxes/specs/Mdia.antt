-- The media of a track (ISO/IEC 14496-12, 8.4.1).
use Rattle.std.specs.Prelude.{ℕ, List, Option, Result, Ok}
use Rattle.mp4_codec.specs.declared.box_type.BoxType.TheVariants.{MdhdBox as mdhd, HdlrBox as hdlr, MinfBox as minf}
use Rattle.mp4_codec.specs.Cause.{Cause, ◌>>=◌, ◌or◌}
use Rattle.mp4_codec.specs.Bytes.{◌⧺◌}
use Rattle.mp4_codec.specs.Boxes.{box_bytes, IsCanonical}
use Rattle.mp4_codec.specs.Early.{Early, early_gathered, early_last, at_once, refused_at_once, ◌and_then◌}
use Rattle.mp4_codec.specs.Children.{ChildBox, children, gathered, fault_in, last_of, with_last, needed}
use Rattle.mp4_leaf.specs.Mdhd.{mdhd_of, mdhd_payload, mdhd_refusal, IsInRangeMdhd, IsWellFormedMdhd, default_mdhd}
use Rattle.mp4_leaf.specs.Hdlr.{hdlr_of, hdlr_payload, IsInRangeHdlr, IsWellFormedHdlr, default_hdlr}
use Rattle.mp4_boxes.specs.declared.mdia.MdiaBox.{MdiaBox}
use Rattle.mp4_boxes.specs.declared.mdia.MdiaParts.{MdiaParts}
use Rattle.mp4_boxes.specs.Minf.{minf_of, minf_early, minf_payload}
use Rattle.mp4_boxes.specs.Minf.{minf_refusal, IsInRangeMinf, IsWellFormedMinf, default_minf}

-- why a child refuses the media
unfoldable pub mdia_fault : ChildBox → Option Cause
mdia_fault c = fault_in mdhd mdhd_of c or (fault_in hdlr hdlr_of c or fault_in minf minf_of c)

-- what is taken of the children: the last of each type
unfoldable pub mdia_taken : List ChildBox → MdiaParts
mdia_taken cs = record {
  mdhd = last_of mdhd mdhd_of cs;
  hdlr = last_of hdlr hdlr_of cs;
  minf = last_of minf minf_of cs;
}

-- the same with one child more
unfoldable pub mdia_added : MdiaParts → ChildBox → Result MdiaParts Cause
mdia_added p c = do
  header ← with_last mdhd mdhd_of c p.mdhd
  handler ← with_last hdlr hdlr_of c p.hdlr
  information ← with_last minf minf_of c p.minf
  Ok (record { mdhd = header; hdlr = handler; minf = information })

-- the media that a payload holds: all three have to be there
unfoldable pub mdia_of : List ℕ → Result MdiaBox Cause
mdia_of payload = do
  parts ← gathered mdia_fault mdia_taken (children payload)
  header ← needed mdhd parts.mdhd
  handler ← needed hdlr parts.hdlr
  information ← needed minf parts.minf
  Ok (record { mdhd = header; hdlr = handler; minf = information })

-- what a child shows before memory is requested
unfoldable pub mdia_child_early : ChildBox → Early
mdia_child_early c =
    early_last mdhd (λ p. refused_at_once (mdhd_of p)) c
    and_then (early_last hdlr (λ p. refused_at_once (hdlr_of p)) c
    and_then (early_last minf minf_early c))

-- what a payload shows before memory is requested: its children, and then what is missing
unfoldable pub mdia_early : List ℕ → Early
mdia_early payload = early_gathered mdia_child_early (children payload) and_then at_once (mdia_of payload)

-- the payload that holds media
unfoldable pub mdia_payload : MdiaBox → List ℕ
mdia_payload b =
    box_bytes mdhd (mdhd_payload b.mdhd) ⧺ box_bytes hdlr (hdlr_payload b.hdlr) ⧺ box_bytes minf (minf_payload b.minf)

-- why media are not written: the header first, then the media information; no handler is refused
unfoldable pub mdia_refusal : MdiaBox → Option Cause
mdia_refusal b = mdhd_refusal b.mdhd or minf_refusal b.minf

-- each number is within its type
pub record IsInRangeMdia (b : MdiaBox) : Type 0 where
  pub mdhd : IsInRangeMdhd b.mdhd
  pub hdlr : IsInRangeHdlr b.hdlr
  pub minf : IsInRangeMinf b.minf

-- its children are well-formed
pub record IsWellFormedMdia (b : MdiaBox) : Type 0 where
  pub mdhd : IsWellFormedMdhd b.mdhd
  pub hdlr : IsWellFormedHdlr b.hdlr
  pub minf : IsWellFormedMinf b.minf

-- media that are written and read back equal
abbrev pub IsCanonicalMdia : MdiaBox → Type 0
IsCanonicalMdia = IsCanonical IsInRangeMdia IsWellFormedMdia mdia_payload mdia_refusal

-- media of defaults
abbrev pub default_mdia : MdiaBox
default_mdia = record { mdhd = default_mdhd; hdlr = default_hdlr; minf = default_minf }
