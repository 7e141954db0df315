-- The information of a track's media (ISO/IEC 14496-12, 8.4.4).
use Rattle.std.specs.Prelude.{ℕ, List, Option, None, Result, Ok, IfSome}
use Rattle.mp4_codec.specs.declared.box_type.BoxType.TheVariants.{VmhdBox as vmhd, SmhdBox as smhd, DinfBox as dinf}
use Rattle.mp4_codec.specs.declared.box_type.BoxType.TheVariants.{StblBox as stbl}
use Rattle.mp4_codec.specs.Cause.{Cause, ◌>>=◌, ◌or◌}
use Rattle.mp4_codec.specs.Bytes.{◌⧺◌}
use Rattle.mp4_codec.specs.Boxes.{box_bytes, optional, IsCanonical}
use Rattle.mp4_codec.specs.Early.{Early, early_gathered, early_last, at_once, ◌and_then◌}
use Rattle.mp4_codec.specs.Children.{ChildBox, children, gathered, fault_in, last_of, with_last, needed}
use Rattle.mp4_leaf.specs.Vmhd.{vmhd_of, vmhd_payload, IsInRangeVmhd, IsWellFormedVmhd}
use Rattle.mp4_leaf.specs.Smhd.{smhd_of, smhd_payload, IsInRangeSmhd, IsWellFormedSmhd}
use Rattle.mp4_leaf.specs.Dinf.{dinf_of, dinf_early, dinf_payload, IsInRangeDinf, IsWellFormedDinf, default_dinf}
use Rattle.mp4_boxes.specs.declared.minf.MinfBox.{MinfBox}
use Rattle.mp4_boxes.specs.declared.minf.MinfParts.{MinfParts}
use Rattle.mp4_boxes.specs.Stbl.{stbl_of, stbl_early, stbl_payload}
use Rattle.mp4_boxes.specs.Stbl.{stbl_refusal, IsInRangeStbl, IsWellFormedStbl, default_stbl}

-- why a child refuses the media information
unfoldable pub minf_fault : ChildBox → Option Cause
minf_fault c =
    fault_in vmhd vmhd_of c or (fault_in smhd smhd_of c or (fault_in dinf dinf_of c or fault_in stbl stbl_of c))

-- what is taken of the children: the last of each type
unfoldable pub minf_taken : List ChildBox → MinfParts
minf_taken cs = record {
  vmhd = last_of vmhd vmhd_of cs;
  smhd = last_of smhd smhd_of cs;
  dinf = last_of dinf dinf_of cs;
  stbl = last_of stbl stbl_of cs;
}

-- the same with one child more
unfoldable pub minf_added : MinfParts → ChildBox → Result MinfParts Cause
minf_added p c = do
  video ← with_last vmhd vmhd_of c p.vmhd
  sound ← with_last smhd smhd_of c p.smhd
  information ← with_last dinf dinf_of c p.dinf
  table ← with_last stbl stbl_of c p.stbl
  Ok (record { vmhd = video; smhd = sound; dinf = information; stbl = table })

-- the media information that a payload holds: data information and a sample table have to be there
unfoldable pub minf_of : List ℕ → Result MinfBox Cause
minf_of payload = do
  parts ← gathered minf_fault minf_taken (children payload)
  information ← needed dinf parts.dinf
  table ← needed stbl parts.stbl
  Ok (record { vmhd = parts.vmhd; smhd = parts.smhd; dinf = information; stbl = table })

-- what a child shows before memory is requested
unfoldable pub minf_child_early : ChildBox → Early
minf_child_early c =
    early_last vmhd (λ p. at_once (vmhd_of p)) c
    and_then (early_last smhd (λ p. at_once (smhd_of p)) c
    and_then (early_last dinf dinf_early c
    and_then (early_last stbl stbl_early c)))

-- what a payload shows before memory is requested: its children, and then what is missing
unfoldable pub minf_early : List ℕ → Early
minf_early payload = early_gathered minf_child_early (children payload) and_then at_once (minf_of payload)

-- the payload that holds media information
unfoldable pub minf_payload : MinfBox → List ℕ
minf_payload b =
    optional vmhd vmhd_payload b.vmhd ⧺ optional smhd smhd_payload b.smhd ⧺ box_bytes dinf (dinf_payload b.dinf)
    ⧺ box_bytes stbl (stbl_payload b.stbl)

-- why media information is not written: no child but the sample table is refused
unfoldable pub minf_refusal : MinfBox → Option Cause
minf_refusal b = stbl_refusal b.stbl

-- each number is within its type
pub record IsInRangeMinf (b : MinfBox) : Type 0 where
  pub vmhd : IfSome b.vmhd IsInRangeVmhd
  pub smhd : IfSome b.smhd IsInRangeSmhd
  pub dinf : IsInRangeDinf b.dinf
  pub stbl : IsInRangeStbl b.stbl

-- its children are well-formed
pub record IsWellFormedMinf (b : MinfBox) : Type 0 where
  pub vmhd : IfSome b.vmhd IsWellFormedVmhd
  pub smhd : IfSome b.smhd IsWellFormedSmhd
  pub dinf : IsWellFormedDinf b.dinf
  pub stbl : IsWellFormedStbl b.stbl

-- media information that is written and reads back equal
abbrev pub IsCanonicalMinf : MinfBox → Type 0
IsCanonicalMinf = IsCanonical IsInRangeMinf IsWellFormedMinf minf_payload minf_refusal

-- media information of defaults, of no kind of media
abbrev pub default_minf : MinfBox
default_minf = record { vmhd = None; smhd = None; dinf = default_dinf; stbl = default_stbl }
