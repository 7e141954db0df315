-- The fragment of a movie (ISO/IEC 14496-12, 8.8.4).
use Rattle.std.specs.Prelude.{ℕ, List, [], Option, Result, Ok}
use Rattle.std.specs.List.{AllByRecursion}
use Rattle.mp4_codec.specs.declared.box_type.BoxType.TheVariants.{MfhdBox as mfhd, TrafBox as traf}
use Rattle.mp4_codec.specs.Cause.{Cause, ◌>>=◌, ◌or◌}
use Rattle.mp4_codec.specs.Bytes.{◌⧺◌}
use Rattle.mp4_codec.specs.Boxes.{box_bytes, all_box_bytes, all_refusal, IsCanonical}
use Rattle.mp4_codec.specs.Early.{Early, early_gathered, early_last, early_next, at_once, ◌and_then◌}
use Rattle.mp4_codec.specs.Children.{ChildBox, children, gathered, fault_in, last_of, all_of, with_last, with_next}
use Rattle.mp4_codec.specs.Children.{needed}
use Rattle.mp4_moof.specs.Mfhd.{mfhd_of, mfhd_payload, IsInRangeMfhd, IsWellFormedMfhd, default_mfhd}
use Rattle.mp4_moof.specs.Traf.{traf_of, traf_early, traf_payload, traf_refusal, IsInRangeTraf, IsWellFormedTraf}
use Rattle.mp4_moof.specs.declared.moof.MoofBox.{MoofBox}
use Rattle.mp4_moof.specs.declared.moof.MoofParts.{MoofParts}

-- why a child refuses the movie fragment
unfoldable pub moof_fault : ChildBox → Option Cause
moof_fault c = fault_in mfhd mfhd_of c or fault_in traf traf_of c

-- what is taken of the children: the last header, and all fragments of tracks
unfoldable pub moof_taken : List ChildBox → MoofParts
moof_taken cs = record { mfhd = last_of mfhd mfhd_of cs; trafs = all_of traf traf_of cs }

-- the same with one child more
unfoldable pub moof_added : MoofParts → ChildBox → Result MoofParts Cause
moof_added p c = do
  header ← with_last mfhd mfhd_of c p.mfhd
  fragments ← with_next traf traf_of c p.trafs
  Ok (record { mfhd = header; trafs = fragments })

-- the movie fragment that a payload holds: a header has to be there
unfoldable pub moof_of : List ℕ → Result MoofBox Cause
moof_of payload = do
  parts ← gathered moof_fault moof_taken (children payload)
  header ← needed mfhd parts.mfhd
  Ok (record { mfhd = header; trafs = parts.trafs })

-- what a child shows before memory is requested
unfoldable pub moof_child_early : ChildBox → Early
moof_child_early c =
    early_last mfhd (λ p. at_once (mfhd_of p)) c
    and_then (early_next traf traf_early c)

-- what a payload shows before memory is requested: its children, and then what is missing
unfoldable pub moof_early : List ℕ → Early
moof_early payload = early_gathered moof_child_early (children payload) and_then at_once (moof_of payload)

-- the payload that holds a movie fragment
unfoldable pub moof_payload : MoofBox → List ℕ
moof_payload b = box_bytes mfhd (mfhd_payload b.mfhd) ⧺ all_box_bytes traf traf_payload b.trafs

-- why a movie fragment is not written: the first refusal in written order
unfoldable pub moof_refusal : MoofBox → Option Cause
moof_refusal b = all_refusal traf_refusal b.trafs

-- each number is within its type
pub record IsInRangeMoof (b : MoofBox) : Type 0 where
  pub mfhd : IsInRangeMfhd b.mfhd
  pub trafs : AllByRecursion IsInRangeTraf b.trafs

-- its children are well-formed
pub record IsWellFormedMoof (b : MoofBox) : Type 0 where
  pub mfhd : IsWellFormedMfhd b.mfhd
  pub trafs : AllByRecursion IsWellFormedTraf b.trafs

-- a movie fragment that is written and reads back equal
abbrev pub IsCanonicalMoof : MoofBox → Type 0
IsCanonicalMoof = IsCanonical IsInRangeMoof IsWellFormedMoof moof_payload moof_refusal

-- a movie fragment of a default header, without samples
abbrev pub default_moof : MoofBox
default_moof = record { mfhd = default_mfhd; trafs = [] }
