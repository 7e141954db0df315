-- The fragment of a track (ISO/IEC 14496-12, 8.8.6).
use Rattle.std.specs.Prelude.{ℕ, List, [], Option, None, Result, Ok, IfSome}
use Rattle.std.specs.List.{AllByRecursion}
use Rattle.mp4_codec.specs.declared.box_type.BoxType.TheVariants.{TfhdBox as tfhd, TfdtBox as tfdt, TrunBox as trun}
use Rattle.mp4_codec.specs.Cause.{Cause, ◌>>=◌, ◌or◌}
use Rattle.mp4_codec.specs.Bytes.{◌⧺◌}
use Rattle.mp4_codec.specs.Boxes.{box_bytes, optional, optional_refusal, all_box_bytes, all_refusal, IsCanonical}
use Rattle.mp4_codec.specs.Early.{Early, early_gathered, early_last, early_next, at_once, refused_at_once, ◌and_then◌}
use Rattle.mp4_codec.specs.Children.{ChildBox, children, gathered, fault_in, last_of, all_of, with_last, with_next}
use Rattle.mp4_codec.specs.Children.{needed}
use Rattle.mp4_moof.specs.Tfhd.{tfhd_of, tfhd_payload, tfhd_refusal, IsInRangeTfhd, IsWellFormedTfhd, default_tfhd}
use Rattle.mp4_moof.specs.Tfdt.{tfdt_of, tfdt_payload, tfdt_refusal, IsInRangeTfdt, IsWellFormedTfdt}
use Rattle.mp4_moof.specs.Trun.{trun_of, trun_payload, trun_refusal, IsInRangeTrun, IsWellFormedTrun}
use Rattle.mp4_moof.specs.declared.traf.TrafBox.{TrafBox}
use Rattle.mp4_moof.specs.declared.traf.TrafParts.{TrafParts}

-- why a child refuses the fragment
unfoldable pub traf_fault : ChildBox → Option Cause
traf_fault c = fault_in tfhd tfhd_of c or (fault_in tfdt tfdt_of c or fault_in trun trun_of c)

-- what is taken of the children: the last header, the last time, and all runs
unfoldable pub traf_taken : List ChildBox → TrafParts
traf_taken cs = record {
  tfhd = last_of tfhd tfhd_of cs;
  tfdt = last_of tfdt tfdt_of cs;
  truns = all_of trun trun_of cs;
}

-- the same with one child more
unfoldable pub traf_added : TrafParts → ChildBox → Result TrafParts Cause
traf_added p c = do
  header ← with_last tfhd tfhd_of c p.tfhd
  time ← with_last tfdt tfdt_of c p.tfdt
  runs ← with_next trun trun_of c p.truns
  Ok (record { tfhd = header; tfdt = time; truns = runs })

-- the fragment that a payload holds: a header has to be there
unfoldable pub traf_of : List ℕ → Result TrafBox Cause
traf_of payload = do
  parts ← gathered traf_fault traf_taken (children payload)
  header ← needed tfhd parts.tfhd
  Ok (record { tfhd = header; tfdt = parts.tfdt; truns = parts.truns })

-- what a child shows before memory is requested
unfoldable pub traf_child_early : ChildBox → Early
traf_child_early c =
    early_last tfhd (λ p. at_once (tfhd_of p)) c
    and_then (early_last tfdt (λ p. at_once (tfdt_of p)) c
    and_then (early_next trun (λ p. refused_at_once (trun_of p)) c))

-- what a payload shows before memory is requested: its children, and then what is missing
unfoldable pub traf_early : List ℕ → Early
traf_early payload = early_gathered traf_child_early (children payload) and_then at_once (traf_of payload)

-- the payload that holds a fragment
unfoldable pub traf_payload : TrafBox → List ℕ
traf_payload b =
    box_bytes tfhd (tfhd_payload b.tfhd)
    ⧺ optional tfdt tfdt_payload b.tfdt
    ⧺ all_box_bytes trun trun_payload b.truns

-- why a fragment is not written: the first refusal in written order
unfoldable pub traf_refusal : TrafBox → Option Cause
traf_refusal b = tfhd_refusal b.tfhd or (optional_refusal tfdt_refusal b.tfdt or all_refusal trun_refusal b.truns)

-- each number is within its type
pub record IsInRangeTraf (b : TrafBox) : Type 0 where
  pub tfhd : IsInRangeTfhd b.tfhd
  pub tfdt : IfSome b.tfdt IsInRangeTfdt
  pub truns : AllByRecursion IsInRangeTrun b.truns

-- its children are well-formed
pub record IsWellFormedTraf (b : TrafBox) : Type 0 where
  pub tfhd : IsWellFormedTfhd b.tfhd
  pub tfdt : IfSome b.tfdt IsWellFormedTfdt
  pub truns : AllByRecursion IsWellFormedTrun b.truns

-- a fragment that is written and reads back equal
abbrev pub IsCanonicalTraf : TrafBox → Type 0
IsCanonicalTraf = IsCanonical IsInRangeTraf IsWellFormedTraf traf_payload traf_refusal

-- a fragment of a default header, without samples
abbrev pub default_traf : TrafBox
default_traf = record { tfhd = default_tfhd; tfdt = None; truns = [] }
