-- What a movie says of its fragments (ISO/IEC 14496-12, 8.8.1).
use Rattle.std.specs.Prelude.{◌≡◌, ℕ, List, [], Option, None, Result, Ok, IfSome}
use Rattle.std.specs.List.{AllByRecursion}
use Rattle.mp4_codec.specs.declared.box_type.BoxType.TheVariants.{MehdBox as mehd, TrexBox as trex}
use Rattle.mp4_codec.specs.Cause.{Cause, ◌>>=◌, ◌or◌}
use Rattle.mp4_codec.specs.Bytes.{◌⧺◌}
use Rattle.mp4_codec.specs.Boxes.{optional, optional_refusal, all_box_bytes, IsCanonical}
use Rattle.mp4_codec.specs.Early.{Early, early_gathered, early_last, early_next, at_once, ◌and_then◌}
use Rattle.mp4_codec.specs.Children.{ChildBox, children, gathered, fault_in, last_of, all_of, with_last, with_next}
use Rattle.mp4_codec.specs.Children.{some_needed}
use Rattle.mp4_moof.specs.Mehd.{mehd_of, mehd_payload, mehd_refusal, IsInRangeMehd, IsWellFormedMehd}
use Rattle.mp4_moof.specs.Trex.{trex_of, trex_payload, IsInRangeTrex, IsWellFormedTrex}
use Rattle.mp4_moof.specs.declared.mvex.MvexBox.{MvexBox}
use Rattle.mp4_moof.specs.declared.mvex.MvexParts.{MvexParts}

-- why a child refuses the box
unfoldable pub mvex_fault : ChildBox → Option Cause
mvex_fault c = fault_in mehd mehd_of c or fault_in trex trex_of c

-- what is taken of the children: the last header, and the defaults of all tracks
unfoldable pub mvex_taken : List ChildBox → MvexParts
mvex_taken cs = record { mehd = last_of mehd mehd_of cs; trexs = all_of trex trex_of cs }

-- the same with one child more
unfoldable pub mvex_added : MvexParts → ChildBox → Result MvexParts Cause
mvex_added p c = do
  header ← with_last mehd mehd_of c p.mehd
  defaults ← with_next trex trex_of c p.trexs
  Ok (record { mehd = header; trexs = defaults })

-- what a payload says of fragments: the defaults of a track have to be there
unfoldable pub mvex_of : List ℕ → Result MvexBox Cause
mvex_of payload = do
  parts ← gathered mvex_fault mvex_taken (children payload)
  defaults ← some_needed trex parts.trexs
  Ok (record { mehd = parts.mehd; trexs = defaults })

-- what a child shows before memory is requested
unfoldable pub mvex_child_early : ChildBox → Early
mvex_child_early c =
    early_last mehd (λ p. at_once (mehd_of p)) c
    and_then (early_next trex (λ p. at_once (trex_of p)) c)

-- what a payload shows before memory is requested: its children, and then what is missing
unfoldable pub mvex_early : List ℕ → Early
mvex_early payload = early_gathered mvex_child_early (children payload) and_then at_once (mvex_of payload)

-- the payload that holds the box
unfoldable pub mvex_payload : MvexBox → List ℕ
mvex_payload b = optional mehd mehd_payload b.mehd ⧺ all_box_bytes trex trex_payload b.trexs

-- why the box is not written: the first refusal in written order
unfoldable pub mvex_refusal : MvexBox → Option Cause
mvex_refusal b = optional_refusal mehd_refusal b.mehd

-- each number is within its type
pub record IsInRangeMvex (b : MvexBox) : Type 0 where
  pub mehd : IfSome b.mehd IsInRangeMehd
  pub trexs : AllByRecursion IsInRangeTrex b.trexs

-- its children are well-formed; the defaults of a track are there
pub record IsWellFormedMvex (b : MvexBox) : Type 0 where
  pub mehd : IfSome b.mehd IsWellFormedMehd
  pub trexs : AllByRecursion IsWellFormedTrex b.trexs
  pub some : b.trexs ≡ [] → ⊥

-- the box that is written and reads back equal
abbrev pub IsCanonicalMvex : MvexBox → Type 0
IsCanonicalMvex = IsCanonical IsInRangeMvex IsWellFormedMvex mvex_payload mvex_refusal

-- without a header and without defaults
abbrev pub default_mvex : MvexBox
default_mvex = record { mehd = None; trexs = [] }
