-- The edits of a track (ISO/IEC 14496-12, 8.6.5).
use Rattle.std.specs.Prelude.{ℕ, List, Option, Some, None, Result, Ok, IfSome}
use Rattle.mp4_codec.specs.declared.box_type.BoxType.TheVariants.{ElstBox as elst}
use Rattle.mp4_codec.specs.Cause.{Cause, ◌>>=◌}
use Rattle.mp4_codec.specs.Boxes.{optional, optional_refusal, IsCanonical}
use Rattle.mp4_codec.specs.Early.{Early, succeeds, early_last, refused_at_once, ◌before◌}
use Rattle.mp4_codec.specs.Children.{ChildBox, next_at, with_last}
use Rattle.mp4_leaf.specs.declared.elst.ElstBox.{ElstBox}
use Rattle.mp4_leaf.specs.Elst.{elst_of, elst_payload, elst_refusal, IsInRangeElst, IsWellFormedElst}
use Rattle.mp4_boxes.specs.declared.edts.EdtsBox.{EdtsBox}

-- the edit list that a first child is, if it is one
abbrev pub edit_list : Option ChildBox → Result (Option ElstBox) Cause
edit_list None = Ok None
edit_list (Some c) = with_last elst elst_of c None

-- the edits that a payload holds: its first child alone is looked at
unfoldable pub edts_of : List ℕ → Result EdtsBox Cause
edts_of payload = do
  first ← next_at payload
  edits ← edit_list first.0
  Ok (record { elst = edits })

-- what the edit list shows before memory is requested
abbrev pub edit_list_early : Option ChildBox → Early
edit_list_early None = succeeds
edit_list_early (Some c) = early_last elst (λ p. refused_at_once (elst_of p)) c

-- what a payload shows before memory is requested: its first child
unfoldable pub edts_early : List ℕ → Early
edts_early payload = next_at payload before λ first. edit_list_early first.0

-- the payload that holds edits
unfoldable pub edts_payload : EdtsBox → List ℕ
edts_payload b = optional elst elst_payload b.elst

-- why edits are not written
unfoldable pub edts_refusal : EdtsBox → Option Cause
edts_refusal b = optional_refusal elst_refusal b.elst

-- each number is within its type
pub record IsInRangeEdts (b : EdtsBox) : Type 0 where
  pub elst : IfSome b.elst IsInRangeElst

-- its child is well-formed
pub record IsWellFormedEdts (b : EdtsBox) : Type 0 where
  pub elst : IfSome b.elst IsWellFormedElst

-- edits that are written and read back equal
abbrev pub IsCanonicalEdts : EdtsBox → Type 0
IsCanonicalEdts = IsCanonical IsInRangeEdts IsWellFormedEdts edts_payload edts_refusal

-- no edit list
abbrev pub default_edts : EdtsBox
default_edts = record { elst = None }
