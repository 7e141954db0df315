-- What bytes show of a call's answer before a request for memory is made.
use Rattle.std.specs.Prelude.{◌≡◌, ℕ, List, [], ◌∷◌, Option, Some, None, Result, Ok, Err, if◌then◌else◌}
use Rattle.mp4_codec.specs.declared.box_type.BoxType.{BoxType}
use Rattle.mp4_codec.specs.declared.error.Error.{Error}
use Rattle.mp4_codec.specs.Cause.{Cause, cause_of}
use Rattle.mp4_codec.specs.Cursor.{Cursor}
use Rattle.mp4_codec.specs.Boxes.{payload_at}
use Rattle.mp4_codec.specs.Children.{ChildBox, is_of, tail_fault}

pub data Early : Type 0 where
  -- the call is refused by this cause
  fails : Cause → Early
  -- the call is Ok, and memory is never requested
  succeeds : Early
  -- memory is requested, and may be refused
  takes_memory : Early

-- The answer is what was shown early: never out of memory, where a cause or success was shown.
abbrev pub Shows : {X : Type 0} → Early → Result X Error → Type 0
Shows (fails c) (Ok x) = ⊥
Shows (fails c) (Err e) = c ≡ cause_of e
Shows succeeds (Ok x) = Unit {0}
Shows succeeds (Err e) = ⊥
Shows takes_memory result = Unit {0}

-- a step, and where it is Ok without memory, the next
infixl 10 ◌and_then◌
abbrev pub ◌and_then◌ : Early → Early → Early
(fails c) and_then next = fails c
succeeds and_then next = next
takes_memory and_then next = takes_memory

-- an answer that is found without memory
abbrev pub at_once : {A : Type 0} → Result A Cause → Early
at_once (Ok x) = succeeds
at_once (Err c) = fails c

-- an answer whose refusals are found without memory, and which takes memory where it is Ok
abbrev pub refused_at_once : {A : Type 0} → Result A Cause → Early
refused_at_once answer = at_once answer and_then takes_memory

-- a refusal that is found without memory
abbrev pub unless_refused : Option Cause → Early
unless_refused None = succeeds
unless_refused (Some c) = fails c

-- a step that takes no memory, and what is shown after it
infixl 10 ◌before◌
abbrev pub ◌before◌ : {A : Type 0} → Result A Cause → (A → Early) → Early
(Ok x) before next = next x
(Err c) before next = fails c

-- the box of this size at the place, by what its payload shows
abbrev pub early_at : (List ℕ → Early) → ℕ → Cursor → Early
early_at early size cursor = payload_at size cursor before λ part. early part.0

-- a child of this type in the place of the last one; children of other types are not looked at
abbrev pub early_last : BoxType → (List ℕ → Early) → ChildBox → Early
early_last t early c = if is_of t c then early c.1 else succeeds

-- a child of this type at the end of a list, which takes memory
abbrev pub early_next : BoxType → (List ℕ → Early) → ChildBox → Early
early_next t early c = if is_of t c then early c.1 and_then takes_memory else succeeds

-- each child in file order; then a broken tail
unfoldable pub early_children : (ChildBox → Early) → List ChildBox → List ℕ → Early
early_children early [] tail = unless_refused (tail_fault tail)
early_children early (c ∷ cs) tail = early c and_then early_children early cs tail

-- a list of children with its tail
abbrev pub early_gathered : (ChildBox → Early) → List ChildBox × List ℕ → Early
early_gathered early list = early_children early list.0 list.1
