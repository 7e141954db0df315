-- The innermost box that is at fault where a box is refused: from each box on to the first of its children that is
-- refused, which is for the same cause.
use Rattle.std.specs.Prelude.{◌≡◌, ◌≤◌, ℕ, ◌+◌, List, [], ◌∷◌, ◌++◌, length, drop, Option, Some, None, Result, Ok}
use Rattle.std.specs.Prelude.{Err, true, ◌==◌, count_by, map}
use Rattle.std.specs.List.{AllByRecursion}
use Rattle.mp4_codec.specs.declared.box_type.BoxType.{BoxType}
use Rattle.mp4_codec.specs.declared.error.Error.{Error}
use Rattle.mp4_codec.specs.declared.error.Error.TheVariants.{OutOfMemory}
use Rattle.mp4_codec.specs.BoxType.{code_of}
use Rattle.mp4_codec.specs.Cause.{Cause}
use Rattle.mp4_faults.specs.declared.fault_place.PathStep.{PathStep}
use Rattle.mp4_faults.specs.declared.child.PlacedBox.{PlacedBox}
use Rattle.mp4_faults.specs.ByChildren.{child_fault, own_fault}
use Rattle.mp4_faults.specs.Containers.{first_alone, before_children}
use Rattle.mp4_faults.specs.Inner.{InnerBox, inner, as_child, outward, box_within, AreWithin}

-- how many types of a list are this one
abbrev pub count_of : BoxType → List BoxType → ℕ
count_of name types = count_by (λ t. code_of t == code_of name) types

-- the types of boxes
abbrev pub names_of : List InnerBox → List BoxType
names_of boxes = map (λ (b : InnerBox). b.name) boxes

-- the step to a box of this type that comes after boxes of these types: those of its own type are counted from 1
abbrev pub step_after : BoxType → List BoxType → PathStep
step_after name before = record { name = name; number = count_of name before + 1 }

-- The children of a container up to a place, of which none is refused: where only the first is looked at, there is
-- none before the place.
pub record Passes (parent : BoxType) (payload : List ℕ) (before : List InnerBox) (place : ℕ) : Type 0 where
  pub start : ℕ
  pub starts : before_children parent payload ≡ Some start
  pub are : AreWithin payload start before place
  pub faultless : AllByRecursion (λ b. child_fault parent payload (as_child b) ≡ None) before
  pub alone : first_alone parent ≡ true → before ≡ []

-- this is the first child of a container that is refused, for this cause, with the step to it
pub record IsFirstRefused (parent : BoxType) (payload : List ℕ) (step : PathStep) (b : InnerBox) (c : Cause)
    : Type 0 where
  pub before : List InnerBox
  pub place : ℕ
  pub passes : Passes parent payload before place
  pub is : box_within payload place ≡ Some b
  pub refused : child_fault parent payload (as_child b) ≡ Some c
  pub step_is : step ≡ step_after b.name (names_of before)

-- no child of a container is refused
pub data NoneRefused (parent : BoxType) (payload : List ℕ) : Type 0 where
  -- it has no children that are looked at
  childless : before_children parent payload ≡ None → NoneRefused parent payload
  -- the only child that is looked at isn't refused
  sole : (place : ℕ) (b : InnerBox) → Passes parent payload [] place → first_alone parent ≡ true
      → box_within payload place ≡ Some b → child_fault parent payload (as_child b) ≡ None
      → NoneRefused parent payload
  -- none is up to the place where no more child begins
  all : (before : List InnerBox) (place : ℕ) → Passes parent payload before place → box_within payload place ≡ None
      → NoneRefused parent payload

-- Where a box of this type is refused for a cause, the fault is its own: none of its children is refused. The cause is
-- then that the bytes after its children are no box, or that it lacks one; or it is in the fields before them.
pub record IsOwnFault (parent : BoxType) (payload : List ℕ) (c : Cause) : Type 0 where
  pub none : NoneRefused parent payload
  pub cause : (start : ℕ) → before_children parent payload ≡ Some start → start ≤ length payload
      → own_fault parent (drop start payload) ≡ Some c

-- The path leads from one box to another: each time to the first child that is refused, which is for this cause.
unfoldable pub Leads : Cause → InnerBox → List PathStep → InnerBox → Type 0
Leads c a [] b = b ≡ a
Leads c a (step ∷ path) b =
    (child : InnerBox) × IsFirstRefused a.name a.payload step child c × Leads c (outward a child) path b

-- the path leads from a box that is refused for this cause to the innermost that is at fault
pub record IsInnermost (c : Cause) (a : InnerBox) (path : List PathStep) (b : InnerBox) : Type 0 where
  pub leads : Leads c a path b
  pub own : IsOwnFault b.name b.payload c

-- What a call answers that looks for the first child that is refused; or memory ran out.
abbrev pub FindsRefused : BoxType → List ℕ → Result (Option (PathStep × PlacedBox)) Error → Type 0
FindsRefused parent payload (Ok None) = NoneRefused parent payload
FindsRefused parent payload (Ok (Some x)) = (c : Cause) × IsFirstRefused parent payload x.0 (inner x.1) c
FindsRefused parent payload (Err e) = e ≡ OutOfMemory

-- The same with the places of the child counted as those of its container are.
abbrev pub FindsFaulty : InnerBox → Result (Option (PathStep × PlacedBox)) Error → Type 0
FindsFaulty a (Ok None) = NoneRefused a.name a.payload
FindsFaulty a (Ok (Some x)) =
    (child : InnerBox) × (c : Cause) × IsFirstRefused a.name a.payload x.0 child c × (inner x.1 ≡ outward a child)
FindsFaulty a (Err e) = e ≡ OutOfMemory

-- What a call answers that looks for the innermost box at fault, and adds the path to it to another; or memory ran out.
abbrev pub FindsInnermost : Cause → InnerBox → List PathStep → List PathStep → Result PlacedBox Error → Type 0
FindsInnermost c a old new (Ok b) = (path : List PathStep) × IsInnermost c a path (inner b) × (new ≡ old ++ path)
FindsInnermost c a old new (Err e) = e ≡ OutOfMemory
