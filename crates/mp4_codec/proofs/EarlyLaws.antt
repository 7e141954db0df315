-- Answers whose refusals are found before memory is requested.
use Rattle.std.proofs.Common.{◌≡◌, List, [], ◌∷◌, ℕ, Option, Some, None, Result, Ok, Err, refl, ap}
use Rattle.mp4_codec.specs.declared.error.Error.{Error}
use Rattle.mp4_codec.specs.Cause.{Cause, fault_of, ◌or◌, unless, Answers, Gives}
use Rattle.std.specs.Prelude.{false}
use Rattle.mp4_codec.specs.declared.box_type.BoxType.{BoxType}
use Rattle.mp4_codec.specs.Children.{ChildBox, first_fault, gathered, is_of, all_of}
use Rattle.mp4_codec.specs.Early.{Early, fails, succeeds, takes_memory, Shows, at_once, refused_at_once, ◌and_then◌}
use Rattle.mp4_codec.specs.Early.{unless_refused, early_children, early_gathered}

-- an answer with a fault is that refusal
pub fault-is : {A : Type 0} (answer : Result A Cause) (c : Cause) → fault_of answer ≡ Some c → answer ≡ Err c
fault-is (Ok x) c e = absurd cc
fault-is (Err d) c e = let same : d ≡ c = cc in ap Err same

-- an answer without a fault shows that memory is requested
pub no_fault-early : {A : Type 0} (answer : Result A Cause) → fault_of answer ≡ None
    → refused_at_once answer ≡ takes_memory
no_fault-early (Ok x) e = refl
no_fault-early (Err d) e = absurd cc

and_then-or : (first second : Option Cause)
    → unless_refused first and_then unless_refused second ≡ unless_refused (first or second)
and_then-or None second = refl
and_then-or (Some c) second = refl

-- children of which none takes memory show the first fault
children-at_once : (early : ChildBox → Early) (fault : ChildBox → Option Cause)
    → ((c : ChildBox) → early c ≡ unless_refused (fault c)) → (cs : List ChildBox) (tail : List ℕ)
    → early_children early cs tail ≡ unless_refused (first_fault fault cs tail)
unfolding early_children first_fault
children-at_once early fault each [] tail = refl
children-at_once early fault each (c ∷ cs) tail =
    rw (each c, children-at_once early fault each cs tail) (and_then-or (fault c) (first_fault fault cs tail))

-- and so all of what they give
pub gathered-at_once : {P : Type 0} (early : ChildBox → Early) (fault : ChildBox → Option Cause)
    (taken : List ChildBox → P) (list : List ChildBox × List ℕ)
    → ((c : ChildBox) → early c ≡ unless_refused (fault c))
    → early_gathered early list ≡ at_once (gathered fault taken list)
gathered-at_once {P} early fault taken list each =
    whole (first_fault fault list.0 list.1) (children-at_once early fault each list.0 list.1)
  where
    whole : (refusal : Option Cause) → early_gathered early list ≡ unless_refused refusal
        → early_gathered early list ≡ at_once (unless {A = P} refusal (Ok (taken list.0)))
    whole None e = e
    whole (Some c) e = e

-- what is answered where all is shown early
pub shown-gives : {X Y : Type 0} (view : X → Y) (result : Result X Error) (answer : Result Y Cause)
    → Answers view result answer → Shows (at_once answer) result → Gives view result answer
shown-gives view (Ok x) answer a s = a
shown-gives {X} view (Err e) (Ok y) a s = absurd s
shown-gives view (Err e) (Err c) a s = ap Err s

pub both_succeed : (own later : Early) → own and_then later ≡ succeeds → (own ≡ succeeds) × (later ≡ succeeds)
both_succeed (fails c) later e = absurd cc
both_succeed succeeds later e = (refl, e)
both_succeed takes_memory later e = absurd cc

-- children that are read without memory have none of a type whose children take memory
pub none_of-succeeds : {A : Type 0} (early : ChildBox → Early) (t : BoxType) (value : List ℕ → Result A Cause)
    → ((c : ChildBox) → early c ≡ succeeds → is_of t c ≡ false) → (cs : List ChildBox) (tail : List ℕ)
    → early_children early cs tail ≡ succeeds → all_of t value cs ≡ []
unfolding early_children all_of
none_of-succeeds early t value other [] tail e = refl
none_of-succeeds early t value other (c ∷ cs) tail e =
    let both = both_succeed (early c) (early_children early cs tail) e in
    rw (other c both.0, none_of-succeeds early t value other cs tail both.1) refl
