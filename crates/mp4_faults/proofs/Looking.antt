-- Looking for the first child of a container that is refused: each step, and the ends.
use Rattle.std.proofs.Common.{◌≡◌, ◌++◌, ◌∷◌, [], ℕ, List, Some, None, true, false, refl, sym, ap, ◌∙◌}
use Rattle.std.proofs.Common.{subst, map}
use Rattle.std.specs.List.{AllByRecursion}
use Rattle.mp4_codec.specs.declared.box_type.BoxType.{BoxType}
use Rattle.mp4_codec.specs.Cause.{Cause}
use Rattle.mp4_faults.specs.declared.fault_place.PathStep.{PathStep}
use Rattle.mp4_faults.specs.ByChildren.{child_fault}
use Rattle.mp4_faults.specs.Containers.{before_children, first_alone}
use Rattle.mp4_faults.specs.Inner.{InnerBox, as_child, end_of, box_within, AreWithin, outward}
use Rattle.mp4_faults.specs.Innermost.{Passes, IsFirstRefused, NoneRefused, sole, all, names_of}
use Rattle.mp4_faults.specs.Innermost.{step_after, Leads}

-- one box more
pub within-more : (payload : List ℕ) (place next : ℕ) (bs : List InnerBox) (b : InnerBox)
    → AreWithin payload place bs next → box_within payload next ≡ Some b
    → AreWithin payload place (bs ++ b ∷ []) (end_of b)
unfolding AreWithin
within-more payload place next [] b are is = (ap (λ n. box_within payload n) (sym are) ∙ is, refl)
within-more payload place next (x ∷ xs) b are is = (are.0, within-more payload (end_of x) next xs b are.1 is)

pub map-more : {A B : Type 0} (f : A → B) (xs : List A) (x : A) → map f (xs ++ x ∷ []) ≡ map f xs ++ f x ∷ []
map-more f [] x = refl
map-more f (y ∷ ys) x = ap (λ zs. f y ∷ zs) (map-more f ys x)

all-more : {A : Type 0} (P : A → Type 0) (xs : List A) (x : A) → AllByRecursion P xs → P x
    → AllByRecursion P (xs ++ x ∷ [])
all-more P [] x h p = (p, tt)
all-more P (y ∷ ys) x h p = (h.0, all-more P ys x h.1 p)

pub names-more : (bs : List InnerBox) (b : InnerBox) → names_of (bs ++ b ∷ []) ≡ names_of bs ++ b.name ∷ []
names-more = map-more (λ (b : InnerBox). b.name)

-- the children that were passed, whose types are these
pub record Looking (parent : BoxType) (payload : List ℕ) (place : ℕ) (names : List BoxType) : Type 0 where
  pub before : List InnerBox
  pub passes : Passes parent payload before place
  pub names_are : names ≡ names_of before

module _ (parent : BoxType) (payload : List ℕ) where
  pub starts : (start : ℕ) (names : List BoxType) → before_children parent payload ≡ Some start → names ≡ []
      → Looking parent payload start names
  unfolding AreWithin
  starts start names h none = record {
    before = [];
    passes = record { start = start; starts = h; are = refl; faultless = tt; alone = λ _. refl };
    names_are = none;
  }

  pub goes_on : (place : ℕ) (names more : List BoxType) (b : InnerBox) → Looking parent payload place names
      → box_within payload place ≡ Some b → child_fault parent payload (as_child b) ≡ None → first_alone parent ≡ false
      → more ≡ names ++ b.name ∷ [] → Looking parent payload (end_of b) more
  goes_on place names more b l is faultless several e = record {
    before = l.before ++ b ∷ [];
    passes = record {
      start = l.passes.start;
      starts = l.passes.starts;
      are = within-more payload l.passes.start place l.before b l.passes.are is;
      faultless =
          all-more (λ (x : InnerBox). child_fault parent payload (as_child x) ≡ None) l.before b l.passes.faultless
          faultless;
      alone = λ one. let not = sym one ∙ several in absurd cc;
    };
    names_are = e ∙ ap (λ (ns : List BoxType). ns ++ b.name ∷ []) l.names_are ∙ sym (names-more l.before b);
  }

  pub finds : (place : ℕ) (names : List BoxType) (b : InnerBox) (step : PathStep) (c : Cause)
      → Looking parent payload place names → box_within payload place ≡ Some b
      → child_fault parent payload (as_child b) ≡ Some c
      → step ≡ step_after b.name names → IsFirstRefused parent payload step b c
  finds place names b step c l is refused e = record {
    before = l.before;
    place = place;
    passes = l.passes;
    is = is;
    refused = refused;
    step_is = e ∙ ap (λ (ns : List BoxType). step_after b.name ns) l.names_are;
  }

  pub ends : (place : ℕ) (names : List BoxType) → Looking parent payload place names → box_within payload place ≡ None
      → NoneRefused parent payload
  ends place names l none = all l.before place l.passes none

  pub ends_at_first : (place : ℕ) (names : List BoxType) (b : InnerBox) → Looking parent payload place names
      → box_within payload place ≡ Some b → child_fault parent payload (as_child b) ≡ None → first_alone parent ≡ true
      → NoneRefused parent payload
  ends_at_first place names b l is faultless one =
      sole place b (subst (λ (bs : List InnerBox). Passes parent payload bs place) (l.passes.alone one) l.passes) one is
      faultless

-- one step more
pub leads-more : (c : Cause) (a b : InnerBox) (path : List PathStep) (step : PathStep) (child : InnerBox)
    → Leads c a path b → IsFirstRefused b.name b.payload step child c
    → Leads c a (path ++ step ∷ []) (outward b child)
unfolding Leads
leads-more c a b [] step child e h = (
  child,
  subst (λ (x : InnerBox). IsFirstRefused x.name x.payload step child c) e h,
  ap (λ (x : InnerBox). outward x child) e,
)
leads-more c a b (s ∷ path) step child h first =
    (h.0, h.1, leads-more c (outward a h.0) b path step child h.2 first)
