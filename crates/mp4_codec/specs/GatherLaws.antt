-- One child more: what the parts of a container take of a list of children, the fold that makes them, and the first
-- fault.
use Rattle.std.proofs.Common.{◌≡◌, ℕ, Bool, true, false, cond, List, [], ◌∷◌, ◌++◌, Option, Some, None, Result, Ok}
use Rattle.std.proofs.Common.{Err, refl, sym, ap, subst, ◌∙◌, append_assoc, map}
use Rattle.std.proofs.lemmas.List.{append-nil}
use Rattle.std.specs.Prelude.{IfSome}
use Rattle.std.specs.List.{AllByRecursion}
use Rattle.std.specs.Option.{option_to_list, option_map}
use Rattle.mp4_codec.specs.declared.box_type.BoxType.{BoxType}
use Rattle.mp4_codec.specs.Cause.{Cause, ◌>>=◌, ◌or◌, unless, fault_of, seen}
use Rattle.mp4_codec.specs.Children.{ChildBox, is_of, value_of, given_by, fault_in, all_of, last, last_of, tail_fault}
use Rattle.mp4_codec.specs.Children.{first_fault, gathered, with_last, with_next, needed}
use Rattle.mp4_codec.specs.Steps.{ok_is}

pub all_of-append : {A : Type 0} (t : BoxType) (value : List ℕ → Result A Cause) (cs ds : List ChildBox)
    → all_of t value (cs ++ ds) ≡ all_of t value cs ++ all_of t value ds
unfolding all_of
all_of-append t value [] ds = refl
all_of-append t value (c ∷ cs) ds =
    ap (λ (xs : List _). option_to_list (given_by t value c) ++ xs) (all_of-append t value cs ds)
    ∙ sym (append_assoc (option_to_list (given_by t value c)) (all_of t value cs) (all_of t value ds))

pub last-push : {A : Type 0} (xs : List A) (x : A) → last (xs ++ x ∷ []) ≡ Some x
last-push [] x = refl
last-push (y ∷ []) x = refl
last-push (y ∷ z ∷ zs) x = last-push (z ∷ zs) x

-- a child more, for a part that keeps all children of a type
pub with_next-all_of : {A : Type 0} (t : BoxType) (value : List ℕ → Result A Cause) (cs : List ChildBox) (c : ChildBox)
    → with_next t value c (all_of t value cs) ≡ unless (fault_in t value c) (Ok (all_of t value (cs ++ c ∷ [])))
unfolding all_of
with_next-all_of {A} t value cs c = rw (all_of-append t value cs (c ∷ [])) (chosen (is_of t c) (value c.1))
  where
    before : List A
    before = all_of t value cs

    chosen : (b : Bool) (r : Result A Cause)
        → cond b (r >>= λ x. Ok (all_of t value cs ++ x ∷ [])) (Ok (all_of t value cs))
        ≡ unless (cond b (fault_of r) None)
        (Ok (all_of t value cs ++ (option_to_list (cond b (value_of r) None) ++ [])))
    chosen true (Ok x) = refl
    chosen true (Err e) = refl
    chosen false r = ap Ok (sym (append-nil (all_of t value cs)))

-- a child more, for a part that keeps the last child of a type
pub with_last-last_of : {A : Type 0} (t : BoxType) (value : List ℕ → Result A Cause) (cs : List ChildBox) (c : ChildBox)
    → with_last t value c (last_of t value cs) ≡ unless (fault_in t value c) (Ok (last_of t value (cs ++ c ∷ [])))
unfolding all_of last_of
with_last-last_of {A} t value cs c = rw (all_of-append t value cs (c ∷ [])) (chosen (is_of t c) (value c.1))
  where
    chosen : (b : Bool) (r : Result A Cause)
        → cond b (r >>= λ x. Ok (Some x)) (Ok (last (all_of t value cs)))
        ≡ unless (cond b (fault_of r) None)
        (Ok (last (all_of t value cs ++ (option_to_list (cond b (value_of r) None) ++ []))))
    chosen true (Ok x) = ap Ok (sym (last-push (all_of t value cs) x))
    chosen true (Err e) = refl
    chosen false r = ap (λ (xs : List A). Ok (last xs)) (sym (append-nil (all_of t value cs)))

-- a part after a part: the fault of the first comes first
pub unless-then : {A B : Type 0} (first second : Option Cause) (x : A) (next : A → Result B Cause)
    (answer : Result B Cause) → next x ≡ unless second answer
    → (unless first (Ok x) >>= next) ≡ unless (first or second) answer
unless-then None second x next answer e = e
unless-then (Some c) second x next answer e = refl

-- parts of one field
of_one : {A P : Type 0} (fault : Option Cause) (x : A) (part : A → P)
    → (unless fault (Ok x) >>= λ y. Ok (part y)) ≡ unless fault (Ok (part x))
of_one None x part = refl
of_one (Some c) x part = refl

pub last_child-adds : {A P : Type 0} (t : BoxType) (value : List ℕ → Result A Cause) (part : Option A → P)
    (cs : List ChildBox) (c : ChildBox)
    → (with_last t value c (last_of t value cs) >>= λ x. Ok (part x))
    ≡ unless (fault_in t value c) (Ok (part (last_of t value (cs ++ c ∷ []))))
last_child-adds t value part cs c =
    rw (with_last-last_of t value cs c) (of_one (fault_in t value c) (last_of t value (cs ++ c ∷ [])) part)

pub all_children-adds : {A P : Type 0} (t : BoxType) (value : List ℕ → Result A Cause) (part : List A → P)
    (cs : List ChildBox) (c : ChildBox)
    → (with_next t value c (all_of t value cs) >>= λ x. Ok (part x))
    ≡ unless (fault_in t value c) (Ok (part (all_of t value (cs ++ c ∷ []))))
all_children-adds t value part cs c =
    rw (with_next-all_of t value cs c) (of_one (fault_in t value c) (all_of t value (cs ++ c ∷ [])) part)

-- no child of a list is refused
abbrev pub NoFault : (ChildBox → Option Cause) → List ChildBox → Type 0
NoFault fault [] = Unit {0}
NoFault fault (c ∷ cs) = (fault c ≡ None) × NoFault fault cs

pub NoFault-append : (fault : ChildBox → Option Cause) (cs ds : List ChildBox) → NoFault fault cs → NoFault fault ds
    → NoFault fault (cs ++ ds)
NoFault-append fault [] ds none more = more
NoFault-append fault (c ∷ cs) ds none more = (none.0, NoFault-append fault cs ds none.1 more)

pub first_fault-append : (fault : ChildBox → Option Cause) (cs ds : List ChildBox) (tail : List ℕ) → NoFault fault cs
    → first_fault fault (cs ++ ds) tail ≡ first_fault fault ds tail
unfolding first_fault
first_fault-append fault [] ds tail none = refl
first_fault-append fault (c ∷ cs) ds tail none = rw none.0 (first_fault-append fault cs ds tail none.1)

pub first_fault-none : (fault : ChildBox → Option Cause) (cs : List ChildBox) (tail : List ℕ) → NoFault fault cs
    → first_fault fault cs tail ≡ tail_fault tail
unfolding first_fault
first_fault-none fault [] tail none = refl
first_fault-none fault (c ∷ cs) tail none = rw none.0 (first_fault-none fault cs tail none.1)

-- what holds of each value that is read holds of all children of a type
pub all_of-holds : {A : Type 0} (P : A → Type 0) (t : BoxType) (value : List ℕ → Result A Cause)
    → ((payload : List ℕ) (x : A) → value payload ≡ Ok x → P x)
    → (cs : List ChildBox) → AllByRecursion P (all_of t value cs)
unfolding all_of
all_of-holds P t value holds [] = tt
all_of-holds P t value holds (c ∷ cs) =
    with_this (is_of t c) (value c.1) (holds c.1) (all_of t value cs) (all_of-holds P t value holds cs)
  where
    with_this : (b : Bool) (r : Result _ Cause) → ((x : _) → r ≡ Ok x → P x) → (others : List _)
        → AllByRecursion P others → AllByRecursion P (option_to_list (cond b (value_of r) None) ++ others)
    with_this true (Ok x) h others rest = (h x refl, rest)
    with_this true (Err e) h others rest = rest
    with_this false r h others rest = rest

-- and of the last one
pub last_of-holds : {A : Type 0} (P : A → Type 0) (t : BoxType) (value : List ℕ → Result A Cause)
    → ((payload : List ℕ) (x : A) → value payload ≡ Ok x → P x)
    → (cs : List ChildBox) → IfSome (last_of t value cs) P
unfolding last_of
last_of-holds P t value holds cs = of_last (all_of t value cs) (all_of-holds P t value holds cs)
  where
    of_last : (xs : List _) → AllByRecursion P xs → IfSome (last xs) P
    of_last [] h = tt
    of_last (x ∷ []) h = h.0
    of_last (x ∷ y ∷ ys) h = of_last (y ∷ ys) h.1

-- A VALUE, SEEN IN ANOTHER WAY

module _ {A B : Type 0} (t : BoxType) (value : List ℕ → Result A Cause) (view : A → B) where
  abbrev other_value : List ℕ → Result B Cause
  other_value payload = seen view (value payload)

  fault_in-seen : (c : ChildBox) → fault_in t other_value c ≡ fault_in t value c
  fault_in-seen c = chosen (is_of t c) (value c.1)
    where
      chosen : (b : Bool) (r : Result A Cause) → cond b (fault_of (seen view r)) None ≡ cond b (fault_of r) None
      chosen true (Ok x) = refl
      chosen true (Err e) = refl
      chosen false r = refl

  first_fault-seen : (cs : List ChildBox) (tail : List ℕ)
      → first_fault (fault_in t other_value) cs tail ≡ first_fault (fault_in t value) cs tail
  unfolding first_fault
  first_fault-seen [] tail = refl
  first_fault-seen (c ∷ cs) tail = rw (fault_in-seen c, first_fault-seen cs tail) refl

  all_of-seen : (cs : List ChildBox) → all_of t other_value cs ≡ map view (all_of t value cs)
  unfolding all_of
  all_of-seen [] = refl
  all_of-seen (c ∷ cs) = chosen (is_of t c) (value c.1) (all_of-seen cs)
    where
      chosen : (b : Bool) (r : Result A Cause) → all_of t other_value cs ≡ map view (all_of t value cs)
          → option_to_list (cond b (value_of (seen view r)) None) ++ all_of t other_value cs
          ≡ map view (option_to_list (cond b (value_of r) None) ++ all_of t value cs)
      chosen true (Ok x) e = ap (λ (ys : List B). view x ∷ ys) e
      chosen true (Err f) e = e
      chosen false r e = e

  last-map : (xs : List A) → last (map view xs) ≡ option_map view (last xs)
  last-map [] = refl
  last-map (x ∷ []) = refl
  last-map (x ∷ y ∷ ys) = last-map (y ∷ ys)

  -- what is read of the last child of a type, seen in another way
  pub last-seen : (list : List ChildBox × List ℕ)
      → gathered (fault_in t other_value) (last_of t other_value) list
      ≡ seen (option_map view) (gathered (fault_in t value) (last_of t value) list)
  unfolding last_of
  last-seen list =
      rw (first_fault-seen list.0 list.1, all_of-seen list.0, last-map (all_of t value list.0))
      (chosen (first_fault (fault_in t value) list.0 list.1) (last (all_of t value list.0)))
    where
      chosen : (refusal : Option Cause) (o : Option A)
          → unless refusal (Ok (option_map view o)) ≡ seen (option_map view) (unless refusal (Ok o))
      chosen None o = refl
      chosen (Some c) o = refl

unless-ok : {P : Type 0} (fault : Option Cause) (parts taken : P) → unless fault (Ok taken) ≡ Ok parts → taken ≡ parts
unless-ok None parts taken e = ok_is taken parts e
unless-ok (Some c) parts taken e = absurd cc

-- the parts that children give are what is taken of them
pub gathered-taken : {P : Type 0} (fault : ChildBox → Option Cause) (taken : List ChildBox → P)
    (list : List ChildBox × List ℕ) (parts : P) → gathered fault taken list ≡ Ok parts → taken list.0 ≡ parts
gathered-taken fault taken list parts e = unless-ok (first_fault fault list.0 list.1) parts (taken list.0) e

-- what holds of each value that is read holds of the last child that has to be there
pub needed-holds : {A : Type 0} (P : A → Type 0) (t : BoxType) (value : List ℕ → Result A Cause)
    → ((payload : List ℕ) (x : A) → value payload ≡ Ok x → P x)
    → (cs : List ChildBox) (x : A) → needed t (last_of t value cs) ≡ Ok x → P x
needed-holds {A} P t value holds cs x e = of_last (last_of t value cs) (last_of-holds P t value holds cs) e
  where
    of_last : (o : Option A) → IfSome o P → needed t o ≡ Ok x → P x
    of_last None h e = absurd cc
    of_last (Some y) h e = subst P (ok_is y x e) h
