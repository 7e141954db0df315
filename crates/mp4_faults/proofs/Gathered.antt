-- What a container that is read says of the boxes within it.
use Rattle.std.proofs.Common.{◌≡◌, ℕ, ◌+◌, Bool, true, false, cond, List, [], ◌∷◌, ◌++◌, length, Option}
use Rattle.std.proofs.Common.{Some, None, Result, Ok, Err, refl, sym, ap, ◌∙◌, arith}
use Rattle.std.specs.Prelude.{map, ◌==◌}
use Rattle.std.specs.Option.{option_to_list}
use Rattle.std.proofs.lemmas.List.{append-nil, length-append}
use Rattle.std.proofs.lemmas.List.Sums.{sum_by-cons}
use Rattle.std.proofs.lemmas.Bool.{eq-eqb}
use Rattle.mp4_codec.specs.declared.box_type.BoxType.{BoxType}
use Rattle.mp4_codec.specs.BoxType.{code_of}
use Rattle.mp4_codec.specs.Cause.{Cause, fault_of, unless}
use Rattle.mp4_codec.specs.Children.{ChildBox, children, gathered, first_fault, fault_in, all_of, last_of, last, needed}
use Rattle.mp4_codec.specs.Children.{value_of}
use Rattle.mp4_codec.specs.GatherLaws.{NoFault}
use Rattle.mp4_codec.specs.WriteLaws.{or_parts}
use Rattle.mp4_faults.specs.Inner.{InnerBox, as_child, box_within, AreWithin}
use Rattle.mp4_faults.specs.Innermost.{count_of, names_of}
use Rattle.mp4_faults.proofs.Children.{walks-on, walks-none}

-- the children of a payload, where no box is after these
pub all-children : (payload : List ℕ) (bs : List InnerBox) (end : ℕ) → AreWithin payload 0 bs end
    → box_within payload end ≡ None → (children payload).0 ≡ map as_child bs
unfolding children
all-children payload bs end are none =
    let w = walks-on payload bs 0 end (length payload) (omega arith) (omega arith) are in
    w.is ∙ ap (λ (cs : List ChildBox). map as_child bs ++ cs) (walks-none payload end w.steps w.inside none)
    ∙ append-nil (map as_child bs)

-- and where one may be
pub some-children : (payload : List ℕ) (bs : List InnerBox) (end : ℕ) → AreWithin payload 0 bs end
    → (others : List ChildBox) × ((children payload).0 ≡ map as_child bs ++ others)
unfolding children
some-children payload bs end are =
    let w = walks-on payload bs 0 end (length payload) (omega arith) (omega arith) are in (_, w.is)

pub none-refused : (fault : ChildBox → Option Cause) (cs : List ChildBox) (tail : List ℕ)
    → first_fault fault cs tail ≡ None → NoFault fault cs
unfolding first_fault
none-refused fault [] tail e = tt
none-refused fault (c ∷ cs) tail e =
    let parts = or_parts (fault c) (first_fault fault cs tail) e in (parts.0, none-refused fault cs tail parts.1)

not-refused : {P : Type 0} (fault : Option Cause) (taken parts : P) → unless fault (Ok taken) ≡ Ok parts → fault ≡ None
not-refused None taken parts e = refl
not-refused (Some c) taken parts e = absurd cc

pub gathered-whole : {P : Type 0} (fault : ChildBox → Option Cause) (taken : List ChildBox → P)
    (list : List ChildBox × List ℕ) (parts : P) → gathered fault taken list ≡ Ok parts → NoFault fault list.0
gathered-whole fault taken list parts e =
    none-refused fault list.0 list.1 (not-refused (first_fault fault list.0 list.1) (taken list.0) parts e)

pub fault-of-part : (first second : ChildBox → Option Cause) (cs : List ChildBox)
    → ((c : ChildBox) → first c ≡ None → second c ≡ None) → NoFault first cs → NoFault second cs
fault-of-part first second [] h none = tt
fault-of-part first second (c ∷ cs) h none = (h c none.0, fault-of-part first second cs h none.1)

pub one-of : (fault : ChildBox → Option Cause) (cs ds : List ChildBox) (c : ChildBox) → NoFault fault (cs ++ c ∷ ds)
    → fault c ≡ None
one-of fault [] ds c none = none.0
one-of fault (x ∷ xs) ds c none = one-of fault xs ds c none.1

module _ {A : Type 0} (t : BoxType) (value : List ℕ → Result A Cause) where
  -- as many values are taken as there are children of the type
  pub count-all : (bs : List InnerBox) → NoFault (fault_in t value) (map as_child bs)
      → length (all_of t value (map as_child bs)) ≡ count_of t (names_of bs)
  unfolding all_of
  count-all [] none = refl
  count-all (b ∷ bs) none =
      length-append (option_to_list (cond (code_of b.name == code_of t) (value_of (value b.payload)) None))
      (all_of t value (map as_child bs))
      ∙ ap (λ n. length (option_to_list (cond (code_of b.name == code_of t) (value_of (value b.payload)) None)) + n)
      (count-all bs none.1)
      ∙ ap (λ n. n + count_of t (names_of bs)) (by (code_of b.name == code_of t) (value b.payload) none.0)
      ∙ sym (sum_by-cons (λ (u : BoxType). cond (code_of u == code_of t) 1 0) b.name (names_of bs))
    where
      by : (is : Bool) (r : Result A Cause) → cond is (fault_of r) None ≡ None
          → length (option_to_list (cond is (value_of r) None)) ≡ cond is 1 0
      by true (Ok x) e = refl
      by true (Err c) e = absurd cc
      by false r e = refl

  none-of-none : (xs : List A) → length xs ≡ 0 → xs ≡ []
  none-of-none [] e = refl
  none-of-none (x ∷ xs) e = absurd (omega (arith, e))

  -- a value that has to be there is that of a child
  pub some-needed : (bs : List InnerBox) (x : A) → NoFault (fault_in t value) (map as_child bs)
      → needed t (last_of t value (map as_child bs)) ≡ Ok x → count_of t (names_of bs) ≡ 0 → ⊥
  unfolding last_of
  some-needed bs x none e zero =
      let no : all_of t value (map as_child bs) ≡ [] =
      none-of-none (all_of t value (map as_child bs)) (count-all bs none ∙ zero) in
      let not = ap (λ (xs : List A). needed t (last xs)) (sym no) ∙ e in absurd cc

  -- a child of the type has a value
  pub has-value : (c : ChildBox) → code_of c.0 ≡ code_of t → fault_in t value c ≡ None → (x : A) × (value c.1 ≡ Ok x)
  has-value c named none = by (value c.1) refl
    where
      by : (r : Result A Cause) → value c.1 ≡ r → (x : A) × (value c.1 ≡ Ok x)
      by (Ok x) e = (x, e)
      by (Err d) e =
          let fault : fault_in t value c ≡ Some d = rw (named, eq-eqb (code_of t) (code_of t) refl, e) refl in
          let not : Some d ≡ None = sym fault ∙ none in
          absurd cc
