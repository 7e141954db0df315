-- What a container says of one child: by the types that it looks at.
use Rattle.std.proofs.Common.{◌≡◌, ℕ, Bool, true, false, cond, eqb, ◌||◌, List, [], ◌∷◌, Option, Some, None}
use Rattle.std.proofs.Common.{Result, Ok, Err, refl, sym, ap, ◌∙◌}
use Rattle.std.proofs.lemmas.Bool.{eqb-true, eq-eqb, ne_eqb}
use Rattle.mp4_codec.specs.declared.box_type.BoxType.{BoxType}
use Rattle.mp4_codec.specs.declared.box_type.BoxType.TheVariants.{IlstBox}
use Rattle.mp4_codec.specs.BoxType.{code_of, box_type, IsNamed}
use Rattle.mp4_codec.specs.Cause.{Cause, fault_of, seen, ◌or◌}
use Rattle.mp4_codec.specs.Children.{ChildBox, is_of, fault_in}
use Rattle.mp4_faults.specs.Containers.{is_one_of}
use Rattle.mp4_faults.specs.Refusal.{payload_fault}

-- types of the same code are the same
pub same-type : (t u : BoxType) → IsNamed t → IsNamed u → code_of t ≡ code_of u → t ≡ u
same-type t u named known e = sym named ∙ ap box_type e ∙ known

eqb-sym : (m n : ℕ) → eqb m n ≡ eqb n m
eqb-sym m n = by (eqb m n) refl
  where
    by : (b : Bool) → eqb m n ≡ b → b ≡ eqb n m
    by true e = sym (eq-eqb n m (sym (eqb-true m n e)))
    by false e =
        sym (ne_eqb n m (λ (same : n ≡ m). let yes = eq-eqb m n (sym same) in let not = sym yes ∙ e in absurd cc))

-- a view of a value doesn't change why there is none
pub seen-fault : {A B : Type 0} (view : A → B) (r : Result A Cause) → fault_of (seen view r) ≡ fault_of r
seen-fault view (Ok x) = refl
seen-fault view (Err d) = refl

-- either of two tests, for one answer
either : (a b : Bool) (x : Option Cause) → (cond a x None or cond b x None) ≡ cond (a || b) x None
either true b (Some c) = refl
either true true None = refl
either true false None = refl
either false b x = refl

-- A child of a named type.
module _ (c : ChildBox) (named : IsNamed c.0) where
  -- it is refused as one of its type, if that is one of these
  pub record OfTypes (fault : Option Cause) (types : List BoxType) : Type 0 where
    pub is : fault ≡ cond (is_one_of c.0 types) (payload_fault c.0 c.1) None

  module _ {A : Type 0} (u : BoxType) (value : List ℕ → Result A Cause) (known : IsNamed u)
      (is : (q : List ℕ) → payload_fault u q ≡ fault_of (value q)) where
    as-its-type : (b : Bool) → eqb (code_of c.0) (code_of u) ≡ b
        → cond b (fault_of (value c.1)) None ≡ cond b (payload_fault c.0 c.1) None
    as-its-type true e =
        sym (ap (λ (v : BoxType). payload_fault v c.1)
        (same-type c.0 u named known (eqb-true (code_of c.0) (code_of u) e)) ∙ is c.1)
    as-its-type false e = refl

    of-type : fault_in u value c ≡ cond (eqb (code_of u) (code_of c.0)) (payload_fault c.0 c.1) None
    of-type =
        rw (eqb-sym (code_of u) (code_of c.0)) (as-its-type (eqb (code_of c.0) (code_of u)) refl)

    pub last-type : OfTypes (fault_in u value c) (u ∷ [])
    last-type = record { is = of-type ∙ by (eqb (code_of u) (code_of c.0)) }
      where
        by : (b : Bool) → cond b (payload_fault c.0 c.1) None ≡ cond (b || false) (payload_fault c.0 c.1) None
        by true = refl
        by false = refl

    pub and-type : {others : Option Cause} {types : List BoxType} → OfTypes others types
        → OfTypes (fault_in u value c or others) (u ∷ types)
    and-type {others} {types} rest = record {
      is =
          rw (of-type, rest.is)
          (either (eqb (code_of u) (code_of c.0)) (is_one_of c.0 types) (payload_fault c.0 c.1));
    }

    -- an entry that is of this type, or else another
    pub or-entry : {B : Type 0} (kind : A → B) (other : Result B Cause) {types : List BoxType}
        → OfTypes (fault_of other) types
        → OfTypes (fault_of (cond (is_of u c) (seen kind (value c.1)) other)) (u ∷ types)
    or-entry {B} kind other {types} rest = record {
      is = rw (eqb-sym (code_of u) (code_of c.0)) (by (eqb (code_of c.0) (code_of u)) refl);
    }
      where
        by : (b : Bool) → eqb (code_of c.0) (code_of u) ≡ b
            → fault_of (cond b (seen kind (value c.1)) other)
            ≡ cond (b || is_one_of c.0 types) (payload_fault c.0 c.1) None
        by true e = seen-fault kind (value c.1) ∙ as-its-type true e
        by false e = rest.is

  pub no-entry : {B : Type 0} (x : B) → OfTypes (fault_of {A = B} (Ok x)) []
  no-entry x = record { is = refl }

  -- a child of one of the types that isn't refused isn't as its type
  pub faultless : {A : Type 0} {fault : Option Cause} {types : List BoxType} → OfTypes fault types
      → (u : BoxType) (value : List ℕ → Result A Cause) → IsNamed u
      → ((q : List ℕ) → payload_fault u q ≡ fault_of (value q)) → is_one_of u types ≡ true
      → fault ≡ None → fault_in u value c ≡ None
  faultless {A} {fault} {types} tie u value known is among none = by (eqb (code_of c.0) (code_of u)) refl
    where
      by : (b : Bool) → eqb (code_of c.0) (code_of u) ≡ b → cond b (fault_of (value c.1)) None ≡ None
      by true e =
          let same = same-type c.0 u named known (eqb-true (code_of c.0) (code_of u) e) in
          let here : is_one_of c.0 types ≡ true = ap (λ (v : BoxType). is_one_of v types) same ∙ among in
          sym (is c.1) ∙ sym (ap (λ (v : BoxType). payload_fault v c.1) same)
          ∙ sym (ap (λ (b : Bool). cond b (payload_fault c.0 c.1) None) here) ∙ sym tie.is ∙ none
      by false e = refl

  -- where lists of items aren't looked at
  pub without-items : (types : List BoxType) → is_one_of IlstBox types ≡ false → IsNamed IlstBox
      → cond (is_one_of c.0 (IlstBox ∷ [])) false (is_one_of c.0 types) ≡ is_one_of c.0 types
  without-items types none known = by (eqb (code_of IlstBox) (code_of c.0)) refl
    where
      by : (b : Bool) → eqb (code_of IlstBox) (code_of c.0) ≡ b
          → cond (b || false) false (is_one_of c.0 types) ≡ is_one_of c.0 types
      by true e =
          sym (ap (λ (v : BoxType). is_one_of v types)
          (sym (same-type IlstBox c.0 known named (eqb-true (code_of IlstBox) (code_of c.0) e))) ∙ none)
      by false e = refl

-- why a child is refused where these types are looked at, and no lists of items
abbrev pub looks : List BoxType → ChildBox → Option Cause
looks types c = cond (cond (is_one_of c.0 (IlstBox ∷ [])) false (is_one_of c.0 types)) (payload_fault c.0 c.1) None

-- a container says of its children what is looked at in it
pub looks-at : (types : List BoxType) (fault : ChildBox → Option Cause)
    → ((c : ChildBox) (named : IsNamed c.0) → OfTypes c named (fault c) types)
    → is_one_of IlstBox types ≡ false → (c : ChildBox) → IsNamed c.0 → fault c ≡ looks types c
unfolding box_type
looks-at types fault tie none c named =
    (tie c named).is
    ∙ sym (ap (λ (b : Bool). cond b (payload_fault c.0 c.1) None) (without-items c named types none refl))
