-- The parts of a container that was written are the parts that are read of it.
use Rattle.std.proofs.Common.{◌≡◌, ℕ, ◌+◌, ◌^◌, ◌<◌, Bool, true, false, cond, eqb, List, [], ◌∷◌, ◌++◌, length}
use Rattle.std.proofs.Common.{Option, Some, None, Result, Ok, refl, sym, ap, subst, ◌∙◌, append_assoc, arith}
use Rattle.std.specs.Prelude.{IfSome, ◌==◌, if◌then◌else◌}
use Rattle.std.specs.List.{AllByRecursion}
use Rattle.std.specs.Option.{option_to_list}
use Rattle.std.proofs.lemmas.List.{append-nil, length-append}
use Rattle.std.proofs.lemmas.List.Concat.{flat_map-cons}
use Rattle.mp4_codec.specs.declared.box_type.BoxType.{BoxType}
use Rattle.mp4_codec.specs.BoxType.{code_of}
use Rattle.mp4_codec.specs.Cause.{Cause}
use Rattle.mp4_codec.specs.Bytes.{◌⧺◌}
use Rattle.mp4_codec.specs.FieldLaws.{length-then}
use Rattle.mp4_codec.specs.Boxes.{box_bytes, optional, optional_refusal, all_box_bytes, all_refusal, no_refusal}
use Rattle.mp4_codec.specs.Boxes.{IsCanonical}
use Rattle.mp4_codec.specs.Framing.{IsEncodable}
use Rattle.mp4_codec.specs.FramingLaws.{length-box_bytes}
use Rattle.mp4_codec.specs.Children.{ChildBox, children, gathered, value_of, all_of, last, last_of}
use Rattle.mp4_codec.specs.Children.{some_needed}
use Rattle.mp4_codec.specs.GatherLaws.{all_of-append, NoFault, NoFault-append, first_fault-none}
use Rattle.mp4_codec.specs.WriteLaws.{or_parts, write_cause-none}
use Rattle.mp4_codec.specs.WrittenChildren.{HasBoxes, HasBoxes-one, HasBoxes-optional, HasBoxes-all, HasBoxes-then}
use Rattle.mp4_codec.specs.WrittenChildren.{boxed}
use Rattle.mp4_codec.specs.WrittenChildren.{children-boxes, last-option}

-- a kind of box: what is known of it by its contract
pub record Kind (B : Type 0) : Type 1 where
  pub name : BoxType
  pub payload : B → List ℕ
  pub value : List ℕ → Result B Cause
  pub refusal : B → Option Cause
  pub IsInRange : B → Type 0
  pub IsWellFormed : B → Type 0
  pub encodable : IsEncodable name
  pub again : (b : B) → IsCanonical IsInRange IsWellFormed payload refusal b → value (payload b) ≡ Ok b

-- the payloads of these values
abbrev pub payloads : {B : Type 0} → (B → List ℕ) → List B → List (List ℕ)
payloads payload [] = []
payloads payload (b ∷ bs) = payload b ∷ payloads payload bs

-- children of one type with these payloads
abbrev pub members : BoxType → List (List ℕ) → List ChildBox
members t [] = []
members t (p ∷ ps) = (t, p) ∷ members t ps

-- each of these values is read as it was written
abbrev pub ReadBack : {B : Type 0} → Kind B → List B → Type 0
ReadBack k bs = AllByRecursion (λ b. k.value (k.payload b) ≡ Ok b) bs

-- These bytes are the boxes of these values, one after the other, and each is read as it was written.
pub record Part {B : Type 0} (k : Kind B) (bytes : List ℕ) (bs : List B) : Type 0 where
  pub boxes : HasBoxes bytes (members k.name (payloads k.payload bs))
  pub reads : ReadBack k bs

members-boxed : {B : Type 0} (t : BoxType) (payload : B → List ℕ) (bs : List B)
    → boxed t payload bs ≡ members t (payloads payload bs)
members-boxed t payload [] = refl
members-boxed t payload (b ∷ bs) = ap (λ (cs : List ChildBox). (t, payload b) ∷ cs) (members-boxed t payload bs)

as_members : {B : Type 0} (t : BoxType) (payload : B → List ℕ) (bytes : List ℕ) (bs : List B)
    → HasBoxes bytes (boxed t payload bs) → HasBoxes bytes (members t (payloads payload bs))
as_members t payload bytes bs f = subst (λ (cs : List ChildBox). HasBoxes bytes cs) (members-boxed t payload bs) f

-- the bytes of two parts fit where those of both do
pub both_fit : (a b : List ℕ) (n : ℕ) → length (a ⧺ b) < n → (length a < n) × (length b < n)
both_fit a b n small =
    (omega (arith, small, length-then a b), omega (arith, small, length-then a b))

module _ {B : Type 0} (k : Kind B) where
  one_again : (b : B) → k.IsInRange b → k.IsWellFormed b → k.refusal b ≡ None
      → length (box_bytes k.name (k.payload b)) < 2 ^ 32
      → k.value (k.payload b) ≡ Ok b
  one_again b in_range well_formed sound small =
      let fits : 8 + length (k.payload b) < 2 ^ 32 = omega (arith, small, length-box_bytes k.name (k.payload b)) in
      k.again b (record {
        in_range = in_range;
        well_formed = well_formed;
        written = write_cause-none (k.payload b) (k.refusal b) fits sound;
      })

  -- a child that is there
  pub required_part : (b : B) → k.IsInRange b → k.IsWellFormed b → k.refusal b ≡ None
      → length (box_bytes k.name (k.payload b)) < 2 ^ 32 → Part k (box_bytes k.name (k.payload b)) (b ∷ [])
  required_part b in_range well_formed sound small = record {
    boxes = HasBoxes-one k.name (k.payload b) k.encodable (omega (arith, small, length-box_bytes k.name (k.payload b)));
    reads = (one_again b in_range well_formed sound small, tt);
  }

  -- a child that may be missing
  pub optional_part : (o : Option B) → IfSome o k.IsInRange → IfSome o k.IsWellFormed
      → optional_refusal k.refusal o ≡ None
      → length (optional k.name k.payload o) < 2 ^ 32 → Part k (optional k.name k.payload o) (option_to_list o)
  optional_part o in_range well_formed sound small = record {
    boxes =
        as_members k.name k.payload (optional k.name k.payload o) (option_to_list o)
        (HasBoxes-optional k.name k.payload o k.encodable small);
    reads = each o in_range well_formed sound small;
  }
    where
      each : (o : Option B) → IfSome o k.IsInRange → IfSome o k.IsWellFormed → optional_refusal k.refusal o ≡ None
          → length (optional k.name k.payload o) < 2 ^ 32 → ReadBack k (option_to_list o)
      each None in_range well_formed sound small = tt
      each (Some b) in_range well_formed sound small = (one_again b in_range well_formed sound small, tt)

  -- a list of children
  pub list_part : (bs : List B) → AllByRecursion k.IsInRange bs → AllByRecursion k.IsWellFormed bs
      → all_refusal k.refusal bs ≡ None → length (all_box_bytes k.name k.payload bs) < 2 ^ 32
      → Part k (all_box_bytes k.name k.payload bs) bs
  list_part bs in_range well_formed sound small = record {
    boxes =
        as_members k.name k.payload (all_box_bytes k.name k.payload bs) bs
        (HasBoxes-all k.name k.payload bs k.encodable small);
    reads = each bs in_range well_formed sound small;
  }
    where
      each : (bs : List B) → AllByRecursion k.IsInRange bs → AllByRecursion k.IsWellFormed bs
          → all_refusal k.refusal bs ≡ None → length (all_box_bytes k.name k.payload bs) < 2 ^ 32 → ReadBack k bs
      each [] in_range well_formed sound small = tt
      each (b ∷ bs) in_range well_formed sound small =
          let whole : length (all_box_bytes k.name k.payload (b ∷ bs))
          ≡ length (box_bytes k.name (k.payload b)) + length (all_box_bytes k.name k.payload bs) =
          ap length (flat_map-cons (λ x. box_bytes k.name (k.payload x)) b bs)
          ∙ length-append (box_bytes k.name (k.payload b)) (all_box_bytes k.name k.payload bs) in
          let none = or_parts (k.refusal b) (all_refusal k.refusal bs) sound in (
            one_again b in_range.0 well_formed.0 none.0 (omega (arith, small, whole)),
            each bs in_range.1 well_formed.1 none.1 (omega (arith, small, whole)),
          )

-- children of some types, those of a type side by side: the type and the payloads of each
abbrev pub Groups : Type 0
Groups = List (BoxType × List (List ℕ))

-- the children of these groups, one after the other
abbrev pub children_in : Groups → List ChildBox
children_in [] = []
children_in (g ∷ []) = members g.0 g.1
children_in (g ∷ h ∷ gs) = members g.0 g.1 ++ children_in (h ∷ gs)

-- The bytes are the children of these groups, of which the container refuses none.
pub record Written (fault : ChildBox → Option Cause) (bytes : List ℕ) (gs : Groups) : Type 0 where
  pub boxes : HasBoxes bytes (children_in gs)
  pub none : NoFault fault (children_in gs)

module _ {B : Type 0} (k : Kind B) {fault : ChildBox → Option Cause} {bytes : List ℕ} {bs : List B} where
  -- a part that is the last of the container, where the container refuses a child of its type for its value alone
  pub last_group : Part k bytes bs
      → ((b : B) → k.value (k.payload b) ≡ Ok b → fault (k.name, k.payload b) ≡ None)
      → Written fault bytes ((k.name, payloads k.payload bs) ∷ [])
  last_group p accepts = record { boxes = p.boxes; none = each bs p.reads }
    where
      each : (bs : List B) → ReadBack k bs → NoFault fault (members k.name (payloads k.payload bs))
      each [] reads = tt
      each (b ∷ bs) reads = (accepts b reads.0, each bs reads.1)

  -- a part that others follow
  pub group : {rest : List ℕ} {g : BoxType × List (List ℕ)} {gs : Groups} → Part k bytes bs
      → ((b : B) → k.value (k.payload b) ≡ Ok b → fault (k.name, k.payload b) ≡ None)
      → Written fault rest (g ∷ gs)
      → Written fault (bytes ⧺ rest) ((k.name, payloads k.payload bs) ∷ g ∷ gs)
  group {rest} {g} {gs} p accepts others = record {
    boxes = HasBoxes-then p.boxes others.boxes;
    none =
        NoFault-append fault (members k.name (payloads k.payload bs)) (children_in (g ∷ gs)) (last_group p accepts).none
        others.none;
  }

-- what the children of the bytes give: what is taken of the groups
pub gathered-written : {P : Type 0} {fault : ChildBox → Option Cause} {bytes : List ℕ} {gs : Groups}
    (taken : List ChildBox → P) → Written fault bytes gs
    → gathered fault taken (children bytes) ≡ Ok (taken (children_in gs))
gathered-written {P} {fault} {bytes} {gs} taken w =
    rw (children-boxes bytes (children_in gs) w.boxes, first_fault-none fault (children_in gs) [] w.none) refl

-- the payloads of the children of this type
abbrev pub of_type : BoxType → Groups → List (List ℕ)
of_type t [] = []
of_type t (g ∷ gs) = if code_of g.0 == code_of t then g.1 ++ of_type t gs else of_type t gs

-- the values of the payloads that have one
abbrev pub values : {A : Type 0} → (List ℕ → Result A Cause) → List (List ℕ) → List A
values value [] = []
values value (p ∷ ps) = option_to_list (value_of (value p)) ++ values value ps

values-append : {A : Type 0} (value : List ℕ → Result A Cause) (ps qs : List (List ℕ))
    → values value (ps ++ qs) ≡ values value ps ++ values value qs
values-append value [] qs = refl
values-append value (p ∷ ps) qs =
    ap (λ (xs : List _). option_to_list (value_of (value p)) ++ xs) (values-append value ps qs)
    ∙ sym (append_assoc (option_to_list (value_of (value p))) (values value ps) (values value qs))

all_of-members : {A : Type 0} (t u : BoxType) (value : List ℕ → Result A Cause) (ps : List (List ℕ))
    → all_of t value (members u ps) ≡ (if code_of u == code_of t then values value ps else [])
unfolding all_of
all_of-members t u value ps = chosen (eqb (code_of u) (code_of t)) refl ps
  where
    chosen : (b : Bool) → b ≡ eqb (code_of u) (code_of t) → (ps : List (List ℕ))
        → all_of t value (members u ps) ≡ cond b (values value ps) []
    chosen true e [] = refl
    chosen true e (p ∷ ps) =
        rw (sym e) (ap (λ (xs : List _). option_to_list (value_of (value p)) ++ xs) (chosen true e ps))
    chosen false e [] = refl
    chosen false e (p ∷ ps) = rw (sym e) (chosen false e ps)

all_of-groups : {A : Type 0} (t : BoxType) (value : List ℕ → Result A Cause) (gs : Groups)
    → all_of t value (children_in gs) ≡ values value (of_type t gs)
unfolding all_of
all_of-groups t value [] = refl
all_of-groups t value (g ∷ []) = all_of-members t g.0 value g.1 ∙ chosen (eqb (code_of g.0) (code_of t))
  where
    chosen : (b : Bool) → cond b (values value g.1) [] ≡ values value (cond b (g.1 ++ []) [])
    chosen true = rw (append-nil g.1) refl
    chosen false = refl
all_of-groups t value (g ∷ h ∷ gs) =
    all_of-append t value (members g.0 g.1) (children_in (h ∷ gs))
    ∙ rw (all_of-members t g.0 value g.1, all_of-groups t value (h ∷ gs)) (chosen (eqb (code_of g.0) (code_of t)))
  where
    chosen : (b : Bool)
        → cond b (values value g.1) [] ++ values value (of_type t (h ∷ gs))
        ≡ values value (cond b (g.1 ++ of_type t (h ∷ gs)) (of_type t (h ∷ gs)))
    chosen true = sym (values-append value g.1 (of_type t (h ∷ gs)))
    chosen false = refl

values-again : {B : Type 0} (k : Kind B) (bs : List B) → ReadBack k bs
    → values k.value (payloads k.payload bs) ≡ bs
values-again k [] reads = refl
values-again k (b ∷ bs) reads = rw reads.0 (ap (λ (xs : List _). b ∷ xs) (values-again k bs reads.1))

-- all children of a type, where the groups have just these of it
pub all_of-part : {B : Type 0} {bytes : List ℕ} (k : Kind B) (bs : List B) (gs : Groups) → Part k bytes bs
    → of_type k.name gs ≡ payloads k.payload bs ++ []
    → all_of k.name k.value (children_in gs) ≡ bs
all_of-part k bs gs p same =
    all_of-groups k.name k.value gs ∙ ap (values k.value) (same ∙ append-nil (payloads k.payload bs))
    ∙ values-again k bs p.reads

-- the last child of a type, where the groups have at most one of it
pub last_of-part : {B : Type 0} {bytes : List ℕ} (k : Kind B) (o : Option B) (gs : Groups)
    → Part k bytes (option_to_list o) → of_type k.name gs ≡ payloads k.payload (option_to_list o) ++ []
    → last_of k.name k.value (children_in gs) ≡ o
unfolding last_of
last_of-part k o gs p same = ap last (all_of-part k (option_to_list o) gs p same) ∙ last-option o

-- values that nothing refuses
pub none_refuses : {B : Type 0} (o : Option B) → optional_refusal no_refusal o ≡ None
none_refuses None = refl
none_refuses (Some b) = refl

pub none_refuse : {B : Type 0} (bs : List B) → all_refusal no_refusal bs ≡ None
none_refuse [] = refl
none_refuse (b ∷ bs) = none_refuse bs

-- where at least one child was written, at least one is read
pub some_needed-again : {B : Type 0} (t : BoxType) (bs : List B) → (bs ≡ [] → ⊥) → some_needed t bs ≡ Ok bs
some_needed-again t [] some = absurd (some refl)
some_needed-again t (b ∷ bs) some = refl
