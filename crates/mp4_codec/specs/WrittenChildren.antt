-- Children that were written are the children that are read.
use Rattle.std.proofs.Common.{◌≡◌, ℕ, zero, suc, ◌+◌, ◌^◌, ◌≤◌, ◌<◌, true, false, eqb, List, [], ◌∷◌, ◌++◌, length}
use Rattle.std.proofs.Common.{Option, Some, None, Result, Ok, refl, sym, ap, subst, ◌∙◌, append_assoc, arith}
use Rattle.std.specs.List.{AllByRecursion}
use Rattle.std.specs.Option.{option_to_list}
use Rattle.std.proofs.lemmas.Bool.{le-ltb}
use Rattle.std.proofs.lemmas.List.{append-nil, length-append}
use Rattle.std.proofs.lemmas.List.Concat.{flat_map-cons}
use Rattle.mp4_codec.specs.declared.box_type.BoxType.{BoxType}
use Rattle.mp4_codec.specs.BoxType.{code_of}
use Rattle.mp4_codec.specs.Cause.{Cause}
use Rattle.mp4_codec.specs.Bytes.{◌⧺◌}
use Rattle.mp4_codec.specs.FieldLaws.{length-then, then_assoc, then_nothing, nothing_then}
use Rattle.mp4_codec.specs.Boxes.{box_bytes, optional, all_box_bytes}
use Rattle.mp4_codec.specs.Framing.{IsEncodable, short}
use Rattle.mp4_codec.specs.FramingLaws.{child_at-box, length-box_bytes}
use Rattle.mp4_codec.specs.Children.{ChildBox, child_at, next_at, walk, children, all_of, last, fault_in, last_of}
use Rattle.mp4_codec.specs.Children.{gathered}
use Rattle.mp4_codec.specs.ChildrenLaws.{Begins, walk-begins, walk-ends}
use Rattle.mp4_codec.specs.GatherLaws.{NoFault, first_fault-none}

-- a walk finds these children in the bytes, and nothing after them
pub record Walks (bytes : List ℕ) (list : List ChildBox) : Type 0 where
  pub is : (n : ℕ) → length bytes ≤ n → walk n bytes ≡ (list, [])

-- The bytes are these children, one after the other: a walk finds them before whatever other children follow.
pub record HasBoxes (bytes : List ℕ) (list : List ChildBox) : Type 0 where
  pub before : (rest : List ℕ) (others : List ChildBox) → Walks rest others → Walks (bytes ⧺ rest) (list ++ others)

pub children-boxes : (payload : List ℕ) (list : List ChildBox) → HasBoxes payload list → children payload ≡ (list, [])
unfolding children
children-boxes payload list f =
    let w : Walks (payload ⧺ []) (list ++ []) = f.before [] [] (record { is = λ n h. walk-ends n [] (omega arith) }) in
    let whole : walk (length payload) (payload ⧺ []) ≡ (list ++ [], []) =
    w.is (length payload) (omega (arith, ap length (then_nothing payload))) in
    ap (walk (length payload)) (sym (then_nothing payload)) ∙ whole
    ∙ ap (λ (cs : List ChildBox). (cs, [])) (append-nil list)

pub HasBoxes-none : HasBoxes [] []
HasBoxes-none =
    record { before = λ rest others w. subst (λ (bytes : List ℕ). Walks bytes others) (sym (nothing_then rest)) w }

pub HasBoxes-then : {a b : List ℕ} {cs ds : List ChildBox} → HasBoxes a cs → HasBoxes b ds → HasBoxes (a ⧺ b) (cs ++ ds)
HasBoxes-then {a} {b} {cs} {ds} f g = record {
  before = λ rest others w. subst (λ (bytes : List ℕ). Walks bytes ((cs ++ ds) ++ others)) (sym (then_assoc a b rest))
      (subst (λ (list : List ChildBox). Walks (a ⧺ (b ⧺ rest)) list) (sym (append_assoc cs ds others))
      (f.before (b ⧺ rest) (ds ++ others) (g.before rest others w)));
}

child_at-box_bytes : (t : BoxType) (payload rest : List ℕ) → IsEncodable t → 8 + length payload < 2 ^ 32
    → child_at (box_bytes t payload ⧺ rest) ≡ Some ((t, payload), rest)
unfolding ◌⧺◌
child_at-box_bytes t payload rest s small = child_at-box t payload (box_bytes t payload) rest (short s small refl)

-- the first child of a payload that is one box
pub next_at-box_bytes : (t : BoxType) (payload : List ℕ) → IsEncodable t → 8 + length payload < 2 ^ 32
    → next_at (box_bytes t payload) ≡ Ok (Some (t, payload), [])
next_at-box_bytes t payload s small =
    let first : child_at (box_bytes t payload) ≡ Some ((t, payload), []) =
    ap child_at (sym (then_nothing (box_bytes t payload))) ∙ child_at-box_bytes t payload [] s small in
    let long : 8 ≤ length (box_bytes t payload) = omega (arith, length-box_bytes t payload) in
    rw (le-ltb _ _ long, first) refl

pub HasBoxes-one : (t : BoxType) (payload : List ℕ) → IsEncodable t → 8 + length payload < 2 ^ 32
    → HasBoxes (box_bytes t payload) ((t, payload) ∷ [])
HasBoxes-one t payload s small = record { before = λ rest others w. record { is = stepped rest others w } }
  where
    stepped : (rest : List ℕ) (others : List ChildBox) → Walks rest others → (n : ℕ)
        → length (box_bytes t payload ⧺ rest) ≤ n → walk n (box_bytes t payload ⧺ rest) ≡ ((t, payload) ∷ others, [])
    stepped rest others w zero h =
        absurd (omega (arith, length-then (box_bytes t payload) rest, length-box_bytes t payload))
    stepped rest others w (suc n) h =
        let size : length (box_bytes t payload ⧺ rest) ≡ 8 + length payload + length rest =
        length-then (box_bytes t payload) rest ∙ ap (λ (k : ℕ). k + length rest) (length-box_bytes t payload) in
        let b : Begins (box_bytes t payload ⧺ rest) (t, payload) rest =
        record { long = omega (arith, size); is = child_at-box_bytes t payload rest s small } in
        let more : walk n rest ≡ (others, []) = w.is n (omega (arith, size)) in
        walk-begins n (box_bytes t payload ⧺ rest) (t, payload) rest b ∙ rw more refl

-- the children that hold these values
abbrev pub boxed : {B : Type 0} → BoxType → (B → List ℕ) → List B → List ChildBox
boxed t payload [] = []
boxed t payload (b ∷ bs) = (t, payload b) ∷ boxed t payload bs

pub HasBoxes-optional : {B : Type 0} (t : BoxType) (payload : B → List ℕ) (o : Option B) → IsEncodable t
    → length (optional t payload o) < 2 ^ 32 → HasBoxes (optional t payload o) (boxed t payload (option_to_list o))
HasBoxes-optional t payload None s small = HasBoxes-none
HasBoxes-optional t payload (Some b) s small =
    HasBoxes-one t (payload b) s (omega (arith, length-box_bytes t (payload b)))

joined : (a b : List ℕ) (cs ds : List ChildBox) → HasBoxes a cs → HasBoxes b ds → HasBoxes (a ++ b) (cs ++ ds)
unfolding ◌⧺◌
joined a b cs ds f g = HasBoxes-then f g

pub HasBoxes-all : {B : Type 0} (t : BoxType) (payload : B → List ℕ) (bs : List B) → IsEncodable t
    → length (all_box_bytes t payload bs) < 2 ^ 32 → HasBoxes (all_box_bytes t payload bs) (boxed t payload bs)
HasBoxes-all t payload [] s small = HasBoxes-none
HasBoxes-all t payload (b ∷ bs) s small =
    let whole : all_box_bytes t payload (b ∷ bs) ≡ box_bytes t (payload b) ++ all_box_bytes t payload bs =
    flat_map-cons (λ x. box_bytes t (payload x)) b bs in
    let size : length (all_box_bytes t payload (b ∷ bs)) ≡ 8 + length (payload b) + length (all_box_bytes t payload bs)
    =
    ap length whole ∙ length-append (box_bytes t (payload b)) (all_box_bytes t payload bs)
    ∙ ap (λ (n : ℕ). n + length (all_box_bytes t payload bs)) (length-box_bytes t (payload b)) in
    let first = HasBoxes-one t (payload b) s (omega (arith, size, small)) in
    let others = HasBoxes-all t payload bs s (omega (arith, size, small)) in
    subst (λ (bytes : List ℕ). HasBoxes bytes ((t, payload b) ∷ boxed t payload bs)) (sym whole)
    (joined (box_bytes t (payload b)) (all_box_bytes t payload bs) ((t, payload b) ∷ []) (boxed t payload bs) first
    others)

same_code : (n : ℕ) → eqb n n ≡ true
same_code n = grind arith

-- the children of a type among those that hold values of it: the values, if each is read as it was
pub all_of-boxed : {B : Type 0} (t : BoxType) (payload : B → List ℕ) (value : List ℕ → Result B Cause) (bs : List B)
    → AllByRecursion (λ b. value (payload b) ≡ Ok b) bs → all_of t value (boxed t payload bs) ≡ bs
unfolding all_of
all_of-boxed t payload value [] h = refl
all_of-boxed t payload value (b ∷ bs) h =
    rw (same_code (code_of t), h.0) (ap (λ (xs : List _). b ∷ xs) (all_of-boxed t payload value bs h.1))

-- and none among those of another type
pub all_of-others : {A B : Type 0} (t u : BoxType) (payload : B → List ℕ) (value : List ℕ → Result A Cause)
    (bs : List B) → eqb (code_of u) (code_of t) ≡ false → all_of t value (boxed u payload bs) ≡ []
unfolding all_of
all_of-others t u payload value [] other = refl
all_of-others t u payload value (b ∷ bs) other = rw other (all_of-others t u payload value bs other)

pub NoFault-boxed : {B : Type 0} (fault : ChildBox → Option Cause) (t : BoxType) (payload : B → List ℕ) (bs : List B)
    → AllByRecursion (λ b. fault (t, payload b) ≡ None) bs → NoFault fault (boxed t payload bs)
NoFault-boxed fault t payload [] h = tt
NoFault-boxed fault t payload (b ∷ bs) h = (h.0, NoFault-boxed fault t payload bs h.1)

pub last-option : {A : Type 0} (o : Option A) → last (option_to_list o) ≡ o
last-option None = refl
last-option (Some x) = refl

no_fault : {B : Type 0} (t : BoxType) (payload : B → List ℕ) (value : List ℕ → Result B Cause) (bs : List B)
    → AllByRecursion (λ b. value (payload b) ≡ Ok b) bs
    → AllByRecursion (λ b. fault_in t value (t, payload b) ≡ None) bs
no_fault t payload value [] reads = tt
no_fault t payload value (b ∷ bs) reads =
    (rw (same_code (code_of t), reads.0) refl, no_fault t payload value bs reads.1)

-- a child that was written, or was missing, is the last of its type among the children
pub last_child-again : {B : Type 0} (t : BoxType) (payload : B → List ℕ) (value : List ℕ → Result B Cause)
    (o : Option B) → IsEncodable t → length (optional t payload o) < 2 ^ 32
    → AllByRecursion (λ b. value (payload b) ≡ Ok b) (option_to_list o)
    → gathered (fault_in t value) (last_of t value) (children (optional t payload o)) ≡ Ok o
unfolding last_of
last_child-again t payload value o s small reads =
    rw (
      children-boxes (optional t payload o) (boxed t payload (option_to_list o))
          (HasBoxes-optional t payload o s small),
      first_fault-none (fault_in t value) (boxed t payload (option_to_list o)) []
          (NoFault-boxed (fault_in t value) t payload (option_to_list o)
          (no_fault t payload value (option_to_list o) reads)),
      all_of-boxed t payload value (option_to_list o) reads,
      last-option o,
    ) refl
