-- Why a container is refused that gathers its children: the first of them, or what comes after.
use Rattle.std.proofs.Common.{◌≡◌, ◌≤◌, ◌-◌, ℕ, zero, suc, Bool, true, false, cond, eqb, ltb, ◌||◌, List, [], ◌∷◌, ◌++◌}
use Rattle.std.proofs.Common.{Option, Some, None, Result, Ok, Err, refl, sym, ap, subst, ◌∙◌, length, arith}
use Rattle.std.proofs.lemmas.Bool.{lt-ltb}
use Rattle.std.specs.List.{AllByRecursion}
use Rattle.std.specs.Option.{option_to_list}
use Rattle.mp4_codec.specs.declared.box_type.BoxType.{BoxType}
use Rattle.mp4_codec.specs.declared.box_type.BoxType.TheVariants.{IlstBox}
use Rattle.mp4_codec.specs.declared.header.BoxHeader.{BoxHeader}
use Rattle.mp4_codec.specs.BoxType.{IsNamed}
use Rattle.mp4_codec.specs.Cause.{Cause, box_not_found, fault_of, unless, ◌or◌, ◌>>=◌}
use Rattle.mp4_codec.specs.Children.{ChildBox, children, walk, walk_on, child_at, begun, cut, is_of, value_of, fault_in}
use Rattle.mp4_codec.specs.Children.{all_of, last, last_of, needed, gathered, first_fault, next_at, next_of}
use Rattle.mp4_codec.specs.Cursor.{Cursor, here, left, header_at, take_at}
use Rattle.mp4_codec.specs.GatherLaws.{NoFault}
use Rattle.mp4_codec.proofs.HeadLaws.{header_read}
use Rattle.mp4_faults.specs.ByChildren.{types_in, first_only}
use Rattle.mp4_faults.specs.Containers.{is_one_of}
use Rattle.mp4_faults.specs.Refusal.{payload_fault}
use Rattle.mp4_faults.proofs.Gathered.{none-refused}
use Rattle.mp4_faults.proofs.Looked.{OfTypes, faultless, looks, looks-at}

-- WHAT HAS TO BE THERE

abbrev pub is-there : {A : Type 0} → Option A → Bool
is-there None = false
is-there (Some x) = true

-- a list that isn't empty has a last
pub last-some : {A : Type 0} (x : A) (xs : List A) → (y : A) × (last (x ∷ xs) ≡ Some y)
last-some x [] = (x, refl)
last-some x (z ∷ zs) = last-some z zs

module _ {A : Type 0} (t : BoxType) (value : List ℕ → Result A Cause) where
  -- where no child of a type is refused, the last is there if the type is among the children's
  pub last-there : (cs : List ChildBox) → NoFault (fault_in t value) cs
      → is-there (last_of t value cs) ≡ is_one_of t (types_in cs)
  unfolding last_of all_of
  last-there [] none = refl
  last-there (c ∷ cs) none = by (is_of t c) (value c.1) none.0 (last-there cs none.1)
    where
      by : (is : Bool) (r : Result A Cause) → cond is (fault_of r) None ≡ None
          → is-there (last (all_of t value cs)) ≡ is_one_of t (types_in cs)
          → is-there (last (option_to_list (cond is (value_of r) None) ++ all_of t value cs))
          ≡ (is || is_one_of t (types_in cs))
      by true (Ok x) e others = rw (last-some x (all_of t value cs)).1 refl
      by true (Err d) e others = absurd cc
      by false r e others = others

  pub needed-next : {B : Type 0} (o : Option A) (next : A → Result B Cause) (later : Option Cause)
      → ((x : A) → fault_of (next x) ≡ later)
      → fault_of (needed t o >>= next) ≡ (cond (is-there o) None (Some (box_not_found t)) or later)
  needed-next None next later h = refl
  needed-next (Some x) next later h = h x

-- NAMED CHILDREN

abbrev pub AreNamed : List ChildBox → Type 0
AreNamed = AllByRecursion (λ c. IsNamed c.0)

named-cut : (name : BoxType) (r : Result (List ℕ × Cursor) Cause) (c : ChildBox) (rest : List ℕ) → IsNamed name
    → cut name r ≡ Some (c, rest) → IsNamed c.0
named-cut name (Ok y) c rest named e =
    let same : ◌≡◌ {A = ChildBox × List ℕ} ((name, y.0), left y.1) (c, rest) = cc in
    subst (λ (n : BoxType). IsNamed n) (ap (λ (x : ChildBox × List ℕ). x.0.0) same) named
named-cut name (Err d) c rest named e = absurd cc

pub child-named : (bytes : List ℕ) (c : ChildBox) (rest : List ℕ) → child_at bytes ≡ Some (c, rest) → IsNamed c.0
unfolding child_at
child-named bytes c rest e = by (header_at (here bytes 0)) refl e
  where
    sized : (h : BoxHeader) (next : Cursor) (ends : Bool) → IsNamed h.name
        → cond ends None (cut h.name (take_at (h.size - 8) next)) ≡ Some (c, rest) → IsNamed c.0
    sized h next true named e = absurd cc
    sized h next false named e = named-cut h.name (take_at (h.size - 8) next) c rest named e

    by : (r : Result (BoxHeader × Cursor) Cause) → header_at (here bytes 0) ≡ r → begun r ≡ Some (c, rest) → IsNamed c.0
    by (Ok x) is e = sized x.0 x.1 (eqb x.0.size 0) (header_read (here bytes 0) x.0 x.1 is).named e
    by (Err d) is e = absurd cc

walk-named : (n : ℕ) (bytes : List ℕ) → AreNamed (walk n bytes).0
unfolding walk
walk-named zero bytes = tt
walk-named (suc n) bytes = by (ltb (length bytes) 8) (child_at bytes) (walk-named n) refl
  where
    by : (few : Bool) (o : Option (ChildBox × List ℕ)) → ((others : List ℕ) → AreNamed (walk n others).0)
        → child_at bytes ≡ o → AreNamed (cond few ([], bytes) (walk_on bytes (walk n) o)).0
    by true o after is = tt
    by false None after is = tt
    by false (Some x) after is = (child-named bytes x.0 x.1 is, after x.1)

pub children-named : (payload : List ℕ) → AreNamed (children payload).0
unfolding children
children-named payload = walk-named (length payload) payload

-- WHAT IS GATHERED

module _ (fault looked : ChildBox → Option Cause)
    (same : (c : ChildBox) → IsNamed c.0 → fault c ≡ looked c) where
  pub same-first : (cs : List ChildBox) (tail : List ℕ) → AreNamed cs
      → first_fault fault cs tail ≡ first_fault looked cs tail
  unfolding first_fault
  same-first [] tail named = refl
  same-first (c ∷ cs) tail named = rw (same c named.0, same-first cs tail named.1) refl

  -- the first refused child, or a broken tail; and then what comes of the parts
  pub by-children : {P B : Type 0} (taken : List ChildBox → P) (next : P → Result B Cause) (later : Option Cause)
      (list : List ChildBox × List ℕ) → (NoFault fault list.0 → fault_of (next (taken list.0)) ≡ later)
      → AreNamed list.0
      → fault_of (gathered fault taken list >>= next) ≡ (first_fault looked list.0 list.1 or later)
  by-children {P} {B} taken next later list own named =
      by (first_fault fault list.0 list.1) refl
      ∙ ap (λ (o : Option Cause). o or later) (same-first list.0 list.1 named)
    where
      by : (o : Option Cause) → first_fault fault list.0 list.1 ≡ o
          → fault_of (unless o (Ok (taken list.0)) >>= next) ≡ (o or later)
      by None e = own (none-refused fault list.0 list.1 e)
      by (Some c) e = refl

  or-none : (o : Option Cause) → (o or None) ≡ o
  or-none None = refl
  or-none (Some c) = refl

  -- the first child alone
  pub by-first : {B : Type 0} (entry : Option ChildBox → Result B Cause)
      → (fault_of (entry None) ≡ None) → ((c : ChildBox) → fault_of (entry (Some c)) ≡ fault c)
      → (bytes : List ℕ)
      → fault_of (next_at bytes >>= λ first. entry first.0)
      ≡ (first_fault looked (first_only (children bytes)).0 (first_only (children bytes)).1 or None)
  unfolding children walk first_fault
  by-first {B} entry none is bytes = of-walk (length bytes) (omega arith)
      ∙ sym (or-none (first_fault looked (first_only (children bytes)).0 (first_only (children bytes)).1))
    where
      of-walk : (n : ℕ) → length bytes ≤ n → fault_of (next_at bytes >>= λ first. entry first.0)
          ≡ first_fault looked (first_only (walk n bytes)).0 (first_only (walk n bytes)).1
      of-walk zero short =
          let few : ltb (length bytes) 8 ≡ true = lt-ltb (length bytes) 8 (omega (arith, short)) in
          rw few none
      of-walk (suc n) short = by (ltb (length bytes) 8) (child_at bytes) refl refl
        where
          by : (few : Bool) (o : Option (ChildBox × List ℕ)) → ltb (length bytes) 8 ≡ few → child_at bytes ≡ o
              → fault_of (cond few (Ok (None, bytes)) (next_of o) >>= λ first. entry first.0)
              ≡ first_fault looked (first_only (cond few ([], bytes) (walk_on bytes (walk n) o))).0
              (first_only (cond few ([], bytes) (walk_on bytes (walk n) o))).1
          by true o few begins = rw few none
          by false None few begins = rw few refl
          by false (Some x) few begins =
              is x.0 ∙ same x.0 (child-named bytes x.0 x.1 begins) ∙ sym (or-none (looked x.0))

-- A container that looks at children of these types.
module _ (types : List BoxType) (fault : ChildBox → Option Cause)
    (tie : (c : ChildBox) (named : IsNamed c.0) → OfTypes c named (fault c) types) where
  -- its children are named, and none is refused
  module _ (cs : List ChildBox) (named : AreNamed cs) (none : NoFault fault cs) where
    module _ {A : Type 0} (t : BoxType) (value : List ℕ → Result A Cause) (known : IsNamed t)
        (is : (q : List ℕ) → payload_fault t q ≡ fault_of (value q)) (among : is_one_of t types ≡ true) where
      part-faultless : (ds : List ChildBox) → AreNamed ds → NoFault fault ds → NoFault (fault_in t value) ds
      part-faultless [] n h = tt
      part-faultless (c ∷ ds) n h =
          (faultless c n.0 (tie c n.0) t value known is among h.0, part-faultless ds n.1 h.1)

      -- the last of a type is there if the type is among theirs
      pub has : is-there (last_of t value cs) ≡ is_one_of t (types_in cs)
      has = last-there t value cs (part-faultless cs named none)

      -- one that is needed, and what follows
      pub needs : {B : Type 0} (next : A → Result B Cause) (later : Option Cause)
          → ((x : A) → fault_of (next x) ≡ later)
          → fault_of (needed t (last_of t value cs) >>= next)
          ≡ (cond (is_one_of t (types_in cs)) None (Some (box_not_found t)) or later)
      needs next later h =
          needed-next t value (last_of t value cs) next later h
          ∙ ap (λ (b : Bool). cond b None (Some (box_not_found t)) or later) has

  -- why it is refused
  pub gathers : is_one_of IlstBox types ≡ false → {P B : Type 0} (taken : List ChildBox → P)
      (next : P → Result B Cause) (later : Option Cause) (body : List ℕ)
      → (AreNamed (children body).0 → NoFault fault (children body).0
      → fault_of (next (taken (children body).0)) ≡ later)
      → fault_of (gathered fault taken (children body) >>= next)
      ≡ (first_fault (looks types) (children body).0 (children body).1 or later)
  gathers none taken next later body own =
      by-children fault (looks types) (looks-at types fault tie none) taken next later (children body)
      (own (children-named body)) (children-named body)
