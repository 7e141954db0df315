-- The children of a payload (ISO/IEC 14496-12, 4.2), and what a container takes of them.
use Rattle.std.specs.Prelude.{ℕ, zero, suc, ◌-◌, List, [], ◌∷◌, ◌++◌, length, Option, Some, None, Result, Ok, Err}
use Rattle.std.specs.Prelude.{nat_lt, ◌==◌, Bool, if◌then◌else◌}
use Rattle.std.specs.Option.{option_to_list}
use Rattle.mp4_codec.specs.declared.box_type.BoxType.{BoxType}
use Rattle.mp4_codec.specs.declared.header.BoxHeader.{BoxHeader}
use Rattle.mp4_codec.specs.declared.children.Child.{Child}
use Rattle.mp4_codec.specs.BoxType.{code_of}
use Rattle.mp4_codec.specs.Cause.{Cause, invalid_data, box_not_found, ◌>>=◌, ◌or◌, unless, fault_of}
use Rattle.mp4_codec.specs.Cursor.{Cursor, left, take_at, header_at}

-- a child box: its type and its payload
abbrev pub ChildBox : Type 0
ChildBox = BoxType × List ℕ

abbrev pub child_box : Child → ChildBox
child_box c = (c.name, c.payload.now)

abbrev pub cut : BoxType → Result (List ℕ × Cursor) Cause → Option (ChildBox × List ℕ)
cut name (Ok y) = Some ((name, y.0), left y.1)
cut name (Err c) = None

abbrev pub begun : Result (BoxHeader × Cursor) Cause → Option (ChildBox × List ℕ)
begun (Ok x) = if x.0.size == 0 then None else cut x.0.name (take_at (x.0.size - 8) x.1)
begun (Err c) = None

-- the child that begins the bytes, and what is after it; an open end, or a header or a child that passes the
-- end, is none
unfoldable pub child_at : List ℕ → Option (ChildBox × List ℕ)
child_at bytes = begun (header_at (record { bytes = bytes; position = 0 }))

abbrev pub next_of : Option (ChildBox × List ℕ) → Result (Option ChildBox × List ℕ) Cause
next_of None = Err invalid_data
next_of (Some x) = Ok (Some x.0, x.1)

-- the next child of a walk, or none where fewer than 8 bytes are left
abbrev pub next_at : List ℕ → Result (Option ChildBox × List ℕ) Cause
next_at bytes = if nat_lt (length bytes) 8 then Ok (None, bytes) else next_of (child_at bytes)

abbrev pub walk_on : List ℕ → (List ℕ → List ChildBox × List ℕ) → Option (ChildBox × List ℕ) → List ChildBox × List ℕ
walk_on bytes others None = ([], bytes)
walk_on bytes others (Some x) = (x.0 ∷ (others x.1).0, (others x.1).1)

-- the children of a payload, and the tail after them; the steps are as many as there are bytes, which is more than
-- enough
unfoldable pub walk : ℕ → List ℕ → List ChildBox × List ℕ
walk zero bytes = ([], bytes)
walk (suc n) bytes = if nat_lt (length bytes) 8 then ([], bytes) else walk_on bytes (walk n) (child_at bytes)

-- the children of a payload in order, and the tail after them
unfoldable pub children : List ℕ → List ChildBox × List ℕ
children payload = walk (length payload) payload

abbrev pub is_of : BoxType → ChildBox → Bool
is_of t c = code_of c.0 == code_of t

abbrev pub value_of : {A : Type 0} → Result A Cause → Option A
value_of (Ok x) = Some x
value_of (Err c) = None

-- what a child gives to a part that takes the children of this type
abbrev pub given_by : {A : Type 0} → BoxType → (List ℕ → Result A Cause) → ChildBox → Option A
given_by t value c = if is_of t c then value_of (value c.1) else None

-- why a child of this type is refused; children of other types are not looked at
abbrev pub fault_in : {A : Type 0} → BoxType → (List ℕ → Result A Cause) → ChildBox → Option Cause
fault_in t value c = if is_of t c then fault_of (value c.1) else None

-- the values of all children of this type, in order
unfoldable pub all_of : {A : Type 0} → BoxType → (List ℕ → Result A Cause) → List ChildBox → List A
all_of t value [] = []
all_of t value (c ∷ cs) = option_to_list (given_by t value c) ++ all_of t value cs

abbrev pub last : {A : Type 0} → List A → Option A
last [] = None
last (x ∷ []) = Some x
last (x ∷ y ∷ ys) = last (y ∷ ys)

-- the value of the last child of this type
unfoldable pub last_of : {A : Type 0} → BoxType → (List ℕ → Result A Cause) → List ChildBox → Option A
last_of t value cs = last (all_of t value cs)

-- a tail of less than 8 bytes is closed, and skipped; a longer one is broken
abbrev pub tail_fault : List ℕ → Option Cause
tail_fault tail = if nat_lt (length tail) 8 then None else Some invalid_data

-- the first refused child in file order; then a broken tail
unfoldable pub first_fault : (ChildBox → Option Cause) → List ChildBox → List ℕ → Option Cause
first_fault fault [] tail = tail_fault tail
first_fault fault (c ∷ cs) tail = fault c or first_fault fault cs tail

-- What a list of children with its tail gives: the first fault is the answer; else it is what is taken of the list.
abbrev pub gathered : {P : Type 0} → (ChildBox → Option Cause) → (List ChildBox → P) → List ChildBox × List ℕ
    → Result P Cause
gathered fault taken list = unless (first_fault fault list.0 list.1) (Ok (taken list.0))

-- one child more, for a part that keeps the last of a type, and for one that keeps all
abbrev pub with_last : {A : Type 0} → BoxType → (List ℕ → Result A Cause) → ChildBox → Option A
    → Result (Option A) Cause
with_last t value c before = if is_of t c then (value c.1 >>= λ x. Ok (Some x)) else Ok before

abbrev pub with_next : {A : Type 0} → BoxType → (List ℕ → Result A Cause) → ChildBox → List A → Result (List A) Cause
with_next t value c before = if is_of t c then (value c.1 >>= λ x. Ok (before ++ x ∷ [])) else Ok before

-- a child that has to be there
abbrev pub needed : {A : Type 0} → BoxType → Option A → Result A Cause
needed t None = Err (box_not_found t)
needed t (Some x) = Ok x

-- children of which at least one has to be there
abbrev pub some_needed : {A : Type 0} → BoxType → List A → Result (List A) Cause
some_needed t [] = Err (box_not_found t)
some_needed t (x ∷ xs) = Ok (x ∷ xs)
