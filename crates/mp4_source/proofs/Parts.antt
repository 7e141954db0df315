-- What is read in a part of a source's bytes is what is read at the part's place in all of them.
use Rattle.std.proofs.Common.{◌≡◌, ◌∙◌, ℕ, ◌+◌, ◌-◌, ◌≤◌, ◌==◌, min, Bool, true, false, nat_lt}
use Rattle.std.proofs.Common.{List, length, take, drop}
use Rattle.std.proofs.Common.{Result, Ok, Err, refl, sym, ap, subst, arith, take-take, drop-drop}
use Rattle.std.proofs.lemmas.Bool.{lt-ltb, le-ltb, ltb-true, ltb-false}
use Rattle.std.proofs.lemmas.List.{length-drop, length-take, drop-take}
use Rattle.std.specs.Prelude.{if◌then◌else◌, Option, Some, None, IfSome}
use Rattle.mp4_source.specs.Answers.{IsLength}
use Rattle.mp4_source.specs.Source.{IsPartOf}
use Rattle.byteorder.specs.Endian.{big_number}
use Rattle.mp4_codec.specs.declared.box_type.BoxType.{BoxType}
use Rattle.mp4_codec.specs.declared.header.BoxHeader.{BoxHeader}
use Rattle.mp4_codec.specs.BoxType.{box_type}
use Rattle.mp4_codec.specs.Boxes.{box_at}
use Rattle.mp4_codec.specs.Cause.{Cause, end_of_data, invalid_data, out_of_memory, ◌>>=◌}
use Rattle.mp4_codec.proofs.HeadLaws.{was_taken}
use Rattle.mp4_codec.specs.Steps.{ok_is, both_steps}
use Rattle.mp4_codec.specs.Cursor.{Cursor, Head, here, take_at, head_with, head_after, head_at, header_at, reported}

-- an answer whose place is one of a part, as one of all bytes
abbrev pub further : {A : Type 0} → List ℕ → ℕ → Result (A × Cursor) Cause → Result (A × Cursor) Cause
further bytes place answer = answer >>= λ x. Ok (x.0, here bytes (place + x.1.position))

module _ (bytes part : List ℕ) (place : ℕ) (room : place + 8 ≤ length bytes)
    (is : part ≡ take (min (length bytes - place) 16) (drop place bytes))
  where
    long : length part ≡ min (length bytes - place) 16
    long = ap length is ∙ length-take _ (drop place bytes) ∙ rw (length-drop place bytes) (omega arith)

    -- what is after p bytes of the part
    after : (p m : ℕ) → p + m ≤ length part → take m (drop p part) ≡ take m (drop (place + p) bytes)
    after p m fits =
        let n = min (length bytes - place) 16 in
        let cut : drop p part ≡ take (n - p) (drop (place + p) bytes) =
        ap (drop p) (is ∙ ap (λ k. take k (drop place bytes)) (omega (arith, long, fits)))
        ∙ drop-take p (n - p) (drop place bytes) ∙ ap (take (n - p)) (drop-drop p place bytes) in
        ap (take m) cut ∙ take-take m (n - p) (drop (place + p) bytes) (omega (arith, long, fits))

    -- what is taken within the first 16 bytes
    taken : (p m : ℕ) → p + m ≤ 16
        → take_at m (here bytes (place + p)) ≡ further bytes place (take_at m (here part p))
    taken p m small = by (nat_lt (length part) (p + m)) refl
      where
        by : (b : Bool) → nat_lt (length part) (p + m) ≡ b
            → take_at m (here bytes (place + p)) ≡ further bytes place (take_at m (here part p))
        by true e =
            let short = ltb-true (length part) (p + m) e in
            rw (e, lt-ltb (length bytes) (place + p + m) (omega (arith, short, long))) refl
        by false e =
            let fits = ltb-false (length part) (p + m) e in
            let all : take m (drop (place + p) bytes) ≡ take m (drop p part) = sym (after p m fits) in
            let place_is : place + p + m ≡ place + (p + m) = omega arith in
            rw (e, le-ltb (length bytes) (place + p + m) (omega (arith, fits, long)), all, place_is) refl

    -- a step that reads no bytes
    stepped : (f : List ℕ → Result Head Cause) (r : Result (List ℕ × Cursor) Cause)
        → (further bytes place r >>= λ x. f x.0 >>= λ head. Ok (head, x.1))
        ≡ further bytes place (r >>= λ x. f x.0 >>= λ head. Ok (head, x.1))
    stepped f (Err c) = refl
    stepped f (Ok x) = said (f x.0)
      where
        said : (h : Result Head Cause)
            → (h >>= λ head. Ok (head, here bytes (place + x.1.position)))
            ≡ further bytes place (h >>= λ head. Ok (head, x.1))
        said (Ok head) = refl
        said (Err c) = refl

    either : {A : Type 0} (b : Bool) (x y x' y' : Result (A × Cursor) Cause) → x ≡ further bytes place x'
        → y ≡ further bytes place y'
        → (if b then x else y) ≡ further bytes place (if b then x' else y')
    either true x y x' y' e f = e
    either false x y x' y' e f = f

    -- the rest of a header whose first 8 bytes are read
    rest : (name : BoxType) (size : ℕ)
        → head_after name size (here bytes (place + 8)) ≡ further bytes place (head_after name size (here part 8))
    rest name size =
        either (size == 1) _ _ _ _ (rw (taken 8 8 (omega arith)) (stepped _ (take_at 8 (here part 8))))
        (short (head_with name 8 size))
      where
        short : (h : Result Head Cause)
            → (h >>= λ head. Ok (head, here bytes (place + 8)))
            ≡ further bytes place (h >>= λ head. Ok (head, here part 8))
        short (Ok head) = refl
        short (Err c) = refl

    told : (h : Result (Head × Cursor) Cause)
        → (further bytes place h >>= λ x. Ok (reported x.0, x.1))
        ≡ further bytes place (h >>= λ x. Ok (reported x.0, x.1))
    told (Ok x) = refl
    told (Err c) = refl

    first : take_at 8 (here part 0) ≡ Ok (take 8 part, here part 8)
    first = rw (le-ltb (length part) (0 + 8) (omega (arith, long, room))) refl

    first_of_all : take_at 8 (here bytes place) ≡ Ok (take 8 part, here bytes (place + 8))
    first_of_all =
        let same : place + 0 ≡ place = omega arith in
        rw same at (taken 0 8 (omega arith)) ∙ ap (further bytes place) first

    -- the header at the part's place
    pub header_in_part : header_at (here bytes place) ≡ further bytes place (header_at (here part 0))
    unfolding head_at
    header_in_part =
        let bytes_8 = take 8 part in
        let name = box_type (big_number 4 (drop 4 bytes_8)) in
        rw (first, first_of_all)
        (ap (λ h. h >>= λ x. Ok (reported x.0, x.1)) (rest name (big_number 4 bytes_8))
        ∙ told (head_after name (big_number 4 bytes_8) (here part 8)))

-- a size that was read of 32 or of 64 bits
after_within : (name : BoxType) (size : ℕ) (c : Cursor) (x : Head × Cursor) → c.position ≤ length c.bytes
    → head_after name size c ≡ Ok x → x.1.position ≤ length c.bytes
after_within name size c x fits e = by (size == 1) e
  where
    large : (r : Result (List ℕ × Cursor) Cause) (f : List ℕ → Result Head Cause)
        → ((y : List ℕ × Cursor) → r ≡ Ok y → y.1.position ≤ length c.bytes)
        → (r >>= λ y. f y.0 >>= λ head. Ok (head, y.1)) ≡ Ok x → x.1.position ≤ length c.bytes
    large (Err d) f h e = absurd cc
    large (Ok y) f h e = said (f y.0) e
      where
        said : (r : Result Head Cause) → (r >>= λ head. Ok (head, y.1)) ≡ Ok x → x.1.position ≤ length c.bytes
        said (Ok head) e =
            subst (λ (z : Head × Cursor). z.1.position ≤ length c.bytes) (ok_is (head, y.1) x e) (h y refl)
        said (Err d) e = absurd cc

    short : (r : Result Head Cause) → (r >>= λ head. Ok (head, c)) ≡ Ok x → x.1.position ≤ length c.bytes
    short (Ok head) e = subst (λ (z : Head × Cursor). z.1.position ≤ length c.bytes) (ok_is (head, c) x e) fits
    short (Err d) e = absurd cc

    taken_within : (y : List ℕ × Cursor) → take_at 8 c ≡ Ok y → y.1.position ≤ length c.bytes
    taken_within y t =
        let was = was_taken 8 c y t in
        let place_is : c.position + 8 ≡ y.1.position = ap (λ (z : List ℕ × Cursor). z.1.position) was.1 in
        omega (arith, was.0, place_is)

    by : (b : Bool) → (if b then (take_at 8 c >>= λ y. head_with name 16 (big_number 8 y.0) >>= λ head. Ok (head, y.1))
        else (head_with name 8 size >>= λ head. Ok (head, c))) ≡ Ok x → x.1.position ≤ length c.bytes
    by true e = large (take_at 8 c) _ taken_within e
    by false e = short (head_with name 8 size) e

-- a header that was read is whole within the bytes
pub header_within : (place : Cursor) (h : BoxHeader) (after : Cursor) → header_at place ≡ Ok (h, after)
    → after.position ≤ length place.bytes
unfolding head_at
header_within place h after e =
    let one = both_steps (head_at place) (λ (x : Head × Cursor). Ok (reported x.0, x.1)) (h, after) e in
    let last = ap (λ (x : BoxHeader × Cursor). x.1.position) (ok_is (reported one.0.0, one.0.1) (h, after) one.2) in
    let two = both_steps (take_at 8 place)
    (λ (x : List ℕ × Cursor). head_after (box_type (big_number 4 (drop 4 x.0))) (big_number 4 x.0) x.1) one.0 one.1 in
    let first = was_taken 8 place two.0 two.1 in
    let bytes_are : place.bytes ≡ two.0.1.bytes = ap (λ (x : List ℕ × Cursor). x.1.bytes) first.1 in
    let place_is : place.position + 8 ≡ two.0.1.position = ap (λ (x : List ℕ × Cursor). x.1.position) first.1 in
    let within = after_within (box_type (big_number 4 (drop 4 two.0.0))) (big_number 4 two.0.0) two.0.1 one.0
    (omega (arith, first.0, place_is, ap length bytes_are)) two.2 in
    omega (arith, within, last, ap length bytes_are)

-- an answer that doesn't say that memory ran out
abbrev WantsNone : {A : Type 0} → Result A Cause → Type 0
WantsNone (Ok x) = Unit {0}
WantsNone (Err c) = c ≡ out_of_memory → ⊥

-- no header says that memory ran out
pub header_wants_none : (place : Cursor) → header_at place ≡ Err out_of_memory → ⊥
unfolding head_at
header_wants_none place e = subst WantsNone e (next (head_at place) _ first (λ x. tt)) refl
  where
    next : {A B : Type 0} (r : Result A Cause) (f : A → Result B Cause) → WantsNone r → ((x : A) → WantsNone (f x))
        → WantsNone (r >>= f)
    next (Ok x) f h g = g x
    next (Err c) f h g = h

    either : {A : Type 0} (b : Bool) (r s : Result A Cause) → WantsNone r → WantsNone s
        → WantsNone (if b then r else s)
    either true r s h i = h
    either false r s h i = i

    taken : (n : ℕ) (c : Cursor) → WantsNone (take_at n c)
    taken n c = either (nat_lt (length c.bytes) (c.position + n)) _ _ (λ e. absurd cc) tt

    sized : (name : BoxType) (header total : ℕ) → WantsNone (head_with name header total)
    sized name header total =
        either (total == 0) _ _ tt (either (nat_lt total header) (Err invalid_data) _ (λ e. absurd cc) tt)

    after_first : (name : BoxType) (size : ℕ) (c : Cursor) → WantsNone (head_after name size c)
    after_first name size c =
        either (size == 1) _ _ (next (take_at 8 c) _ (taken 8 c)
        (λ large. next (head_with name 16 (big_number 8 large.0)) _ (sized name 16 (big_number 8 large.0)) (λ x. tt)))
        (next (head_with name 8 size) _ (sized name 8 size) (λ x. tt))

    first : WantsNone (head_at place)
    first = next (take_at 8 place) _ (taken 8 place)
        (λ x. after_first (box_type (big_number 4 (drop 4 x.0))) (big_number 4 x.0) x.1)

-- A HEADER OF A SOURCE

-- fewer bytes are left than the first 8 of a header
pub no_header : (known : Option (List ℕ)) (len place : ℕ) → IsLength known len → (place + 8 ≤ len → ⊥)
    → IfSome known (λ bytes. header_at (here bytes place) ≡ Err end_of_data)
unfolding head_at
no_header None len place is short = tt
no_header (Some bytes) len place is short = rw (lt-ltb (length bytes) (place + 8) (omega (arith, is, short))) refl

-- its first 16 bytes are read, or all that are left
pub header_of_part : (known : Option (List ℕ)) (place n : ℕ) (part : List ℕ)
    → IfSome known (λ bytes. (place + 8 ≤ length bytes) × (n ≡ min (length bytes - place) 16))
    → IsPartOf known place n part
    → IfSome known (λ bytes. header_at (here bytes place) ≡ further bytes place (header_at (here part 0)))
header_of_part None place n part room read = tt
header_of_part (Some bytes) place n part room read =
    header_in_part bytes part place room.0 (read.1 ∙ ap (λ (k : ℕ). take k (drop place bytes)) room.1)

-- what follows for known bytes of two facts
pub both_known : {X : Type 0} (known : Option X) (P Q : X → Type 0) → IfSome known P → ((x : X) → P x → Q x)
    → IfSome known Q
both_known None P Q p f = tt
both_known (Some x) P Q p f = f x p

-- A BOX OF A SOURCE

module _ {A : Type 0} (value : List ℕ → Result A Cause) where
  -- fewer bytes are left than its payload has
  pub no_payload : (known : Option (List ℕ)) (len place size : ℕ) → IsLength known len → 8 ≤ size
      → (place + (size - 8) ≤ len → ⊥)
      → IfSome known (λ bytes. box_at value size (here bytes place) ≡ Err end_of_data)
  no_payload None len place size is large short = tt
  no_payload (Some bytes) len place size is large short =
      rw (le-ltb size 8 large, lt-ltb (length bytes) (place + (size - 8)) (omega (arith, is, short))) refl

  -- its payload is read
  pub box_of_part : (known : Option (List ℕ)) (place size : ℕ) (part : List ℕ) → 8 ≤ size
      → IsPartOf known place (size - 8) part
      → IfSome known (λ bytes. box_at value size (here bytes place)
      ≡ (value part >>= λ x. Ok (x, here bytes (place + (size - 8)))))
  box_of_part None place size part large read = tt
  box_of_part (Some bytes) place size part large read =
      rw (le-ltb size 8 large, le-ltb (length bytes) (place + (size - 8)) read.0, read.1) refl
