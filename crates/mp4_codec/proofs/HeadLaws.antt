-- What a header that was read says.
use Rattle.std.proofs.Common.{◌≡◌, ◌⊎◌, inl, inr, ℕ, ◌+◌, ◌≤◌, ◌<◌, ◌^◌, ◌++◌, append_assoc, Option, Bool, true}
use Rattle.std.proofs.Common.{false, cond, ltb, eqb, List, length, take, drop, Some, None, Result, Ok, Err, refl, sym}
use Rattle.std.proofs.Common.{ap, subst, ◌∙◌, arith}
use Rattle.std.proofs.lemmas.Bool.{ltb-false, ne_eqb}
use Rattle.byteorder.specs.Endian.{big_number}
use Rattle.mp4_codec.specs.declared.box_type.BoxType.{BoxType}
use Rattle.mp4_codec.specs.BoxType.{box_type, IsNamed}
use Rattle.mp4_codec.specs.Cause.{Cause, end_of_data, invalid_data, ◌>>=◌}
use Rattle.mp4_codec.specs.declared.header.BoxHeader.{BoxHeader}
use Rattle.mp4_codec.specs.Cursor.{Cursor, Head, left, moved, take_at, head_with, head_after, head_at, here, reported}
use Rattle.mp4_codec.specs.Cursor.{header_at}
use Rattle.mp4_codec.specs.FramingLaws.{front, opened, enlarged, head_with-total}
use Rattle.mp4_codec.specs.BoxType.{code_of}
use Rattle.mp4_codec.specs.Bytes.{number, ◌⧺◌}
use Rattle.mp4_codec.specs.FieldLaws.{length-number, length-then}
use Rattle.mp4_codec.specs.Framing.{IsEncodable, SaysBox, short_header, long_header}
use Rattle.mp4_codec.specs.Steps.{ok_is, both_steps}
use Rattle.mp4_codec.proofs.BoxTypeLaws.{is_named}

-- n bytes that were taken
pub was_taken : (n : ℕ) (place : Cursor) (x : List ℕ × Cursor) → take_at n place ≡ Ok x
    → (place.position + n ≤ length place.bytes) × ((take n (left place), moved n place) ≡ x)
was_taken n place x e =
    chosen (ltb (length place.bytes) (place.position + n)) (ltb-false (length place.bytes) (place.position + n)) e
  where
    chosen : (b : Bool) → (b ≡ false → place.position + n ≤ length place.bytes)
        → cond b (Err end_of_data) (Ok (take n (left place), moved n place)) ≡ Ok x
        → (place.position + n ≤ length place.bytes) × ((take n (left place), moved n place) ≡ x)
    chosen true h e = absurd cc
    chosen false h e = (h refl, ok_is (take n (left place), moved n place) x e)

-- the length of a whole box is known, and no less than that of its header
pub record Closed (head : Head) : Type 0 where
  pub total : ℕ
  pub is : head.total ≡ Some total
  pub large : head.header ≤ total

-- what a size in a header of so many bytes says
record Sized (name : BoxType) (header : ℕ) (head : Head) : Type 0 where
  name_is : head.name ≡ name
  header_is : head.header ≡ header
  whole : (head.total ≡ None) ⊎ Closed head

sized : (name : BoxType) (header total : ℕ) (head : Head) → head_with name header total ≡ Ok head
    → Sized name header head
sized name header total head e = chosen (eqb total 0) (ltb total header) (ltb-false total header) e
  where
    no_end : Head
    no_end = record { name = name; header = header; total = None }

    closed : Head
    closed = record { name = name; header = header; total = Some total }

    chosen : (none small : Bool) → (small ≡ false → header ≤ total)
        → cond none (Ok no_end) (cond small (Err invalid_data) (Ok closed)) ≡ Ok head → Sized name header head
    chosen true small h e =
        subst (Sized name header) (ok_is no_end head e)
        (record { name_is = refl; header_is = refl; whole = inl refl })
    chosen false true h e = absurd cc
    chosen false false h e =
        subst (Sized name header) (ok_is closed head e)
        (record {
          name_is = refl;
          header_is = refl;
          whole =
              inr (record { total = total; is = refl; large = h refl });
        })

-- a header that was read: its type is named as such, it has 8 bytes at least, and the place after it is so many
-- bytes on
pub record HeadRead (place : Cursor) (head : Head) (next : Cursor) : Type 0 where
  pub named : IsNamed head.name
  pub long : 8 ≤ head.header
  pub after : next ≡ moved head.header place
  pub whole : (head.total ≡ None) ⊎ Closed head

abbrev headed : Cursor → Head → Result (Head × Cursor) Cause
headed next h = Ok (h, next)

-- a size of 64 bits
abbrev large_headed : BoxType → List ℕ × Cursor → Result (Head × Cursor) Cause
large_headed name large = head_with name 16 (big_number 8 large.0) >>= headed large.1

module _ (place : Cursor) (name : BoxType) (named : IsNamed name) (head : Head) (next : Cursor) where
  of_size : (header : ℕ) → 8 ≤ header → next ≡ moved header place → Sized name header head
      → HeadRead place head next
  of_size header long after s =
      record { named = rw s.name_is named; long = rw s.header_is long; after = rw s.header_is after; whole = s.whole }

  -- the size is in 32 bits
  short_read : (size : ℕ) → (head_with name 8 size >>= headed (moved 8 place)) ≡ Ok (head, next)
      → HeadRead place head next
  short_read size e =
      let one = both_steps (head_with name 8 size) (headed (moved 8 place)) (head, next) e in
      let same = ok_is (one.0, moved 8 place) (head, next) one.2 in
      let first : one.0 ≡ head = ap (λ (x : Head × Cursor). x.0) same in
      let second : moved 8 place ≡ next = ap (λ (x : Head × Cursor). x.1) same in
      of_size 8 (omega arith) (sym second) (subst (Sized name 8) first (sized name 8 size one.0 one.1))

  -- the size is after the type
  long_read : (take_at 8 (moved 8 place) >>= large_headed name) ≡ Ok (head, next) → HeadRead place head next
  long_read e =
      let one = both_steps (take_at 8 (moved 8 place)) (large_headed name) (head, next) e in
      let two = both_steps (head_with name 16 (big_number 8 one.0.0)) (headed one.0.1) (head, next) one.2 in
      let same = ok_is (two.0, one.0.1) (head, next) two.2 in
      let first : two.0 ≡ head = ap (λ (x : Head × Cursor). x.0) same in
      let second : one.0.1 ≡ next = ap (λ (x : Head × Cursor). x.1) same in
      let taken : moved 8 (moved 8 place) ≡ one.0.1 =
      ap (λ (x : List ℕ × Cursor). x.1) (was_taken 8 (moved 8 place) one.0 one.1).1 in
      let twice : moved 16 place ≡ moved 8 (moved 8 place) = ap (λ (n : ℕ). here place.bytes n) (omega arith) in
      of_size 16 (omega arith) (sym (twice ∙ taken ∙ second))
      (subst (Sized name 16) first (sized name 16 (big_number 8 one.0.0) two.0 two.1))

  after_read : (size : ℕ) → head_after name size (moved 8 place) ≡ Ok (head, next) → HeadRead place head next
  after_read size e = chosen (eqb size 1) e
    where
      chosen : (b : Bool)
          → cond b (take_at 8 (moved 8 place) >>= large_headed name)
          (head_with name 8 size >>= headed (moved 8 place)) ≡ Ok (head, next)
          → HeadRead place head next
      chosen true e = long_read e
      chosen false e = short_read size e

pub head_read : (place : Cursor) (head : Head) (next : Cursor) → head_at place ≡ Ok (head, next)
    → HeadRead place head next
unfolding head_at
head_read place head next e =
    let one = both_steps (take_at 8 place)
    (λ (x : List ℕ × Cursor). head_after (box_type (big_number 4 (drop 4 x.0))) (big_number 4 x.0) x.1)
    (head, next) e in
    let name : BoxType = box_type (big_number 4 (drop 4 one.0.0)) in
    let taken : moved 8 place ≡ one.0.1 = ap (λ (x : List ℕ × Cursor). x.1) (was_taken 8 place one.0 one.1).1 in
    let after = subst (λ (c : Cursor). head_after name (big_number 4 one.0.0) c ≡ Ok (head, next)) (sym taken)
    one.2 in
    after_read place name (is_named name (big_number 4 (drop 4 one.0.0)) refl) head next (big_number 4 one.0.0) after

-- a header that was read, as it is reported
pub record HeaderRead (place : Cursor) (header : BoxHeader) (next : Cursor) : Type 0 where
  pub named : IsNamed header.name
  pub moves : place.position + 8 ≤ next.position

pub header_read : (place : Cursor) (header : BoxHeader) (next : Cursor) → header_at place ≡ Ok (header, next)
    → HeaderRead place header next
header_read place header next e =
    let one = both_steps (head_at place) (λ (x : Head × Cursor). Ok (reported x.0, x.1)) (header, next) e in
    let same = ok_is (reported one.0.0, one.0.1) (header, next) one.2 in
    let name_is : one.0.0.name ≡ header.name = ap (λ (x : BoxHeader × Cursor). x.0.name) same in
    let place_is : one.0.1.position ≡ next.position = ap (λ (x : BoxHeader × Cursor). x.1.position) same in
    let read = head_read place one.0.0 one.0.1 one.1 in
    let after : one.0.1.position ≡ place.position + one.0.0.header = ap (λ (c : Cursor). c.position) read.after in
    record { named = subst IsNamed name_is read.named; moves = omega (arith, read.long, place_is, after) }

-- the bytes of the two kinds of headers
short-is_front : (name : BoxType) (size : ℕ) → short_header name size ≡ front size (code_of name)
unfolding front ◌⧺◌
short-is_front name size = refl

length-short_header : (name : BoxType) (size : ℕ) → length (short_header name size) ≡ 8
length-short_header name size = simp (length-then, length-number) refl

length-long_header : (name : BoxType) (size : ℕ) → length (long_header name size) ≡ 16
length-long_header name size = simp (length-then, length-number) refl

long-is_front : (name : BoxType) (size : ℕ) (after : List ℕ)
    → long_header name size ++ after ≡ front 1 (code_of name) ++ (number 8 size ++ after)
unfolding front ◌⧺◌
long-is_front name size after = simp append_assoc

-- what a size says in a header of so many bytes
abbrev SaysTotal : BoxType → ℕ → ℕ → Option ℕ → Type 0
SaysTotal name header size total =
    head_with name header size ≡ Ok (record { name = name; header = header; total = total })

module _ (name : BoxType) (before after : List ℕ) (s : IsEncodable name) where
  -- a size in 32 bits, other than 1
  short_says : (size : ℕ) (total : Option ℕ) → size < 2 ^ 32 → (size ≡ 1 → ⊥) → SaysTotal name 8 size total
      → SaysBox name total (short_header name size) before after
  short_says size total small other says =
      let bytes : List ℕ = before ++ (short_header name size ++ after) in
      let is : bytes ≡ before ++ (front size (code_of name) ++ after) =
      ap (λ (h : List ℕ). before ++ (h ++ after)) (short-is_front name size) in
      let not_long : eqb size 1 ≡ false = ne_eqb size 1 other in
      rw (
        opened bytes before after size (code_of name) is small s.code,
        s.named,
        not_long,
        says,
        length-short_header name size,
      ) refl

  -- a size in 64 bits
  long_says : (size : ℕ) (total : Option ℕ) → size < 2 ^ 64 → SaysTotal name 16 size total
      → SaysBox name total (long_header name size) before after
  long_says size total small says =
      let bytes : List ℕ = before ++ (long_header name size ++ after) in
      let is : bytes ≡ before ++ (front 1 (code_of name) ++ (number 8 size ++ after)) =
      ap (λ (h : List ℕ). before ++ h) (long-is_front name size after) in
      let place : length before + 8 + 8 ≡ length before + 16 = omega arith in
      rw (
        opened bytes before (number 8 size ++ after) 1 (code_of name) is (omega arith) s.code,
        s.named,
        enlarged bytes before after name (code_of name) size is small,
        says,
        length-long_header name size,
        place,
      ) refl

  pub short_open_end : SaysBox name None (short_header name 0) before after
  short_open_end = short_says 0 None (omega arith) (λ e. omega arith) refl

  pub short_sized : (size : ℕ) → 8 ≤ size → size < 2 ^ 32
      → SaysBox name (Some size) (short_header name size) before after
  short_sized size large small =
      short_says size (Some size) small (λ e. omega arith) (head_with-total name 8 size (omega arith) large)

  pub long_open_end : SaysBox name None (long_header name 0) before after
  long_open_end = long_says 0 None (omega arith) refl

  pub long_sized : (size : ℕ) → 16 ≤ size → size < 2 ^ 64
      → SaysBox name (Some size) (long_header name size) before after
  long_sized size large small = long_says size (Some size) small (head_with-total name 16 size (omega arith) large)
