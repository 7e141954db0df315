-- Headers of boxes that get their size.
use Rattle.std.proofs.Common.{◌≡◌, ◌∙◌, ◌⊎◌, inl, inr, ℕ, ◌+◌, ◌-◌, ◌^◌, ◌≤◌, ◌<◌, Bool, true, false, cond}
use Rattle.std.proofs.Common.{List, [], ◌++◌, length, take, drop, refl, sym, ap, subst, append_assoc, arith}
use Rattle.std.proofs.Common.{None, Some, Ok, Err, eqb, ltb}
use Rattle.std.proofs.lemmas.Bool.{lt-ltb, le-ltb, eqb-true}
use Rattle.std.proofs.lemmas.List.{take_at as take_front, drop_at, drop-drop, length-append}
use Rattle.std.proofs.lemmas.List.{take-append-le, drop-append-le}
use Rattle.std.proofs.lemmas.List.{append-nil, length-drop, length-take, take_all}
use Rattle.byteorder.specs.Endian.{big_bytes, big_number}
use Rattle.byteorder.specs.Numbers.{big_number-reads_back}
use Rattle.mp4_codec.proofs.HeadLaws.{header_read, was_taken}
use Rattle.mp4_codec.specs.BoxType.{box_type}
use Rattle.mp4_codec.specs.Cause.{invalid_data, ◌>>=◌}
use Rattle.mp4_codec.specs.Cursor.{Cursor, Head, head_after, head_at, head_with, header_at, here, reported, take_at}
use Rattle.mp4_codec.specs.FramingLaws.{head_with-total, off, taken}
use Rattle.mp4_codec.specs.Steps.{both_steps, ok_is}
use Rattle.mp4_codec.specs.declared.box_type.BoxType.{BoxType}
use Rattle.mp4_codec.specs.declared.header.BoxHeader.{BoxHeader}
use Rattle.mp4_remux.specs.Kept.{IsFirstBox}
use Rattle.mp4_remux.specs.Edited.{IsHeader}
use Rattle.mp4_remux.specs.Moved.{HasRoom, sized}

-- a header of 8 bytes, and one of 16
pub short_sized : (head : List ℕ) (n : ℕ) → length head ≡ 8
    → sized head n ≡ big_bytes 4 (length head + n) ++ drop 4 head
short_sized head n is = rw (lt-ltb (length head) 16 (omega (arith, is))) refl

pub long_sized : (head : List ℕ) (n : ℕ) → length head ≡ 16
    → sized head n ≡ take 8 head ++ big_bytes 8 (length head + n)
long_sized head n is = rw (le-ltb (length head) 16 (omega (arith, is))) refl

pub short_room : (head : List ℕ) (n : ℕ) → length head ≡ 8 → length head + n < 2 ^ 32 → HasRoom head n
short_room head n is lt = rw (lt-ltb (length head) 16 (omega (arith, is))) lt

pub long_room : (head : List ℕ) (n : ℕ) → length head ≡ 16 → length head + n < 2 ^ 64 → HasRoom head n
long_room head n is lt = rw (le-ltb (length head) 16 (omega (arith, is))) lt

pub short_fits : (head : List ℕ) (n : ℕ) → length head ≡ 8 → HasRoom head n → length head + n < 2 ^ 32
short_fits head n is room =
    subst (λ b. length head + n < 256 ^ (cond b 4 8)) (lt-ltb (length head) 16 (omega (arith, is))) room

pub long_fits : (head : List ℕ) (n : ℕ) → length head ≡ 16 → HasRoom head n → length head + n < 2 ^ 64
long_fits head n is room =
    subst (λ b. length head + n < 256 ^ (cond b 4 8)) (le-ltb (length head) 16 (omega (arith, is))) room

-- the size is put over the last 8 bytes of 16, or over the first 4
pub long_is : (head payload bytes : List ℕ) → bytes ≡ head ++ payload → length head ≡ 16
    → take 8 bytes ++ (big_bytes 8 (length bytes) ++ drop 8 (drop 8 bytes))
    ≡ sized head (length payload) ++ payload
long_is head payload bytes is long =
    let whole : length bytes ≡ length head + length payload = ap (λ (xs : List ℕ). length xs) is
    ∙ length-append head payload in
    let first : take 8 bytes ≡ take 8 head = ap (take 8) is ∙ take-append-le 8 head payload (omega (arith, long)) in
    let rest : drop 8 (drop 8 bytes) ≡ payload = drop-drop 8 8 bytes ∙ ap (drop 16) is ∙ drop_at head payload 16 long in
    rw (first, rest, whole, long_sized head (length payload) long)
    (sym (append_assoc (take 8 head) (big_bytes 8 (length head + length payload)) payload))

pub short_is : (head payload bytes : List ℕ) → bytes ≡ head ++ payload → length head ≡ 8
    → big_bytes 4 (length bytes) ++ drop 4 bytes ≡ sized head (length payload) ++ payload
short_is head payload bytes is short =
    let whole : length bytes ≡ length head + length payload = ap (λ (xs : List ℕ). length xs) is
    ∙ length-append head payload in
    let rest : drop 4 bytes ≡ drop 4 head ++ payload = ap (drop 4) is
    ∙ drop-append-le 4 head payload (omega (arith, short)) in
    rw (rest, whole, short_sized head (length payload) short)
    (sym (append_assoc (big_bytes 4 (length head + length payload)) (drop 4 head) payload))

-- a header of 16 bytes or more has 16, and one of fewer has 8, also where only the box has fewer
pub of_16 : (n header : ℕ) → (n ≡ header) × ((header ≡ 8) ⊎ (header ≡ 16)) → 16 ≤ header → n ≡ 16
of_16 n header (is, inl short) many = omega (arith, is, short, many)
of_16 n header (is, inr long) many = is ∙ long

pub of_8 : (n len header : ℕ) → (n ≡ header) × ((header ≡ 8) ⊎ (header ≡ 16)) → n ≤ len
    → ((16 ≤ header) × (len < 16)) ⊎ (header < 16) → n ≡ 8
of_8 n len header (is, inl short) within few = is ∙ short
of_8 n len header (is, inr long) within (inl few) = absurd (omega (arith, is, long, within, few.1))
of_8 n len header (is, inr long) within (inr few) = absurd (omega (arith, is, long, within, few))

-- WHAT A HEADER SAYS

-- the first 8 bytes say a size and a type
opens : (bytes : List ℕ) → 8 ≤ length bytes
    → head_at (here bytes 0)
    ≡ head_after (box_type (big_number 4 (drop 4 (take 8 bytes)))) (big_number 4 (take 8 bytes)) (here bytes 8)
unfolding head_at
opens bytes many = rw (le-ltb (length bytes) 8 many) refl

-- a header of this type: one of 16 bytes has the size 1 in its first bytes
pub record SaysType (header : List ℕ) (name : BoxType) : Type 0 where
  pub type_is : box_type (big_number 4 (drop 4 (take 8 header))) ≡ name
  pub kind : (length header ≡ 8) ⊎ ((length header ≡ 16) × (big_number 4 (take 8 header) ≡ 1))

-- other bytes have a size of 64 bits where these have it
abbrev HasLarge : List ℕ → List ℕ → Type 0
HasLarge bytes other = (16 ≤ length other) × (take 8 (drop 8 other) ≡ take 8 (drop 8 bytes))

-- what was read after the first 8 bytes: the type, and where the header ends; in other bytes it is read too
record Said (bytes : List ℕ) (name : BoxType) (size : ℕ) (read : Head × Cursor) : Type 0 where
  type_is : read.0.name ≡ name
  kind : (read.1.position ≡ 8) ⊎ ((read.1.position ≡ 16) × (size ≡ 1))
  again : (bytes' : List ℕ) → (read.1.position ≡ 16 → HasLarge bytes bytes')
      → head_after name size (here bytes' 8) ≡ Ok (read.0, here bytes' read.1.position)

-- a size says the type with it
named_with : (name : BoxType) (header total : ℕ) (head : Head) → head_with name header total ≡ Ok head
    → head.name ≡ name
named_with name header total head e = by (eqb total 0) (ltb total header) e
  where
    by : (none small : Bool)
        → cond none (Ok (record { name = name; header = header; total = None }))
        (cond small (Err invalid_data) (Ok (record { name = name; header = header; total = Some total })))
        ≡ Ok head → head.name ≡ name
    by true small e = sym (ap (λ (h : Head). h.name) (ok_is _ head e))
    by false true e = absurd cc
    by false false e = sym (ap (λ (h : Head). h.name) (ok_is _ head e))

module _ (bytes : List ℕ) (name : BoxType) (size : ℕ) (read : Head × Cursor) where
  said_short : eqb size 1 ≡ false → (head_with name 8 size >>= λ head. Ok (head, here bytes 8)) ≡ Ok read
      → Said bytes name size read
  said_short small e =
      let one = both_steps (head_with name 8 size) (λ (head : Head). Ok (head, here bytes 8)) read e in
      let same = ok_is (one.0, here bytes 8) read one.2 in
      record {
        type_is = sym (ap (λ (x : Head × Cursor). x.0.name) same) ∙ named_with name 8 size one.0 one.1;
        kind = inl (sym (ap (λ (x : Head × Cursor). x.1.position) same));
        again = λ bytes' large. rw (small, one.1)
            (ap (λ (x : Head × Cursor). Ok (x.0, here bytes' x.1.position)) same);
      }

  -- a size of 64 bits in other bytes
  again_long : (bytes' : List ℕ) → size ≡ 1 → (large : List ℕ) (head : Head) → HasLarge bytes bytes'
      → take 8 (drop 8 bytes) ≡ large → head_with name 16 (big_number 8 large) ≡ Ok head
      → head_after name size (here bytes' 8) ≡ Ok (head, here bytes' 16)
  again_long bytes' is large head there taken says =
      let same : take 8 (drop 8 bytes') ≡ large = there.1 ∙ taken in
      rw (is, le-ltb (length bytes') 16 there.0, same, says) refl

  -- the header ends after it
  of_long : (head : Head) (large : List ℕ) → size ≡ 1 → 16 ≡ read.1.position → head ≡ read.0
      → take 8 (drop 8 bytes) ≡ large → head_with name 16 (big_number 8 large) ≡ Ok head → Said bytes name size read
  of_long head large is end heads taken says =
      record {
        type_is = sym (ap (λ (h : Head). h.name) heads) ∙ named_with name 16 (big_number 8 large) head says;
        kind = inr (sym end, is);
        again = λ bytes' there. again_long bytes' is large head (there (sym end)) taken says
            ∙ ap (λ (k : ℕ). Ok (head, here bytes' k)) end
            ∙ ap (λ (h : Head). Ok (h, here bytes' read.1.position)) heads;
      }

  said_long : size ≡ 1
      → (take_at 8 (here bytes 8) >>= λ large. head_with name 16 (big_number 8 large.0) >>= λ head. Ok (head, large.1))
      ≡ Ok read → Said bytes name size read
  said_long is e =
      let one = both_steps (take_at 8 (here bytes 8))
      (λ (large : List ℕ × Cursor). head_with name 16 (big_number 8 large.0) >>= λ head. Ok (head, large.1)) read e in
      let two = both_steps (head_with name 16 (big_number 8 one.0.0)) (λ (head : Head). Ok (head, one.0.1)) read
      one.2 in
      let same = ok_is (two.0, one.0.1) read two.2 in
      let there = (was_taken 8 (here bytes 8) one.0 one.1).1 in
      of_long two.0 one.0.0 is
      (ap (λ (x : List ℕ × Cursor). x.1.position) there ∙ ap (λ (x : Head × Cursor). x.1.position) same)
      (ap (λ (x : Head × Cursor). x.0) same) (ap (λ (x : List ℕ × Cursor). x.0) there) two.1

  said : head_after name size (here bytes 8) ≡ Ok read → Said bytes name size read
  said e = by (eqb size 1) refl e
    where
      by : (b : Bool) → eqb size 1 ≡ b
          → cond b
          (take_at 8 (here bytes 8)
          >>= λ large. head_with name 16 (big_number 8 large.0) >>= λ head. Ok (head, large.1))
          (head_with name 8 size >>= λ head. Ok (head, here bytes 8))
          ≡ Ok read → Said bytes name size read
      by true is e = said_long (eqb-true size 1 is) e
      by false is e = said_short is e

-- the last 8 bytes of a header of 16
middle : (header tail : List ℕ) → 16 ≤ length header → take 8 (drop 8 (header ++ tail)) ≡ take 8 (drop 8 header)
middle header tail many =
    ap (take 8) (drop-append-le 8 header tail (omega (arith, many)))
    ∙ take-append-le 8 (drop 8 header) tail (omega (arith, many, length-drop 8 header))

module _ (bytes : List ℕ) (name : BoxType) (header payload after : List ℕ)
    (first : IsFirstBox bytes name header payload after) where
  -- the header of a box with which bytes begin
  pub says_type : SaysType header name
  says_type =
      let long : length bytes ≡ length header + length (payload ++ after) =
      ap (λ (xs : List ℕ). length xs) first.all ∙ length-append header (payload ++ after) in
      let read = header_read (here bytes 0) (record { name = name; size = 8 + length payload })
      (here bytes (length header)) first.head in
      let many : 8 ≤ length header = omega (arith, read.moves) in
      let one = both_steps (head_at (here bytes 0)) (λ (x : Head × Cursor). Ok (reported x.0, x.1))
      (record { name = name; size = 8 + length payload }, here bytes (length header)) first.head in
      let same = ok_is (reported one.0.0, one.0.1)
      (record { name = name; size = 8 + length payload }, here bytes (length header)) one.2 in
      let front : take 8 bytes ≡ take 8 header = ap (take 8) first.all
      ∙ take-append-le 8 header (payload ++ after) many in
      let what = said bytes (box_type (big_number 4 (drop 4 (take 8 bytes)))) (big_number 4 (take 8 bytes)) one.0
      (sym (opens bytes (omega (arith, long, many))) ∙ one.1) in
      let at : one.0.1.position ≡ length header = ap (λ (x : BoxHeader × Cursor). x.1.position) same in
      record {
        type_is = ap (λ (xs : List ℕ). box_type (big_number 4 (drop 4 xs))) (sym front) ∙ sym what.type_is
            ∙ ap (λ (x : BoxHeader × Cursor). x.0.name) same;
        kind = kind_at one.0.1.position (length header) (big_number 4 (take 8 bytes)) (big_number 4 (take 8 header)) at
            (ap (big_number 4) front) what.kind;
      }
    where
      kind_at : (place header size other : ℕ) → place ≡ header → size ≡ other
          → (place ≡ 8) ⊎ ((place ≡ 16) × (size ≡ 1))
          → (header ≡ 8) ⊎ ((header ≡ 16) × (other ≡ 1))
      kind_at place header size other at is (inl short) = inl (sym at ∙ short)
      kind_at place header size other at is (inr long) = inr (sym at ∙ long.0, sym is ∙ long.1)

  -- other bytes that begin with the same header
  pub same_header : (bytes' tail : List ℕ) → bytes' ≡ header ++ tail
      → header_at (here bytes' 0) ≡ Ok (record { name = name; size = 8 + length payload }, here bytes' (length header))
  same_header bytes' tail is =
      let long : length bytes ≡ length header + length (payload ++ after) =
      ap (λ (xs : List ℕ). length xs) first.all ∙ length-append header (payload ++ after) in
      let long' : length bytes' ≡ length header + length tail =
      ap (λ (xs : List ℕ). length xs) is ∙ length-append header tail in
      let read = header_read (here bytes 0) (record { name = name; size = 8 + length payload })
      (here bytes (length header)) first.head in
      let many : 8 ≤ length header = omega (arith, read.moves) in
      let one = both_steps (head_at (here bytes 0)) (λ (x : Head × Cursor). Ok (reported x.0, x.1))
      (record { name = name; size = 8 + length payload }, here bytes (length header)) first.head in
      let same = ok_is (reported one.0.0, one.0.1)
      (record { name = name; size = 8 + length payload }, here bytes (length header)) one.2 in
      let front : take 8 bytes' ≡ take 8 bytes = ap (take 8) is ∙ take-append-le 8 header tail many
      ∙ sym (ap (take 8) first.all ∙ take-append-le 8 header (payload ++ after) many) in
      let what = said bytes (box_type (big_number 4 (drop 4 (take 8 bytes)))) (big_number 4 (take 8 bytes)) one.0
      (sym (opens bytes (omega (arith, long, many))) ∙ one.1) in
      let at : one.0.1.position ≡ length header = ap (λ (x : BoxHeader × Cursor). x.1.position) same in
      let large : one.0.1.position ≡ 16 → HasLarge bytes bytes' =
      λ sixteen. (
        omega (arith, sixteen, at, long'),
        ap (λ (xs : List ℕ). take 8 (drop 8 xs)) is ∙ middle header tail (omega (arith, sixteen, at))
            ∙ sym (ap (λ (xs : List ℕ). take 8 (drop 8 xs)) first.all
            ∙ middle header (payload ++ after) (omega (arith, sixteen, at))),
      ) in
      rw (opens bytes' (omega (arith, long', many)), front, what.again bytes' large)
      (ap (λ (x : BoxHeader × Cursor). Ok (x.0, here bytes' x.1.position)) same)

  -- it has 8 bytes or 16
  pub is_header : IsHeader header (length header)
  is_header = (refl, by says_type.kind)
    where
      by : (length header ≡ 8) ⊎ ((length header ≡ 16) × (big_number 4 (take 8 header) ≡ 1))
          → (length header ≡ 8) ⊎ (length header ≡ 16)
      by (inl short) = inl short
      by (inr long) = inr long.0

-- other bytes may come after a box
pub first_again : (bytes : List ℕ) (name : BoxType) (header payload after : List ℕ)
    → IsFirstBox bytes name header payload after → (after' : List ℕ)
    → IsFirstBox (header ++ (payload ++ after')) name header payload after'
first_again bytes name header payload after first after' =
    record {
      head = same_header bytes name header payload after first (header ++ (payload ++ after')) (payload ++ after') refl;
      all = refl;
    }

-- a header with its size has as many bytes
pub length-sized : (header : List ℕ) (n : ℕ) → IsHeader header (length header) → length (sized header n) ≡ length header
length-sized header n (is, inl short) =
    ap (λ (xs : List ℕ). length xs) (short_sized header n short)
    ∙ length-append (big_bytes 4 (length header + n)) (drop 4 header)
    ∙ omega (arith, length-drop 4 header, short)
length-sized header n (is, inr long) =
    ap (λ (xs : List ℕ). length xs) (long_sized header n long)
    ∙ length-append (take 8 header) (big_bytes 8 (length header + n))
    ∙ omega (arith, length-take 8 header, long)

-- READ AGAIN

module _ (header : List ℕ) (name : BoxType) (n : ℕ) (after : List ℕ) (says : SaysType header name) where
  -- the size in the first 4 bytes is read, and the type after it
  pub short_again : length header ≡ 8 → 8 + n < 2 ^ 32
      → header_at (here ((big_bytes 4 (8 + n) ++ drop 4 header) ++ after) 0)
      ≡ Ok (record { name = name; size = 8 + n }, here ((big_bytes 4 (8 + n) ++ drop 4 header) ++ after) 8)
  short_again short fits =
      let first : List ℕ = big_bytes 4 (8 + n) ++ drop 4 header in
      let few : length first ≡ 8 = length-append (big_bytes 4 (8 + n)) (drop 4 header)
      ∙ omega (arith, length-drop 4 header, short) in
      let many : 8 ≤ length (first ++ after) = omega (arith, few, length-append first after) in
      let front : take 8 (first ++ after) ≡ first = take_front first after 8 few in
      let size : big_number 4 first ≡ 8 + n = big_number-reads_back 4 (8 + n) (drop 4 header) fits in
      let type : drop 4 first ≡ drop 4 (take 8 header) = drop_at (big_bytes 4 (8 + n)) (drop 4 header) 4 refl
      ∙ sym (ap (drop 4) (take_all 8 header (omega (arith, short)))) in
      let size' : 8 + n - 8 + 8 ≡ 8 + n = omega arith in
      rw (
        opens (first ++ after) many,
        front,
        size,
        type,
        says.type_is,
        off (8 + n) 1 (omega arith),
        head_with-total name 8 (8 + n) (omega arith) (omega arith),
        size',
      ) refl

  -- the size is read after the type
  pub long_again : length header ≡ 16 → big_number 4 (take 8 header) ≡ 1 → 16 + n < 2 ^ 64
      → header_at (here ((take 8 header ++ big_bytes 8 (16 + n)) ++ after) 0)
      ≡ Ok (record { name = name; size = 8 + n }, here ((take 8 header ++ big_bytes 8 (16 + n)) ++ after) 16)
  long_again long one fits =
      let first : List ℕ = take 8 header ++ big_bytes 8 (16 + n) in
      let eight : length (take 8 header) ≡ 8 = omega (arith, length-take 8 header, long) in
      let few : length first ≡ 16 = length-append (take 8 header) (big_bytes 8 (16 + n)) ∙ omega (arith, eight) in
      let many : 8 ≤ length (first ++ after) = omega (arith, few, length-append first after) in
      let parts : first ++ after ≡ take 8 header ++ (big_bytes 8 (16 + n) ++ after) =
      append_assoc (take 8 header) (big_bytes 8 (16 + n)) after in
      let front : take 8 (first ++ after) ≡ take 8 header =
      ap (take 8) parts ∙ take_front (take 8 header) (big_bytes 8 (16 + n) ++ after) 8 eight in
      let large : take_at 8 (here (first ++ after) 8) ≡ Ok (big_bytes 8 (16 + n), here (first ++ after) 16) =
      taken 8 8 (first ++ after) (take 8 header) (big_bytes 8 (16 + n)) after parts eight refl in
      let size : big_number 8 (big_bytes 8 (16 + n)) ≡ 16 + n =
      ap (big_number 8) (sym (append-nil (big_bytes 8 (16 + n)))) ∙ big_number-reads_back 8 (16 + n) [] fits in
      let size' : 16 + n - 16 + 8 ≡ 8 + n = omega arith in
      rw (
        opens (first ++ after) many,
        front,
        one,
        says.type_is,
        large,
        size,
        head_with-total name 16 (16 + n) (omega arith) (omega arith),
        size',
      ) refl

-- bytes that begin with a header that got its size begin with that box
pub sized_first : (name : BoxType) (header inner after : List ℕ) → SaysType header name → HasRoom header (length inner)
    → IsFirstBox (sized header (length inner) ++ (inner ++ after)) name (sized header (length inner)) inner after
sized_first name header inner after says room = record { head = by says.kind; all = refl }
  where
    end : ℕ → List ℕ → Type 0
    end k head = header_at (here (head ++ (inner ++ after)) 0)
        ≡ Ok (record { name = name; size = 8 + length inner }, here (head ++ (inner ++ after)) k)

    by : (length header ≡ 8) ⊎ ((length header ≡ 16) × (big_number 4 (take 8 header) ≡ 1))
        → end (length (sized header (length inner))) (sized header (length inner))
    by (inl short) =
        let fits : 8 + length inner < 2 ^ 32 =
        subst (λ k. k + length inner < 2 ^ 32) short (short_fits header (length inner) short room) in
        let is : sized header (length inner) ≡ big_bytes 4 (8 + length inner) ++ drop 4 header =
        short_sized header (length inner) short
        ∙ ap (λ k. big_bytes 4 (k + length inner) ++ drop 4 header) short in
        let many : length (sized header (length inner)) ≡ 8 =
        length-sized header (length inner) (refl, inl short) ∙ short in
        subst (λ k. end k (sized header (length inner))) (sym many)
        (subst (end 8) (sym is) (short_again header name (length inner) (inner ++ after) says short fits))
    by (inr long) =
        let fits : 16 + length inner < 2 ^ 64 =
        subst (λ k. k + length inner < 2 ^ 64) long.0 (long_fits header (length inner) long.0 room) in
        let is : sized header (length inner) ≡ take 8 header ++ big_bytes 8 (16 + length inner) =
        long_sized header (length inner) long.0
        ∙ ap (λ k. take 8 header ++ big_bytes 8 (k + length inner)) long.0 in
        let many : length (sized header (length inner)) ≡ 16 =
        length-sized header (length inner) (refl, inr long.0) ∙ long.0 in
        subst (λ k. end k (sized header (length inner))) (sym many)
        (subst (end 16) (sym is) (long_again header name (length inner) (inner ++ after) says long.0 long.1 fits))
