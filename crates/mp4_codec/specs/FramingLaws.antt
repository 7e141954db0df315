-- A box is read off the bytes that it is in.
use Rattle.std.proofs.Common.{◌≡◌, ◌⊎◌, inl, inr, ℕ, zero, suc, ◌+◌, ◌-◌, ◌*◌, ◌/◌, ◌%◌, ◌^◌, ◌≤◌, ◌<◌, false, eqb}
use Rattle.std.proofs.Common.{ltb, List, [], ◌∷◌, ◌++◌, length, drop, take, Some, None, Result, Ok, Err, refl, sym}
use Rattle.std.proofs.Common.{ap, subst, ◌∙◌, append_assoc, arith}
use Rattle.std.specs.Int.{byte_at, bytes_high_first}
use Rattle.std.proofs.Math.Nat.{div-one, mod-eq_of_lt, mul-add-div_right, mul-add-mod_self_right, mul-le-mul_right}
use Rattle.std.proofs.Math.Nat.{mul_assoc, one-le-pow, pow-succ'}
use Rattle.std.proofs.lemmas.Nat.{div-mul-add}
use Rattle.std.proofs.lemmas.Bool.{le-ltb, lt-ltb, ne_eqb, cases_lt, cases_eq}
use Rattle.std.proofs.lemmas.List.{take_at as take-exactly, drop_at, length-append, length-drop, drop-drop}
use Rattle.byteorder.specs.Endian.{big_number}
use Rattle.byteorder.specs.Numbers.{big_from-take, big_number-reads_back}
use Rattle.mp4_codec.specs.declared.box_type.BoxType.{BoxType}
use Rattle.mp4_codec.specs.declared.header.BoxHeader.{BoxHeader}
use Rattle.mp4_codec.specs.BoxType.{code_of, box_type}
use Rattle.mp4_codec.specs.Cause.{Cause, end_of_data, invalid_data, ◌>>=◌}
use Rattle.mp4_codec.specs.Cursor.{here, Cursor, left, moved, take_at, head_at, head_after, head_with, header_at}
use Rattle.mp4_codec.specs.Cursor.{reported}
use Rattle.mp4_codec.specs.Bytes.{number, ◌⧺◌}
use Rattle.mp4_codec.specs.Boxes.{box_bytes}
use Rattle.mp4_codec.specs.Children.{child_at, begun}
use Rattle.mp4_codec.specs.FieldLaws.{length-number, length-then, number_back}
use Rattle.mp4_codec.specs.Framing.{IsBytes, long_box_bytes, IsEncodable, IsBox, short, long, ReadsAsBox, size_in}
use Rattle.mp4_codec.specs.Framing.{large_size_in, WhyNoHead, cut_short, large_cut_short, too_small, large_too_small}

pub length-box_bytes : (name : BoxType) (payload : List ℕ) → length (box_bytes name payload) ≡ 8 + length payload
unfolding box_bytes
length-box_bytes name payload = simp (length-then, length-number) (omega arith)

-- the first eight bytes of a box
unfoldable pub front : ℕ → ℕ → List ℕ
front a b = number 4 a ++ number 4 b

pub length-front : (a b : ℕ) → length (front a b) ≡ 8
unfolding front
length-front a b = omega (arith, length-append (number 4 a) (number 4 b), length-number 4 a, length-number 4 b)

pub front-first : (a b : ℕ) → a < 2 ^ 32 → big_number 4 (front a b) ≡ a
unfolding front number
front-first a b h = big_number-reads_back 4 a (number 4 b) h

pub front-second : (a b : ℕ) → b < 2 ^ 32 → big_number 4 (drop 4 (front a b)) ≡ b
unfolding front
front-second a b h = rw (drop_at (number 4 a) (number 4 b) 4 (length-number 4 a)) (number_back 4 b h)

-- n bytes at a place that is known to have them
pub at_place : (n p : ℕ) (a b c : List ℕ) → length a ≡ p → length b ≡ n
    → take_at n (record { bytes = a ++ (b ++ c); position = p })
    ≡ Ok (b, record { bytes = a ++ (b ++ c); position = p + n })
at_place n p a b c ea eb =
    let long : ltb (length (a ++ (b ++ c))) (p + n) ≡ false =
    le-ltb _ _ (omega (arith, length-append a (b ++ c), length-append b c)) in
    rw (long, drop_at a (b ++ c) p ea, take-exactly b c n eb) refl

-- a byte of a number, by its place
byte_at-pow : (k x : ℕ) → byte_at k x ≡ x / 256 ^ k % 256
byte_at-pow zero x = ap (λ (y : ℕ). y % 256) (sym (div-one x))
byte_at-pow (suc k) x = refl

above_zero : (n : ℕ) → zero < 256 ^ n
above_zero n = let h = one-le-pow n 256 (omega arith) in omega arith

-- the byte above the lowest n
high_byte : (n a x : ℕ) → a < 256 → x < 256 ^ n → byte_at n (a * 256 ^ n + x) ≡ a
high_byte n a x ha hx = byte_at-pow n (a * 256 ^ n + x) ∙ ap (λ (y : ℕ). y % 256) (div-mul-add a (256 ^ n) x hx)
    ∙ mod-eq_of_lt ha

-- what is above the lowest n bytes does not change them
low_bytes : (n c x : ℕ) → bytes_high_first n (c * 256 ^ n + x) ≡ bytes_high_first n x
low_bytes zero c x = refl
low_bytes (suc n) c x =
    let e : c * 256 ^ suc n + x ≡ (c * 256) * 256 ^ n + x = ap (λ (y : ℕ). c * y + x) (pow-succ' 256 n)
    ∙ ap (λ (y : ℕ). y + x) (sym (mul_assoc c 256 (256 ^ n))) in
    let byte : byte_at n ((c * 256) * 256 ^ n + x) ≡ byte_at n x =
    byte_at-pow n ((c * 256) * 256 ^ n + x) ∙ ap (λ (y : ℕ). y % 256) (mul-add-div_right (above_zero n) (c * 256) x)
    ∙ mul-add-mod_self_right c 256 (x / 256 ^ n) ∙ sym (byte_at-pow n x) in
    ap (bytes_high_first (suc n)) e ∙ ap (λ (b : ℕ). b ∷ bytes_high_first n ((c * 256) * 256 ^ n + x)) byte
    ∙ ap (λ (l : List ℕ). byte_at n x ∷ l) (low_bytes n (c * 256) x)

-- the bytes begin with a number of n bytes
pub record Encodes (n : ℕ) (bytes : List ℕ) : Type 0 where
  pub value : ℕ
  pub small : value < 256 ^ n
  pub rest : List ℕ
  pub is : bytes ≡ number n value ++ rest
  pub others : IsBytes rest

encoded_more : (n a : ℕ) (bytes : List ℕ) → a < 256 → Encodes n bytes → Encodes (suc n) (a ∷ bytes)
unfolding number
encoded_more n a bytes h s =
    let x : ℕ = a * 256 ^ n + s.value in
    let top : a * 256 ^ n ≤ 255 * 256 ^ n = mul-le-mul_right (256 ^ n) (omega arith) in
    let small : s.value < 256 ^ n = s.small in
    let fits : x < 256 ^ suc n = rw (pow-succ' 256 n) (omega arith) in
    let same : bytes_high_first (suc n) x ≡ a ∷ bytes_high_first n s.value =
    ap (λ (b : ℕ). b ∷ bytes_high_first n x) (high_byte n a s.value h s.small)
    ∙ ap (λ (l : List ℕ). a ∷ l) (low_bytes n a s.value) in
    record {
      value = x;
      small = fits;
      rest = s.rest;
      is = ap (λ (l : List ℕ). a ∷ l) s.is
          ∙ ap (λ (l : List ℕ). l ++ s.rest) (sym same);
      others = s.others;
    }

-- bytes that are enough begin with a number
pub encoded : (n : ℕ) (bytes : List ℕ) → IsBytes bytes → n ≤ length bytes → Encodes n bytes
unfolding number
encoded zero bytes b h = record { value = 0; small = omega arith; rest = bytes; is = refl; others = b }
encoded (suc n) [] b h = absurd (omega arith)
encoded (suc n) (a ∷ bytes) b h = encoded_more n a bytes b.0 (encoded n bytes b.1 (omega arith))

-- n bytes are taken where they are
pub taken : (n p : ℕ) (bytes a b c : List ℕ) → bytes ≡ a ++ (b ++ c) → length a ≡ p → length b ≡ n
    → take_at n (here bytes p) ≡ Ok (b, here bytes (p + n))
taken n p bytes a b c e ea eb =
    subst (λ (x : List ℕ). take_at n (here x p) ≡ Ok (b, here x (p + n))) (sym e) (at_place n p a b c ea eb)

-- the size and the type in the first eight bytes of a header
pub opened : (bytes before c : List ℕ) (a b : ℕ) → bytes ≡ before ++ (front a b ++ c) → a < 2 ^ 32 → b < 2 ^ 32
    → head_at (here bytes (length before)) ≡ head_after (box_type b) a (here bytes (length before + 8))
unfolding head_at
opened bytes before c a b e ha hb =
    rw (
      taken 8 (length before) bytes before (front a b) c e refl (length-front a b),
      front-first a b ha,
      front-second a b hb,
    ) refl

pub off : (m n : ℕ) → n < m → eqb m n ≡ false
off m n h = ne_eqb m n (λ e. omega arith)

-- a size that is not less than the header
pub head_with-total : (name : BoxType) (header total : ℕ) → 0 < header → header ≤ total
    → head_with name header total ≡ Ok (record { name = name; header = header; total = Some total })
head_with-total name header total pos h = rw (off total 0 (omega arith), le-ltb total header h) refl

-- the 64-bit size after the first eight bytes
pub enlarged : (bytes before d : List ℕ) (name : BoxType) (b t : ℕ)
    → bytes ≡ before ++ (front 1 b ++ (number 8 t ++ d)) → t < 2 ^ 64
    → head_after name 1 (here bytes (length before + 8))
    ≡ (head_with name 16 t >>= λ head. Ok (head, here bytes (length before + 8 + 8)))
enlarged bytes before d name b t e ht =
    let e' : bytes ≡ (before ++ front 1 b) ++ (number 8 t ++ d) = e
    ∙ sym (append_assoc before (front 1 b) (number 8 t ++ d)) in
    let place : length (before ++ front 1 b) ≡ length before + 8 = length-append before (front 1 b)
    ∙ ap (λ (n : ℕ). length before + n) (length-front 1 b) in
    rw (
      taken 8 (length before + 8) bytes (before ++ front 1 b) (number 8 t) d e' place (length-number 8 t),
      number_back 8 t ht,
    ) refl

-- a header of 8 bytes is read
pub short_head : (bytes before c : List ℕ) (name : BoxType) (n b : ℕ) → bytes ≡ before ++ (front (8 + n) b ++ c)
    → 8 + n < 2 ^ 32 → b < 2 ^ 32 → box_type b ≡ name
    → header_at (here bytes (length before)) ≡ Ok (record { name = name; size = 8 + n }, here bytes (length before + 8))
short_head bytes before c name n b e hn hb named =
    let size : 8 + n - 8 + 8 ≡ 8 + n = omega arith in
    rw (
      opened bytes before c (8 + n) b e hn hb,
      off (8 + n) 1 (omega arith),
      head_with-total (box_type b) 8 (8 + n) (omega arith) (omega arith),
      named,
      size,
    ) refl

-- a header of 16 bytes is read
pub long_head : (bytes before d : List ℕ) (name : BoxType) (n b : ℕ)
    → bytes ≡ before ++ (front 1 b ++ (number 8 (16 + n) ++ d)) → 16 + n < 2 ^ 64 → b < 2 ^ 32 → box_type b ≡ name
    → header_at (here bytes (length before))
    ≡ Ok (record { name = name; size = 8 + n }, here bytes (length before + 16))
long_head bytes before d name n b e hn hb named =
    let size : 16 + n - 16 + 8 ≡ 8 + n = omega arith in
    let place : length before + 8 + 8 ≡ length before + 16 = omega arith in
    rw (
      opened bytes before (number 8 (16 + n) ++ d) 1 b e (omega arith) hb,
      enlarged bytes before d (box_type b) b (16 + n) e hn,
      head_with-total (box_type b) 16 (16 + n) (omega arith) (omega arith),
      named,
      size,
      place,
    ) refl

pub length-long_box_bytes : (name : BoxType) (payload : List ℕ)
    → length (long_box_bytes name payload) ≡ 16 + length payload
unfolding long_box_bytes
length-long_box_bytes name payload = simp (length-then, length-number) (omega arith)

pub short_regrouped : (name : BoxType) (payload rest : List ℕ)
    → box_bytes name payload ++ rest ≡ front (8 + length payload) (code_of name) ++ (payload ++ rest)
unfolding box_bytes front ◌⧺◌
short_regrouped name payload rest = simp append_assoc

pub long_regrouped : (name : BoxType) (payload rest : List ℕ)
    → long_box_bytes name payload ++ rest ≡ front 1 (code_of name)
    ++ (number 8 (16 + length payload) ++ (payload ++ rest))
unfolding long_box_bytes front ◌⧺◌
long_regrouped name payload rest = simp append_assoc

-- the payload is taken after a header of so many bytes
body : (bytes before header payload after : List ℕ) (n m : ℕ) → bytes ≡ before ++ (header ++ (payload ++ after))
    → length header ≡ n → n + length payload ≡ m
    → take_at (length payload) (here bytes (length before + n)) ≡ Ok (payload, here bytes (length before + m))
body bytes before header payload after n m e en em =
    let e' : bytes ≡ (before ++ header) ++ (payload ++ after) = e
    ∙ sym (append_assoc before header (payload ++ after)) in
    let place : length (before ++ header) ≡ length before + n = length-append before header
    ∙ ap (λ (k : ℕ). length before + k) en in
    let end : length before + n + length payload ≡ length before + m = omega arith in
    taken (length payload) (length before + n) bytes (before ++ header) payload after e' place refl
    ∙ ap (λ (k : ℕ). Ok (payload, here bytes k)) end

reads_short : (name : BoxType) (payload before after : List ℕ) → IsEncodable name → 8 + length payload < 2 ^ 32
    → ReadsAsBox name payload (box_bytes name payload) (before ++ (box_bytes name payload ++ after)) (length before)
reads_short name payload before after s h =
    let bytes : List ℕ = before ++ (box_bytes name payload ++ after) in
    let e : bytes ≡ before ++ (front (8 + length payload) (code_of name) ++ (payload ++ after)) =
    ap (λ (x : List ℕ). before ++ x) (short_regrouped name payload after) in
    record {
      header = 8;
      whole = sym (length-box_bytes name payload);
      head = short_head bytes before (payload ++ after) name (length payload) (code_of name) e h s.code s.named;
      body = body bytes before (front (8 + length payload) (code_of name)) payload after 8
          (length (box_bytes name payload)) e (length-front (8 + length payload) (code_of name))
          (sym (length-box_bytes name payload));
    }

reads_long : (name : BoxType) (payload before after : List ℕ) → IsEncodable name → 16 + length payload < 2 ^ 64
    → ReadsAsBox name payload (long_box_bytes name payload) (before ++ (long_box_bytes name payload ++ after))
    (length before)
reads_long name payload before after s h =
    let bytes : List ℕ = before ++ (long_box_bytes name payload ++ after) in
    let header : List ℕ = front 1 (code_of name) ++ number 8 (16 + length payload) in
    let e : bytes ≡ before ++ (front 1 (code_of name) ++ (number 8 (16 + length payload) ++ (payload ++ after))) =
    ap (λ (x : List ℕ). before ++ x) (long_regrouped name payload after) in
    let e' : bytes ≡ before ++ (header ++ (payload ++ after)) = e
    ∙ ap (λ (x : List ℕ). before ++ x)
    (sym (append_assoc (front 1 (code_of name)) (number 8 (16 + length payload)) (payload ++ after))) in
    let size : length header ≡ 16 =
    omega (
      arith,
      length-append (front 1 (code_of name)) (number 8 (16 + length payload)),
      length-front 1 (code_of name),
      length-number 8 (16 + length payload),
    ) in
    record {
      header = 16;
      whole = sym (length-long_box_bytes name payload);
      head = long_head bytes before (payload ++ after) name (length payload) (code_of name) e h s.code s.named;
      body = body bytes before header payload after 16 (length (long_box_bytes name payload)) e' size
          (sym (length-long_box_bytes name payload));
    }

-- a box is read where it is
pub reads_as_box : (name : BoxType) (payload before f after : List ℕ) → IsBox name payload f
    → ReadsAsBox name payload f (before ++ (f ++ after)) (length before)
reads_as_box name payload before f after (short s h e) =
    subst (λ (x : List ℕ). ReadsAsBox name payload x (before ++ (x ++ after)) (length before)) (sym e)
    (reads_short name payload before after s h)
reads_as_box name payload before f after (long s h e) =
    subst (λ (x : List ℕ). ReadsAsBox name payload x (before ++ (x ++ after)) (length before)) (sym e)
    (reads_long name payload before after s h)

cut_off : (name : BoxType) (payload f rest : List ℕ) → ReadsAsBox name payload f (f ++ rest) 0
    → begun (header_at (here (f ++ rest) 0)) ≡ Some ((name, payload), rest)
cut_off name payload f rest r =
    let not_open : eqb (8 + length payload) 0 ≡ false = off (8 + length payload) 0 (omega arith) in
    let size : 8 + length payload - 8 ≡ length payload = omega arith in
    let rest_is : drop (0 + length f) (f ++ rest) ≡ rest = drop_at f rest (0 + length f) (omega arith) in
    rw (r.head, not_open, size, r.body, rest_is) refl

-- a box that begins the bytes is the child that begins them
pub child_at-box : (name : BoxType) (payload f rest : List ℕ) → IsBox name payload f
    → child_at (f ++ rest) ≡ Some ((name, payload), rest)
unfolding child_at
child_at-box name payload f rest h = cut_off name payload f rest (reads_as_box name payload [] f rest h)

pub length-box : (name : BoxType) (payload f : List ℕ) → IsBox name payload f → 8 ≤ length f
length-box name payload f (short s h e) = rw (e, length-box_bytes name payload) (omega arith)
length-box name payload f (long s h e) = rw (e, length-long_box_bytes name payload) (omega arith)

-- the type in the first eight bytes of a header
abbrev type_in : List ℕ → BoxType
type_in bytes = box_type (big_number 4 (drop 4 (take 8 bytes)))

opened_left : (cursor : Cursor) → 8 ≤ length (left cursor)
    → head_at cursor ≡ head_after (type_in (left cursor)) (size_in (left cursor)) (moved 8 cursor)
unfolding head_at
opened_left cursor h =
    let fits : cursor.position + 8 ≤ length cursor.bytes = omega (arith, length-drop cursor.position cursor.bytes) in
    rw (le-ltb (length cursor.bytes) (cursor.position + 8) fits, big_from-take 0 4 8 (left cursor) (omega arith)) refl

enlarged_left : (cursor : Cursor) (name : BoxType) → 16 ≤ length (left cursor)
    → head_after name 1 (moved 8 cursor)
    ≡ (head_with name 16 (large_size_in (left cursor)) >>= λ head. Ok (head, moved 8 (moved 8 cursor)))
enlarged_left cursor name h =
    let fits : cursor.position + 8 + 8 ≤ length cursor.bytes =
    omega (arith, length-drop cursor.position cursor.bytes) in
    let large : big_number 8 (take 8 (drop (cursor.position + 8) cursor.bytes)) ≡ large_size_in (left cursor) =
    big_from-take 0 8 8 (drop (cursor.position + 8) cursor.bytes) (omega arith)
    ∙ ap (big_number 8) (sym (drop-drop 8 cursor.position cursor.bytes)) in
    rw (le-ltb (length cursor.bytes) (cursor.position + 8 + 8) fits, large) refl

-- fewer than 8 bytes are left
pub says_cut_short : (cursor : Cursor) → length (left cursor) < 8 → header_at cursor ≡ Err end_of_data
unfolding head_at
says_cut_short cursor h =
    let past : length cursor.bytes < cursor.position + 8 = omega (arith, length-drop cursor.position cursor.bytes) in
    rw (lt-ltb (length cursor.bytes) (cursor.position + 8) past) refl

-- the size is 1, and fewer than 16 bytes are left
pub says_large_cut_short : (cursor : Cursor) → 8 ≤ length (left cursor) → size_in (left cursor) ≡ 1
    → length (left cursor) < 16 → header_at cursor ≡ Err end_of_data
says_large_cut_short cursor h one few =
    let past : length cursor.bytes < cursor.position + 8 + 8 =
    omega (arith, length-drop cursor.position cursor.bytes) in
    rw (opened_left cursor h, one, lt-ltb (length cursor.bytes) (cursor.position + 8 + 8) past) refl

-- what the size says, where it isn't 1
sized : (cursor : Cursor) → 8 ≤ length (left cursor) → (size_in (left cursor) ≡ 1 → ⊥)
    → head_at cursor ≡ (head_with (type_in (left cursor)) 8 (size_in (left cursor)) >>= λ head.
    Ok (head, moved 8 cursor))
sized cursor h other = opened_left cursor h
    ∙ after (type_in (left cursor)) (size_in (left cursor)) (moved 8 cursor) other
  where
    after : (name : BoxType) (size : ℕ) (cursor : Cursor) → (size ≡ 1 → ⊥)
        → head_after name size cursor ≡ (head_with name 8 size >>= λ head. Ok (head, cursor))
    after name size cursor other = rw (ne_eqb size 1 other) refl

-- what the 64-bit size says
large_sized : (cursor : Cursor) → 16 ≤ length (left cursor) → size_in (left cursor) ≡ 1
    → head_at cursor ≡ (head_with (type_in (left cursor)) 16 (large_size_in (left cursor)) >>= λ head.
    Ok (head, moved 8 (moved 8 cursor)))
large_sized cursor h one =
    opened_left cursor (omega arith) ∙ ap (λ (n : ℕ). head_after (type_in (left cursor)) n (moved 8 cursor)) one
    ∙ enlarged_left cursor (type_in (left cursor)) h

pub head_with-small : (name : BoxType) (header total : ℕ) → 1 ≤ total → total < header
    → head_with name header total ≡ Err invalid_data
head_with-small name header total pos h = rw (off total 0 pos, lt-ltb total header h) refl

-- the size is 2 to 7
pub says_too_small : (cursor : Cursor) → 8 ≤ length (left cursor) → 2 ≤ size_in (left cursor)
    → size_in (left cursor) ≤ 7 → header_at cursor ≡ Err invalid_data
says_too_small cursor h low high = small (size_in (left cursor)) low high (sized cursor h)
  where
    small : (size : ℕ) → 2 ≤ size → size ≤ 7
        → ((size ≡ 1 → ⊥) → head_at cursor ≡ (head_with (type_in (left cursor)) 8 size >>= λ head.
        Ok (head, moved 8 cursor))) → header_at cursor ≡ Err invalid_data
    small size low high is =
        rw (is (λ e. omega arith), head_with-small (type_in (left cursor)) 8 size (omega arith) (omega arith)) refl

-- the size is 1, and the 64-bit size is 1 to 15
pub says_large_too_small : (cursor : Cursor) → 16 ≤ length (left cursor) → size_in (left cursor) ≡ 1
    → 1 ≤ large_size_in (left cursor) → large_size_in (left cursor) ≤ 15 → header_at cursor ≡ Err invalid_data
says_large_too_small cursor h one low high = small (large_size_in (left cursor)) low high (large_sized cursor h one)
  where
    small : (size : ℕ) → 1 ≤ size → size ≤ 15
        → head_at cursor ≡ (head_with (type_in (left cursor)) 16 size >>= λ head. Ok (head, moved 8 (moved 8 cursor)))
        → header_at cursor ≡ Err invalid_data
    small size low high is = rw (is, head_with-small (type_in (left cursor)) 16 size low (omega arith)) refl

-- each of the reasons is why there is no header
pub said_why : (cursor : Cursor) (c : Cause) → WhyNoHead (left cursor) c → header_at cursor ≡ Err c
said_why cursor c (cut_short h e) = rw e (says_cut_short cursor h)
said_why cursor c (large_cut_short h one few e) = rw e (says_large_cut_short cursor h one few)
said_why cursor c (too_small h low high e) = rw e (says_too_small cursor h low high)
said_why cursor c (large_too_small h one low high e) = rw e (says_large_too_small cursor h one low high)

abbrev refusal : Cause → Result (BoxHeader × Cursor) Cause
refusal c = Err c

refusal_is : (r : Result (BoxHeader × Cursor) Cause) (c d : Cause) → r ≡ refusal c → r ≡ refusal d → c ≡ d
refusal_is r c d e e' = cc

-- a size that is 0 or not less than the header is read
not_refused : (cursor after : Cursor) (name : BoxType) (header total : ℕ) (c : Cause) → 0 < header → (total ≡ 0)
    ⊎ (header ≤ total)
    → head_at cursor ≡ (head_with name header total >>= λ head. Ok (head, after)) → header_at cursor ≡ Err c → ⊥
not_refused cursor after name header total c pos (inl open_end) is e =
    let read : header_at cursor ≡ Ok (reported (record { name = name; header = header; total = None }), after) =
    rw (is, open_end) refl in
    absurd cc
not_refused cursor after name header total c pos (inr large) is e =
    let read : header_at cursor ≡ Ok (reported (record { name = name; header = header; total = Some total }), after) =
    rw (is, head_with-total name header total pos large) refl in
    absurd cc

-- a size is open, less than the header, or neither
sizes : (low total header : ℕ) → (total < low → total ≡ 0) → ((total ≡ 0) ⊎ (header ≤ total))
    ⊎ ((low ≤ total) × (total < header))
sizes low total header h = by (cases_lt total low) (cases_lt total header)
  where
    by : (total < low) ⊎ (low ≤ total) → (total < header) ⊎ (header ≤ total) → ((total ≡ 0) ⊎ (header ≤ total))
        ⊎ ((low ≤ total) × (total < header))
    by (inl small) other = inl (inl (h small))
    by (inr large) (inl small) = inr (large, small)
    by (inr large) (inr wide) = inl (inr wide)

module _ (cursor : Cursor) (c : Cause) (e : header_at cursor ≡ Err c) where
  why_size : 8 ≤ length (left cursor) → (size_in (left cursor) ≡ 1 → ⊥)
      → ((size_in (left cursor) ≡ 0) ⊎ (8 ≤ size_in (left cursor)))
      ⊎ ((2 ≤ size_in (left cursor)) × (size_in (left cursor) < 8)) → WhyNoHead (left cursor) c
  why_size h other (inl fine) =
      absurd (not_refused cursor (moved 8 cursor) (type_in (left cursor)) 8 (size_in (left cursor)) c (omega arith)
      fine (sized cursor h other) e)
  why_size h other (inr small) =
      too_small h small.0 (omega (arith, small.1))
      (refusal_is (header_at cursor) c invalid_data e (says_too_small cursor h small.0 (omega (arith, small.1))))

  why_large : 16 ≤ length (left cursor) → size_in (left cursor) ≡ 1
      → ((large_size_in (left cursor) ≡ 0) ⊎ (16 ≤ large_size_in (left cursor)))
      ⊎ ((1 ≤ large_size_in (left cursor)) × (large_size_in (left cursor) < 16)) → WhyNoHead (left cursor) c
  why_large h one (inl fine) =
      absurd (not_refused cursor (moved 8 (moved 8 cursor)) (type_in (left cursor)) 16 (large_size_in (left cursor)) c
      (omega arith) fine (large_sized cursor h one) e)
  why_large h one (inr small) =
      large_too_small h one small.0 (omega (arith, small.1))
      (refusal_is (header_at cursor) c invalid_data e
      (says_large_too_small cursor h one small.0 (omega (arith, small.1))))

  why_long : 8 ≤ length (left cursor) → size_in (left cursor) ≡ 1 → (length (left cursor) < 16)
      ⊎ (16 ≤ length (left cursor)) → WhyNoHead (left cursor) c
  why_long h one (inl few) =
      large_cut_short h one few (refusal_is (header_at cursor) c end_of_data e
      (says_large_cut_short cursor h one few))
  why_long h one (inr many) = why_large many one (sizes 1 (large_size_in (left cursor)) 16 (λ small. omega arith))

  why_one : 8 ≤ length (left cursor) → (size_in (left cursor) ≡ 1) ⊎ (size_in (left cursor) ≡ 1 → ⊥)
      → WhyNoHead (left cursor) c
  why_one h (inl one) = why_long h one (cases_lt (length (left cursor)) 16)
  why_one h (inr other) = why_size h other (sizes 2 (size_in (left cursor)) 8 (below_two (size_in (left cursor)) other))
    where
      below_two : (n : ℕ) → (n ≡ 1 → ⊥) → n < 2 → n ≡ 0
      below_two n other h = grind arith

  why_first : (length (left cursor) < 8) ⊎ (8 ≤ length (left cursor)) → WhyNoHead (left cursor) c
  why_first (inl few) = cut_short few (refusal_is (header_at cursor) c end_of_data e (says_cut_short cursor few))
  why_first (inr many) = why_one many (cases_eq (size_in (left cursor)) 1)

-- where no header is read, one of the reasons holds
pub why_no_head : (cursor : Cursor) (c : Cause) → header_at cursor ≡ Err c → WhyNoHead (left cursor) c
why_no_head cursor c e = why_first cursor c e (cases_lt (length (left cursor)) 8)
