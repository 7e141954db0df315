-- The children of a payload are the boxes in it.
use Rattle.std.proofs.Common.{◌≡◌, ◌⊎◌, inl, inr, ℕ, zero, suc, ◌+◌, ◌-◌, ◌^◌, ◌≤◌, ◌<◌, List, [], ◌∷◌, ◌++◌, length}
use Rattle.std.proofs.Common.{drop, take, get_or, Some, None, Ok, refl, sym, ap, subst, ◌∙◌, append_assoc, arith}
use Rattle.std.proofs.lemmas.Bool.{lt-ltb, cases_lt}
use Rattle.std.proofs.lemmas.List.{length-append, length-take-le, take-append-drop, get_or_default}
use Rattle.std.proofs.lemmas.List.Elements.{recursion_from_All}
use Rattle.mp4_codec.specs.declared.box_type.BoxType.{BoxType}
use Rattle.mp4_codec.specs.BoxType.{box_type}
use Rattle.mp4_codec.specs.Cause.{invalid_data}
use Rattle.mp4_codec.specs.Cursor.{header_at, here}
use Rattle.mp4_codec.specs.Bytes.{number}
use Rattle.mp4_codec.specs.Boxes.{box_bytes}
use Rattle.mp4_codec.specs.Children.{ChildBox, child_at, walk, children}
use Rattle.mp4_codec.specs.ChildrenLaws.{Begins, Breaks, walk-begins, walk-ends, walk-breaks}
use Rattle.mp4_codec.specs.FieldLaws.{length-number}
use Rattle.mp4_codec.specs.FramingLaws.{front, length-front}
use Rattle.mp4_codec.specs.Framing.{IsBytes, long_box_bytes, IsEncodable, IsBox, short, long, NoBoxBegins}
use Rattle.mp4_codec.specs.Framing.{EndsChildren, closed, broken, IsFirst, AreChildren}
use Rattle.mp4_codec.specs.FramingLaws.{encoded, off, opened, enlarged, head_with-small, short_head, long_head}
use Rattle.mp4_codec.specs.FramingLaws.{short_regrouped, long_regrouped, length-box, child_at-box}
use Rattle.mp4_codec.proofs.BoxTypeLaws.{code_of-box_type, is_named}

-- the bytes of a slice are bytes
pub bytes_of : (bytes : List ℕ) → ((k : ℕ) → get_or bytes k 0 < 256) → IsBytes bytes
bytes_of bytes h =
    recursion_from_All (λ (b : ℕ). b < 256) bytes
    (λ k d lt. subst (λ (b : ℕ). b < 256) (get_or_default bytes k 0 d lt) (h k))

IsBytes-drop : (n : ℕ) (bytes : List ℕ) → IsBytes bytes → IsBytes (drop n bytes)
IsBytes-drop zero bytes h = h
IsBytes-drop (suc n) [] h = tt
IsBytes-drop (suc n) (b ∷ bytes) h = IsBytes-drop n bytes h.1

IsBytes-rest : (xs ys : List ℕ) → IsBytes (xs ++ ys) → IsBytes ys
IsBytes-rest [] ys h = h
IsBytes-rest (x ∷ xs) ys h = IsBytes-rest xs ys h.1

-- a box begins the bytes
pub record Framed (bytes : List ℕ) : Type 0 where
  pub name : BoxType
  pub payload : List ℕ
  pub box : List ℕ
  pub rest : List ℕ
  pub boxes : IsBox name payload box
  pub is : bytes ≡ box ++ rest
  pub others : IsBytes rest

-- no child begins the bytes, or a box does
abbrev Decided : List ℕ → Type 0
Decided bytes = (child_at bytes ≡ None) ⊎ Framed bytes

-- the payload passes the end
passes : (bytes : List ℕ) (name : BoxType) (n place : ℕ)
    → header_at (here bytes 0) ≡ Ok (record { name = name; size = 8 + n }, here bytes place)
    → length bytes < place + n → child_at bytes ≡ None
unfolding child_at
passes bytes name n place e h =
    let size : 8 + n - 8 ≡ n = omega arith in
    rw (e, off (8 + n) 0 (omega arith), size, lt-ltb (length bytes) (place + n) h) refl

encodable : (b : ℕ) → b < 2 ^ 32 → IsEncodable (box_type b)
encodable b h = record { named = is_named (box_type b) b refl; code = rw (code_of-box_type b) h }

module _ (b : ℕ) (hb : b < 2 ^ 32) where
  -- a size of 8 or more
  plain : (n : ℕ) (c : List ℕ) → 8 + n < 2 ^ 32 → IsBytes c → (length c < n) ⊎ (n ≤ length c)
      → Decided (front (8 + n) b ++ c)
  plain n c fits bytes (inl few) =
      let past : length (front (8 + n) b ++ c) < 8 + n =
      omega (arith, length-append (front (8 + n) b) c, length-front (8 + n) b) in
      inl (passes (front (8 + n) b ++ c) (box_type b) n 8
      (short_head (front (8 + n) b ++ c) [] c (box_type b) n b refl fits hb refl) past)
  plain n c fits bytes (inr many) =
      let size : length (take n c) ≡ n = length-take-le n c many in
      let small : 8 + length (take n c) < 2 ^ 32 = rw size fits in
      let whole : box_bytes (box_type b) (take n c) ++ drop n c ≡ front (8 + n) b ++ c =
      short_regrouped (box_type b) (take n c) (drop n c) ∙ rw (size, code_of-box_type b, take-append-drop n c) refl in
      inr (record {
        name = box_type b;
        payload = take n c;
        box = box_bytes (box_type b) (take n c);
        rest = drop n c;
        boxes = short (encodable b hb) small refl;
        is = sym whole;
        others = IsBytes-drop n c bytes;
      })

  -- a 64-bit size of 16 or more
  large : (n : ℕ) (d : List ℕ) → 16 + n < 2 ^ 64 → IsBytes d → (length d < n) ⊎ (n ≤ length d)
      → Decided (front 1 b ++ (number 8 (16 + n) ++ d))
  large n d fits bytes (inl few) =
      let past : length (front 1 b ++ (number 8 (16 + n) ++ d)) < 16 + n =
      omega (
        arith,
        length-append (front 1 b) (number 8 (16 + n) ++ d),
        length-append (number 8 (16 + n)) d,
        length-front 1 b,
        length-number 8 (16 + n),
      ) in
      inl (passes (front 1 b ++ (number 8 (16 + n) ++ d)) (box_type b) n 16
      (long_head (front 1 b ++ (number 8 (16 + n) ++ d)) [] d (box_type b) n b refl fits hb refl) past)
  large n d fits bytes (inr many) =
      let size : length (take n d) ≡ n = length-take-le n d many in
      let small : 16 + length (take n d) < 2 ^ 64 = rw size fits in
      let whole : long_box_bytes (box_type b) (take n d) ++ drop n d ≡ front 1 b ++ (number 8 (16 + n) ++ d) =
      long_regrouped (box_type b) (take n d) (drop n d) ∙ rw (size, code_of-box_type b, take-append-drop n d) refl in
      inr (record {
        name = box_type b;
        payload = take n d;
        box = long_box_bytes (box_type b) (take n d);
        rest = drop n d;
        boxes = long (encodable b hb) small refl;
        is = sym whole;
        others = IsBytes-drop n d bytes;
      })

  -- a 64-bit size below 16
  large_none : (t : ℕ) (d : List ℕ) → t < 2 ^ 64 → (t ≡ 0) ⊎ ((1 ≤ t) × (t < 16))
      → child_at (front 1 b ++ (number 8 t ++ d)) ≡ None
  unfolding child_at
  large_none t d fits (inl open_end) =
      rw (
        opened (front 1 b ++ (number 8 t ++ d)) [] (number 8 t ++ d) 1 b refl (omega arith) hb,
        enlarged (front 1 b ++ (number 8 t ++ d)) [] d (box_type b) b t refl fits,
        open_end,
      ) refl
  large_none t d fits (inr few) =
      rw (
        opened (front 1 b ++ (number 8 t ++ d)) [] (number 8 t ++ d) 1 b refl (omega arith) hb,
        enlarged (front 1 b ++ (number 8 t ++ d)) [] d (box_type b) b t refl fits,
        head_with-small (box_type b) 16 t few.0 few.1,
      ) refl

  -- a size of 1, and fewer than 16 bytes
  large_cut : (c : List ℕ) → length c < 8 → child_at (front 1 b ++ c) ≡ None
  unfolding child_at
  large_cut c few =
      let past : length (front 1 b ++ c) < 16 = omega (arith, length-append (front 1 b) c, length-front 1 b) in
      rw (opened (front 1 b ++ c) [] c 1 b refl (omega arith) hb, lt-ltb (length (front 1 b ++ c)) 16 past) refl

  -- a size of 0
  open_none : (c : List ℕ) → child_at (front 0 b ++ c) ≡ None
  unfolding child_at
  open_none c = rw (opened (front 0 b ++ c) [] c 0 b refl (omega arith) hb) refl

  -- a size of 2 to 7
  small_none : (a : ℕ) (c : List ℕ) → 2 ≤ a → a < 8 → child_at (front a b ++ c) ≡ None
  unfolding child_at
  small_none a c low high =
      rw (
        opened (front a b ++ c) [] c a b refl (omega arith) hb,
        off a 1 low,
        head_with-small (box_type b) 8 a (omega arith) high,
      ) refl

  by_large : (t : ℕ) (d : List ℕ) → t < 2 ^ 64 → IsBytes d → (t < 16) ⊎ (16 ≤ t)
      → Decided (front 1 b ++ (number 8 t ++ d))
  by_large t d fits bytes (inl few) = inl (large_none t d fits (below t few))
    where
      below : (t : ℕ) → t < 16 → (t ≡ 0) ⊎ ((1 ≤ t) × (t < 16))
      below zero h = inl refl
      below (suc t) h = inr (omega arith, h)
  by_large t d fits bytes (inr many) =
      let e : 16 + (t - 16) ≡ t = omega arith in
      subst (λ (x : ℕ). Decided (front 1 b ++ (number 8 x ++ d))) e
      (large (t - 16) d (omega arith) bytes (cases_lt (length d) (t - 16)))

  by_one : (c : List ℕ) → IsBytes c → (length c < 8) ⊎ (8 ≤ length c) → Decided (front 1 b ++ c)
  by_one c bytes (inl few) = inl (large_cut c few)
  by_one c bytes (inr many) =
      let s = encoded 8 c bytes many in
      subst (λ (x : List ℕ). Decided (front 1 b ++ x)) (sym s.is)
      (by_large s.value s.rest s.small s.others (cases_lt s.value 16))

  by_size : (a : ℕ) (c : List ℕ) → a < 2 ^ 32 → IsBytes c → (a < 8) ⊎ (8 ≤ a) → Decided (front a b ++ c)
  by_size zero c fits bytes (inl few) = inl (open_none c)
  by_size (suc zero) c fits bytes (inl few) = by_one c bytes (cases_lt (length c) 8)
  by_size (suc (suc a)) c fits bytes (inl few) = inl (small_none (suc (suc a)) c (omega arith) few)
  by_size a c fits bytes (inr many) =
      let e : 8 + (a - 8) ≡ a = omega arith in
      subst (λ (x : ℕ). Decided (front x b ++ c)) e (plain (a - 8) c (omega arith) bytes (cases_lt (length c) (a - 8)))

together : (a b : ℕ) (c : List ℕ) → number 4 a ++ (number 4 b ++ c) ≡ front a b ++ c
unfolding front
together a b c = sym (append_assoc (number 4 a) (number 4 b) c)

-- 8 bytes or more: no child begins them, or a box does
framed : (bytes : List ℕ) → IsBytes bytes → 8 ≤ length bytes → Decided bytes
framed bytes h many =
    let s = encoded 4 bytes h (omega arith) in
    let size : length bytes ≡ 4 + length s.rest = ap length s.is ∙ length-append (number 4 s.value) s.rest
    ∙ ap (λ (n : ℕ). n + length s.rest) (length-number 4 s.value) in
    let t = encoded 4 s.rest s.others (omega arith) in
    let e : bytes ≡ front s.value t.value ++ t.rest = s.is ∙ ap (λ (x : List ℕ). number 4 s.value ++ x) t.is
    ∙ together s.value t.value t.rest in
    subst Decided (sym e) (by_size t.value t.small s.value t.rest s.small t.others (cases_lt s.value 8))

-- where no child begins the bytes, no box does
none_begins : (bytes : List ℕ) → child_at bytes ≡ None → NoBoxBegins bytes
none_begins bytes none name payload f rest boxes is =
    not_none ((name, payload), rest) (sym (child_at-box name payload f rest boxes) ∙ ap child_at (sym is) ∙ none)
  where
    not_none : (x : ChildBox × List ℕ) → Some x ≡ None → ⊥
    not_none x e = absurd cc

AreChildren-none : (bytes : List ℕ) → EndsChildren bytes → AreChildren bytes [] bytes
unfolding AreChildren
AreChildren-none bytes ends = (refl, ends)

AreChildren-some : (bytes : List ℕ) (k : ChildBox) (list : List ChildBox) (tail : List ℕ)
    → IsFirst bytes k (λ rest. AreChildren rest list tail) → AreChildren bytes (k ∷ list) tail
unfolding AreChildren
AreChildren-some bytes k list tail first = first

-- these are the children in the walk's answer
abbrev Walked : List ℕ → List ChildBox × List ℕ → Type 0
Walked bytes w = AreChildren bytes w.0 w.1

-- a box that begins the bytes is what the next step of a walk finds
box_begins : (bytes : List ℕ) (name : BoxType) (payload f rest : List ℕ) → IsBox name payload f → bytes ≡ f ++ rest
    → Begins bytes (name, payload) rest
box_begins bytes name payload f rest boxes is =
    let size : length bytes ≡ length f + length rest = ap length is ∙ length-append f rest in
    record {
      long = omega (arith, size, length-box name payload f boxes);
      is = ap child_at is
          ∙ child_at-box name payload f rest boxes;
    }

-- no box begins the bytes, so a walk breaks there
box_breaks : (bytes : List ℕ) → 8 ≤ length bytes → child_at bytes ≡ None → Breaks bytes invalid_data
box_breaks bytes many none = record { long = many; none = none; cause = refl }

shorter : (bytes : List ℕ) (name : BoxType) (payload f rest : List ℕ) (n : ℕ) → IsBox name payload f
    → bytes ≡ f ++ rest → length bytes ≤ suc n → length rest ≤ n
shorter bytes name payload f rest n boxes is enough =
    omega (arith, ap length is ∙ length-append f rest, length-box name payload f boxes)

module _ (n : ℕ) (others : (rest : List ℕ) → IsBytes rest → length rest ≤ n → Walked rest (walk n rest))
    (bytes : List ℕ) (enough : length bytes ≤ suc n) where
  walked_on : 8 ≤ length bytes → Decided bytes → Walked bytes (walk (suc n) bytes)
  walked_on many (inl none) =
      subst (Walked bytes) (sym (walk-breaks (suc n) bytes invalid_data (box_breaks bytes many none)))
      (AreChildren-none bytes (broken many (none_begins bytes none)))
  walked_on many (inr b) =
      let first : IsFirst bytes (b.name, b.payload) (λ rest. AreChildren rest (walk n b.rest).0 (walk n b.rest).1) =
      record {
        box = b.box;
        rest = b.rest;
        is = b.is;
        boxes = b.boxes;
        others =
            others b.rest b.others (shorter bytes b.name b.payload b.box b.rest n b.boxes b.is enough);
      } in
      subst (Walked bytes) (sym (walk-begins n bytes (b.name, b.payload) b.rest
      (box_begins bytes b.name b.payload b.box b.rest b.boxes b.is)))
      (AreChildren-some bytes (b.name, b.payload) (walk n b.rest).0 (walk n b.rest).1 first)

  walked_step : IsBytes bytes → (length bytes < 8) ⊎ (8 ≤ length bytes) → Walked bytes (walk (suc n) bytes)
  walked_step h (inl few) =
      subst (Walked bytes) (sym (walk-ends (suc n) bytes few)) (AreChildren-none bytes (closed few))
  walked_step h (inr many) = walked_on many (framed bytes h many)

-- a walk with enough steps finds the children
walked : (n : ℕ) (bytes : List ℕ) → IsBytes bytes → length bytes ≤ n → Walked bytes (walk n bytes)
walked zero bytes h enough =
    let few : length bytes < 8 = omega arith in
    subst (Walked bytes) (sym (walk-ends zero bytes few)) (AreChildren-none bytes (closed few))
walked (suc n) bytes h enough = walked_step n (walked n) bytes enough h (cases_lt (length bytes) 8)

-- a payload has its children
pub has_children : (payload : List ℕ) → IsBytes payload → AreChildren payload (children payload).0 (children payload).1
unfolding children
has_children payload h = walked (length payload) payload h (omega arith)

-- where the children end, a walk ends
walk-end : (n : ℕ) (tail : List ℕ) → IsBytes tail → EndsChildren tail → walk n tail ≡ ([], tail)
walk-end n tail h (closed few) = walk-ends n tail few
walk-end n tail h (broken many none_there) = by (framed tail h many)
  where
    by : Decided tail → walk n tail ≡ ([], tail)
    by (inl none) = walk-breaks n tail invalid_data (box_breaks tail many none)
    by (inr b) = absurd (none_there b.name b.payload b.box b.rest b.boxes b.is)

module _ (tail : List ℕ) (k : ChildBox) (list : List ChildBox) (bytes : List ℕ)
    (first : IsFirst bytes k (λ rest. AreChildren rest list tail)) where
  one_more : (n : ℕ) → length bytes ≤ n → ((m : ℕ) → length first.rest ≤ m → walk m first.rest ≡ (list, tail))
      → walk n bytes ≡ (k ∷ list, tail)
  one_more zero enough others =
      absurd (omega (arith, (box_begins bytes k.0 k.1 first.box first.rest first.boxes first.is).long))
  one_more (suc n) enough others =
      let rest : walk n first.rest ≡ (list, tail) =
      others n (shorter bytes k.0 k.1 first.box first.rest n first.boxes first.is enough) in
      walk-begins n bytes k first.rest (box_begins bytes k.0 k.1 first.box first.rest first.boxes first.is)
      ∙ ap (λ (w : List ChildBox × List ℕ). (k ∷ w.0, w.1)) rest

-- a walk with enough steps finds these children
walks : (list : List ChildBox) (bytes tail : List ℕ) → IsBytes bytes → AreChildren bytes list tail → (n : ℕ)
    → length bytes ≤ n → walk n bytes ≡ (list, tail)
unfolding AreChildren
walks [] bytes tail h are n enough =
    subst (λ (x : List ℕ). walk n x ≡ ([], tail)) (sym are.0) (walk-end n tail (subst IsBytes are.0 h) are.1)
walks (k ∷ list) bytes tail h are n enough =
    one_more tail k list bytes are n enough
    (walks list are.rest tail (IsBytes-rest are.box are.rest (subst IsBytes are.is h)) are.others)

-- and no others
pub only_children : (payload : List ℕ) → IsBytes payload → (list : List ChildBox) (tail : List ℕ)
    → AreChildren payload list tail → children payload ≡ (list, tail)
unfolding children
only_children payload h list tail are = walks list payload tail h are (length payload) (omega arith)
