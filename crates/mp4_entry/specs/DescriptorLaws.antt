-- Padded numbers in parts, the descriptors of bytes one after the other, and descriptors that are read as they were
-- written.
use Rattle.std.proofs.Common.{◌≡◌, ℕ, zero, suc, ◌+◌, ◌*◌, ◌^◌, ◌%◌, ◌≤◌, ◌<◌, Bool, true, false, cond, ltb, eqb}
use Rattle.std.proofs.Common.{List, [], ◌∷◌, ◌++◌, length, take, drop, replicate, slice_index, Option, Some, None}
use Rattle.std.proofs.Common.{refl, sym, ap, ◌∙◌, append_assoc, arith}
use Rattle.std.proofs.lemmas.Bool.{lt-ltb}
use Rattle.std.proofs.lemmas.List.{drop_at, take_at, length-drop, get_or-drop, drop-drop}
use Rattle.std.proofs.Math.Nat.{mod-eq_of_lt, add-mul, mul_assoc, add_assoc}
use Rattle.std.proofs.lemmas.Nat.{pow-add}
use Rattle.byteorder.specs.Endian.{big_from}
use Rattle.byteorder.specs.Numbers.{big_number-reads_back, length-bytes_high_first}
use Rattle.mp4_codec.specs.Bytes.{number, ◌⧺◌}
use Rattle.mp4_codec.specs.FieldLaws.{length-number, length-then, then_assoc, then_nothing}
use Rattle.mp4_entry.specs.Descriptor.{padded_at, length_at, descriptor_at, first_or, first_among, first_of, descriptor}

index-zeros : (k i : ℕ) → slice_index (replicate k 0) i ≡ 0
index-zeros zero i = refl
index-zeros (suc k) zero = refl
index-zeros (suc k) (suc i) = index-zeros k i

index-padded : (xs : List ℕ) (k i : ℕ) → slice_index (xs ++ replicate k 0) i ≡ slice_index xs i
index-padded [] k i = index-zeros k i
index-padded (x ∷ xs) k zero = refl
index-padded (x ∷ xs) k (suc i) = index-padded xs k i

-- zeros after bytes are the zeros that stand for bytes that are missing
big_from-padded : (i n k : ℕ) (xs : List ℕ) → big_from i n (xs ++ replicate k 0) ≡ big_from i n xs
big_from-padded i zero k xs = refl
big_from-padded i (suc n) k xs = rw (index-padded xs k i, big_from-padded (suc i) n k xs) refl

big_from-drop : (m i n : ℕ) (xs : List ℕ) → big_from i n (drop m xs) ≡ big_from (m + i) n xs
big_from-drop m i zero xs = refl
big_from-drop m i (suc n) xs =
    let next : m + suc i ≡ suc (m + i) = omega arith in
    let others : big_from (suc i) n (drop m xs) ≡ big_from (suc (m + i)) n xs =
    big_from-drop m (suc i) n xs ∙ ap (λ (j : ℕ). big_from j n xs) next in
    rw (get_or-drop m xs i 0, others) refl

-- a number in two parts, from place i on
big_from-split : (i m n : ℕ) (xs : List ℕ) → big_from i (m + n) xs ≡ big_from i m xs * 256 ^ n + big_from (m + i) n xs
big_from-split i zero n xs =
    let none : 0 + n ≡ n = omega arith in
    let here : 0 + i ≡ i = omega arith in
    rw (none, here) (omega arith)
big_from-split i (suc m) n xs =
    let byte = slice_index xs i in
    let more = big_from (suc i) m xs in
    let next : m + suc i ≡ suc (m + i) = omega arith in
    let total : suc m + n ≡ suc (m + n) = omega arith in
    let place : suc m + i ≡ suc (m + i) = omega arith in
    let others : big_from (suc i) (m + n) xs ≡ more * 256 ^ n + big_from (suc (m + i)) n xs =
    big_from-split (suc i) m n xs ∙ ap (λ (j : ℕ). more * 256 ^ n + big_from j n xs) next in
    rw (
      total,
      place,
      others,
      pow-add 256 m n,
      add-mul (byte * 256 ^ m) more (256 ^ n),
      mul_assoc byte (256 ^ m) (256 ^ n),
    ) (sym (add_assoc (byte * (256 ^ m * 256 ^ n)) (more * 256 ^ n) (big_from (suc (m + i)) n xs)))

-- a padded number in two parts
pub padded_at-split : (m n : ℕ) (bytes : List ℕ) → padded_at (m + n) bytes
    ≡ ((padded_at m bytes).0 * 256 ^ n + (padded_at n (drop m bytes)).0, drop n (drop m bytes))
unfolding padded_at
padded_at-split m n bytes =
    rw (
      big_from-padded 0 (m + n) (m + n) bytes,
      big_from-padded 0 m m bytes,
      big_from-padded 0 n n (drop m bytes),
      big_from-split 0 m n bytes,
      big_from-drop m 0 n bytes,
      drop-drop n m bytes,
    ) refl

pub padded_at-rest : (n : ℕ) (bytes : List ℕ) → (padded_at n bytes).1 ≡ drop n bytes
unfolding padded_at
padded_at-rest n bytes = refl

pub padded_at-nothing : (n : ℕ) → (padded_at n []).0 ≡ 0
unfolding padded_at
padded_at-nothing n = big_from-padded 0 n n [] ∙ big_from-nothing 0 n
  where
    big_from-nothing : (i n : ℕ) → big_from i n [] ≡ 0
    big_from-nothing i zero = refl
    big_from-nothing i (suc n) = rw (big_from-nothing (suc i) n) (omega arith)

-- a number that was written is read again, whatever follows it
pub padded_again : (n x : ℕ) (rest : List ℕ) → x < 256 ^ n → padded_at n (number n x ⧺ rest) ≡ (x, rest)
unfolding padded_at number ◌⧺◌
padded_again n x rest h =
    let e = length-bytes_high_first n x in
    rw (
      append_assoc (number n x) rest (replicate n 0),
      big_number-reads_back n x (rest ++ replicate n 0) h,
      drop_at (number n x) rest n e,
    ) refl

-- a length takes bytes, and adds none
length_at-shorter : (n said : ℕ) (bytes : List ℕ) → length (length_at n said bytes).1 ≤ length bytes
unfolding length_at padded_at
length_at-shorter zero said bytes = omega arith
length_at-shorter (suc n) said bytes =
    chosen (ltb (padded_at 1 bytes).0 128)
    (length_at-shorter n (said * 128 + (padded_at 1 bytes).0 % 128) (drop 1 bytes))
  where
    chosen : (b : Bool)
        → length (length_at n (said * 128 + (padded_at 1 bytes).0 % 128) (drop 1 bytes)).1 ≤ length (drop 1 bytes)
        → length (cond {A = ℕ × List ℕ} b (said * 128 + (padded_at 1 bytes).0 % 128, drop 1 bytes)
        (length_at n (said * 128 + (padded_at 1 bytes).0 % 128) (drop 1 bytes))).1 ≤ length bytes
    chosen true h = omega (arith, length-drop 1 bytes)
    chosen false h = omega (arith, length-drop 1 bytes, h)

abbrev Next : Type 0
Next = (ℕ × List ℕ) × List ℕ

some_is : (x y : Next) → Some x ≡ Some y → x ≡ y
some_is x y e = cc

-- a descriptor takes one byte at least
pub descriptor_at-shorter : (bytes : List ℕ) (d : Next) → descriptor_at bytes ≡ Some d → length d.1 < length bytes
unfolding descriptor_at
descriptor_at-shorter [] d e = absurd cc
descriptor_at-shorter (tag ∷ bytes) d e =
    let size = length_at 4 0 bytes in
    let rest_is : drop size.0 size.1 ≡ d.1 =
    ap (λ (x : Next). x.1) (some_is ((tag, take size.0 size.1), drop size.0 size.1) d e) in
    let fewer = length_at-shorter 4 0 bytes in
    rw (← rest_is) (omega (arith, length-drop size.0 size.1, fewer))

first_or-same : (tag : ℕ) (f g : List ℕ → List ℕ) (o : Option Next) → ((d : Next) → o ≡ Some d → f d.1 ≡ g d.1)
    → first_or tag f o ≡ first_or tag g o
first_or-same tag f g None h = refl
first_or-same tag f g (Some d) h = ap (λ (x : List ℕ). cond (eqb d.0.0 tag) d.0.1 x) (h d refl)

-- as many steps as there are bytes are enough
first_among-enough : (n m tag : ℕ) (bytes : List ℕ) → length bytes ≤ n → length bytes ≤ m
    → first_among n tag bytes ≡ first_among m tag bytes
unfolding first_among descriptor_at
first_among-enough zero zero tag bytes h k = refl
first_among-enough zero (suc m) tag [] h k = refl
first_among-enough zero (suc m) tag (b ∷ bytes) h k = absurd (omega (arith, h))
first_among-enough (suc n) zero tag [] h k = refl
first_among-enough (suc n) zero tag (b ∷ bytes) h k = absurd (omega (arith, k))
first_among-enough (suc n) (suc m) tag bytes h k =
    first_or-same tag (first_among n tag) (first_among m tag) (descriptor_at bytes)
    (λ d e. let shorter = descriptor_at-shorter bytes d e in
    first_among-enough n m tag d.1 (omega (arith, shorter, h)) (omega (arith, shorter, k)))

not_nothing : (d : Next) → descriptor_at [] ≡ Some d → ⊥
unfolding descriptor_at
not_nothing d e = absurd cc

-- the search, one descriptor further
pub first_of-next : (tag : ℕ) (bytes : List ℕ) (d : Next) → descriptor_at bytes ≡ Some d
    → first_of tag bytes ≡ cond (eqb d.0.0 tag) d.0.1 (first_of tag d.1)
unfolding first_of first_among
first_of-next tag [] d e = absurd (not_nothing d e)
first_of-next tag (b ∷ bytes) d e =
    let shorter = descriptor_at-shorter (b ∷ bytes) d e in
    rw e (ap (λ (x : List ℕ). cond (eqb d.0.0 tag) d.0.1 x)
    (first_among-enough (length bytes) (length d.1) tag d.1 (omega (arith, shorter)) (omega arith)))

pub first_of-none : (tag : ℕ) (bytes : List ℕ) → descriptor_at bytes ≡ None → first_of tag bytes ≡ []
unfolding first_of first_among descriptor_at
first_of-none tag [] e = refl
first_of-none tag (b ∷ bytes) e = absurd cc

length_again : (size : ℕ) (rest : List ℕ) → size < 128 → length_at 4 0 (number 1 size ⧺ rest) ≡ (size, rest)
unfolding length_at
length_again size rest h =
    let byte : size < 256 ^ 1 = omega (arith, h) in
    rw (padded_again 1 size rest byte, lt-ltb size 128 h, mod-eq_of_lt h) (ap (λ (n : ℕ). (n, rest)) (omega arith))

tag_again : (tag : ℕ) (bytes : List ℕ) → tag < 256 → number 1 tag ⧺ bytes ≡ tag ∷ bytes
unfolding number ◌⧺◌
tag_again tag bytes h = rw (mod-eq_of_lt h) refl

take-then : (xs ys : List ℕ) → take (length xs) (xs ⧺ ys) ≡ xs
unfolding ◌⧺◌
take-then xs ys = take_at xs ys (length xs) refl

drop-then : (xs ys : List ℕ) → drop (length xs) (xs ⧺ ys) ≡ ys
unfolding ◌⧺◌
drop-then xs ys = drop_at xs ys (length xs) refl

body_again : (tag : ℕ) (body rest : List ℕ) → length body < 128
    → descriptor_at (tag ∷ (number 1 (length body) ⧺ (body ⧺ rest))) ≡ Some ((tag, body), rest)
unfolding descriptor_at
body_again tag body rest h =
    rw (length_again (length body) (body ⧺ rest) h, take-then body rest, drop-then body rest) refl

regrouped : (tag : ℕ) (body rest : List ℕ)
    → descriptor tag body ⧺ rest ≡ number 1 tag ⧺ (number 1 (length body) ⧺ (body ⧺ rest))
unfolding descriptor
regrouped tag body rest =
    then_assoc (number 1 tag) (number 1 (length body) ⧺ body) rest
    ∙ ap (λ (bytes : List ℕ). number 1 tag ⧺ bytes) (then_assoc (number 1 (length body)) body rest)

descriptor_again : (tag : ℕ) (body rest : List ℕ) → tag < 256 → length body < 128
    → descriptor_at (descriptor tag body ⧺ rest) ≡ Some ((tag, body), rest)
descriptor_again tag body rest t h =
    ap descriptor_at
    (regrouped tag body rest ∙ tag_again tag (number 1 (length body) ⧺ (body ⧺ rest)) t)
    ∙ body_again tag body rest h

-- a descriptor that was written is the first of its tag, whatever follows it
pub first_of-descriptor : (tag : ℕ) (body rest : List ℕ) → tag < 256 → length body < 128
    → first_of tag (descriptor tag body ⧺ rest) ≡ body
first_of-descriptor tag body rest t h =
    let same : eqb tag tag ≡ true = grind arith in
    first_of-next tag (descriptor tag body ⧺ rest) ((tag, body), rest) (descriptor_again tag body rest t h)
    ∙ rw same refl

-- the same for one that nothing follows
pub first_of-last : (tag : ℕ) (body : List ℕ) → tag < 256 → length body < 128
    → first_of tag (descriptor tag body) ≡ body
first_of-last tag body t h =
    ap (first_of tag) (sym (then_nothing (descriptor tag body))) ∙ first_of-descriptor tag body [] t h

pub length-descriptor : (tag : ℕ) (body : List ℕ) → length (descriptor tag body) ≡ 2 + length body
unfolding descriptor
length-descriptor tag body = simp (length-then, length-number) (omega arith)

-- one number after another is a number of both their bytes
pub padded_at-joined : (m n : ℕ) (bytes : List ℕ) (a : ℕ) (xs : List ℕ) (b : ℕ) (ys : List ℕ)
    → (a, xs) ≡ padded_at m bytes → (b, ys) ≡ padded_at n xs → (a * 256 ^ n + b, ys) ≡ padded_at (m + n) bytes
padded_at-joined m n bytes a xs b ys first second =
    let high : a ≡ (padded_at m bytes).0 = ap (λ (x : ℕ × List ℕ). x.0) first in
    let rest_is : xs ≡ drop m bytes = ap (λ (x : ℕ × List ℕ). x.1) first ∙ padded_at-rest m bytes in
    let next : (b, ys) ≡ padded_at n (drop m bytes) = second ∙ ap (padded_at n) rest_is in
    let low : b ≡ (padded_at n (drop m bytes)).0 = ap (λ (x : ℕ × List ℕ). x.0) next in
    let end : ys ≡ drop n (drop m bytes) =
    ap (λ (x : ℕ × List ℕ). x.1) next ∙ padded_at-rest n (drop m bytes) in
    rw (high, low, end) (sym (padded_at-split m n bytes))

-- the search at a descriptor that is found, at one that is passed over, and at the end
module _ (tag other : ℕ) (bytes body rest found : List ℕ) where
  pub first_of-found : Some ((other, body), rest) ≡ descriptor_at bytes → eqb other tag ≡ true
      → first_of tag bytes ≡ found → body ≡ found
  first_of-found next same so_far =
      sym (first_of-next tag bytes ((other, body), rest) (sym next) ∙ rw same refl) ∙ so_far

  pub first_of-passed : Some ((other, body), rest) ≡ descriptor_at bytes → eqb other tag ≡ false
      → first_of tag bytes ≡ found → first_of tag rest ≡ found
  first_of-passed next differs so_far =
      sym (first_of-next tag bytes ((other, body), rest) (sym next) ∙ rw differs refl) ∙ so_far

pub first_of-ended : (tag : ℕ) (bytes found : List ℕ) → None ≡ descriptor_at bytes → first_of tag bytes ≡ found
    → [] ≡ found
first_of-ended tag bytes found next so_far = sym (first_of-none tag bytes (sym next)) ∙ so_far
