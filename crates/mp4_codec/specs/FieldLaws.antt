-- A field that was written is read again, whatever follows it.
use Rattle.std.proofs.Common.{◌≡◌, ℕ, zero, suc, ◌+◌, ◌-◌, ◌^◌, ◌<◌, Bool, true, false, cond, ltb, eqb, List, [], ◌∷◌}
use Rattle.std.proofs.Common.{◌++◌, length, ◌*◌, suc-mul, None, Some, not, Result, Ok, Err, take, drop, ◌≤◌, refl}
use Rattle.std.proofs.Common.{sym, ap, subst, ◌∙◌, append_assoc, arith}
use Rattle.std.specs.List.{flat_map, AllByRecursion}
use Rattle.std.proofs.lemmas.Bool.{le-ltb, lt-ltb, ltb-false, ltb-true}
use Rattle.std.proofs.lemmas.List.{append-nil, take_at, drop_at, length-append, length-replicate}
use Rattle.std.proofs.lemmas.List.Concat.{flat_map-cons}
use Rattle.std.proofs.lemmas.List.Folds.{length-prefix_len}
use Rattle.std.proofs.Math.Numerals.{one-add}
use Rattle.byteorder.specs.Endian.{big_number, big_bytes}
use Rattle.byteorder.specs.Numbers.{length-bytes_high_first, big_number-reads_back}
use Rattle.std.specs.Prelude.{ℤ, FitsSigned, negsuc, pos}
use Rattle.std.specs.Int.{w16, w32, cast_signed, cast_unsigned, from_be_bytes}
use Rattle.std.proofs.lemmas.Nat.{from_be_bytes-to_be_bytes_4}
use Rattle.std.proofs.lemmas.Int.{to_z-of_z}
use Rattle.mp4_codec.specs.declared.error.Limit.TheVariants.{Value}
use Rattle.mp4_codec.specs.Cause.{Cause, invalid_data, too_large, ◌>>=◌}
use Rattle.mp4_codec.specs.Steps.{ok_is}
use Rattle.mp4_codec.specs.declared.four_cc.FourCC.{FourCC}
use Rattle.mp4_codec.specs.Bytes.{HasLength, ReadsBack, FitsVersion, IsCode, HasNoZero}
use Rattle.mp4_codec.specs.Bytes.{coded, four_cc, four_cc_at, until_zero, Reader, ◌⧺◌, bytes_at, number_at, number}
use Rattle.mp4_codec.specs.Bytes.{zeros, list_at, count_cause, int16_at, int16, int32_at, int32, versioned_at, sized_at}
use Rattle.mp4_codec.specs.Bytes.{versioned, version_refusal, value_refusal}
use Rattle.mp4_codec.specs.Blocks.{block_at, number-is_block, is_block-has_length}

long_enough : (xs rest : List ℕ) (n : ℕ) → length xs ≡ n → ltb (length (xs ++ rest)) n ≡ false
long_enough xs rest n e = le-ltb _ _ (omega (arith, length-append xs rest))

pub length-number : (n x : ℕ) → length (number n x) ≡ n
unfolding number
length-number n x = length-bytes_high_first n x

pub length-zeros : (n : ℕ) → length (zeros n) ≡ n
unfolding zeros
length-zeros n = length-replicate n 0

pub length-then : (xs ys : List ℕ) → length (xs ⧺ ys) ≡ length xs + length ys
unfolding ◌⧺◌
length-then xs ys = length-append xs ys

pub bytes_again : (n : ℕ) (xs rest : List ℕ) → length xs ≡ n → bytes_at n (xs ⧺ rest) ≡ Ok (xs, rest)
unfolding bytes_at ◌⧺◌
bytes_again n xs rest e = rw (long_enough xs rest n e, take_at xs rest n e, drop_at xs rest n e) refl

pub zeros_again : (n : ℕ) (rest : List ℕ) → bytes_at n (zeros n ⧺ rest) ≡ Ok (zeros n, rest)
zeros_again n rest = bytes_again n (zeros n) rest (length-zeros n)

pub number_back : (n x : ℕ) → x < 256 ^ n → big_number n (number n x) ≡ x
unfolding number
number_back n x h = ap (big_number n) (sym (append-nil (big_bytes n x))) ∙ big_number-reads_back n x [] h

pub block_again : {A : Type 0} (n : ℕ) (value : List ℕ → A) (piece rest : List ℕ) → length piece ≡ n
    → block_at n value (piece ⧺ rest) ≡ Ok (value piece, rest)
unfolding block_at ◌⧺◌
block_again n value piece rest e =
    rw (long_enough piece rest n e, take_at piece rest n e, drop_at piece rest n e) refl

pub number_again : (n x : ℕ) (rest : List ℕ) → x < 256 ^ n → number_at n (number n x ⧺ rest) ≡ Ok (x, rest)
number_again n x rest h =
    rw (
      (number-is_block n).is (number n x ⧺ rest),
      block_again n (big_number n) _ rest (length-number n x),
      number_back n x h,
    ) refl

-- a number at the front of a block, and what is after it
pub take-number : (n x : ℕ) (rest : List ℕ) → take n (number n x ⧺ rest) ≡ number n x
unfolding ◌⧺◌
take-number n x rest = take_at (number n x) rest n (length-number n x)

pub drop-number : (n x : ℕ) (rest : List ℕ) → drop n (number n x ⧺ rest) ≡ rest
unfolding ◌⧺◌
drop-number n x rest = drop_at (number n x) rest n (length-number n x)

pub number-has_length : (n : ℕ) → HasLength (number_at n) n
number-has_length n = is_block-has_length (number_at n) n (big_number n) (number-is_block n)

abbrev seen_as : {A B : Type 0} → (A → B) → Result (A × List ℕ) Cause → Result (B × List ℕ) Cause
seen_as {A} {B} see r = ◌>>=◌ {B = B × List ℕ} r (λ x. Ok (see x.0, x.1))

-- a field, seen as another value
pub seen-has_length : {A B : Type 0} (read : Reader A) (n : ℕ) (see : A → B) → HasLength read n
    → HasLength (λ bytes. seen_as see (read bytes)) n
seen-has_length {A} {B} read n see h =
    record {
      moves = λ bytes. moved bytes (read bytes) refl;
      refuses = λ bytes. refused bytes (read bytes) refl;
      enough = λ bytes fits. let x = h.enough bytes fits in ((see x.0.0, x.0.1), rw x.1 refl);
    }
  where
    moved : (bytes : List ℕ) (r : Result (A × List ℕ) Cause) → read bytes ≡ r → (y : B) (rest : List ℕ)
        → seen_as see r ≡ Ok (y, rest) → length bytes ≡ n + length rest
    moved bytes (Ok x) is y rest e =
        let rest_is : x.1 ≡ rest = ap (λ (z : B × List ℕ). z.1) (ok_is (see x.0, x.1) (y, rest) e) in
        rw (← rest_is) (h.moves bytes x.0 x.1 is)
    moved bytes (Err c) is y rest e = absurd cc

    refused : (bytes : List ℕ) (r : Result (A × List ℕ) Cause) → read bytes ≡ r → (c : Cause) → seen_as see r ≡ Err c
        → c ≡ invalid_data
    refused bytes (Ok x) is c e = absurd cc
    refused bytes (Err d) is c e = let same : d ≡ c = cc in rw (← same) (h.refuses bytes d is)

abbrev and_then : {A B : Type 0} → (A → Reader B) → Result (A × List ℕ) Cause → Result (B × List ℕ) Cause
and_then {A} {B} second r = ◌>>=◌ {B = B × List ℕ} r (λ x. second x.0 x.1)

-- one field, and then another that may depend on it
pub then-has_length : {A B : Type 0} (first : Reader A) (second : A → Reader B) (n m : ℕ) → HasLength first n
    → ((x : A) → HasLength (second x) m) → HasLength (λ bytes. and_then second (first bytes)) (n + m)
then-has_length {A} {B} first second n m h k =
    record {
      moves = λ bytes. moved bytes (first bytes) refl;
      refuses = λ bytes. refused bytes (first bytes) refl;
      enough = whole;
    }
  where
    whole : (bytes : List ℕ) → n + m ≤ length bytes → (y : B × List ℕ) × (and_then second (first bytes) ≡ Ok y)
    whole bytes fits =
        let x = h.enough bytes (omega arith) in
        let moved : length bytes ≡ n + length x.0.1 = h.moves bytes x.0.0 x.0.1 x.1 in
        let left : m ≤ length x.0.1 = omega arith in
        let y = (k x.0.0).enough x.0.1 left in
        (y.0, rw x.1 y.1)

    moved : (bytes : List ℕ) (r : Result (A × List ℕ) Cause) → first bytes ≡ r → (y : B) (rest : List ℕ)
        → and_then second r ≡ Ok (y, rest) → length bytes ≡ n + m + length rest
    moved bytes (Ok x) is y rest e =
        let one : length bytes ≡ n + length x.1 = h.moves bytes x.0 x.1 is in
        let two : length x.1 ≡ m + length rest = (k x.0).moves x.1 y rest e in
        omega arith
    moved bytes (Err c) is y rest e = absurd cc

    refused : (bytes : List ℕ) (r : Result (A × List ℕ) Cause) → first bytes ≡ r → (c : Cause)
        → and_then second r ≡ Err c → c ≡ invalid_data
    refused bytes (Ok x) is c e = (k x.0).refuses x.1 c e
    refused bytes (Err d) is c e = let same : d ≡ c = cc in rw (← same) (h.refuses bytes d is)

abbrev listed : {A : Type 0} → (List ℕ → Result (List A × List ℕ) Cause) → Result (A × List ℕ) Cause
    → Result (List A × List ℕ) Cause
listed {A} others r = do
  first ← r
  more ← others first.1
  Ok (first.0 ∷ more.0, more.1)

one-short : {A : Type 0} (read : Reader A) (n count : ℕ) (bytes : List ℕ)
    (others : List ℕ → Result (List A × List ℕ) Cause) → HasLength read n → length bytes < suc count * n
    → ((rest : List ℕ) → length rest < count * n → others rest ≡ Err invalid_data) → (r : Result (A × List ℕ) Cause)
    → read bytes ≡ r → listed others r ≡ Err invalid_data
one-short read n count bytes others h short fewer (Ok x) is =
    let moved : length bytes ≡ n + length x.1 = h.moves bytes x.0 x.1 is in
    let left : length x.1 < count * n = omega (arith, suc-mul count n) in
    rw (fewer x.1 left) refl
one-short read n count bytes others h short fewer (Err c) is =
    let same : c ≡ invalid_data = h.refuses bytes c is in
    rw same refl

-- a list that passes the end is refused
pub list-short : {A : Type 0} (read : Reader A) (n : ℕ) → HasLength read n → (count : ℕ) (bytes : List ℕ)
    → length bytes < count * n → list_at read count bytes ≡ Err invalid_data
unfolding list_at
list-short read n h zero bytes short = absurd (omega (arith, short))
list-short read n h (suc count) bytes short =
    one-short read n count bytes (list_at read count) h short (λ rest fewer. list-short read n h count rest fewer)
    (read bytes) refl

-- a list is refused by one cause
pub list-refuses : {A : Type 0} (read : Reader A) (n : ℕ) → HasLength read n → (count : ℕ) (bytes : List ℕ) (c : Cause)
    → list_at read count bytes ≡ Err c → c ≡ invalid_data
unfolding list_at
list-refuses read n h zero bytes c e = absurd cc
list-refuses {A} read n h (suc count) bytes c e =
    by_first (λ rest d is_err. list-refuses read n h count rest d is_err) (read bytes) refl e
  where
    by_others : (first : A) (r : Result (List A × List ℕ) Cause) → ((d : Cause) → r ≡ Err d → d ≡ invalid_data)
        → ◌>>=◌ {B = List A × List ℕ} r (λ more. Ok (first ∷ more.0, more.1)) ≡ Err c → c ≡ invalid_data
    by_others first (Ok more) known e = absurd cc
    by_others first (Err d) known e = let same : d ≡ c = cc in rw (← same) (known d refl)

    by_first : ((rest : List ℕ) (d : Cause) → list_at read count rest ≡ Err d → d ≡ invalid_data)
        → (r : Result (A × List ℕ) Cause) → read bytes ≡ r → listed (list_at read count) r ≡ Err c
        → c ≡ invalid_data
    by_first others (Ok x) is e = by_others x.0 (list_at read count x.1) (others x.1) e
    by_first others (Err d) is e = let same : d ≡ c = cc in rw (← same) (h.refuses bytes d is)

pub list_again : {A : Type 0} (read : Reader A) (write : A → List ℕ) (Fits : A → Type 0) → ReadsBack read write Fits
    → (xs : List A) (rest : List ℕ) → AllByRecursion Fits xs
    → list_at read (length xs) (flat_map write xs ⧺ rest) ≡ Ok (xs, rest)
unfolding list_at ◌⧺◌
list_again read write Fits back [] rest fits = refl
list_again read write Fits back (x ∷ xs) rest fits =
    let regrouped : flat_map write (x ∷ xs) ++ rest ≡ write x ++ (flat_map write xs ++ rest) =
    ap (λ (y : List ℕ). y ++ rest) (flat_map-cons write x xs) ∙ append_assoc (write x) (flat_map write xs) rest in
    ap (list_at read (suc (length xs))) regrouped
    ∙ rw (back.again x (flat_map write xs ++ rest) fits.0, list_again read write Fits back xs rest fits.1) refl

cast_unsigned_fits_16 : (z : ℤ) → FitsSigned w16 z → cast_unsigned w16 z < 256 ^ 2
cast_unsigned_fits_16 (pos n) h = omega (arith, h)
cast_unsigned_fits_16 (negsuc n) h = omega (arith, h)

pub int16_again : (z : ℤ) (rest : List ℕ) → FitsSigned w16 z → int16_at (int16 z ⧺ rest) ≡ Ok (z, rest)
unfolding int16_at int16
int16_again z rest h =
    rw (number_again 2 (cast_unsigned w16 z) rest (cast_unsigned_fits_16 z h), to_z-of_z w16 z h) refl

pub length-int16 : (z : ℤ) → length (int16 z) ≡ 2
unfolding int16
length-int16 z = length-number 2 (cast_unsigned w16 z)

cast_unsigned_fits_32 : (z : ℤ) → FitsSigned w32 z → cast_unsigned w32 z < 256 ^ 4
cast_unsigned_fits_32 (pos n) h = omega (arith, h)
cast_unsigned_fits_32 (negsuc n) h = omega (arith, h)

pub int32_back : (z : ℤ) → FitsSigned w32 z → cast_signed w32 (big_number 4 (int32 z)) ≡ z
unfolding int32
int32_back z h = rw (number_back 4 (cast_unsigned w32 z) (cast_unsigned_fits_32 z h)) (to_z-of_z w32 z h)

pub int32_again : (z : ℤ) (rest : List ℕ) → FitsSigned w32 z → int32_at (int32 z ⧺ rest) ≡ Ok (z, rest)
unfolding int32_at int32
int32_again z rest h =
    rw (number_again 4 (cast_unsigned w32 z) rest (cast_unsigned_fits_32 z h), to_z-of_z w32 z h) refl

pub length-int32 : (z : ℤ) → length (int32 z) ≡ 4
unfolding int32
length-int32 z = length-number 4 (cast_unsigned w32 z)

pub value_refusal-none : (version x : ℕ) → FitsVersion version x → value_refusal version x ≡ None
unfolding value_refusal
value_refusal-none zero x h = rw (le-ltb (2 ^ 32 - 1) x (omega arith)) refl
value_refusal-none (suc zero) x h = refl
value_refusal-none (suc (suc version)) x h = absurd h

-- a number of 64 bits that is written in its version fits it
pub FitsVersion-written : (version x : ℕ) → version_refusal version ≡ None → value_refusal version x ≡ None
    → x < 2 ^ 64 → FitsVersion version x
unfolding value_refusal
FitsVersion-written zero x known room h = ltb-fits (ltb (2 ^ 32 - 1) x) (ltb-false (2 ^ 32 - 1) x) room
  where
    ltb-fits : (b : Bool) → (b ≡ false → x ≤ 2 ^ 32 - 1) → cond b (Some (too_large Value)) None ≡ None → x < 2 ^ 32
    ltb-fits true small e = absurd cc
    ltb-fits false small e = let fits = small refl in omega arith
FitsVersion-written (suc zero) x known room h = h
FitsVersion-written (suc (suc version)) x known room h = absurd (other (ltb 1 (suc (suc version))) refl known)
  where
    other : (b : Bool) → ltb 1 (suc (suc version)) ≡ b → cond b (Some invalid_data) None ≡ None → ⊥
    other true is e = absurd cc
    other false is e = let few = ltb-false 1 (suc (suc version)) is in omega arith

-- a version that is written is 0 or 1
pub version-written : (version : ℕ) → version_refusal version ≡ None → version < 2
version-written version e = chosen (ltb 1 version) (ltb-false 1 version) e
  where
    chosen : (b : Bool) → (b ≡ false → version ≤ 1) → cond b (Some invalid_data) None ≡ None → version < 2
    chosen true h e = absurd cc
    chosen false h e = let small = h refl in omega arith

pub versioned_again : (version x : ℕ) (rest : List ℕ) → FitsVersion version x
    → versioned_at version (versioned version x ⧺ rest) ≡ Ok (x, rest)
unfolding versioned_at versioned
versioned_again zero x rest h = number_again 4 x rest h
versioned_again (suc zero) x rest h = number_again 8 x rest h
versioned_again (suc (suc version)) x rest h = absurd h

length-chosen : (b : Bool) (x : ℕ) → length (cond b (number 8 x) (number 4 x)) ≡ cond b 8 4
length-chosen true x = length-number 8 x
length-chosen false x = length-number 4 x

pub length-versioned : (version x : ℕ) → length (versioned version x) ≡ cond (eqb version 1) 8 4
unfolding versioned
length-versioned version x = length-chosen (eqb version 1) x

pub then_assoc : (xs ys zs : List ℕ) → (xs ⧺ ys) ⧺ zs ≡ xs ⧺ (ys ⧺ zs)
unfolding ◌⧺◌
then_assoc xs ys zs = append_assoc xs ys zs

pub then_nothing : (xs : List ℕ) → xs ⧺ [] ≡ xs
unfolding ◌⧺◌
then_nothing xs = append-nil xs

-- the same for a number that nothing follows
pub number_last : (n x : ℕ) → x < 256 ^ n → number_at n (number n x) ≡ Ok (x, [])
number_last n x h = ap (number_at n) (sym (then_nothing (number n x))) ∙ number_again n x [] h

pub length-four_cc : (f : FourCC) → length (four_cc f) ≡ 4
unfolding four_cc
length-four_cc f = length-number 4 (from_be_bytes w32 f.value)

four_cc_coded : (n : ℕ) (rest : List ℕ) → n < 2 ^ 32 → four_cc_at (four_cc (coded n) ⧺ rest) ≡ Ok (coded n, rest)
unfolding four_cc_at four_cc
four_cc_coded n rest h = rw (from_be_bytes-to_be_bytes_4 n h, number_again 4 n rest h) refl

pub four_cc-has_length : HasLength four_cc_at 4
unfolding four_cc_at
four_cc-has_length = seen-has_length (number_at 4) 4 coded (number-has_length 4)

pub four_cc_again : (f : FourCC) (rest : List ℕ) → IsCode f → four_cc_at (four_cc f ⧺ rest) ≡ Ok (f, rest)
four_cc_again f rest h =
    subst (λ (g : FourCC). four_cc_at (four_cc g ⧺ rest) ≡ Ok (g, rest)) (sym h.2) (four_cc_coded h.0 rest h.1)

pub until_zero-zero : (text : List ℕ) → HasNoZero text → until_zero (text ⧺ zeros 1) ≡ text
unfolding until_zero ◌⧺◌ zeros
until_zero-zero [] h = refl
until_zero-zero (b ∷ bs) h = rw (h.0, one-add) (ap (λ (x : List ℕ). b ∷ x) (until_zero-zero bs h.1))

pub length-numbers : (n : ℕ) (xs : List ℕ) → length (flat_map (number n) xs) ≡ n * length xs
length-numbers n [] = omega arith
length-numbers n (x ∷ xs) =
    rw (
      flat_map-cons (number n) x xs,
      length-append (number n x) (flat_map (number n) xs),
      length-number n x,
      length-numbers n xs,
    ) (omega arith)

-- a list that nothing follows
pub list_last : {A : Type 0} (read : Reader A) (write : A → List ℕ) (Fits : A → Type 0) → ReadsBack read write Fits
    → (count : ℕ) (xs : List A) → length xs ≡ count → AllByRecursion Fits xs
    → list_at read count (flat_map write xs) ≡ Ok (xs, [])
list_last read write Fits back count xs e fits =
    rw (← e) (ap (list_at read (length xs)) (sym (then_nothing (flat_map write xs)))
    ∙ list_again read write Fits back xs [] fits)

pub numbers_last : (n count : ℕ) (xs : List ℕ) → length xs ≡ count → AllByRecursion (λ x. x < 256 ^ n) xs
    → list_at (number_at n) count (flat_map (number n) xs) ≡ Ok (xs, [])
numbers_last n count xs e fits =
    list_last (number_at n) (number n) (λ x. x < 256 ^ n) (record { again = number_again n }) count xs e fits

-- zeros that nothing follows
pub zeros_last : (n : ℕ) → bytes_at n (zeros n) ≡ Ok (zeros n, [])
zeros_last n = ap (bytes_at n) (sym (then_nothing (zeros n))) ∙ zeros_again n []

-- the length of a number whose version was looked at
pub sized-has_length : (version : ℕ) → HasLength (sized_at version) (cond (eqb version 1) 8 4)
unfolding sized_at
sized-has_length version = chosen (eqb version 1)
  where
    chosen : (b : Bool) → HasLength (λ bytes. cond b (number_at 8 bytes) (number_at 4 bytes)) (cond b 8 4)
    chosen true = number-has_length 8
    chosen false = number-has_length 4

pub sized_again : (version x : ℕ) (rest : List ℕ) → FitsVersion version x
    → sized_at version (versioned version x ⧺ rest) ≡ Ok (x, rest)
unfolding sized_at versioned
sized_again zero x rest h = number_again 4 x rest h
sized_again (suc zero) x rest h = number_again 8 x rest h
sized_again (suc (suc version)) x rest h = absurd h

-- the bytes before the first zero are that many of the first
pub take-until_zero : (bytes : List ℕ) → take (length (until_zero bytes)) bytes ≡ until_zero bytes
unfolding until_zero
take-until_zero bytes = rw (length-prefix_len (λ b. not (eqb b 0)) bytes) refl

-- what passes the end is refused
pub count_cause-refused : {A : Type 0} (read : Reader A) (n : ℕ) → HasLength read n
    → (count : ℕ) (bytes : List ℕ) (c : Cause) → count_cause count n bytes ≡ Some c
    → list_at read count bytes ≡ Err c
count_cause-refused read n h count bytes c e =
    chosen (ltb (length bytes) (count * n)) (ltb-true (length bytes) (count * n)) e
  where
    chosen : (b : Bool) → (b ≡ true → length bytes < count * n) → cond b (Some invalid_data) None ≡ Some c
        → list_at read count bytes ≡ Err c
    chosen true short e = let same : invalid_data ≡ c = cc in list-short read n h count bytes (short refl) ∙ ap Err same
    chosen false short e = absurd cc

one-more : {A : Type 0} (read : Reader A) (n count : ℕ) (bytes : List ℕ)
    (others : List ℕ → Result (List A × List ℕ) Cause) → HasLength read n → suc count * n ≤ length bytes
    → ((rest : List ℕ) → count * n ≤ length rest → (x : List A × List ℕ) × (others rest ≡ Ok x))
    → (x : List A × List ℕ) × (listed others (read bytes) ≡ Ok x)
one-more read n count bytes others h fits more =
    let x = h.enough bytes (omega (arith, suc-mul count n)) in
    let moved : length bytes ≡ n + length x.0.1 = h.moves bytes x.0.0 x.0.1 x.1 in
    let left : count * n ≤ length x.0.1 = omega (arith, suc-mul count n) in
    let y = more x.0.1 left in
    ((x.0.0 ∷ y.0.0, y.0.1), rw (x.1, y.1) refl)

-- a list that doesn't pass the end is read
pub list-enough : {A : Type 0} (read : Reader A) (n : ℕ) → HasLength read n → (count : ℕ) (bytes : List ℕ)
    → count * n ≤ length bytes → (x : List A × List ℕ) × (list_at read count bytes ≡ Ok x)
unfolding list_at
list-enough read n h zero bytes fits = (([], bytes), refl)
list-enough read n h (suc count) bytes fits =
    one-more read n count bytes (list_at read count) h fits (λ rest fewer. list-enough read n h count rest fewer)

-- a list that has no such refusal is read
pub count_cause-enough : {A : Type 0} (read : Reader A) (n : ℕ) → HasLength read n → (count : ℕ) (bytes : List ℕ)
    → count_cause count n bytes ≡ None → (x : List A × List ℕ) × (list_at read count bytes ≡ Ok x)
count_cause-enough read n h count bytes e =
    chosen (ltb (length bytes) (count * n)) (ltb-false (length bytes) (count * n)) e
  where
    chosen : (b : Bool) → (b ≡ false → count * n ≤ length bytes) → cond b (Some invalid_data) None ≡ None
        → (x : List _ × List ℕ) × (list_at read count bytes ≡ Ok x)
    chosen true fits e = absurd cc
    chosen false fits e = list-enough read n h count bytes (fits refl)

-- a list that does not pass the end has no such refusal
pub count_cause-none : (count n : ℕ) (bytes : List ℕ) → count * n ≤ length bytes → count_cause count n bytes ≡ None
count_cause-none count n bytes h = rw (le-ltb _ _ h) refl

pub count_cause-short : (count n : ℕ) (bytes : List ℕ) → length bytes < count * n
    → count_cause count n bytes ≡ Some invalid_data
count_cause-short count n bytes h = rw (lt-ltb _ _ h) refl

pub nothing_then : (xs : List ℕ) → [] ⧺ xs ≡ xs
unfolding ◌⧺◌
nothing_then xs = refl
