-- The value of decimal digits, with one digit more.
use Rattle.std.proofs.Common.{◌≡◌, ℕ, ◌+◌, ◌-◌, ◌*◌, ◌^◌, ◌<◌, Bool, true, false, ◌&&◌, List, [], ◌∷◌, ◌++◌, length}
use Rattle.std.proofs.Common.{take, get_or, refl, ap, ◌∙◌, arith, length-append, zero, suc}
use Rattle.std.proofs.lemmas.List.{take_more}
use Rattle.std.proofs.lemmas.Nat.{pow-add}
use Rattle.std.proofs.lemmas.Str.Parse.{tells_all_ascii_digits}
use Rattle.std.specs.Char.{is_ascii_digit}
use Rattle.std.specs.Str.{all_ascii_digits}
use Rattle.mp4_media.specs.Metadata.{decimal_value}

one_digit_more : (xs : List ℕ) (c : ℕ) → decimal_value (xs ++ c ∷ []) ≡ decimal_value xs * 10 + (c - 48)
one_digit_more [] c = omega arith
one_digit_more (x ∷ xs) c =
    let power : 10 ^ length (xs ++ c ∷ []) ≡ 10 ^ length xs * 10 = ap (λ n. 10 ^ n) (length-append xs (c ∷ []))
    ∙ pow-add 10 (length xs) 1 in
    let product : (x - 48) * (10 ^ length xs * 10) ≡ (x - 48) * 10 ^ length xs * 10 = grind arith in
    let rest = one_digit_more xs c in
    rw (power, rest, product) (omega arith)

and_true : (b : Bool) → (b && true) ≡ b
and_true true = refl
and_true false = refl

and_and : (a b c : Bool) → (a && (b && c)) ≡ (a && b && c)
and_and true b c = refl
and_and false b c = refl

digits_more : (xs : List ℕ) (c : ℕ) → all_ascii_digits (xs ++ c ∷ []) ≡ (all_ascii_digits xs && is_ascii_digit c)
digits_more [] c = and_true (is_ascii_digit c)
digits_more (x ∷ xs) c = ap (λ b. is_ascii_digit x && b) (digits_more xs c)
    ∙ and_and (is_ascii_digit x) (all_ascii_digits xs) (is_ascii_digit c)

and_false : (b : Bool) → (b && false) ≡ false
and_false true = refl
and_false false = refl

-- a digit's value is below 10
pub digit_small : (c : ℕ) → is_ascii_digit c ≡ true → c - 48 < 10
digit_small c digit =
    let parts = tells_all_ascii_digits.parts c [] (and_true (is_ascii_digit c) ∙ digit) in omega (arith, parts.0.1)

-- with one place more ten times as many values fit
pub ten_times : (i : ℕ) → 10 ^ (i + 1) ≡ 10 ^ i * 10
ten_times i = pow-add 10 i 1

-- with the digit at place i
pub value_more : (xs : List ℕ) (i : ℕ) → i < length xs
    → decimal_value (take (i + 1) xs) ≡ decimal_value (take i xs) * 10 + (get_or xs i 0 - 48)
value_more xs i h = ap decimal_value (take_more xs i 0 h) ∙ one_digit_more (take i xs) (get_or xs i 0)

pub are_digits_more : (xs : List ℕ) (i : ℕ) → i < length xs → all_ascii_digits (take i xs) ≡ true
    → is_ascii_digit (get_or xs i 0) ≡ true → all_ascii_digits (take (i + 1) xs) ≡ true
are_digits_more xs i h before digit =
    ap all_ascii_digits (take_more xs i 0 h) ∙ digits_more (take i xs) (get_or xs i 0) ∙ rw (before, digit) refl

pub no_digit : (xs : List ℕ) (i : ℕ) → i < length xs → is_ascii_digit (get_or xs i 0) ≡ false
    → all_ascii_digits xs ≡ false
no_digit [] i h fails = elim h [ ]
no_digit (x ∷ xs) zero h fails = rw (fails) refl
no_digit (x ∷ xs) (suc i) h fails = rw (no_digit xs i (omega (arith, h)) fails) (and_false (is_ascii_digit x))
