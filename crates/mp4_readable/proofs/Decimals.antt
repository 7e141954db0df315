-- The ticks of decimals, with one digit more in front.
use Rattle.std.proofs.Common.{◌≡◌, ℕ, ◌+◌, ◌-◌, ◌*◌, ◌/◌, ◌^◌, ◌<◌, ◌≤◌, List, [], ◌∷◌, length, drop, get_or}
use Rattle.std.proofs.Common.{sym, ap, ap₂, ◌∙◌, arith, drop-cons, suc, zero}
use Rattle.std.proofs.Math.Nat.{div-div-eq-div-mul, mul-add-div_right, pow-succ'}
use Rattle.std.proofs.Math.Seq.{drop-length}
use Rattle.mp4_readable.specs.DecimalTime.{decimal_ticks, digit_of, number_of}

-- a power of ten is above 0
power_pos : (n : ℕ) → 0 < 10 ^ n
power_pos zero = omega arith
power_pos (suc n) = let before = power_pos n in rw (pow-succ' 10 n) (omega (arith, before))

-- with one digit more in front
pub one_more : (d : ℕ) (ds : List ℕ) (t : ℕ) → (digit_of d * t + decimal_ticks ds t) / 10 ≡ decimal_ticks (d ∷ ds) t
unfolding decimal_ticks number_of
one_more d ds t =
    let power = 10 ^ length ds in
    let together : digit_of d * t * power + number_of ds * t ≡ (digit_of d * power + number_of ds) * t = grind arith in
    let turned : power * 10 ≡ 10 * power = omega arith in
    let longer : power * 10 ≡ 10 ^ length (d ∷ ds) = turned ∙ sym (pow-succ' 10 (length ds)) in
    ap (λ n. n / 10) (sym (mul-add-div_right (power_pos (length ds)) (digit_of d * t) (number_of ds * t)))
    ∙ div-div-eq-div-mul (digit_of d * t * power + number_of ds * t) power 10
    ∙ ap₂ (λ n m. n / m) together longer

-- the ticks of no digit
pub none : (digits : List ℕ) (t : ℕ) → 0 ≡ decimal_ticks (drop (length digits - 0) digits) t
unfolding decimal_ticks number_of
none digits t =
    let all : length digits - 0 ≡ length digits = omega arith in rw (all, drop-length digits) (omega arith)

-- the ticks of the digits from a place on, by those of the digits after it
pub from_place : (digits : List ℕ) (i t ticks : ℕ) → i < length digits
    → ticks ≡ decimal_ticks (drop (length digits - i) digits) t
    → (digit_of (get_or digits (length digits - 1 - i) 0) * t + ticks) / 10
    ≡ decimal_ticks (drop (length digits - (i + 1)) digits) t
from_place digits i t ticks lt so_far =
    let j = length digits - 1 - i in
    let after : length digits - i ≡ suc j = omega (arith, lt) in
    let here : length digits - (i + 1) ≡ j = omega arith in
    let cons = drop-cons digits j 0 (omega (arith, lt)) in
    ap (λ n. (digit_of (get_or digits j 0) * t + n) / 10) (so_far ∙ ap (λ n. decimal_ticks (drop n digits) t) after)
    ∙ one_more (get_or digits j 0) (drop (suc j) digits) t
    ∙ ap (λ ds. decimal_ticks ds t) (sym cons ∙ ap (λ n. drop n digits) (sym here))

-- ten times as many ticks as a second has are enough for a digit and the digits after it
pub product_small : (digit t : ℕ) → digit ≤ 9 → digit * t ≤ 9 * t
product_small digit t le = grind (arith, le)
