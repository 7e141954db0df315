-- Numbers of bytes.
use Rattle.std.proofs.Common.{◌≡◌, ℕ, ◌+◌, ◌-◌, ◌*◌, ◌^◌, ◌<◌, ◌≤◌, List, length, take}
use Rattle.std.proofs.Common.{get_or, arith, add-one}
use Rattle.std.specs.Prelude.{pos, negsuc, ◌-ℤ◌}
use Rattle.std.proofs.lemmas.Int.{ints}
use Rattle.std.proofs.Math.Nat.{pow-le-pow_right, pow-succ'}
use Rattle.std.proofs.lemmas.List.Sums.{fold_more}
use Rattle.mp4_report.specs.TagValues.{big_endian}

-- a byte more
pub next_number : (bytes : List ℕ) (i : ℕ) → i < length bytes
    → big_endian (take (i + 1) bytes) ≡ big_endian (take i bytes) * 256 + get_or bytes i 0
next_number bytes i lt = fold_more (λ above byte. above * 256 + byte) 0 bytes i 0 lt

-- what so many bytes say
pub next_power : (i : ℕ) → 256 ^ (i + 1) ≡ 256 ^ i * 256
next_power i = rw (add-one, pow-succ' 256 i) (omega arith)

-- seven bytes say less than 2 ^ 56
pub small_power : (i : ℕ) → i < 8 → 256 ^ i ≤ 2 ^ 56
small_power i few = let most : i ≤ 7 = omega (arith, few) in pow-le-pow_right {n = 256} (omega arith) most

-- and eight less than 2 ^ 64
pub most_power : (i : ℕ) → i ≤ 8 → 256 ^ i ≤ 2 ^ 64
most_power i few = pow-le-pow_right {n = 256} (omega arith) few

-- a number below 0
pub below_zero : (number numbers : ℕ) → number < numbers
    → negsuc 0 -ℤ pos (numbers - 1 - number) ≡ pos number -ℤ pos numbers
below_zero number numbers less = omega (arith, ints)

pub ruleset number_steps = (next_number, next_power, small_power)

pub ruleset signed_steps = (most_power, below_zero)
