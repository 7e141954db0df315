-- How many binary digits a number has.
use Rattle.std.proofs.Common.{◌≡◌, ℕ, zero, suc, ◌+◌, ◌*◌, ◌/◌, ◌^◌, ◌<◌, ◌≤◌, arith}
use Rattle.std.proofs.lemmas.Int.Digits.{length-digits_of_step, length-digits_of-le}
use Rattle.mp4_search.specs.Digits.{digits}

pub digits_step : (n : ℕ) → 0 < n → digits n ≡ digits (n / 2) + 1
unfolding digits
digits_step n h = length-digits_of_step 2 n (omega arith) h

pub digits_64 : (n : ℕ) → n < 2 ^ 64 → digits n ≤ 64
unfolding digits
digits_64 n h = length-digits_of-le 2 64 n (omega arith) h

-- a larger number has at least as many, for numbers up to f
grows : (f m n : ℕ) → m ≤ n → n ≤ f → digits m ≤ digits n
unfolding digits
grows zero m n h k = let e : m ≡ n = omega arith in rw e (omega arith)
grows (suc f) zero n h k = omega arith
grows (suc f) (suc m) n h k =
    omega (
      arith,
      length-digits_of_step 2 (suc m) (omega arith) (omega arith),
      length-digits_of_step 2 n (omega arith) (omega arith),
      grows f (suc m / 2) (n / 2) (omega arith) (omega arith),
    )

pub digits_grow : (m n : ℕ) → m ≤ n → digits m ≤ digits n
digits_grow m n h = grows n m n h (omega arith)

-- half as much has one digit less
pub digits_half : (m n : ℕ) → 0 < n → m ≤ n / 2 → digits m + 1 ≤ digits n
digits_half m n h k = omega (arith, digits_step n h, digits_grow m (n / 2) k)

-- what lies between a power of 2 and the next has one digit more than its exponent
pub digits_from_power : (r n : ℕ) → 2 ^ r ≤ n → n < 2 * 2 ^ r → digits n ≡ r + 1
unfolding digits
digits_from_power zero n h k = let e : n ≡ 1 = omega arith in rw e (digits_step 1 (omega arith))
digits_from_power (suc r) n h k =
    omega (arith, digits_step n (omega arith), digits_from_power r (n / 2) (omega arith) (omega arith))
