-- The units of fixed-point numbers, and numbers in two's complement.
use Rattle.std.proofs.Common.{◌≡◌, ℕ, ◌<◌, ◌^◌, arith, w16, w32, w64}
use Rattle.std.specs.Float.{binary64, two_to}
use Rattle.std.specs.Float.Ieee.{of_bits}
use Rattle.std.specs.Int.{cast_signed}
use Rattle.std.proofs.lemmas.Int.{ints}
use Rattle.mp4_fields.specs.Numbers.{twos_complement}

-- 256, 65536 and 2 ^ 30
pub unit_8 : (b : ℕ) → b ≡ 0x4070_0000_0000_0000 → of_bits binary64 b ≡ two_to 8
unfolding of_bits
unit_8 b is = rw is

pub unit_16 : (b : ℕ) → b ≡ 0x40f0_0000_0000_0000 → of_bits binary64 b ≡ two_to 16
unfolding of_bits
unit_16 b is = rw is

pub unit_30 : (b : ℕ) → b ≡ 0x41d0_0000_0000_0000 → of_bits binary64 b ≡ two_to 30
unfolding of_bits
unit_30 b is = rw is

pub ruleset units = (unit_8, unit_16, unit_30)

pub cast_16 : (n : ℕ) → n < 2 ^ 16 → cast_signed w16 n ≡ twos_complement 16 n
cast_16 n small = grind (arith, ints)

pub cast_32 : (n : ℕ) → n < 2 ^ 32 → cast_signed w32 n ≡ twos_complement 32 n
cast_32 n small = grind (arith, ints)

pub cast_64 : (n : ℕ) → n < 2 ^ 64 → cast_signed w64 n ≡ twos_complement 64 n
cast_64 n small = grind (arith, ints)

pub ruleset casts = (cast_16, cast_32, cast_64)
