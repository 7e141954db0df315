-- Places and times: numbers of 64 bits, or None where they are overflowed.
use Rattle.std.specs.Prelude.{ℕ, zero, suc, ℤ, pos, negsuc, ◌+ℤ◌, ◌+◌, ◌^◌, List, get_or, Option, Some, None, nat_lt}
use Rattle.std.specs.Prelude.{if◌then◌else◌}

-- a number below 0 or past 64 bits is overflowed
abbrev pub whole : ℤ → Option ℕ
whole (pos n) = if nat_lt n (2 ^ 64) then Some n else None
whole (negsuc n) = None

-- so far on; what depends on something overflowed is overflowed
abbrev pub plus : Option ℕ → ℕ → Option ℕ
plus None n = None
plus (Some m) n = whole (pos (m + n))

-- so far on or back
abbrev pub moved : Option ℕ → ℤ → Option ℕ
moved None z = None
moved (Some m) z = whole (pos m +ℤ z)

-- the sum of the first n values: those that are listed, then as many defaults
unfoldable pub sum_of_first : ℕ → List ℕ → ℕ → ℕ
sum_of_first zero values default = 0
sum_of_first (suc n) values default = sum_of_first n values default + get_or values n default
