-- Times that are written as decimal numbers of seconds.
use Rattle.std.specs.Prelude.{ℕ, ◌+◌, ◌-◌, ◌*◌, ◌/◌, ◌^◌, List, [], ◌∷◌, length, min}
use Rattle.mp4_readable.specs.declared.decimal_time.DecimalTime.{DecimalTime}

-- the digit of a character, which is one
abbrev pub digit_of : ℕ → ℕ
digit_of character = min 9 (character - 48)

-- the number that decimal digits say, the highest first
unfoldable pub number_of : List ℕ → ℕ
number_of [] = 0
number_of (digit ∷ digits) = digit_of digit * 10 ^ length digits + number_of digits

-- how many ticks the decimals of a second are, of which a second has so many, rounded down
unfoldable pub decimal_ticks : List ℕ → ℕ → ℕ
decimal_ticks digits timescale = number_of digits * timescale / 10 ^ length digits

-- how many ticks a time is, of which a second has so many, rounded down; 64 bits hold them
abbrev pub ticks_of : DecimalTime → ℕ → ℕ
ticks_of time timescale = min (time.seconds * timescale + decimal_ticks time.decimals.now timescale) (2 ^ 64 - 1)
