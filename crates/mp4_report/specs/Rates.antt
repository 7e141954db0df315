-- How many there are in a second. Times are in ticks, of which a timescale says how many a second has
-- (ISO/IEC 14496-12, 8.4.2).
use Rattle.std.specs.Prelude.{ℕ, ◌+◌, ◌-◌, ◌*◌, ◌/◌, ◌^◌, ◌==◌, nat_lt, if◌then◌else◌, Option, Some, None}

-- a number, if it is within 64 bits
abbrev pub within_64_bits : ℕ → Option ℕ
within_64_bits number = if nat_lt (2 ^ 64 - 1) number then None else Some number

-- so many of something in a second, where they are spread over these ticks, rounded down: none is known without ticks
unfoldable pub rate_of : ℕ → ℕ → ℕ → Option ℕ
rate_of number ticks timescale = if ticks == 0 then None else within_64_bits (number * timescale / ticks)

-- the same in thousandths, to the nearest, and halves up
unfoldable pub thousandths_rate_of : ℕ → ℕ → ℕ → Option ℕ
thousandths_rate_of number ticks timescale =
    if ticks == 0 then None else within_64_bits ((number * 2000 * timescale + ticks) / (2 * ticks))

-- how many milliseconds each of so many times lasts that are so many ticks together, to the nearest, and
-- halves up: none is known where there are none, or without ticks in a second
unfoldable pub milliseconds_each : ℕ → ℕ → ℕ → Option ℕ
milliseconds_each ticks times timescale =
    if times * timescale == 0 then None else
    within_64_bits ((ticks * 2000 + times * timescale) / (2 * (times * timescale)))
