-- Times in ticks, of which a timescale says how many a second has (ISO/IEC 14496-12, 8.2.2 and 8.4.2).
use Rattle.std.specs.Prelude.{ℕ, ◌-◌, ◌^◌, ◌*◌, ◌/◌, Result, Ok, Err, nat_lt, ◌==◌, if◌then◌else◌}
use Rattle.mp4_codec.specs.declared.error.Limit.TheVariants.{Value}
use Rattle.mp4_codec.specs.Cause.{Cause, zero_timescale, too_large}

-- so many ticks in parts of a second, rounded down: no time is known without ticks in a second, nor where it passes
-- 64 bits
unfoldable pub time_of : ℕ → ℕ → ℕ → Result ℕ Cause
time_of parts ticks timescale =
    if timescale == 0 then Err zero_timescale else
    if nat_lt (2 ^ 64 - 1) (ticks * parts / timescale) then Err (too_large Value) else
    Ok (ticks * parts / timescale)
