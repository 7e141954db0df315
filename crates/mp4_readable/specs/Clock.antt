-- What a clock shows.
use Rattle.std.specs.Prelude.{◌≡◌, ◌<◌, ◌≤◌, ℕ, ◌+◌, ◌-◌, ◌*◌, ◌/◌, ◌^◌}
use Rattle.mp4_readable.specs.declared.clock.Reading.{Reading}
use Rattle.mp4_readable.specs.declared.fraction.Fraction.{Fraction}

-- so many whole ones and parts are a number of parts, of which a whole one has so many
pub record IsFraction (f : Fraction) (number unit : ℕ) : Type 0 where
  pub sum : f.whole * unit + f.parts ≡ number
  pub parts : f.parts < unit

-- a clock shows this of a time in parts of a second, of which a second has so many: hours, minutes, seconds
-- and parts that add up to it, and a minute or more is in the hours and minutes above
pub record IsReading (r : Reading) (time second : ℕ) : Type 0 where
  pub sum : ((r.hours * 60 + r.minutes) * 60 + r.seconds) * second + r.parts ≡ time
  pub minutes : r.minutes < 60
  pub seconds : r.seconds < 60
  pub parts : r.parts < second

-- so many ticks in parts of a second, of which a second has so many, rounded up
abbrev pub parts_up : ℕ → ℕ → ℕ → ℕ
parts_up ticks timescale second = (ticks * second + (timescale - 1)) / timescale

-- as many decimals as tell two ticks apart, of which a second has so many: three at least, and else no more than do
pub record AreDecimals (timescale decimals : ℕ) : Type 0 where
  pub least : 3 ≤ decimals
  pub apart : timescale ≤ 10 ^ decimals
  pub fewest : 3 < decimals → 10 ^ (decimals - 1) < timescale
