-- Numbers that have fewer bits than their type.
use Rattle.std.specs.Prelude.{ℕ, Option, Some, None, nat_lt, if◌then◌else◌}
use Rattle.mp4_codec.specs.Cause.{Cause, unrepresentable}

-- a number past the greatest that its bits encode is not written
abbrev pub past : ℕ → ℕ → Option Cause
past most n = if nat_lt most n then Some unrepresentable else None
