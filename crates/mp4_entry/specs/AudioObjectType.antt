-- The types of coded sound, by their numbers (ISO/IEC 14496-3, 1.5.1).
use Rattle.std.specs.Prelude.{◌≤◌, ◌≢◌, ℕ, Result, Ok, Err, nat_lt, ◌==◌, if◌then◌else◌}
use Rattle.mp4_codec.specs.Cause.{Cause, invalid_data}

-- the numbers of types; 31 is the escape for those above it
pub record IsObjectType (n : ℕ) : Type 0 where
  pub first : 1 ≤ n
  pub last : n ≤ 95
  pub no_escape : n ≢ 31

-- the type with this number
abbrev pub object_type_of : ℕ → Result ℕ Cause
object_type_of n =
    if n == 0 then Err invalid_data else
    if n == 31 then Err invalid_data else
    if nat_lt 95 n then Err invalid_data else
    Ok n
