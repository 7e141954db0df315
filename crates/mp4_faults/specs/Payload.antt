-- The payload of a box, as it is.
use Rattle.std.specs.Prelude.{ℕ, List, Result, Ok}
use Rattle.mp4_codec.specs.Cause.{Cause}
use Rattle.mp4_faults.specs.declared.top_level.Payload.{Payload}

-- any payload is its own value
abbrev pub whole_payload : List ℕ → Result Payload Cause
whole_payload payload = Ok (record { bytes = payload })
