-- Fields that are there where a flag is set (ISO/IEC 14496-12, 8.8.7 and 8.8.8).
use Rattle.std.specs.Prelude.{ℕ, Bool, List, [], Option, Some, None, Ok, not, ◌==◌, if◌then◌else◌}
use Rattle.std.specs.Int.Bits.{bit_and}
use Rattle.mp4_codec.specs.Cause.{Cause, invalid_data, ◌>>=◌}
use Rattle.mp4_codec.specs.Bytes.{Reader}

-- whether a flag, a number of one bit, is set
unfoldable pub is_set : ℕ → ℕ → Bool
is_set flags flag = not (bit_and flags flag == 0)

-- a field that is there where its flag is set
unfoldable pub optional_at : {A : Type 0} → Reader A → ℕ → ℕ → Reader (Option A)
optional_at read flag flags bytes =
    if is_set flags flag then (read bytes >>= λ x. Ok (Some x.0, x.1)) else Ok (None, bytes)

-- a field where it is there, else nothing
unfoldable pub optional_field : {A : Type 0} → (A → List ℕ) → Option A → List ℕ
optional_field write None = []
optional_field write (Some x) = write x

-- a field is written just where its flag is set
unfoldable pub flag_refusal : {A : Type 0} → ℕ → ℕ → Option A → Option Cause
flag_refusal flag flags None = if is_set flags flag then Some invalid_data else None
flag_refusal flag flags (Some x) = if is_set flags flag then None else Some invalid_data
