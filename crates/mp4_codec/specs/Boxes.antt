-- What a box's bytes are, and what it means to read and to write one.
use Rattle.std.specs.Prelude.{◌≡◌, [], ◌∷◌, ℕ, ◌+◌, ◌-◌, ◌^◌, ◌++◌, List, length, min, Option, Some, None}
use Rattle.std.specs.Prelude.{Result, Ok, Err, nat_lt, ◌==◌, if◌then◌else◌}
use Rattle.std.specs.List.{flat_map}
use Rattle.mp4_codec.specs.declared.box_type.BoxType.{BoxType}
use Rattle.mp4_codec.specs.declared.header.BoxHeader.{BoxHeader}
use Rattle.mp4_codec.specs.declared.error.Error.{Error}
use Rattle.mp4_codec.specs.declared.error.Limit.TheVariants.{BoxSize}
use Rattle.mp4_codec.specs.BoxType.{code_of}
use Rattle.mp4_codec.specs.Cause.{Cause, invalid_data, too_large, ◌>>=◌, ◌or◌}
use Rattle.mp4_codec.specs.Cursor.{Cursor, take_at}
use Rattle.mp4_codec.specs.Bytes.{number, ◌⧺◌}

-- the length of the box around a payload; it stops at 2^64 - 1
abbrev pub size_around : List ℕ → ℕ
size_around payload = min (8 + length payload) (2 ^ 64 - 1)

-- a payload after a header of 8 bytes
unfoldable pub box_bytes : BoxType → List ℕ → List ℕ
box_bytes name payload = number 4 (8 + length payload) ⧺ number 4 (code_of name) ⧺ payload

-- the payload of a box of this size after the place, and the place after the box
abbrev pub payload_at : ℕ → Cursor → Result (List ℕ × Cursor) Cause
payload_at size cursor = if nat_lt size 8 then Err invalid_data else take_at (size - 8) cursor

-- the box of this size after the place, by what its payload means, and the place after it
abbrev pub box_at : {A : Type 0} → (List ℕ → Result A Cause) → ℕ → Cursor → Result (A × Cursor) Cause
box_at value size cursor = do
  part ← payload_at size cursor
  x ← value part.0
  Ok (x, part.1)

-- a box that passes 32 bits is not written
abbrev pub size_cause : List ℕ → Option Cause
size_cause payload = if nat_lt (2 ^ 32 - 1) (size_around payload) then Some (too_large BoxSize) else None

-- why the box around a payload is not written: its size, and then what refuses its value
abbrev pub write_cause : List ℕ → Option Cause → Option Cause
write_cause payload refusal = size_cause payload or refusal

-- why a header of this size is not written: 0 stands for an open end, and any other size is at least 8 and within 32
-- bits
abbrev pub header_cause : ℕ → Option Cause
header_cause size =
    if size == 0 then None else
    if nat_lt size 8 then Some invalid_data else
    if nat_lt (2 ^ 32 - 1) size then Some (too_large BoxSize) else
    None

-- the eight bytes of a header
abbrev pub header_encoding : BoxHeader → List ℕ
header_encoding h = number 4 h.size ⧺ number 4 (code_of h.name)

-- A call adds these bytes at the end of a buffer and answers how many; a refused call leaves the buffer.
abbrev pub Writes : List ℕ → List ℕ → Result ℕ Error → List ℕ → Type 0
Writes old new (Ok n) bytes = (new ≡ old ++ bytes) × (n ≡ length bytes)
Writes old new (Err e) bytes = new ≡ old

-- A canonical value: its numbers are within their types, it is well-formed, and it is written.
pub record IsCanonical {B : Type 0} (IsInRange IsWellFormed : B → Type 0) (payload : B → List ℕ)
    (refusal : B → Option Cause) (b : B) : Type 0 where
  pub in_range : IsInRange b
  pub well_formed : IsWellFormed b
  pub written : write_cause (payload b) (refusal b) ≡ None

-- each value is written, but for its size
abbrev pub no_refusal : {B : Type 0} → B → Option Cause
no_refusal b = None

-- the box of a child that may be missing
abbrev pub optional : {B : Type 0} → BoxType → (B → List ℕ) → Option B → List ℕ
optional name payload None = []
optional name payload (Some b) = box_bytes name (payload b)

abbrev pub optional_refusal : {B : Type 0} → (B → Option Cause) → Option B → Option Cause
optional_refusal refusal None = None
optional_refusal refusal (Some b) = refusal b

-- the boxes of a list of children, one after the other
abbrev pub all_box_bytes : {B : Type 0} → BoxType → (B → List ℕ) → List B → List ℕ
all_box_bytes name payload bs = flat_map (λ b. box_bytes name (payload b)) bs

-- the first refusal of a list of children
abbrev pub all_refusal : {B : Type 0} → (B → Option Cause) → List B → Option Cause
all_refusal refusal [] = None
all_refusal refusal (b ∷ bs) = refusal b or all_refusal refusal bs
