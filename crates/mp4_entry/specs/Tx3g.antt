-- The sample entry of timed text (3GPP TS 26.245, 5.16).
use Rattle.std.specs.Prelude.{◌≡◌, ℕ, ◌^◌, ◌<◌, List, [], ◌∷◌, length, Result, Ok}
use Rattle.mp4_codec.specs.Cause.{Cause, ◌>>=◌}
use Rattle.mp4_codec.specs.Bytes.{number_at, bytes_at, number, zeros, ◌⧺◌}
use Rattle.mp4_codec.specs.Boxes.{IsCanonical, no_refusal}
use Rattle.mp4_entry.specs.declared.tx3g.Tx3gBox.{Tx3gBox}

-- the entry that a payload holds; what follows is skipped
unfoldable pub tx3g_of : List ℕ → Result Tx3gBox Cause
tx3g_of payload = do
  reserved ← bytes_at 6 payload
  data_reference_index ← number_at 2 reserved.1
  raw ← bytes_at 30 data_reference_index.1
  Ok (record { data_reference_index = data_reference_index.0; raw = raw.0 })

-- the payload that holds an entry
unfoldable pub tx3g_payload : Tx3gBox → List ℕ
tx3g_payload b = zeros 6 ⧺ number 2 b.data_reference_index ⧺ b.raw

-- each number is within its type
pub record IsInRangeTx3g (b : Tx3gBox) : Type 0 where
  pub data_reference_index : b.data_reference_index < 2 ^ 16
  pub raw : length b.raw ≡ 30

-- each value is written as it is
abbrev pub IsWellFormedTx3g : Tx3gBox → Type 0
IsWellFormedTx3g b = Unit {0}

-- an entry that is written and reads back equal
abbrev pub IsCanonicalTx3g : Tx3gBox → Type 0
IsCanonicalTx3g = IsCanonical IsInRangeTx3g IsWellFormedTx3g tx3g_payload no_refusal

-- text in the middle of the bottom over opaque black, a text box of nothing, white text in font 1 of size 16
abbrev pub default_style : List ℕ
default_style = 0 ∷ 0 ∷ 0 ∷ 0 ∷ 0x01 ∷ 0xff ∷ 0 ∷ 0 ∷ 0 ∷ 0xff ∷ 0 ∷ 0 ∷ 0 ∷ 0 ∷ 0 ∷ 0 ∷ 0 ∷ 0
    ∷ 0 ∷ 0 ∷ 0 ∷ 0 ∷ 0 ∷ 1 ∷ 0 ∷ 16 ∷ 0xff ∷ 0xff ∷ 0xff ∷ 0xff ∷ []

-- the entry of the first data reference
abbrev pub default_tx3g : Tx3gBox
default_tx3g = record { data_reference_index = 1; raw = default_style }

-- the bytes of each entry, its header included
abbrev pub tx3g_length : ℕ
tx3g_length = 46
