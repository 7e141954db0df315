-- Samples of video as a byte stream: ISO/IEC 14496-15, 5.3.4.2 and 8.3.4.2 say how a sample holds its units, and
-- Annex B of ISO/IEC 14496-10 and of 23008-2 how a byte stream does.
use Rattle.std.specs.Prelude.{◌≡◌, ℕ, ◌<◌, ◌==◌, Bool, true, false, not, ◌&&◌, if◌then◌else◌, List, [], ◌∷◌, ◌++◌}
use Rattle.std.specs.Prelude.{◌+◌, ◌%◌, nat_le, nat_lt, length, map, Ok, Err}
use Rattle.std.specs.List.{filter}
use Rattle.mp4_codec.specs.Bytes.{Reader, number_at, bytes_at}
use Rattle.mp4_codec.specs.declared.error.Error.{Error}
use Rattle.mp4_codec.specs.Cause.{invalid_data, cause_of, ◌>>=◌}
use Rattle.mp4_entry.specs.declared.avcc.NalUnit.{NalUnit}
use Rattle.mp4_extract.specs.declared.coding.VideoCoding.{VideoCoding}
use Rattle.mp4_extract.specs.declared.annex_b.AnnexB.{AnnexB}
use Rattle.mp4_extract.specs.NalUnits.{kinds_before, kinds_below, kinds_with, needs_zero_byte}

-- the next unit of a sample: its length, a number of n bytes, and as many bytes
unfoldable pub unit_at : ℕ → Reader (List ℕ)
unit_at n bytes = do
  size ← number_at n bytes
  bytes_at size.0 size.1

-- these units, each after its length, are what the bytes hold before the rest
abbrev pub HoldUnits : ℕ → List (List ℕ) → List ℕ → List ℕ → Type 0
HoldUnits n [] bytes rest = bytes ≡ rest
HoldUnits n (u ∷ us) bytes rest = (next : List ℕ) × (unit_at n bytes ≡ Ok (u, next)) × HoldUnits n us next rest

-- a sample holds whole units and then bytes that aren't: the next length passes the sample's end
abbrev pub IsCut : ℕ → List ℕ → Type 0
IsCut n sample =
    (units : List (List ℕ)) × (rest : List ℕ) × (HoldUnits n units sample rest) × (0 < length rest)
    × (unit_at n rest ≡ Err invalid_data)

-- for this error has a sample no byte stream: it is cut
abbrev pub RefusesStream : ℕ → List ℕ → Error → Type 0
RefusesStream n sample e = (cause_of e ≡ invalid_data) × (IsCut n sample)

-- the start code of a unit
abbrev pub start_code : Bool → List ℕ
start_code true = 0 ∷ 0 ∷ 0 ∷ 1 ∷ []
start_code false = 0 ∷ 0 ∷ 1 ∷ []

-- a unit after its start code
unfoldable pub coded_unit : VideoCoding → Bool → List ℕ → List ℕ
coded_unit coding is_first unit = start_code (needs_zero_byte coding is_first unit) ++ unit

-- units, each after its start code
unfoldable pub byte_stream : VideoCoding → Bool → List (List ℕ) → List ℕ
byte_stream coding is_first [] = []
byte_stream coding is_first (u ∷ us) = coded_unit coding is_first u ++ byte_stream coding false us

-- whether there is no unit
abbrev pub is_none : List (List ℕ) → Bool
is_none [] = true
is_none (u ∷ us) = false

-- a unit, or none
abbrev pub units_if : Bool → List ℕ → List (List ℕ)
units_if true unit = unit ∷ []
units_if false unit = []

-- a parameter set is of one of the kinds from a number on and before another
abbrev pub is_between : VideoCoding → ℕ → ℕ → List ℕ → Bool
is_between coding from end unit = nat_le from (kinds_below coding unit) && nat_lt (kinds_below coding unit) end

-- the parameter sets of these kinds
unfoldable pub sets_between : VideoCoding → ℕ → ℕ → List (List ℕ) → List (List ℕ)
sets_between coding from end sets = filter (is_between coding from end) sets

-- how many kinds of parameter sets are there after a unit, when so many were before it
abbrev pub kinds_after : VideoCoding → ℕ → List ℕ → ℕ
kinds_after coding kinds unit = if nat_lt kinds (kinds_with coding unit) then kinds_with coding unit else kinds

-- what is written for a unit: before it the parameter sets that it needs of the kinds that aren't there
abbrev pub next_units : VideoCoding → List (List ℕ) → ℕ → List ℕ → List (List ℕ)
next_units coding sets kinds unit = sets_between coding kinds (kinds_before coding unit) sets ++ unit ∷ []

-- Units with the parameter sets that a decoder lacks which begins with them, where so many kinds are there: before the
-- first unit at which decoding can begin, those of each kind of which none is before it; and before a parameter set,
-- those of each kind that it refers to, as a picture parameter set to one of sequences.
unfoldable pub with_sets : VideoCoding → List (List ℕ) → ℕ → List (List ℕ) → List (List ℕ)
with_sets coding sets kinds [] = []
with_sets coding sets kinds (u ∷ us) =
    sets_between coding kinds (kinds_before coding u) sets ++ u ∷ with_sets coding sets (kinds_after coding kinds u) us

-- how many bytes the length before each unit has
abbrev pub length_size : AnnexB → ℕ
length_size stream = stream.length_size_minus_one % 4 + 1

-- whether a unit has bytes
abbrev pub has_bytes : List ℕ → Bool
has_bytes unit = not (length unit == 0)

-- a sample begins with whole units, the last of which has bytes
abbrev pub HasUnit : ℕ → List ℕ → Type 0
HasUnit n sample =
    (units : List (List ℕ)) × (rest : List ℕ) × (HoldUnits n units sample rest)
    × (unit : List ℕ) × (after : List ℕ) × (unit_at n rest ≡ Ok (unit, after)) × (has_bytes unit ≡ true)

-- the parameter sets of a track, as units
abbrev pub sets_of : AnnexB → List (List ℕ)
sets_of stream = map (λ (u : NalUnit). u.bytes) stream.parameter_sets

-- the byte stream of a sample with these units; those without a byte are left out
unfoldable pub stream_of : AnnexB → List (List ℕ) → List ℕ
stream_of stream units =
    byte_stream stream.coding true (with_sets stream.coding (sets_of stream) 0 (filter has_bytes units))

-- these bytes are the byte stream of a sample
abbrev pub IsStreamOf : AnnexB → List ℕ → List ℕ → Type 0
IsStreamOf stream sample bytes =
    (units : List (List ℕ)) × (HoldUnits (length_size stream) units sample []) × (bytes ≡ stream_of stream units)
