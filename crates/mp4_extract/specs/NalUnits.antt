-- Units of coded video, by their types (ISO/IEC 14496-10, 7.3.1, 7.4.1 and B.1.2; ISO/IEC 23008-2, 7.3.1.2, 7.4.2.2 and
-- B.2.2).
use Rattle.std.specs.Prelude.{ℕ, ◌+◌, ◌%◌, ◌/◌, Bool, true, ◌==◌, nat_le, List, [], ◌∷◌, ◌&&◌, ◌||◌, if◌then◌else◌}
use Rattle.mp4_extract.specs.declared.coding.VideoCoding.{VideoCoding}
use Rattle.mp4_extract.specs.declared.coding.VideoCoding.TheVariants.{H264, H265}

-- the type of a unit, in its first byte: the low five bits of AVC, the six bits after the highest of HEVC
abbrev pub unit_type : VideoCoding → List ℕ → ℕ
unit_type coding [] = 0
unit_type H264 (first ∷ others) = first % 32
unit_type H265 (first ∷ others) = first / 2 % 64

-- sequence and picture parameter sets; of HEVC those of video too
unfoldable pub is_parameter_set : VideoCoding → List ℕ → Bool
is_parameter_set H264 unit = unit_type H264 unit == 7 || unit_type H264 unit == 8
is_parameter_set H265 unit = nat_le 32 (unit_type H265 unit) && nat_le (unit_type H265 unit) 34

-- slices of pictures at which decoding can begin: IDR of AVC, IRAP of HEVC
unfoldable pub is_random_access : VideoCoding → List ℕ → Bool
is_random_access H264 unit = unit_type H264 unit == 5
is_random_access H265 unit = nat_le 16 (unit_type H265 unit) && nat_le (unit_type H265 unit) 23

-- How many kinds of parameter sets have to come before one of this unit's kind: none before those of video, which AVC
-- doesn't have; those before sequence parameter sets; and these two before picture parameter sets. Other units count as
-- picture parameter sets.
unfoldable pub kinds_below : VideoCoding → List ℕ → ℕ
kinds_below H264 unit = if unit_type H264 unit == 7 then 1 else 2
kinds_below H265 unit = if unit_type H265 unit == 32 then 0 else if unit_type H265 unit == 33 then 1 else 2

-- how many kinds of parameter sets have to come before a unit
unfoldable pub kinds_before : VideoCoding → List ℕ → ℕ
kinds_before coding unit =
    if is_random_access coding unit then 3 else
    if is_parameter_set coding unit then kinds_below coding unit else
    0

-- how many kinds of parameter sets are there with a unit before which those are that have to be
unfoldable pub kinds_with : VideoCoding → List ℕ → ℕ
kinds_with coding unit =
    if is_random_access coding unit then 3 else
    if is_parameter_set coding unit then kinds_below coding unit + 1 else
    0

-- Whether a zero byte goes before the start code of a unit: it does before the first of a sample and before parameter
-- sets. It may elsewhere, and does in all of HEVC.
unfoldable pub needs_zero_byte : VideoCoding → Bool → List ℕ → Bool
needs_zero_byte H264 is_first unit = is_first || is_parameter_set H264 unit
needs_zero_byte H265 is_first unit = true
